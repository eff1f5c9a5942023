-- How a queue knows its clients without going through it.
use Rattle.std.specs.Prelude.{◌≡◌, ◌≢◌, ℕ, nat_eq, Bool, true, false, List, ◌∷◌, ◌++◌, map, Any, AllPairs}
use Rattle.std.specs.List.{list_any}
use Rattle.ra_node.specs.declared.queued_client.Queued.{Queued}

-- no client is queued twice
abbrev pub AreApart : List Queued → Type 0
AreApart queue = AllPairs (λ a b. a ≢ b) (map (λ queued. queued.client) queue)

-- the client was taken out of the queue, and the others keep their order; or it was not queued
abbrev pub TakesOut : List Queued → ℕ → Bool → List Queued → Type 0
TakesOut old client true new = (before : List Queued) × (gone : Queued) × (after : List Queued)
    × (gone.client ≡ client) × (old ≡ before ++ gone ∷ after) × (new ≡ before ++ after)
TakesOut old client false new = (Any (λ q. q.client ≡ client) old → ⊥) × (new ≡ old)

-- the known clients are those that are queued
abbrev pub AreClients : List ℕ → List Queued → Type 0
AreClients known queue =
    (client : ℕ) → list_any (nat_eq client) known ≡ list_any (λ queued. nat_eq client queued.client) queue
