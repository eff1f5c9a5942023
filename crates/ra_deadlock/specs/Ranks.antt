-- Ranks that show that there is no circle: a request that ends only after another one has a greater rank. No public
-- contract speaks of these.
use Rattle.std.specs.Prelude.{ℕ, ◌<◌, ◌==◌, ◌&&◌, Bool, true, false, List, Option, unwrap_or, Contains}
use Rattle.std.specs.HashMap.{HashMap, get}
use Rattle.std.specs.declared.cmp.Ordering.{Ordering}
use Rattle.std.specs.Ordering.{ordering_then, nat_cmp, bool_cmp}
use Rattle.std.specs.Cmp.Lexicographic.{slice_cmp}
use Rattle.ra_deadlock.specs.declared.request.Stage.{Stage}
use Rattle.ra_deadlock.specs.declared.request.Stage.TheVariants.{Waits, Queued, Holds}
use Rattle.ra_deadlock.specs.declared.request.Request.{Request}
use Rattle.ra_deadlock.specs.declared.search.ranks.Ranked.{Ranked}
use Rattle.ra_deadlock.specs.Deadlock.{IsInTheWay, EndsAfter, is_granted}

-- the rank of the one whose end is waited for is less, both ways round
abbrev pub Agree : Ranked → Ranked → Type 0
Agree a b = (IsInTheWay b.request a.request → b.rank < a.rank) × (IsInTheWay a.request b.request → a.rank < b.rank)

-- by whether a request is granted: the rank of its client, or 0, is less than its own, or greater
abbrev pub AgreesAt : Bool → (rank client : ℕ) → Type 0
AgreesAt true rank client = client < rank
AgreesAt false rank client = rank < client

-- the rank of a request agrees with that of its client
abbrev pub AgreesWithClient : Ranked → Option ℕ → Type 0
AgreesWithClient ranked client = AgreesAt (is_granted ranked.request.stage) ranked.rank (unwrap_or client 0)

-- whether a request at this stage is queued
abbrev pub is_queued : Stage → Bool
is_queued Waits = false
is_queued Queued = true
is_queued Holds = false

-- by names, and for one name first those that wait or are granted
abbrev pub key_of : Ranked → List ℕ × Bool
key_of ranked = (ranked.request.entry.name, is_queued ranked.request.stage)

abbrev pub key_cmp : List ℕ × Bool → List ℕ × Bool → Ordering
key_cmp a b = ordering_then (slice_cmp nat_cmp a.0 b.0) (bool_cmp a.1 b.1)

-- a request of a greater rank is after each other one that it ends after
abbrev pub Descends : List Ranked → Type 0
Descends ranked = (a b : Ranked) → Contains ranked a → Contains ranked b → EndsAfter a.request b.request
    → b.rank < a.rank

-- whose request it is
abbrev pub client_of : Request → ℕ × ℕ
client_of request = (request.entry.stamp.node, request.entry.client)

-- the rank of a client, if it has one
abbrev pub client_rank : {S : Type 0} → HashMap (ℕ × ℕ) ℕ S → ℕ × ℕ → Option ℕ
client_rank ranks client = get (λ a b. (a.0 == b.0) && (a.1 == b.1)) ranks client
