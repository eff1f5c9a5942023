-- Who waits at the desk of a site, and that nobody waits there for a request that ended. No public contract speaks of it.
use Rattle.std.specs.Prelude.{◌≡◌, ◌↔◌, ℕ, List, [], ◌∷◌, All, AllPairs, Contains, Option, Some, None}
use Rattle.ra_stamp.specs.declared.entry.Entry.{Entry}
use Rattle.ra_stamp.specs.declared.entry.Mark.{Mark}
use Rattle.ra_stamp.specs.declared.entry.Mark.TheVariants.{Requested, Entered, Left, Withdrawn}
use Rattle.ra_node.specs.Resource.{IsKeptWaiting}
use Rattle.ra_node.specs.Node.{NodeState, resource_at}
use Rattle.ra_book.specs.Book.{BookState, LeadsTo}
use Rattle.ra_site.specs.declared.site.waiters.Waiter.{Waiter}

-- it is this client, which waits for this name
abbrev pub IsWaiterFor : ℕ → List ℕ → Waiter → Type 0
IsWaiterFor client name waiter = (waiter.client ≡ client) × (waiter.name ≡ name)

-- this client does not wait for this name
abbrev pub WaitsNot : ℕ → List ℕ → List Waiter → Type 0
WaitsNot client name waiters = All (λ w. IsWaiterFor client name w → ⊥) waiters

-- no client waits for a name twice
abbrev pub IsEachOnce : List Waiter → Type 0
IsEachOnce waiters = AllPairs (λ a b. IsWaiterFor a.client a.name b → ⊥) waiters

-- of the old list, the new one has all but this client with this name, which may be there or not, and each once
pub record IsWithout (client : ℕ) (name : List ℕ) (old new : List Waiter) : Type 0 where
  pub gone : WaitsNot client name new
  pub others : (w : Waiter) → (IsWaiterFor client name w → ⊥) → Contains old w ↔ Contains new w
  pub once : IsEachOnce new

-- ---- Who is let in

-- the request that an event let in, by its marks, if there is one
abbrev pub entry_let_in : List Mark → Option Entry
entry_let_in [] = None
entry_let_in (Requested e ∷ marks) = entry_let_in marks
entry_let_in (Entered e ∷ marks) = Some e
entry_let_in (Left e ∷ marks) = entry_let_in marks
entry_let_in (Withdrawn e ∷ marks) = entry_let_in marks

-- who waits after an event that let in this request, or none: the client of the request does not, and all others do
abbrev pub WaitOn : Option Entry → List Waiter → List Waiter → Type 0
WaitOn None old new = new ≡ old
WaitOn (Some e) old new = IsWithout e.client e.name old new

-- ---- What they wait for

-- the request of the client waits in this book, or is queued
abbrev pub WaitsIn : BookState → Waiter → Type 0
WaitsIn book waiter =
    (node : NodeState) → LeadsTo book node → IsKeptWaiting (resource_at node waiter.name) waiter.client
