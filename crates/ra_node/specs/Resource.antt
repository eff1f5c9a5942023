-- One resource at one node: what the algorithm keeps of it, and the clients of the node that use it.
use Rattle.std.specs.Prelude.{◌≡◌, ◌≢◌, ◌⊎◌, ℕ, ◌≤◌, List, [], ◌++◌, map, Option, Some, None, option_to_list, AllPairs, Any, Contains, IsSome, refl}
use Rattle.std.specs.Coded.{Coded, code_by, coded×, coded_ℕ, coded_list, coded_option}
use Rattle.ra_stamp.specs.declared.entry.Entry.{Entry}
use Rattle.ra_stamp.specs.declared.mode.Mode.{Mode}
use Rattle.ra_automaton.specs.declared.phase.Phase.{Phase}
use Rattle.ra_automaton.specs.declared.phase.Phase.TheVariants.{Idle, Waiting, Inside}
use Rattle.ra_automaton.specs.State.{State, IsConsistent, opening}
use Rattle.ra_automaton.specs.Steps.{greatest_number}
use Rattle.ra_node.specs.declared.queued_client.Queued.{Queued}

-- the automaton's state, the current client if there is one, whose request waits or is granted, and the queued clients,
-- the next one first
pub record Resource : Type 0 where
  pub state : State
  pub client : Option ℕ
  pub queue : List Queued

-- a resource that no client and no message has been about yet
abbrev pub unmet : ℕ → ℕ → List ℕ → ℕ → Resource
unmet me nodes name start = record { state = opening me nodes name start; client = None; queue = [] }

-- a client's request at a node, with its number
abbrev pub entry_of : ℕ → List ℕ → ℕ → ℕ → Mode → Entry
entry_of me name seq client mode =
    record { name = name; stamp = record { seq = seq; node = me }; client = client; mode = mode }

-- what the node's clients make of a resource: nothing, or one request, which waits or is granted
pub data Use : Type 0 where
  Nobody : Use
  WaitsBy : (entry : Entry) → Use
  HoldsBy : (entry : Entry) → Use

-- the use of a resource, by the phase of its automaton and its current client
abbrev pub use_in : State → Phase → Option ℕ → Use
use_in s phase None = Nobody
use_in s Idle (Some client) = Nobody
use_in s (Waiting seq mode) (Some client) = WaitsBy (entry_of s.me s.name seq client mode)
use_in s (Inside seq mode) (Some client) = HoldsBy (entry_of s.me s.name seq client mode)

-- what the node's clients make of this resource now
abbrev pub use_of : Resource → Use
use_of r = use_in r.state r.state.phase r.client

-- the request of a use, if it is granted
abbrev pub held_entry : Use → Option Entry
held_entry Nobody = None
held_entry (WaitsBy e) = None
held_entry (HoldsBy e) = Some e

-- the request that is granted at this resource, if there is one
abbrev pub holder_of : Resource → Option Entry
holder_of r = held_entry (use_of r)

-- the request of a use, if it waits
abbrev pub waiting_entry : Use → Option Entry
waiting_entry Nobody = None
waiting_entry (WaitsBy e) = Some e
waiting_entry (HoldsBy e) = None

-- the request of the node that waits at this resource for its REPLYs, if there is one
abbrev pub waiter_of : Resource → Option Entry
waiter_of r = waiting_entry (use_of r)

-- the client holds the resource, with this request
pub record Holds (r : Resource) (client : ℕ) (entry : Entry) : Type 0 where
  pub granted : holder_of r ≡ Some entry
  pub client_is : entry.client ≡ client

-- the client waits for the resource, with this request
pub record Waits (r : Resource) (client : ℕ) (entry : Entry) : Type 0 where
  pub requested : waiter_of r ≡ Some entry
  pub client_is : entry.client ≡ client

-- the client is queued for the resource
abbrev pub IsQueued : Resource → ℕ → Type 0
IsQueued r client = Any (λ q. q.client ≡ client) r.queue

-- the client has no lock yet: its request waits, or it is queued
abbrev pub IsKeptWaiting : Resource → ℕ → Type 0
IsKeptWaiting r client = ((entry : Entry) × Waits r client entry) ⊎ IsQueued r client

-- the clients of a resource: the current one, and those that are queued
abbrev pub clients_of : Resource → List ℕ
clients_of r = option_to_list r.client ++ map (λ q. q.client) r.queue

-- the client is one of them: it waits, is queued or holds
abbrev pub IsBusy : Resource → ℕ → Type 0
IsBusy r client = Contains (clients_of r) client

-- how many requests wait in this phase, 0 or 1
abbrev pub waiting_in : Phase → ℕ
waiting_in Idle = 0
waiting_in (Waiting seq mode) = 1
waiting_in (Inside seq mode) = 0

-- how many requests wait at this resource for their REPLYs, 0 or 1
abbrev pub waiting_at : Resource → ℕ
waiting_at r = waiting_in r.state.phase

-- a current client exists exactly if the node is not idle
abbrev pub ClientFits : Phase → Option ℕ → Type 0
ClientFits Idle client = client ≡ None
ClientFits (Waiting seq mode) client = IsSome client
ClientFits (Inside seq mode) client = IsSome client

-- what holds of every resource at a node
pub record IsConsistentResource (me nodes : ℕ) (name : List ℕ) (start : ℕ) (r : Resource) : Type 0 where
  pub state : IsConsistent r.state
  pub me_is : r.state.me ≡ me
  pub nodes_is : r.state.nodes ≡ nodes
  pub name_is : r.state.name ≡ name
  pub from_start : start ≤ r.state.highest
  pub client_fits : ClientFits r.state.phase r.client
  -- no client is in here twice
  pub once : AllPairs (λ a b. a ≢ b) (clients_of r)
  -- clients are queued at an idle node only if no number is left
  pub queue_stays : r.state.phase ≡ Idle → r.queue ≢ [] → greatest_number ≤ r.state.highest

-- a resource is stored as its fields
abbrev pub resource_code : Coded State → Coded Queued → Coded Resource
resource_code state queued =
    code_by
    (State × (Option ℕ × List Queued))
    (coded× state (coded× (coded_option coded_ℕ) (coded_list queued)))
    (λ r. (r.state, (r.client, r.queue)))
    (λ p. record { state = p.0; client = p.1.0; queue = p.1.1 })
    (λ _. refl)
