-- The events of a node. Each but `Forget` is a turn at one resource, and leaves the other resources as they were.
-- `Forget` is about no name, and raises the highest numbers.
use Rattle.std.specs.Prelude.{◌≡◌, ◌↔◌, ℕ, max, List, [], ◌∷◌, All, IsSome}
use Rattle.std.specs.FinMap as map
use Rattle.ra_stamp.specs.declared.entry.Mark.{Mark}
use Rattle.ra_stamp.specs.declared.message.Message.{Message}
use Rattle.ra_stamp.specs.declared.mode.Mode.{Mode}
use Rattle.ra_stamp.specs.Message.{name_of}
use Rattle.ra_automaton.specs.State.{IsForNode}
use Rattle.ra_node.specs.Resource.{Resource}
use Rattle.ra_node.specs.Turns.{AskTurn, LeaveTurn, CancelTurn, ReceiveTurn, IsStrayAt}
use Rattle.ra_node.specs.Node.{NodeState, resource_at, with_resource}
use Rattle.ra_node.specs.Forgetting.{raised, IsForgettable, IsCommonNumber}

-- a client asks for the resource of this name
pub record AskEvent (old : NodeState) (client : ℕ) (name : List ℕ) (mode : Mode) (sends : List Message)
    (marks : List Mark) (new : NodeState) : Type 0 where
  pub resource : Resource
  pub turn : AskTurn (resource_at old name) client mode sends marks resource
  pub new_is : new ≡ with_resource old name resource

-- a client leaves the resource of this name
pub record LeaveEvent (old : NodeState) (client : ℕ) (name : List ℕ) (sends : List Message)
    (marks : List Mark) (new : NodeState) : Type 0 where
  pub resource : Resource
  pub turn : LeaveTurn (resource_at old name) client sends marks resource
  pub new_is : new ≡ with_resource old name resource

-- a client that waits or is queued for the resource of this name gives up
pub record CancelEvent (old : NodeState) (client : ℕ) (name : List ℕ) (sends : List Message)
    (marks : List Mark) (new : NodeState) : Type 0 where
  pub resource : Resource
  pub turn : CancelTurn (resource_at old name) client sends marks resource
  pub new_is : new ≡ with_resource old name resource

-- A message comes, about the resource that it names. A stray leaves the node as it was, so a name that the node has not
-- met stays unmet.
pub record ReceiveEvent (old : NodeState) (message : Message) (sends : List Message) (marks : List Mark)
    (new : NodeState) : Type 0 where
  pub resource : Resource
  pub turn : ReceiveTurn (resource_at old (name_of message)) message sends marks resource
  pub after_stray : IsStrayAt (resource_at old (name_of message)) message → new ≡ old
  pub after_other : (IsStrayAt (resource_at old (name_of message)) message → ⊥)
      → new ≡ with_resource old (name_of message) resource

-- The node forgets names. Its start and its highest numbers rise to the common number, but for those at 2^64-1. It
-- keeps each name on which a request waits or is granted, a client is queued, or no number is left, and no other.
pub record ForgetEvent (old : NodeState) (sends : List Message) (marks : List Mark) (new : NodeState) : Type 0 where
  pub number : ℕ
  pub common : IsCommonNumber old number
  pub resources : (name : List ℕ) → resource_at new name ≡ raised number (resource_at old name)
  pub kept : (name : List ℕ) → IsSome (map.get new.resources name)
      ↔ (IsSome (map.get old.resources name) × (IsForgettable (resource_at old name) → ⊥))
  pub me_is : new.me ≡ old.me
  pub nodes_is : new.nodes ≡ old.nodes
  pub start_is : new.start ≡ max old.start number
  pub sends_are : sends ≡ []
  pub marks_are : marks ≡ []

-- what happens at a node
pub data Event : Type 0 where
  Ask : (client : ℕ) → (name : List ℕ) → (mode : Mode) → Event
  Leave : (client : ℕ) → (name : List ℕ) → Event
  Cancel : (client : ℕ) → (name : List ℕ) → Event
  Receive : (message : Message) → Event
  Forget : Event

-- the event is about a name: each but `Forget` is
abbrev pub IsNamed : Event → Type 0
IsNamed (Ask client name mode) = Unit {0}
IsNamed (Leave client name) = Unit {0}
IsNamed (Cancel client name) = Unit {0}
IsNamed (Receive message) = Unit {0}
IsNamed Forget = ⊥

-- the name that an event is about, or no byte if it is about none
abbrev pub name_of_event : Event → List ℕ
name_of_event (Ask client name mode) = name
name_of_event (Leave client name) = name
name_of_event (Cancel client name) = name
name_of_event (Receive message) = name_of message
name_of_event Forget = []

-- the event leads from the old node to the new one, with these messages and marks
abbrev pub NodeEvent : NodeState → Event → List Message → List Mark → NodeState → Type 0
NodeEvent old (Ask client name mode) sends marks new = AskEvent old client name mode sends marks new
NodeEvent old (Leave client name) sends marks new = LeaveEvent old client name sends marks new
NodeEvent old (Cancel client name) sends marks new = CancelEvent old client name sends marks new
NodeEvent old (Receive message) sends marks new = ReceiveEvent old message sends marks new
NodeEvent old Forget sends marks new = ForgetEvent old sends marks new

-- an event of this node: a client of its own asks, leaves or cancels, a message for it comes from another node, or it
-- forgets
abbrev pub IsForThisNode : NodeState → Event → Type 0
IsForThisNode n (Ask client name mode) = Unit {0}
IsForThisNode n (Leave client name) = Unit {0}
IsForThisNode n (Cancel client name) = Unit {0}
IsForThisNode n (Receive message) = IsForNode n.me n.nodes message
IsForThisNode n Forget = Unit {0}

-- the event can happen at this node, whatever is sent and marked
abbrev pub AllowsEvent : NodeState → Event → Type 0
AllowsEvent old event = (sends : List Message) × (marks : List Mark) × (new : NodeState)
    × NodeEvent old event sends marks new

-- an event, with the messages that it sent and its marks
pub record Happening : Type 0 where
  pub event : Event
  pub sends : List Message
  pub marks : List Mark

-- the event of each of these happenings is one of this node
abbrev pub AreForThisNode : NodeState → List Happening → Type 0
AreForThisNode n happened = All (λ h. IsForThisNode n h.event) happened

-- the event of each of these happenings is about a name
abbrev pub AreNamed : List Happening → Type 0
AreNamed happened = All (λ h. IsNamed h.event) happened

-- these happenings lead from the old node to the new one, in order
abbrev pub NodeEvents : NodeState → List Happening → NodeState → Type 0
NodeEvents old [] new = new ≡ old
NodeEvents old (h ∷ hs) new = (next : NodeState) × NodeEvent old h.event h.sends h.marks next
    × NodeEvents next hs new
