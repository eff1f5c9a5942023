-- What a host that carries a node's messages and marks knows of them.
use Rattle.std.specs.Prelude.{◌≡◌, ℕ, ◌*◌, ◌≤◌, List, [], ◌∷◌}
use Rattle.ra_stamp.specs.declared.entry.Mark.{Mark}
use Rattle.ra_stamp.specs.declared.entry.Mark.TheVariants.{Requested, Entered, Left, Withdrawn}
use Rattle.ra_stamp.specs.declared.message.Message.{Message}
use Rattle.ra_stamp.specs.declared.message.Message.TheVariants.{Request, Reply}
use Rattle.ra_stamp.specs.Mark.{entry_of_mark}
use Rattle.ra_stamp.specs.Message.{from_of, to_of, name_of}
use Rattle.ra_automaton.specs.State.{IsOtherNode}
use Rattle.ra_node.specs.Resource.{Use}
use Rattle.ra_node.specs.Resource.Use.{Nobody, WaitsBy, HoldsBy}
use Rattle.ra_node.specs.Events.{Event}
use Rattle.ra_node.specs.Events.Event.{Ask, Leave, Cancel, Receive, Forget}

-- a message that a node sends about a name: it is from this node, and for another one
pub record IsSend (me nodes : ℕ) (name : List ℕ) (message : Message) : Type 0 where
  pub from : from_of message ≡ me
  pub to : IsOtherNode me nodes (to_of message)
  pub name_is : name_of message ≡ name

-- a mark of a node about a name: its request is of this node, for this name, and has a number, 1 or more
pub record IsMark (me : ℕ) (name : List ℕ) (mark : Mark) : Type 0 where
  pub node_is : (entry_of_mark mark).stamp.node ≡ me
  pub name_is : (entry_of_mark mark).name ≡ name
  pub numbered : 1 ≤ (entry_of_mark mark).stamp.seq

-- how many messages an event sends at most, in a cluster of this many nodes
abbrev pub sends_at_most : ℕ → Event → ℕ
sends_at_most nodes (Ask client name mode) = nodes
sends_at_most nodes (Leave client name) = 2 * nodes
sends_at_most nodes (Cancel client name) = 2 * nodes
sends_at_most nodes (Receive message) = 1
sends_at_most nodes Forget = 0

-- how many marks an event makes at most
abbrev pub marks_at_most : Event → ℕ
marks_at_most (Ask client name mode) = 2
marks_at_most (Leave client name) = 3
marks_at_most (Cancel client name) = 3
marks_at_most (Receive message) = 1
marks_at_most Forget = 0

-- how many REPLYs a node sends at most when this message comes: one if it is a REQUEST
abbrev pub replies_at_most : Message → ℕ
replies_at_most (Request from to name mode seq) = 1
replies_at_most (Reply from to name seq) = 0

-- how many requests this message lets enter at most: one if it is a REPLY
abbrev pub entries_at_most : Message → ℕ
entries_at_most (Request from to name mode seq) = 0
entries_at_most (Reply from to name seq) = 1

-- The marks lead from one use of a resource to another. A node has at most one request on a name at a time: it waits
-- after it is made, is granted when it enters, and is gone when it leaves, or when it is withdrawn while it waits.
abbrev pub MarksLead : Use → List Mark → Use → Type 0
MarksLead before [] after = after ≡ before
MarksLead before (Requested e ∷ marks) after = (before ≡ Nobody) × MarksLead (WaitsBy e) marks after
MarksLead before (Entered e ∷ marks) after = (before ≡ WaitsBy e) × MarksLead (HoldsBy e) marks after
MarksLead before (Left e ∷ marks) after = (before ≡ HoldsBy e) × MarksLead Nobody marks after
MarksLead before (Withdrawn e ∷ marks) after = (before ≡ WaitsBy e) × MarksLead Nobody marks after
