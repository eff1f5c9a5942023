-- What the crates below say of messages, nodes and lock tables, as far as the laws of runs depend on it.
use Rattle.std.specs.Prelude.{◌≡◌, ◌≢◌, ◌⊎◌, ◌↔◌, ℕ, ◌≤◌, List, ◌++◌, All}
use Rattle.ra_stamp.specs.declared.message.Message.{Message}
use Rattle.ra_stamp.specs.declared.mode.Mode.{Mode}
use Rattle.ra_stamp.specs.declared.entry.Entry.{Entry}
use Rattle.ra_stamp.specs.declared.entry.Mark.{Mark}
use Rattle.ra_stamp.specs.Message.{seq_of}
use Rattle.ra_stamp.specs.Mode.{Conflict}
use Rattle.ra_stamp.specs.NodeId.{IsNodeNumber}
use Rattle.ra_automaton.specs.State.{State, IsConsistent}
use Rattle.ra_automaton.specs.Steps.{LeaveStep, WithdrawStep}
use Rattle.ra_node.specs.Resource.{Holds, IsKeptWaiting, use_of}
use Rattle.ra_node.specs.Turns.{MayAsk}
use Rattle.ra_node.specs.Node.{NodeState, opening_node, resource_at, IsConsistentNode}
use Rattle.ra_node.specs.Events.{Event, Happening, IsNamed, name_of_event, NodeEvent, NodeEvents, AllowsEvent, IsForThisNode}
use Rattle.ra_node.specs.Events.Event.{Ask, Leave, Cancel, Receive, Forget}
use Rattle.ra_node.specs.Carried.{IsSend, MarksLead}
use Rattle.ra_table.specs.Table.{LockTable, TableSteps}

-- the laws of modes, messages, automata, nodes and lock tables on which the laws of runs depend
pub record LawsBelow : Type 0 where
  -- of modes and messages
  pub symmetric : (a b : Mode) → Conflict a b → Conflict b a
  pub same_or_apart : (a b : Message) → (a ≡ b) ⊎ (a ≢ b)
  -- of the steps of an automaton
  pub leave_consistent : (old new : State) (sends : List Message)
      → IsConsistent old → LeaveStep old sends new → IsConsistent new
  pub withdraw_consistent : (old new : State) (sends : List Message)
      → IsConsistent old → WithdrawStep old sends new → IsConsistent new
  -- of the events of a node
  pub opens : (me nodes start : ℕ) → IsNodeNumber nodes → (1 ≤ me) × (me ≤ nodes)
      → IsConsistentNode (opening_node me nodes start)
  pub consistent : (old new : NodeState) (event : Event) (sends : List Message) (marks : List Mark)
      → IsConsistentNode old → IsForThisNode old event → NodeEvent old event sends marks new
      → IsConsistentNode new
  pub own_sends : (old new : NodeState) (event : Event) (sends : List Message) (marks : List Mark)
      → IsConsistentNode old → IsForThisNode old event → NodeEvent old event sends marks new
      → All (IsSend old.me old.nodes (name_of_event event)) sends
  pub numbered : (old new : NodeState) (event : Event) (sends : List Message) (marks : List Mark)
      → IsConsistentNode old → IsForThisNode old event → NodeEvent old event sends marks new
      → ((message : Message) → event ≡ Receive message → 1 ≤ seq_of message)
      → All (λ message. 1 ≤ seq_of message) sends
  pub one_request : (old new : NodeState) (event : Event) (sends : List Message) (marks : List Mark)
      → NodeEvent old event sends marks new
      → MarksLead (use_of (resource_at old (name_of_event event))) marks
      (use_of (resource_at new (name_of_event event)))
  pub other_names : (old new : NodeState) (event : Event) (sends : List Message) (marks : List Mark)
      (other : List ℕ)
      → NodeEvent old event sends marks new → IsNamed event → other ≢ name_of_event event
      → resource_at new other ≡ resource_at old other
  pub same_node : (old new : NodeState) (event : Event) (sends : List Message) (marks : List Mark)
      → NodeEvent old event sends marks new → (new.me ≡ old.me) × (new.nodes ≡ old.nodes)
      × (old.start ≤ new.start)
  pub same_start : (old new : NodeState) (event : Event) (sends : List Message) (marks : List Mark)
      → NodeEvent old event sends marks new → IsNamed event → new.start ≡ old.start
  pub one_event : (old a b : NodeState) (event : Event) (sends sends' : List Message)
      (marks marks' : List Mark)
      → NodeEvent old event sends marks a → NodeEvent old event sends' marks' b
      → (sends ≡ sends') × (marks ≡ marks') × (a ≡ b)
  pub one_end : (old a b : NodeState) (happened : List Happening)
      → NodeEvents old happened a → NodeEvents old happened b → a ≡ b
  pub may_ask : (old : NodeState) (client : ℕ) (name : List ℕ) (mode : Mode) → IsConsistentNode old
      → AllowsEvent old (Ask client name mode) ↔ MayAsk (resource_at old name) client
  pub may_leave : (old : NodeState) (client : ℕ) (name : List ℕ) → IsConsistentNode old
      → AllowsEvent old (Leave client name) ↔ ((entry : Entry) × Holds (resource_at old name) client entry)
  pub may_cancel : (old : NodeState) (client : ℕ) (name : List ℕ) → IsConsistentNode old
      → AllowsEvent old (Cancel client name) ↔ IsKeptWaiting (resource_at old name) client
  pub may_forget : (old : NodeState) → IsConsistentNode old → AllowsEvent old Forget
  pub may_receive : (old : NodeState) (message : Message) → IsConsistentNode old
      → AllowsEvent old (Receive message)
  pub splits : (prefix rest : List Happening) (a c : NodeState) → NodeEvents a (prefix ++ rest) c
      → (b : NodeState) × NodeEvents a prefix b × NodeEvents b rest c
  pub joins : (prefix rest : List Happening) (a b c : NodeState)
      → NodeEvents a prefix b → NodeEvents b rest c → NodeEvents a (prefix ++ rest) c
  -- of the lock table
  pub table_joins : (prefix rest : List Mark) (a b c : LockTable)
      → TableSteps a prefix b → TableSteps b rest c → TableSteps a (prefix ++ rest) c
