-- What the laws of nodes and of runs say, as far as the laws on how scripts end depend on it.
use Rattle.std.specs.Prelude.{◌≡◌, ◌≢◌, ◌↔◌, ℕ, ◌+◌, ◌-◌, ◌*◌, ◌≤◌, List, ◌++◌, Contains, length}
use Rattle.ra_stamp.specs.declared.entry.Entry.{Entry}
use Rattle.ra_stamp.specs.declared.entry.Mark.{Mark}
use Rattle.ra_stamp.specs.declared.message.Message.{Message}
use Rattle.ra_stamp.specs.declared.mode.Mode.{Mode}
use Rattle.ra_stamp.specs.Message.{from_of, to_of}
use Rattle.ra_stamp.specs.NodeId.{IsNodeNumber}
use Rattle.ra_automaton.specs.State.{IsOtherNode}
use Rattle.ra_node.specs.Resource.{Holds, use_of}
use Rattle.ra_node.specs.Turns.{MayAsk}
use Rattle.ra_node.specs.Node.{NodeState, opening_node, resource_at, IsConsistentNode}
use Rattle.ra_node.specs.Events.{Event, Happening, IsNamed, name_of_event, NodeEvent, NodeEvents, IsForThisNode}
use Rattle.ra_node.specs.Carried.{MarksLead}
use Rattle.ra_table.specs.Table.{LockTable, TableRun}
use Rattle.ra_world.specs.declared.step.Step.TheVariants.{Ask, Leave}
use Rattle.ra_world.specs.Traffic.{Move, LeavesUnderWay, IsUnderWay, sent_by, repeated_by}
use Rattle.ra_world.specs.Run.{IsRun, EndsWith, GoesOn, marks_of, waiting_at_all, queued_at_all}
use Rattle.ra_world.specs.AtNodes.{IsTableOf}
use Rattle.ra_world.specs.Asked.{asks_by, cancels_by}
use Rattle.ra_world.specs.Quiet.{IsQuiet, IsBlocked, requests_in, withdrawn_in}

-- the laws of the events of a node, which the laws of the ends of scripts depend on
pub record LawsOfNodes : Type 0 where
  pub opens : (me nodes start : ℕ) → IsNodeNumber nodes → (1 ≤ me) × (me ≤ nodes)
      → IsConsistentNode (opening_node me nodes start)
  pub consistent : (old new : NodeState) (event : Event) (sends : List Message) (marks : List Mark)
      → IsConsistentNode old → IsForThisNode old event → NodeEvent old event sends marks new → IsConsistentNode new
  pub one_request : (old new : NodeState) (event : Event) (sends : List Message) (marks : List Mark)
      → NodeEvent old event sends marks new
      → MarksLead (use_of (resource_at old (name_of_event event))) marks
      (use_of (resource_at new (name_of_event event)))
  pub other_names : (old new : NodeState) (event : Event) (sends : List Message) (marks : List Mark) (other : List ℕ)
      → NodeEvent old event sends marks new → IsNamed event → other ≢ name_of_event event
      → resource_at new other ≡ resource_at old other
  pub same_node : (old new : NodeState) (event : Event) (sends : List Message) (marks : List Mark)
      → NodeEvent old event sends marks new → (new.me ≡ old.me) × (new.nodes ≡ old.nodes) × (old.start ≤ new.start)
  pub one_end : (old a b : NodeState) (happened : List Happening) → NodeEvents old happened a
      → NodeEvents old happened b → a ≡ b
  pub splits : (prefix rest : List Happening) (a c : NodeState) → NodeEvents a (prefix ++ rest) c
      → (b : NodeState) × NodeEvents a prefix b × NodeEvents b rest c

-- and the laws of runs
pub record LawsOfRuns : Type 0 where
  pub prefixes : (n start : ℕ) (prefix rest : List Move) → IsRun n start (prefix ++ rest) → IsRun n start prefix
  pub between_nodes : (n start : ℕ) (moves : List Move) (message : Message)
      → IsNodeNumber n → IsRun n start moves → IsUnderWay moves message
      → ((1 ≤ to_of message) × (to_of message ≤ n)) × IsOtherNode (to_of message) n (from_of message)
  pub one_list : (moves : List Move) (a b : List Message) → LeavesUnderWay moves a → LeavesUnderWay moves b → a ≡ b
  pub may_ask : (n start : ℕ) (moves : List Move) (nodes : ℕ → NodeState)
      → IsNodeNumber n → IsRun n start moves → EndsWith n start moves nodes
      → (node client : ℕ) (name : List ℕ) (mode : Mode)
      → GoesOn n start moves (Ask node client name mode)
      ↔ (((1 ≤ node) × (node ≤ n)) × MayAsk (resource_at (nodes node) name) client)
  pub may_leave : (n start : ℕ) (moves : List Move) (nodes : ℕ → NodeState)
      → IsNodeNumber n → IsRun n start moves → EndsWith n start moves nodes
      → (node client : ℕ) (name : List ℕ)
      → GoesOn n start moves (Leave node client name)
      ↔ (((1 ≤ node) × (node ≤ n)) × ((entry : Entry) × Holds (resource_at (nodes node) name) client entry))
  pub table : (n start : ℕ) (moves : List Move) → IsNodeNumber n → IsRun n start moves
      → (table : LockTable) × TableRun (marks_of moves) table
  pub waiting : (n start : ℕ) (moves : List Move) (nodes : ℕ → NodeState) (table : LockTable)
      → IsNodeNumber n → IsRun n start moves → EndsWith n start moves nodes → TableRun (marks_of moves) table
      → length table.waiting ≡ waiting_at_all n nodes
  pub table_of : (n start : ℕ) (moves : List Move) (nodes : ℕ → NodeState) (table : LockTable)
      → IsNodeNumber n → IsRun n start moves → EndsWith n start moves nodes → TableRun (marks_of moves) table
      → IsTableOf n nodes table
  pub blocked : (n start : ℕ) (moves : List Move) (table : LockTable) (e : Entry)
      → IsNodeNumber n → IsRun n start moves → IsQuiet moves → TableRun (marks_of moves) table
      → Contains table.waiting e → IsBlocked table e
  pub highest : (n start : ℕ) (moves : List Move) (nodes : ℕ → NodeState) (i : ℕ) (name : List ℕ)
      → IsNodeNumber n → IsRun n start moves → EndsWith n start moves nodes → 1 ≤ i → i ≤ n
      → (resource_at (nodes i) name).state.highest ≤ start + requests_in (marks_of moves)
  pub a_list : (n start : ℕ) (moves : List Move) → IsNodeNumber n → IsRun n start moves
      → (left : List Message) × LeavesUnderWay moves left
  pub sent : (n start : ℕ) (moves : List Move) → IsNodeNumber n → IsRun n start moves
      → length (sent_by moves) ≤ 2 * (n - 1) * requests_in (marks_of moves) + length (repeated_by moves)
  pub asks : (n start : ℕ) (moves : List Move) (nodes : ℕ → NodeState)
      → IsNodeNumber n → IsRun n start moves → EndsWith n start moves nodes
      → requests_in (marks_of moves) + queued_at_all n nodes + cancels_by moves
      ≡ asks_by moves + withdrawn_in (marks_of moves)
  pub withdrawn : (n start : ℕ) (moves : List Move) → IsNodeNumber n → IsRun n start moves
      → withdrawn_in (marks_of moves) ≤ cancels_by moves
