-- A world as contracts see it, why it refuses a step, and what it reports.
use Rattle.std.specs.Prelude.{◌≡◌, ◌≢◌, ◌↔◌, ◌⊎◌, ℕ, ◌<◌, ◌≤◌, List, [], ◌∷◌, ◌++◌, length, map, Option, Some, None, Result, IfOk, IsErrOf, IsOkUnless, OnErr}
use Rattle.ra_stamp.specs.NodeId.{IsNodeNumber}
use Rattle.ra_stamp.specs.declared.entry.Mark.{Mark}
use Rattle.ra_stamp.specs.declared.message.Message.{Message}
use Rattle.ra_stamp.specs.Message.{to_of}
use Rattle.ra_node.specs.declared.error.AskError.TheVariants as asking
use Rattle.ra_node.specs.declared.error.CancelError.TheVariants as cancelling
use Rattle.ra_node.specs.declared.error.LeaveError.TheVariants as leaving
use Rattle.ra_node.specs.Faults.{IsAskRefusal, IsLeaveRefusal, IsCancelRefusal}
use Rattle.ra_node.specs.Node.{NodeState, opening_node, resource_at}
use Rattle.ra_node.specs.Events.{NodeEvents}
use Rattle.ra_node.specs.Memory.{BringsNothing}
use Rattle.ra_node.specs.declared.outcome.Outcome.{Outcome}
use Rattle.ra_world.specs.declared.step.Step.{Step}
use Rattle.ra_world.specs.declared.step.Step.TheVariants.{Ask, Leave, Cancel, Deliver, Lose, Repeat, Forget}
use Rattle.ra_world.specs.declared.error.NodeRefusal.TheVariants.{Busy, Exhausted, NotHeld, NotWaiting}
use Rattle.ra_world.specs.declared.error.StepError.{StepError}
use Rattle.ra_world.specs.declared.error.StepError.TheVariants.{NoNode, NotUnderWay, Node, Memory}
use Rattle.ra_world.specs.declared.text.report.Report.{Report}
use Rattle.ra_world.specs.Traffic.{Move, LeavesUnderWay, IsUnderWay, sent_by, lost_by, repeated_by}
use Rattle.ra_world.specs.Run.{IsRun, GoesOn, EndsWith, happened_at, marks_of, waiting_at_all, queued_at_all}
use Rattle.ra_world.specs.Quiet.{requests_in, withdrawn_in}

-- how many nodes there are, the highest number with which each resource begins, and the steps so far with what they
-- sent and marked
pub record WorldState : Type 0 where
  pub count : ℕ
  pub start : ℕ
  pub moves : List Move

-- the world after one more step
abbrev pub with_move : WorldState → Step → List Message → List Mark → WorldState
with_move w step sends marks = record w { moves = w.moves ++ record { step = step; sends = sends; marks = marks } ∷ [] }

-- the world of these nodes has made these steps and no others
pub record HasMade (n start : ℕ) (steps : List Step) (world : WorldState) : Type 0 where
  pub number : IsNodeNumber n
  pub count : world.count ≡ n
  pub start_is : world.start ≡ start
  pub made : map (λ (move : Move). move.step) world.moves ≡ steps
  pub run : IsRun n start world.moves

-- a fact about an existing node, at the end of a run
pub record AtNode (n start : ℕ) (moves : List Move) (i : ℕ) (P : NodeState → Type 0) : Type 0 where
  pub first : 1 ≤ i
  pub last : i ≤ n
  pub nodes : ℕ → NodeState
  pub ends : EndsWith n start moves nodes
  pub holds : P (nodes i)

-- why a run does not go on with a step: the first cause that applies
abbrev pub HasCause : ℕ → ℕ → List Move → Step → StepError → Type 0
HasCause n start moves (Ask node client name mode) NoNode = n < node
HasCause n start moves (Ask node client name mode) (Node Busy) =
    AtNode n start moves node (λ s. IsAskRefusal (resource_at s name) client asking.Busy)
HasCause n start moves (Ask node client name mode) (Node Exhausted) =
    AtNode n start moves node (λ s. IsAskRefusal (resource_at s name) client asking.Exhausted)
HasCause n start moves (Ask node client name mode) (Node NotHeld) = ⊥
HasCause n start moves (Ask node client name mode) (Node NotWaiting) = ⊥
HasCause n start moves (Ask node client name mode) NotUnderWay = ⊥
HasCause n start moves (Ask node client name mode) Memory = ⊥
HasCause n start moves (Leave node client name) NoNode = n < node
HasCause n start moves (Leave node client name) (Node Busy) = ⊥
HasCause n start moves (Leave node client name) (Node Exhausted) = ⊥
HasCause n start moves (Leave node client name) (Node NotHeld) =
    AtNode n start moves node (λ s. IsLeaveRefusal (resource_at s name) client leaving.NotHeld)
HasCause n start moves (Leave node client name) (Node NotWaiting) = ⊥
HasCause n start moves (Leave node client name) NotUnderWay = ⊥
HasCause n start moves (Leave node client name) Memory = ⊥
HasCause n start moves (Cancel node client name) NoNode = n < node
HasCause n start moves (Cancel node client name) (Node Busy) = ⊥
HasCause n start moves (Cancel node client name) (Node Exhausted) = ⊥
HasCause n start moves (Cancel node client name) (Node NotHeld) = ⊥
HasCause n start moves (Cancel node client name) (Node NotWaiting) =
    AtNode n start moves node (λ s. IsCancelRefusal (resource_at s name) client cancelling.NotWaiting)
HasCause n start moves (Cancel node client name) NotUnderWay = ⊥
HasCause n start moves (Cancel node client name) Memory = ⊥
HasCause n start moves (Deliver message) NoNode = ⊥
HasCause n start moves (Deliver message) (Node why) = ⊥
HasCause n start moves (Deliver message) NotUnderWay = IsUnderWay moves message → ⊥
HasCause n start moves (Deliver message) Memory = ⊥
HasCause n start moves (Lose message) NoNode = ⊥
HasCause n start moves (Lose message) (Node why) = ⊥
HasCause n start moves (Lose message) NotUnderWay = IsUnderWay moves message → ⊥
HasCause n start moves (Lose message) Memory = ⊥
HasCause n start moves (Repeat message) NoNode = ⊥
HasCause n start moves (Repeat message) (Node why) = ⊥
HasCause n start moves (Repeat message) NotUnderWay = IsUnderWay moves message → ⊥
HasCause n start moves (Repeat message) Memory = ⊥
HasCause n start moves (Forget node) NoNode = n < node
HasCause n start moves (Forget node) (Node why) = ⊥
HasCause n start moves (Forget node) NotUnderWay = ⊥
HasCause n start moves (Forget node) Memory = ⊥

-- 2^64-1 steps were made, so no further step can be counted
abbrev pub IsFull : List Move → Type 0
IsFull moves = 18446744073709551615 ≤ length moves

-- Which steps may need memory. A client that asks may be queued, one that leaves or gives up is marked, a message
-- that is delivered may bring something, and a copy has to be put somewhere. A message that is lost, and to forget,
-- bring nothing.
abbrev pub MayNeedMemory : ℕ → ℕ → List Move → Step → Type 0
MayNeedMemory n start moves (Ask node client name mode) = Unit {0}
MayNeedMemory n start moves (Leave node client name) = Unit {0}
MayNeedMemory n start moves (Cancel node client name) = Unit {0}
MayNeedMemory n start moves (Deliver message) = AtNode n start moves (to_of message) (λ s. BringsNothing s message → ⊥)
MayNeedMemory n start moves (Lose message) = ⊥
MayNeedMemory n start moves (Repeat message) = Unit {0}
MayNeedMemory n start moves (Forget node) = ⊥

-- What a world answers to a step, and what it is then. This is one record, so that `step_near` promises no less than
-- `step`.
pub record AnswersStep (old : WorldState) (step : Step) (result : Result Outcome StepError)
    (new : WorldState) : Type 0 where
  pub ok : IfOk result (λ outcome. new ≡ with_move old step outcome.sends.items outcome.marks.items)
  pub run : IsRun new.count new.start new.moves
  pub count : IsNodeNumber new.count
  pub refused : (cause : StepError) → cause ≢ Memory → IsErrOf result cause
      ↔ HasCause old.count old.start old.moves step cause
  -- `Memory` is the only other error
  pub allowed : IsOkUnless result Memory ↔ GoesOn old.count old.start old.moves step
  pub err : OnErr result (new ≡ old)
  pub memory : IsErrOf result Memory → MayNeedMemory old.count old.start old.moves step ⊎ IsFull old.moves

-- at the end of a run this is the node with this number, as its own events make it, or no node has this number
abbrev pub IsNodeAfter : ℕ → ℕ → List Move → ℕ → Option NodeState → Type 0
IsNodeAfter n start moves i None = n < i
IsNodeAfter n start moves i (Some node) =
    (1 ≤ i) × (i ≤ n) × NodeEvents (opening_node i n start) (happened_at i moves) node

-- at the nodes at the end of a run, this many requests wait
abbrev pub AreWaiting : ℕ → ℕ → List Move → ℕ → Type 0
AreWaiting n start moves waiting =
    (nodes : ℕ → NodeState) × EndsWith n start moves nodes × (waiting ≡ waiting_at_all n nodes)

-- at the nodes at the end of a run, this many clients are queued
abbrev pub AreQueued : ℕ → ℕ → List Move → ℕ → Type 0
AreQueued n start moves queued =
    (nodes : ℕ → NodeState) × EndsWith n start moves nodes × (queued ≡ queued_at_all n nodes)

-- the report of a run: each of its figures is what the definitions say
pub record Reports (n start : ℕ) (moves : List Move) (report : Report) : Type 0 where
  pub marks : report.marks.items ≡ marks_of moves
  pub sent : report.sent ≡ length (sent_by moves)
  pub requests : report.requests ≡ requests_in (marks_of moves)
  pub under_way : (left : List Message) × LeavesUnderWay moves left × (report.under_way ≡ length left)
  pub lost : report.lost ≡ length (lost_by moves)
  pub repeated : report.repeated ≡ length (repeated_by moves)
  pub withdrawn : report.withdrawn ≡ withdrawn_in (marks_of moves)
  pub at_nodes : (nodes : ℕ → NodeState) × EndsWith n start moves nodes
      × (report.waiting ≡ waiting_at_all n nodes) × (report.queued ≡ queued_at_all n nodes)
