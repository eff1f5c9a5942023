-- How a world keeps its run: the nodes at its end, and the messages that it leaves under way. No public contract speaks
-- of it.
use Rattle.std.specs.Prelude.{◌≡◌, ◌⊎◌, ℕ, ◌-◌, List, length, slice_index_or, Result, Ok, Err}
use Rattle.ra_stamp.specs.Sequence.{Listed}
use Rattle.ra_stamp.specs.declared.message.Message.{Message}
use Rattle.ra_stamp.specs.declared.entry.Mark.{Mark}
use Rattle.ra_stamp.specs.NodeId.{IsNodeNumber}
use Rattle.ra_node.specs.Node.{NodeState, opening_node}
use Rattle.ra_world.specs.Traffic.{Move, LeavesUnderWay}
use Rattle.ra_world.specs.Run.{IsRun, EndsWith, GoesOn}
use Rattle.ra_world.specs.World.{WorldState, with_move, HasCause, MayNeedMemory, IsFull}
use Rattle.ra_node.specs.declared.outcome.Outcome.{Outcome}
use Rattle.ra_world.specs.declared.step.Step.{Step}
use Rattle.ra_world.specs.declared.error.StepError.{StepError}
use Rattle.ra_world.specs.declared.error.StepError.TheVariants.{Memory}
use Rattle.ra_world.specs.declared.text.report.Report.{Report}
use Rattle.ra_world.specs.declared.text.report.Figures.{Figures}
use Rattle.ra_world.specs.declared.world.WorldOf.TheInside.{Inside}

-- the nodes by their numbers, from 1; any other number means nothing
abbrev pub nodes_of : List NodeState → ℕ → NodeState
nodes_of nodes i = slice_index_or nodes (i - 1) (opening_node 0 0 0)

-- the moves are a run, these are the nodes at its end, and these messages are under way after it
pub record Keeps (start : ℕ) (nodes : List NodeState) (left : List Message) (moves : List Move) : Type 0 where
  pub count : IsNodeNumber (length nodes)
  pub run : IsRun (length nodes) start moves
  pub ends : EndsWith (length nodes) start moves (nodes_of nodes)
  pub under_way : LeavesUnderWay moves left

-- the world that the fields represent
abbrev pub world_of : {keeps : ℕ} → Inside keeps → WorldState
world_of {keeps} w = record { count = length w.nodes.items; start = w.start; moves = w.kept.log.moves }

-- what is true of the fields: the moves are a run, and the nodes and the messages are those at its end
abbrev pub IsKept : {keeps : ℕ} → Inside keeps → Type 0
IsKept {keeps} w = Keeps w.start w.nodes.items w.kept.under_way.items w.kept.log.moves

-- the report of these figures and marks
abbrev pub report_with : Figures → Listed Mark → Report
report_with figures marks =
    record {
      marks = marks;
      sent = figures.sent;
      requests = figures.requests;
      under_way = figures.under_way;
      lost = figures.lost;
      repeated = figures.repeated;
      withdrawn = figures.withdrawn;
      waiting = figures.waiting;
      queued = figures.queued;
    }

-- a step could be made but for lack of memory, and it is one that may need memory, or no further step can be counted
pub record IsShort (w : WorldState) (step : Step) (cause : StepError) : Type 0 where
  pub is_memory : cause ≡ Memory
  pub goes_on : GoesOn w.count w.start w.moves step
  pub needs : MayNeedMemory w.count w.start w.moves step ⊎ IsFull w.moves

-- the result of a step that is tried: it is made, or it is refused and nothing changes, for a cause of its own or for
-- lack of memory
abbrev pub Tries : WorldState → Step → Result Outcome StepError → WorldState → Type 0
Tries old step (Ok outcome) new = new ≡ with_move old step outcome.sends.items outcome.marks.items
Tries old step (Err cause) new =
    (new ≡ old) × (HasCause old.count old.start old.moves step cause ⊎ IsShort old step cause)
