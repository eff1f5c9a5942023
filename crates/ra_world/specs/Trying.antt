-- The result of a step that is tried, in terms of what a world keeps. No public contract speaks of it.
use Rattle.std.specs.Prelude.{◌≡◌, ◌⊎◌, ℕ, List, [], ◌∷◌, ◌++◌, Result, Ok, Err}
use Rattle.ra_stamp.specs.declared.message.Message.{Message}
use Rattle.ra_bag.specs.Bag.{TakesFirst, TakesOne}
use Rattle.ra_node.specs.declared.error.AskError.TheVariants as asking
use Rattle.ra_node.specs.declared.error.CancelError.TheVariants as cancelling
use Rattle.ra_node.specs.declared.error.LeaveError.TheVariants as leaving
use Rattle.ra_node.specs.Faults.{IsAskRefusal, IsLeaveRefusal, IsCancelRefusal}
use Rattle.ra_node.specs.Node.{NodeState, resource_at}
use Rattle.ra_node.specs.Memory.{BringsNothing}
use Rattle.ra_node.specs.Events.{Event, NodeEvent}
use Rattle.ra_node.specs.Events.{Event as acts}
use Rattle.ra_node.specs.declared.outcome.Outcome.{Outcome}
use Rattle.ra_world.specs.declared.step.Step.{Step}
use Rattle.ra_world.specs.declared.error.NodeRefusal.TheVariants.{Busy, Exhausted, NotHeld, NotWaiting}
use Rattle.ra_world.specs.declared.error.StepError.{StepError}
use Rattle.ra_world.specs.declared.error.StepError.TheVariants.{NoNode, NotUnderWay, Node, Memory}
use Rattle.ra_world.specs.declared.world.kept_steps.KeptSteps.{KeptSteps}
use Rattle.ra_world.specs.Traffic.{Move, repeated_by}
use Rattle.ra_world.specs.World.{IsFull}

-- The first message that is equal to this one is taken. If no move repeated one, it may be any equal one, since then
-- there is no other.
abbrev pub TakesEqual : List Move → List Message → Message → List Message → Type 0
TakesEqual moves old message new = TakesFirst old message new ⊎ ((repeated_by moves ≡ []) × TakesOne old message new)

-- what an event leaves of the messages under way: all of them, but not the one that its node receives
abbrev pub LeavesOthers : List Move → List Message → Event → List Message → Type 0
LeavesOthers moves old (acts.Ask client name mode) new = new ≡ old
LeavesOthers moves old (acts.Leave client name) new = new ≡ old
LeavesOthers moves old (acts.Cancel client name) new = new ≡ old
LeavesOthers moves old (acts.Receive message) new = TakesEqual moves old message new
LeavesOthers moves old acts.Forget new = new ≡ old

-- why an event does not happen at a node: the node refuses it, or it may happen but memory is short
abbrev pub IsEventRefusal : NodeState → List Move → Event → StepError → Type 0
IsEventRefusal s moves (acts.Ask client name mode) NoNode = ⊥
IsEventRefusal s moves (acts.Ask client name mode) NotUnderWay = ⊥
IsEventRefusal s moves (acts.Ask client name mode) (Node Busy) = IsAskRefusal (resource_at s name) client asking.Busy
IsEventRefusal s moves (acts.Ask client name mode) (Node Exhausted) =
    IsAskRefusal (resource_at s name) client asking.Exhausted
IsEventRefusal s moves (acts.Ask client name mode) (Node NotHeld) = ⊥
IsEventRefusal s moves (acts.Ask client name mode) (Node NotWaiting) = ⊥
IsEventRefusal s moves (acts.Ask client name mode) Memory = IsAskRefusal (resource_at s name) client asking.Memory
IsEventRefusal s moves (acts.Leave client name) NoNode = ⊥
IsEventRefusal s moves (acts.Leave client name) NotUnderWay = ⊥
IsEventRefusal s moves (acts.Leave client name) (Node Busy) = ⊥
IsEventRefusal s moves (acts.Leave client name) (Node Exhausted) = ⊥
IsEventRefusal s moves (acts.Leave client name) (Node NotHeld) =
    IsLeaveRefusal (resource_at s name) client leaving.NotHeld
IsEventRefusal s moves (acts.Leave client name) (Node NotWaiting) = ⊥
IsEventRefusal s moves (acts.Leave client name) Memory = IsLeaveRefusal (resource_at s name) client leaving.Memory
IsEventRefusal s moves (acts.Cancel client name) NoNode = ⊥
IsEventRefusal s moves (acts.Cancel client name) NotUnderWay = ⊥
IsEventRefusal s moves (acts.Cancel client name) (Node Busy) = ⊥
IsEventRefusal s moves (acts.Cancel client name) (Node Exhausted) = ⊥
IsEventRefusal s moves (acts.Cancel client name) (Node NotHeld) = ⊥
IsEventRefusal s moves (acts.Cancel client name) (Node NotWaiting) =
    IsCancelRefusal (resource_at s name) client cancelling.NotWaiting
IsEventRefusal s moves (acts.Cancel client name) Memory = IsCancelRefusal (resource_at s name) client cancelling.Memory
IsEventRefusal s moves acts.Forget NoNode = ⊥
IsEventRefusal s moves acts.Forget NotUnderWay = ⊥
IsEventRefusal s moves acts.Forget (Node why) = ⊥
IsEventRefusal s moves acts.Forget Memory = IsFull moves
IsEventRefusal s moves (acts.Receive message) NoNode = ⊥
IsEventRefusal s moves (acts.Receive message) NotUnderWay = ⊥
IsEventRefusal s moves (acts.Receive message) (Node why) = ⊥
IsEventRefusal s moves (acts.Receive message) Memory = (BringsNothing s message → ⊥) ⊎ IsFull moves

-- the result of a step that is tried as an event of a node: the event happens there, what it sends comes under way
-- after the messages that it leaves there, and the step is logged; or nothing changes, for this cause
abbrev pub TriesAt : {keeps : ℕ} → Step → Event → NodeState → KeptSteps keeps → Result Outcome StepError → NodeState
    → KeptSteps keeps → Type 0
TriesAt {keeps} step event node kept (Ok outcome) node' kept' =
    NodeEvent node event outcome.sends.items outcome.marks.items node'
    × ((left : List Message) × LeavesOthers kept.log.moves kept.under_way.items event left
    × (kept'.under_way.items ≡ left ++ outcome.sends.items))
    × (kept'.log.moves ≡ kept.log.moves
    ++ record { step = step; sends = outcome.sends.items; marks = outcome.marks.items } ∷ [])
TriesAt {keeps} step event node kept (Err cause) node' kept' =
    (node' ≡ node) × (kept'.under_way.items ≡ kept.under_way.items) × (kept'.log.moves ≡ kept.log.moves)
    × IsEventRefusal node kept.log.moves event cause
