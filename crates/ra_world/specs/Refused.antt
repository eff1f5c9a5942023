-- What refusal of a step follows from a refusal of its node, and what refusal of a run from a refusal of its world; and
-- the place at which a list of steps is refused.
use Rattle.std.specs.Prelude.{◌≡◌, ℕ, ◌-◌, ◌≤◌, List, Some, map, take, slice_get}
use Rattle.ra_node.specs.declared.error.AskError.{AskError}
use Rattle.ra_node.specs.declared.error.AskError.TheVariants as ask
use Rattle.ra_node.specs.declared.error.CancelError.{CancelError}
use Rattle.ra_node.specs.declared.error.CancelError.TheVariants as cancel
use Rattle.ra_node.specs.declared.error.LeaveError.{LeaveError}
use Rattle.ra_node.specs.declared.error.LeaveError.TheVariants as leave
use Rattle.ra_world.specs.declared.step.Step.{Step}
use Rattle.ra_world.specs.declared.error.NodeRefusal.TheVariants.{Busy, Exhausted, NotHeld, NotWaiting}
use Rattle.ra_world.specs.declared.error.StepError.{StepError}
use Rattle.ra_world.specs.declared.error.StepError.TheVariants.{Node, Memory}
use Rattle.ra_world.specs.declared.error.NewError.{NewError}
use Rattle.ra_world.specs.declared.error.NewError.TheVariants as new
use Rattle.ra_world.specs.declared.error.RunError.{RunError}
use Rattle.ra_world.specs.declared.error.RunError.TheVariants as run
use Rattle.ra_world.specs.Traffic.{Move}
use Rattle.ra_world.specs.Run.{IsRun, WorldRun, GoesOn}
use Rattle.ra_world.specs.World.{WorldState, HasCause, HasMade}

-- the refusal of a run that the refusal to make its world becomes
abbrev pub refusal_of_new : NewError → RunError
refusal_of_new new.BadCount = run.BadCount
refusal_of_new new.Memory = run.Memory

-- the refusal of a step that a refusal of its node's ask becomes
abbrev pub refusal_of_ask : AskError → StepError
refusal_of_ask ask.Busy = Node Busy
refusal_of_ask ask.Exhausted = Node Exhausted
refusal_of_ask ask.Memory = Memory

-- the refusal of a step that a refusal of its node's leave becomes
abbrev pub refusal_of_leave : LeaveError → StepError
refusal_of_leave leave.NotHeld = Node NotHeld
refusal_of_leave leave.Memory = Memory

-- the refusal of a step that a refusal of its node's cancel becomes
abbrev pub refusal_of_cancel : CancelError → StepError
refusal_of_cancel cancel.NotWaiting = Node NotWaiting
refusal_of_cancel cancel.Memory = Memory

-- the first place, counted from 1, at which a list of steps is no longer a run, and why
pub record IsRefusedAt (n start : ℕ) (steps : List Step) (place : ℕ) (cause : StepError) : Type 0 where
  pub from_one : 1 ≤ place
  pub moves : List Move
  pub prefix : map (λ move. move.step) moves ≡ take (place - 1) steps
  pub run : IsRun n start moves
  pub step : Step
  pub step_is : slice_get steps (place - 1) ≡ Some step
  pub because : HasCause n start moves step cause
  pub no_run : WorldRun n start (take place steps) → ⊥

-- a world has made the steps before one of these, and it can make that one
pub record StopsBefore (n start : ℕ) (steps : List Step) (world : WorldState) : Type 0 where
  pub place : ℕ
  pub made : HasMade n start (take place steps) world
  pub step : Step
  pub step_is : slice_get steps place ≡ Some step
  pub goes_on : GoesOn n start world.moves step
