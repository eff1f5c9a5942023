-- How the driver keeps the progress of the clients. No public contract speaks of it.
use Rattle.std.specs.Prelude.{◌≡◌, ◌⊎◌, ◌↔◌, ℕ, ◌+◌, ◌^◌, ◌<◌, Bool, true, false, List, [], length, slice_index_or, Some, None, option_map, IsTrue, All}
use Rattle.ra_stamp.specs.declared.entry.Mark.{Mark}
use Rattle.ra_stamp.specs.declared.mode.Mode.{Mode}
use Rattle.ra_world.specs.declared.step.Step.{Step}
use Rattle.ra_world.specs.declared.step.Step.TheVariants.{Ask}
use Rattle.ra_world.specs.Traffic.{Move}
use Rattle.ra_world.specs.World.{WorldState}
use Rattle.ra_schedule.specs.declared.driver.client_state.ClientState.{ClientState}
use Rattle.ra_schedule.specs.declared.driver.client_state.ClientState.TheVariants.{Done, Waits, Next}
use Rattle.ra_schedule.specs.declared.driver.client_progress.Progress.{Progress}
use Rattle.ra_schedule.specs.Script.{ScriptState, client_at, op_at}
use Rattle.ra_schedule.specs.Schedule.{steps_of, steps_in, steps_by, Asks, IsWaiting, Enters}
use Rattle.ra_schedule.specs.StateText.{WaitsSinceStep}

-- this is the progress of a client after these moves
pub record IsProgress (client : ℕ) (moves : List Move) (progress : Progress) : Type 0 where
  pub done : progress.done ≡ steps_by client (steps_of moves)
  pub waiting : IsTrue progress.waiting ↔ IsWaiting client moves

-- the world has come this far with the script, and this is the progress of its clients
pub record Tracks (script : ScriptState) (world : WorldState) (clients : List Progress) : Type 0 where
  pub count : world.count ≡ script.nodes
  pub start : world.start ≡ 0
  pub length_is : length clients ≡ length script.clients
  pub each : (k : ℕ) (d : Progress) → k < length clients
      → IsProgress (k + 1) world.moves (slice_index_or clients k d)

-- a step moves its client on, and a client that asks waits from then on
pub record IsAfterStep (client : ℕ) (step : Step) (old new : Progress) : Type 0 where
  pub done : new.done ≡ old.done + steps_in client step
  pub waiting : IsTrue new.waiting ↔ (Asks client step ⊎ IsTrue old.waiting)

-- after these marks a client still waits exactly if it waited before and no mark says that it entered
pub record IsAfterMarks (client : ℕ) (marks : List Mark) (old new : Progress) : Type 0 where
  pub done : new.done ≡ old.done
  pub waiting : IsTrue new.waiting ↔ (IsTrue old.waiting × All (λ mark. Enters client mark → ⊥) marks)

-- this relation holds for each client, by its number from 1, between its old progress and its new one
abbrev pub OfEach : (ℕ → Progress → Progress → Type 0) → List Progress → List Progress → Type 0
OfEach R old new = (k : ℕ) (d : Progress) → k < length old → R (k + 1) (slice_index_or old k d) (slice_index_or new k d)

-- each client's number of operations can still go up by one
abbrev pub AreCountable : List Progress → Type 0
AreCountable list = All (λ progress. progress.done + 1 < 2 ^ 64) list

-- the progress of a client after one more move
abbrev pub IsProgressAfter : Move → ℕ → Progress → Progress → Type 0
IsProgressAfter move client old new = (between : Progress) × IsAfterStep client move.step old between
    × IsAfterMarks client move.marks between new

-- each client has done all its operations
abbrev pub AreDone : ScriptState → List Progress → Type 0
AreDone script clients = (k : ℕ) (d : Progress) → k < length clients
    → option_map (λ who. length who.ops) (client_at script (k + 1)) ≡ Some (slice_index_or clients k d).done

-- the client waits, or has nothing left to do
abbrev pub WaitsOrIsDone : ScriptState → ℕ → Progress → Type 0
WaitsOrIsDone script client progress = IsTrue progress.waiting ⊎ (op_at script client progress.done ≡ None)

-- each client before this place, counted from 0, waits or has nothing left to do
abbrev pub WaitOrAreDone : ScriptState → List Progress → ℕ → Type 0
WaitOrAreDone script clients first = (k : ℕ) (d : Progress) → k < first → k < length clients
    → WaitsOrIsDone script (k + 1) (slice_index_or clients k d)

-- no client before this place, counted from 0, entered by these marks
abbrev pub NoneEnters : ℕ → List Mark → Type 0
NoneEnters first marks = (k : ℕ) → k < first → All (λ mark. Enters (k + 1) mark → ⊥) marks

-- the steps that are recorded of these moves: all of them, or no steps
abbrev pub recorded : Bool → List Move → List Step
recorded true moves = steps_of moves
recorded false moves = []

-- the client waits, and this says since when
abbrev pub IsWaitingAt : ℕ → List Move → ClientState → Type 0
IsWaitingAt client moves Done = ⊥
IsWaitingAt client moves (Waits name mode number) = WaitsSinceStep client moves name mode number
IsWaitingAt client moves (Next op enabled) = ⊥

-- this says what a client asks for in a step with this number
abbrev pub IsAskedIn : Step → ℕ → ℕ → ClientState → Type 0
IsAskedIn step client number state =
    (node : ℕ) × (name : List ℕ) × (mode : Mode) × (step ≡ Ask node client name mode) × (state ≡ Waits name mode number)
