-- What driving a cluster through a script gives.
use Rattle.std.specs.Prelude.{◌≡◌, ◌≢◌, ◌⊎◌, ◌↔◌, ℕ, ◌<◌, ◌≤◌, Bool, List, length, Result, IsTrue, IfOk, IfSome, IsNone, IsErrOf, IsOkUnless}
use Rattle.ra_world.specs.declared.text.report.Report.{Report}
use Rattle.ra_world.specs.Traffic.{Move}
use Rattle.ra_world.specs.World.{Reports}
use Rattle.ra_world.specs.MainTheorem.{MainTheorem}
use Rattle.ra_schedule.specs.declared.choice.Policy.{Policy}
use Rattle.ra_schedule.specs.declared.driver.drive_script.Recording.{Recording}
use Rattle.ra_schedule.specs.declared.driver.drive_script.Summary.{Summary}
use Rattle.ra_schedule.specs.declared.driver.until_refused.DrivenPart.{DrivenPart}
use Rattle.ra_schedule.specs.declared.error.DriveError.{DriveError}
use Rattle.ra_schedule.specs.declared.error.DriveError.TheVariants.{TurnLimit, Memory}
use Rattle.ra_schedule.specs.Script.{ScriptState}
use Rattle.ra_schedule.specs.LockOrder.{IsOutOfOrder, IsUnreleased}
use Rattle.ra_schedule.specs.Performing.{ChoosesItself, LosesNothing, most_turns}
use Rattle.ra_schedule.specs.Schedule.{steps_of, Follows, Ends, Stops, IsFinished, RepeatsNothing}
use Rattle.ra_schedule.specs.Listing.{AreChoicesBy, AreChoicesOf}

-- The moves are all that the policy chose until no choice was left, within the limit. This is the report of their run,
-- for which the main theorem holds, and whether the run is finished. The run is finished if the policy chooses by
-- itself and loses no message, and each client takes names in ascending order and gives them all back.
pub record IsWholeRun (script : ScriptState) (policy : Policy) (limit : ℕ) (moves : List Move) (report : Report)
    (finished : Bool) : Type 0 where
  pub follows : Follows script policy moves
  pub ends : Ends script policy moves
  pub within : length moves ≤ limit
  pub reports : Reports script.nodes 0 moves report
  pub main_theorem : MainTheorem script.nodes report
  pub finished_is : IsTrue finished ↔ IsFinished script (steps_of moves) report
  pub waiting_ends : ChoosesItself policy → LosesNothing policy → (IsOutOfOrder script → ⊥) → (IsUnreleased script → ⊥)
      → IsTrue finished

-- the record of such a run: its steps, and its choices, which are the policy's and by themselves make the run again
pub record IsRecording (script : ScriptState) (policy : Policy) (limit : ℕ) (recording : Recording) : Type 0 where
  pub moves : List Move
  pub run : IsWholeRun script policy limit moves recording.report recording.finished
  pub steps : recording.steps.items ≡ steps_of moves
  pub choices : AreChoicesBy script policy recording.choices.items moves
  pub again : AreChoicesOf script recording.choices moves

-- the summary of such a run: how many turns were made
pub record IsSummary (script : ScriptState) (policy : Policy) (limit : ℕ) (summary : Summary) : Type 0 where
  pub moves : List Move
  pub run : IsWholeRun script policy limit moves summary.report summary.finished
  pub turns : summary.turns ≡ length moves

-- What the policy did with the script until no choice was left, or until one was refused: the report of these moves,
-- for which the main theorem holds, how many they are, and why no other one follows.
pub record IsDrivenPart (script : ScriptState) (policy : Policy) (limit : ℕ) (part : DrivenPart) : Type 0 where
  pub moves : List Move
  pub follows : Follows script policy moves
  pub reports : Reports script.nodes 0 moves part.report
  pub main_theorem : MainTheorem script.nodes part.report
  pub turns : part.turns ≡ length moves
  pub ends : IsNone part.refusal → Ends script policy moves × (length moves ≤ limit)
  pub stops : IfSome part.refusal (Stops script policy limit moves)

-- A refusal other than `Memory` comes only if its cause applies. If a cause applies, the answer is its refusal or
-- `Memory`. If none does, so that the policy is followed to its end within the limit, only `Memory` is refused.
pub record Answers {X : Type 0} (script : ScriptState) (policy : Policy) (limit : ℕ)
    (result : Result X DriveError) : Type 0 where
  pub refused : (cause : DriveError) → cause ≢ Memory → IsErrOf result cause
      → (moves : List Move) × Follows script policy moves × Stops script policy limit moves cause
  pub exact : (cause : DriveError) (moves : List Move) → Follows script policy moves
      → Stops script policy limit moves cause
      → IsErrOf result cause ⊎ IsErrOf result Memory
  pub allowed : (moves : List Move) → Follows script policy moves → Ends script policy moves → length moves ≤ limit
      → IsOkUnless result Memory

-- A script takes at most `most_turns` under a policy that repeats no message, so a limit above that is never reached.
-- If the policy also chooses by itself, and the limit is at least that, only `Memory` is refused.
pub record IsInTime {X : Type 0} (script : ScriptState) (policy : Policy) (limit : ℕ)
    (result : Result X DriveError) : Type 0 where
  pub below_limit : RepeatsNothing policy → most_turns script < limit → IsErrOf result TurnLimit → ⊥
  pub only_memory : RepeatsNothing policy → ChoosesItself policy → most_turns script ≤ limit → IsOkUnless result Memory

-- What `drive` and each form of it promise, whatever they make of the run. This is one record, so that none promises
-- less than another.
pub record Drives {X : Type 0} (script : ScriptState) (policy : Policy) (limit : ℕ) (IsMade : X → Type 0)
    (result : Result X DriveError) : Type 0 where
  pub ok : IfOk result IsMade
  pub answers : Answers script policy limit result
  pub in_time : IsInTime script policy limit result
