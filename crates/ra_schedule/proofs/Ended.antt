-- What is known of a cluster that was driven until no choice was left, or until it was refused.
use Rattle.std.proofs.Common.{◌≡◌, ◌≤◌, ℕ, Bool, true, false, List, [], ◌∷◌, ◌++◌, Result, Ok, Err, length, sym, ap, subst, ◌∙◌}
use Rattle.std.proofs.lemmas.Bool.{false≢true}
use Rattle.std.proofs.lemmas.List.{map-append}
use Rattle.ra_world.specs.declared.step.Step.{Step}
use Rattle.ra_world.specs.Traffic.{Move}
use Rattle.ra_world.specs.World.{WorldState}
use Rattle.ra_schedule.specs.declared.choice.Policy.{Policy}
use Rattle.ra_schedule.specs.declared.driver.Driver.{Driver}
use Rattle.ra_schedule.specs.declared.error.DriveError.{DriveError}
use Rattle.ra_schedule.specs.Script.{ScriptState, IsScript}
use Rattle.ra_schedule.specs.Drive.{Drives}
use Rattle.ra_schedule.specs.Driving.{IsAtEnd, IsStoppedAfter}
use Rattle.ra_schedule.specs.Progress.{recorded}
use Rattle.ra_schedule.specs.Schedule.{steps_of}
use Rattle.ra_schedule.proofs.Endings.{in_time}
use Rattle.ra_schedule.proofs.Following.{answers_ok, answers_err}
use Rattle.ra_schedule.proofs.ScheduleLaws.{endings_rest_on_runs, schedules_rest_on_runs}

-- if the steps were to be recorded, all of them are
pub recorded_all : (script : ScriptState) (policy : Policy) (world : WorldState) (driver : Driver) → IsAtEnd script policy world driver
    → driver.records ≡ true → driver.steps.items ≡ steps_of world.moves
recorded_all script policy world driver at_end records = at_end.steps ∙ ap (λ (b : Bool). recorded b world.moves) records

-- the policy was followed to its end, and this was made of it
pub came_to_end : {X : Type 0} (script : ScriptState) → IsScript script → (policy : Policy) (limit : ℕ) (IsMade : X → Type 0) (world : WorldState) (driver : Driver) (value : X)
    → IsAtEnd script policy world driver → length world.moves ≤ limit → IsMade value → Drives script policy limit IsMade (Ok value)
came_to_end script fit policy limit IsMade world driver value at_end within made =
    let answers = answers_ok schedules_rest_on_runs script policy limit world.moves value fit.count at_end.follows at_end.ends within in
    record {
      ok = made;
      answers = answers;
      in_time = in_time endings_rest_on_runs schedules_rest_on_runs script fit policy limit (Ok value) answers;
    }

-- the policy was stopped for a cause, which is handed on
pub was_stopped : {X : Type 0} (script : ScriptState) → IsScript script → (policy : Policy) (limit : ℕ) (IsMade : X → Type 0) (moves : List Move) (fault : DriveError) (result : Result X DriveError)
    → result ≡ Err fault → IsStoppedAfter script policy limit moves fault → Drives script policy limit IsMade result
was_stopped {X} script fit policy limit IsMade moves fault result is stopped =
    let answers = answers_err {X = X} schedules_rest_on_runs script policy limit moves fault fit.count stopped in
    subst (Drives script policy limit IsMade) (sym is) (record {
      ok = tt;
      answers = answers;
      in_time = in_time endings_rest_on_runs schedules_rest_on_runs script fit policy limit (Err fault) answers;
    })

-- one more step is recorded
pub recorded_more : (records : Bool) (moves : List Move) (move : Move) (step : Step) (old new : List Step) → records ≡ true → new ≡ old ++ step ∷ []
    → move.step ≡ step → old ≡ recorded records moves → new ≡ recorded records (moves ++ move ∷ [])
recorded_more true moves move step old new is pushed same so_far =
    pushed ∙ ap (λ (xs : List Step). xs ++ step ∷ []) so_far ∙ ap (λ (s : Step). steps_of moves ++ s ∷ []) (sym same)
    ∙ sym (map-append (λ (m : Move). m.step) moves (move ∷ []))
recorded_more false moves move step old new is pushed same so_far = absurd (false≢true is)
