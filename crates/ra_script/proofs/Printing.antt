-- What is answered of a script's run: it was written, or it was not.
use Rattle.std.proofs.Common.{◌≡◌, ℕ, List, Ok, Err, string_bytes, refl}
use Rattle.ra_schedule.specs.declared.choice.Policy.{Policy}
use Rattle.ra_schedule.specs.declared.error.DriveError.{DriveError}
use Rattle.ra_schedule.specs.declared.error.DriveError.TheVariants as drive
use Rattle.ra_schedule.specs.Drive.{Answers}
use Rattle.ra_schedule.specs.Schedule.{Follows, Stops}
use Rattle.ra_schedule.specs.Script.{ScriptState}
use Rattle.ra_world.specs.Traffic.{Move}
use Rattle.ra_schedule.specs.declared.error.ChoicesError.{ChoicesError}
use Rattle.ra_schedule.specs.declared.error.ChoicesError.TheVariants as choices
use Rattle.ra_script.specs.declared.error.PerformError.TheVariants.{Drive, Memory}
use Rattle.ra_script.specs.declared.output_kind.OutputKind.{OutputKind}
use Rattle.ra_script.specs.declared.performing.printed.Printed.{Printed}
use Rattle.ra_script.specs.Faults.{of_choices, of_drive}
use Rattle.ra_script.specs.Performed.{IsPerformedAs, RefusesAs, turn_limit}
use Rattle.ra_script.specs.Printing.{PrintsRun}
use Rattle.ra_script.specs.ScriptText.{script_of}

module _ (format : OutputKind) (policy : Policy) (script : ScriptState) where
  -- it was written
  pub written : (done : Printed)
      → ((input : List ℕ) → script_of input ≡ Ok script → IsPerformedAs format policy input (string_bytes done.text) done.finished)
      → PrintsRun format policy script (Ok done)
  written done performed = record { ok = performed; err = λ input is. tt; unread = tt; early = tt }

  -- memory ran out
  pub no_memory : PrintsRun format policy script (Err Memory)
  no_memory = record { ok = λ input is. tt; err = λ input is. tt; unread = λ e. absurd cc; early = λ e. absurd cc }

  -- the policy could not go on
  stopped : (cause : DriveError) → (moves : List Move) × Follows script policy moves × Stops script policy turn_limit moves cause
      → PrintsRun format policy script (Err (Drive cause))
  stopped cause (moves, follows, stops) = record {
    ok = λ input is. tt;
    err = λ input is. (script, moves, is, follows, stops);
    unread = λ e. absurd cc;
    early = λ e. absurd cc;
  }

  pub undriven : {X : Type 0} (why : DriveError) → Answers {X = X} script policy turn_limit (Err why)
      → PrintsRun format policy script (Err (of_drive why))
  undriven drive.TurnLimit told = stopped drive.TurnLimit (told.refused drive.TurnLimit (λ e. absurd cc) refl)
  undriven drive.BadPlace told = stopped drive.BadPlace (told.refused drive.BadPlace (λ e. absurd cc) refl)
  undriven drive.NotEnabled told = stopped drive.NotEnabled (told.refused drive.NotEnabled (λ e. absurd cc) refl)
  undriven drive.Memory told = no_memory

  -- its choices have no words, or memory ran out
  pub wordless : (why : ChoicesError) → ((input : List ℕ) → script_of input ≡ Ok script → RefusesAs format policy input (of_choices why))
      → PrintsRun format policy script (Err (of_choices why))
  wordless choices.Choice refuses = record { ok = λ input is. tt; err = refuses; unread = λ e. absurd cc; early = λ e. absurd cc }
  wordless choices.Memory refuses = no_memory
