-- What is written of a run of a script, or why it is not.
use Rattle.std.specs.Prelude.{◌≡◌, ◌≢◌, ℕ, List, Bool, Result, Ok, IfOk, IfErr, string_bytes, if◌then◌else◌}
use Rattle.ra_schedule.specs.declared.choice.Policy.{Policy}
use Rattle.ra_schedule.specs.Script.{ScriptState}
use Rattle.ra_script.specs.declared.error.PerformError.{PerformError}
use Rattle.ra_script.specs.declared.error.PerformError.TheVariants.{Read, Write}
use Rattle.ra_script.specs.declared.output_kind.OutputKind.{OutputKind}
use Rattle.ra_script.specs.declared.output_kind.OutputKind.TheVariants.{Trace, TraceWithSends}
use Rattle.ra_script.specs.declared.performing.printed.Printed.{Printed}
use Rattle.ra_script.specs.Performed.{IsPerformedAs, RefusesAs}
use Rattle.ra_script.specs.ScriptText.{script_of}

-- a trace with the messages that each step sends, or without them
abbrev pub trace_kind : Bool → OutputKind
trace_kind has_sends = if has_sends then TraceWithSends else Trace

-- The answer of each function that drives a cluster through a script by this policy, and returns what is written of the
-- run in this format. The script is an input's.
pub record PrintsRun (format : OutputKind) (policy : Policy) (script : ScriptState)
    (result : Result Printed PerformError) : Type 0 where
  pub ok : (input : List ℕ) → script_of input ≡ Ok script
      → IfOk result (λ printed. IsPerformedAs format policy input (string_bytes printed.text) printed.finished)
  pub err : (input : List ℕ) → script_of input ≡ Ok script → IfErr result (RefusesAs format policy input)
  -- neither the reader nor the writer is the cause
  pub unread : IfErr result (λ why. why ≢ Read)
  pub early : IfErr result (λ why. why ≢ Write)
