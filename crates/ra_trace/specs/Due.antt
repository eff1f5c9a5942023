-- Which line is due at a line of a text: the line of a message or a mark of the step before.
use Rattle.std.specs.Prelude.{◌≡◌, ℕ, ◌+◌, List, ◌++◌, ◌⊎◌, Option, Result, Ok, IfSome, flat_map, length, slice_get}
use Rattle.ra_world.specs.Traffic.{Move}
use Rattle.ra_trace.specs.declared.error.TraceError.{TraceError}
use Rattle.ra_trace.specs.declared.line.Line.{Line}
use Rattle.ra_trace.specs.declared.checker.verdict.Cause.TheVariants as cause
use Rattle.ra_trace.specs.declared.checker.verdict.Verdict.{Verdict}
use Rattle.ra_trace.specs.declared.checker.verdict.Verdict.TheVariants.{Invalid}
use Rattle.ra_trace.specs.declared.line.version.Version.{Version}
use Rattle.ra_trace.specs.TraceText.{line_text}
use Rattle.ra_trace.specs.Verdict.{Due, IsTracePrefix, due_lines}

-- the lines of the text before this one, counted from 1, are the lines of a run without those of its last move that are
-- still due; `next` is the first line that is due, or `None` if none is
pub record IsDueAt (text : List ℕ) (line : ℕ) (next : Option Line) : Type 0 where
  pub prefix : List Line
  pub rest : List ℕ
  pub text_is : text ≡ flat_map line_text prefix ++ rest
  pub line_is : line ≡ length prefix + 1
  pub version : Version
  pub count : ℕ
  pub start : ℕ
  pub moves : List Move
  pub due : Due
  pub lines : IsTracePrefix version count start moves due prefix
  pub first : next ≡ slice_get (due_lines due) 0

-- if a line of the input is wrong for its sends or its marks, this line is due there; the input is what was left in the
-- reader, if the reader tells
abbrev pub TellsDue : Option (List ℕ) → Result Verdict TraceError → Option Line → Type 0
TellsDue old result next = IfSome old (λ input. (line : ℕ)
    → (result ≡ Ok (Invalid line cause.Sends)) ⊎ (result ≡ Ok (Invalid line cause.Marks)) → IsDueAt input line next)
