-- What a watcher is told of a text while it is checked line by line, a mark log or a trace.
use Rattle.std.specs.Prelude.{◌≡◌, ◌⊎◌, ℕ, ◌+◌, ◌*◌, ◌<◌, ◌≤◌, List, [], ◌∷◌, ◌++◌, All, Option, Some, None, Result, length, flat_map, IfOk, IfSome, ⊤}
use Rattle.ra_stamp.specs.declared.entry.Mark.{Mark}
use Rattle.ra_world.specs.Quiet.{requests_in}
use Rattle.ra_world.specs.Run.{marks_of}
use Rattle.ra_world.specs.Traffic.{Move, sent_by}
use Rattle.ra_trace.specs.declared.error.TraceError.{TraceError}
use Rattle.ra_trace.specs.declared.line.Line.{Line}
use Rattle.ra_trace.specs.declared.line.version.Version.{Version}
use Rattle.ra_trace.specs.declared.checker.verdict.Verdict.{Verdict}
use Rattle.ra_trace.specs.declared.checker.verdict.Verdict.TheVariants as trace
use Rattle.ra_trace.specs.declared.checker.trace_watcher.TraceSoFar.{TraceSoFar}
use Rattle.ra_trace.specs.declared.mark_log.marks_verdict.MarksVerdict.{MarksVerdict}
use Rattle.ra_trace.specs.declared.mark_log.marks_verdict.MarksVerdict.TheVariants as log
use Rattle.ra_trace.specs.declared.mark_log.marks_watcher.MarksSoFar.{MarksSoFar}
use Rattle.ra_trace.specs.Marks.{marks_text, grants_in, IsMarkRun}
use Rattle.ra_trace.specs.TraceText.{IsTraceIn, line_text, trace_lines}
use Rattle.ra_trace.specs.Verdict.{Due, IsTracePrefix}

-- if it is known what a watcher was told, this was told next
abbrev pub Tells : {S : Type 0} → Option (List S) → Option (List S) → List S → Type 0
Tells None new more = ⊤
Tells (Some old) None more = ⊥
Tells (Some old) (Some new) more = new ≡ old ++ more

-- each of these was told after `every` lines more than the one before; before the first one, this many were
abbrev pub AreEvery : {S : Type 0} → (lines_of : S → ℕ) → (every place : ℕ) → List S → Type 0
AreEvery lines_of every place [] = Unit {0}
AreEvery lines_of every place (so_far ∷ others) =
    (lines_of so_far ≡ (place + 1) * every) × AreEvery lines_of every (place + 1) others

-- What a watcher was told that is to be told after each `every` lines that are right. `old` is what was left in the
-- reader before the check, if the reader tells. `before` and `after` are what the watcher was told before it and after
-- it, if its contract tells. `HasRight` says how many lines are right of a text with a verdict.
pub record TellsEvery {S V E : Type 0} (lines_of : S → ℕ) (IsTrueOf : List ℕ → S → Type 0)
    (HasRight : List ℕ → V → ℕ → Type 0)
    (every : ℕ) (old : Option (List ℕ)) (result : Result V E) (before after : Option (List S)) : Type 0 where
  -- it was told these, in this order, and nothing else
  pub told : List S
  pub tells : Tells before after told
  -- each is true of the input
  pub each : IfSome old (λ input. All (IsTrueOf input) told)
  -- the first one is of the first `every` lines, the next one of twice as many, and so on
  pub places : AreEvery lines_of every 0 told
  -- with a verdict, none is left out
  pub all : IfOk result (λ verdict. IfSome old (λ input.
      (count : ℕ) × HasRight input verdict count × (1 ≤ every → count < (length told + 1) * every)))
  -- for 0 lines it was told nothing
  pub none : every ≡ 0 → told ≡ []

-- ---- Mark logs

abbrev pub marks_lines : MarksSoFar → ℕ
marks_lines so_far = so_far.lines

-- the first lines of the text, as many as this says, are the lines of a run of the lock table, with so many requests
-- and grants
abbrev pub IsMarksSoFar : List ℕ → MarksSoFar → Type 0
IsMarksSoFar text so_far =
    (marks : List Mark) × (rest : List ℕ) × IsMarkRun marks × (text ≡ marks_text marks ++ rest)
    × (so_far.lines ≡ length marks) × (so_far.requests ≡ requests_in marks) × (so_far.grants ≡ grants_in marks)

-- so many lines of the text are right: all, or those before the first wrong one
abbrev pub HasRightMarks : List ℕ → MarksVerdict → ℕ → Type 0
HasRightMarks text (log.Valid requests grants) count =
    (marks : List Mark) × IsMarkRun marks × (text ≡ marks_text marks) × (count ≡ length marks)
HasRightMarks text (log.Invalid line why) count = line ≡ count + 1

-- what the watcher of a mark log was told
abbrev pub TellsMarks : (every : ℕ) → (old : Option (List ℕ)) → Result MarksVerdict TraceError
    → (before after : Option (List MarksSoFar)) → Type 0
TellsMarks every old result before after = TellsEvery marks_lines IsMarksSoFar HasRightMarks every old result before after

-- ---- Traces

abbrev pub trace_so_far_lines : TraceSoFar → ℕ
trace_so_far_lines so_far = so_far.lines

-- these lines are those of a prefix of the trace of these moves, or of the whole one
abbrev pub AreLinesOf : Version → ℕ → ℕ → List Move → List Line → Type 0
AreLinesOf version n start moves lines =
    ((due : Due) × IsTracePrefix version n start moves due lines)
    ⊎ (IsTraceIn version n start moves (flat_map line_text lines) × (lines ≡ trace_lines version n start moves))

-- the first lines of the text, as many as this says, are those of a trace, of moves with so many requests and messages
abbrev pub IsTraceSoFar : List ℕ → TraceSoFar → Type 0
IsTraceSoFar text so_far =
    (lines : List Line) × (rest : List ℕ) × (text ≡ flat_map line_text lines ++ rest) × (so_far.lines ≡ length lines)
    × (version : Version) × (n start : ℕ) × (moves : List Move) × AreLinesOf version n start moves lines
    × (so_far.requests ≡ requests_in (marks_of moves)) × (so_far.messages ≡ length (sent_by moves))

-- so many lines of the text are right: all, or those before the first wrong one
abbrev pub HasRightLines : List ℕ → Verdict → ℕ → Type 0
HasRightLines text (trace.Valid requests messages) count =
    (version : Version) × (n start : ℕ) × (moves : List Move) × IsTraceIn version n start moves text
    × (count ≡ length (trace_lines version n start moves))
HasRightLines text (trace.Invalid line why) count = line ≡ count + 1

-- what the watcher of a trace was told
abbrev pub TellsTrace : (every : ℕ) → (old : Option (List ℕ)) → Result Verdict TraceError
    → (before after : Option (List TraceSoFar)) → Type 0
TellsTrace every old result before after =
    TellsEvery trace_so_far_lines IsTraceSoFar HasRightLines every old result before after
