-- What a check promises: the same for each call, whatever its limit and however it takes the bytes from the reader.
use Rattle.std.specs.Prelude.{◌≡◌, ◌↔◌, ℕ, ◌+◌, ◌≤◌, List, Option, Result, length, IfOk, IfSome, IsErrOf}
use Rattle.std.specs.Io.KnownBytes.{Consumes}
use Rattle.ra_stamp.specs.declared.entry.Mark.{Mark}
use Rattle.ra_world.specs.Quiet.{requests_in}
use Rattle.ra_world.specs.Run.{marks_of}
use Rattle.ra_world.specs.Traffic.{Move, sent_by}
use Rattle.ra_trace.specs.declared.error.TraceError.{TraceError}
use Rattle.ra_trace.specs.declared.error.TraceError.TheVariants.{Read, Limit, Memory}
use Rattle.ra_trace.specs.declared.mark_log.marks_verdict.MarksVerdict.{MarksVerdict}
use Rattle.ra_trace.specs.declared.mark_log.marks_verdict.MarksVerdict.TheVariants as log
use Rattle.ra_trace.specs.declared.checker.verdict.Verdict.{Verdict}
use Rattle.ra_trace.specs.declared.checker.verdict.Verdict.TheVariants.{Valid}
use Rattle.ra_trace.specs.declared.line.version.Version.{Version}
use Rattle.ra_trace.specs.TraceText.{IsTraceIn}
use Rattle.ra_trace.specs.Verdict.{IsTraceOfTableRun, IsVerdict}
use Rattle.ra_trace.specs.Reading.{Judges, ReadsOn, PassesLimit, StopsAfter}
use Rattle.ra_trace.specs.Marks.{grants_in, IsMarkRun, IsMarksVerdict, marks_text}
use Rattle.ra_trace.specs.MarksReading.{JudgesMarks, ReadsOnMarks, PassesMarksLimit, StopsAfterMarks}

-- The answer of a check of a trace, which may have this many bytes. `old` is what was left in the reader before it, if
-- the reader tells, and `new` is what is left after it.
pub record ChecksTrace (most : ℕ) (old new : Option (List ℕ)) (result : Result Verdict TraceError) : Type 0 where
  -- the verdict is the verdict on the whole input, even if that is longer than what was read
  pub ok : IfOk result (λ verdict. IfSome old (λ input. IsVerdict input verdict))
  -- a valid text was read to its end, and is no longer than it may be
  pub valid : IfOk result (λ verdict. IfSome old (λ input. (requests messages : ℕ)
      → verdict ≡ Valid requests messages → (length input ≤ most) × Consumes old new input))
  -- the marks of a valid text are a run of the lock table: no two conflicting entries on one name hold at once, and
  -- they are granted in the order of their stamps
  pub table : IfOk result (λ verdict. IfSome old (λ input. (requests messages : ℕ)
      → verdict ≡ Valid requests messages → IsTraceOfTableRun input))
  -- how far it was read, and that this shows the verdict
  pub judged : IfOk result (Judges most old new)
  -- what was read has this verdict too
  pub alone : IfOk result (λ verdict. (taken : List ℕ) × IsVerdict taken verdict × (length taken ≤ most)
      × Consumes old new taken)
  -- the input has no other verdict, so it is valid exactly if it is the trace of a run, with the counts of this run
  pub exact : IfOk result (λ verdict. IfSome old (λ input.
      (other : Verdict) → IsVerdict input other ↔ (verdict ≡ other)))
  pub trace : IfOk result (λ verdict. IfSome old (λ input. (version : Version) (n start : ℕ) (moves : List Move)
      → IsTraceIn version n start moves input
      → verdict ≡ Valid (requests_in (marks_of moves)) (length (sent_by moves))))
  -- what was read before a refusal leaves the verdict open; if memory ran out, it was only right lines
  pub failed : IsErrOf result Read → ReadsOn most old new
  pub limit : IsErrOf result Limit → PassesLimit most old new
  pub memory : IsErrOf result Memory → StopsAfter most old new
  -- at most one byte is read past what the text may have
  pub at_most : (taken : List ℕ) × (length taken ≤ most + 1) × Consumes old new taken

-- the answer of a check of a mark log, which may have this many bytes, likewise
pub record ChecksLog (most : ℕ) (old new : Option (List ℕ)) (result : Result MarksVerdict TraceError) : Type 0 where
  -- the verdict is the verdict on the whole input, even if that is longer than what was read
  pub ok : IfOk result (λ verdict. IfSome old (λ input. IsMarksVerdict input verdict))
  -- if the marks are a run of the lock table, the input was read to its end, and is no longer than it may be
  pub valid : IfOk result (λ verdict. IfSome old (λ input. (requests grants : ℕ)
      → verdict ≡ log.Valid requests grants → (length input ≤ most) × Consumes old new input))
  -- how far it was read, and that this shows the verdict
  pub judged : IfOk result (JudgesMarks most old new)
  -- what was read has this verdict too
  pub alone : IfOk result (λ verdict. (taken : List ℕ) × IsMarksVerdict taken verdict × (length taken ≤ most)
      × Consumes old new taken)
  -- the input has no other verdict, so it is valid exactly if its lines are the marks of a run of the lock table
  pub exact : IfOk result (λ verdict. IfSome old (λ input.
      (other : MarksVerdict) → IsMarksVerdict input other ↔ (verdict ≡ other)))
  pub run : IfOk result (λ verdict. IfSome old (λ input. (marks : List Mark)
      → IsMarkRun marks → input ≡ marks_text marks → verdict ≡ log.Valid (requests_in marks) (grants_in marks)))
  -- what was read before a refusal leaves the verdict open; if memory ran out, it was only the lines of a run
  pub failed : IsErrOf result Read → ReadsOnMarks most old new
  pub limit : IsErrOf result Limit → PassesMarksLimit most old new
  pub memory : IsErrOf result Memory → StopsAfterMarks most old new
  -- at most one byte is read past what the text may have
  pub at_most : (taken : List ℕ) × (length taken ≤ most + 1) × Consumes old new taken
