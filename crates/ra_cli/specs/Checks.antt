-- What `ra check` does.
use Rattle.std.specs.Prelude.{◌≡◌, ◌≢◌, ◌⊎◌, ℕ, List, ◌++◌, Bool, true, false, if◌then◌else◌, Option, Some, None, Result, IfSome, IsOkAnd, codes, decimal}
use Rattle.std.specs.Io.KnownBytes.{Consumes, Appends}
use Rattle.ra_text.specs.Lines.{field, total_line}
use Rattle.ra_arguments.specs.declared.form.Form.{Form}
use Rattle.ra_arguments.specs.declared.form.Form.TheVariants.{Json, Words}
use Rattle.ra_arguments.specs.declared.command_line.input_kind.InputKind.{InputKind}
use Rattle.ra_arguments.specs.declared.command_line.input_kind.InputKind.TheVariants as reads
use Rattle.ra_trace.specs.declared.checker.verdict.Verdict.{Verdict}
use Rattle.ra_trace.specs.declared.checker.verdict.Verdict.TheVariants.{Valid, Invalid}
use Rattle.ra_trace.specs.Verdict.{IsVerdict}
use Rattle.ra_trace.specs.declared.mark_log.marks_verdict.MarksVerdict.{MarksVerdict}
use Rattle.ra_trace.specs.declared.mark_log.marks_verdict.MarksVerdict.TheVariants as marks
use Rattle.ra_trace.specs.declared.checker.trace_watcher.TraceSoFar.{TraceSoFar}
use Rattle.ra_trace.specs.declared.mark_log.marks_watcher.MarksSoFar.{MarksSoFar}
use Rattle.ra_trace.specs.Complete.{MeetsLog, MeetsTrace}
use Rattle.ra_trace.specs.Following.{TellsMarks, TellsTrace}
use Rattle.ra_trace.specs.Marks.{IsMarksVerdict}
use Rattle.ra_trace.specs.Reading.{Judges as ShowsVerdict, PassesLimit, ReadsOn, StopsAfter}
use Rattle.ra_trace.specs.MarksReading.{JudgesMarks, PassesMarksLimit, ReadsOnMarks, StopsAfterMarks}
use Rattle.ra_json.specs.Verdicts.{cause_word, mark_cause_word, marks_verdict_line, verdict_line}
use Rattle.ra_trace.specs.declared.error.TraceError.{TraceError}
use Rattle.ra_trace.specs.declared.error.TraceError.TheVariants as fault

-- the lines of a verdict
abbrev pub verdict_text : Verdict → List ℕ
verdict_text (Valid requests messages) =
    codes "valid\n" ++ total_line (codes "requests") requests ++ total_line (codes "messages") messages
verdict_text (Invalid line cause) = codes "invalid" ++ field (decimal line) ++ field (cause_word cause) ++ codes "\n"

-- whether a text is complete, if it has to be
abbrev pub if_demanded : (demanded passes : Bool) → Option Bool
if_demanded demanded passes = if demanded then Some passes else None

-- What is printed of a verdict in this form: its lines, or the line of its object. The object also says whether the
-- text is complete, if that is demanded, by whether it passes.
abbrev pub verdict_as : Form → (complete : Option Bool) → Verdict → List ℕ
verdict_as Words complete verdict = verdict_text verdict
verdict_as Json complete verdict = verdict_line complete verdict

abbrev pub verdict_in : Form → (demanded passes : Bool) → Verdict → List ℕ
verdict_in form demanded passes = verdict_as form (if_demanded demanded passes)

-- whether a verdict says that the text is a trace
abbrev pub is_valid : Verdict → Bool
is_valid (Valid requests messages) = true
is_valid (Invalid line cause) = false

-- The outcome of a check, for any kind of text. A kind has its verdicts on an input, `is_valid` says which of them say
-- that the input is of the kind, `Meets` whether an input with a verdict passes, and `lines_of` has the lines of each.
-- If the input is known, it has a verdict, passes or not, and exactly the lines of the verdict were written. It was
-- read to its end if it is valid, and otherwise no further than shows the verdict, which `Shows` says. If it is not
-- known, such a text still exists.
abbrev pub Judges : {V : Type 0} → (IsVerdictOn : List ℕ → V → Type 0) → (Meets : List ℕ → V → Bool → Type 0)
    → (Shows : Option (List ℕ) → Option (List ℕ) → V → Type 0) → (is_valid : V → Bool) → (lines_of : Bool → V → List ℕ)
    → (old new before after : Option (List ℕ)) → Bool → Type 0
Judges {V} IsVerdictOn Meets Shows is_valid lines_of old new before after passes =
    IfSome old (λ input. (verdict : V) × IsVerdictOn input verdict × Meets input verdict passes
    × Shows old new verdict × (is_valid verdict ≡ true → Consumes old new input)
    × Appends before after (lines_of passes verdict))
    × ((input : List ℕ) × (verdict : V) × IsVerdictOn input verdict × Meets input verdict passes
    × Appends before after (lines_of passes verdict))

-- the outcome of a check of a trace, which may have this many bytes, and may have to be complete, in this form
abbrev pub Checks : (most : ℕ) → (complete : Bool) → Form → (old new before after : Option (List ℕ)) → Bool → Type 0
Checks most complete form = Judges IsVerdict (MeetsTrace complete) (ShowsVerdict most) is_valid (verdict_in form complete)

-- ---- Mark logs

-- the lines of a verdict on a mark log
abbrev pub marks_verdict_text : MarksVerdict → List ℕ
marks_verdict_text (marks.Valid requests grants) =
    codes "valid\n" ++ total_line (codes "requests") requests ++ total_line (codes "grants") grants
marks_verdict_text (marks.Invalid line cause) =
    codes "invalid" ++ field (decimal line) ++ field (mark_cause_word cause) ++ codes "\n"

-- what is printed of it in this form, likewise
abbrev pub marks_verdict_as : Form → (complete : Option Bool) → MarksVerdict → List ℕ
marks_verdict_as Words complete verdict = marks_verdict_text verdict
marks_verdict_as Json complete verdict = marks_verdict_line complete verdict

abbrev pub marks_verdict_in : Form → (demanded passes : Bool) → MarksVerdict → List ℕ
marks_verdict_in form demanded passes = marks_verdict_as form (if_demanded demanded passes)

-- whether a verdict says that the marks are a run of the lock table
abbrev pub is_run : MarksVerdict → Bool
is_run (marks.Valid requests grants) = true
is_run (marks.Invalid line cause) = false

-- the outcome of a check of a mark log, likewise
abbrev pub ChecksMarks : (most : ℕ) → (complete : Bool) → Form → (old new before after : Option (List ℕ)) → Bool
    → Type 0
ChecksMarks most complete form = Judges IsMarksVerdict (MeetsLog complete) (JudgesMarks most) is_run
    (marks_verdict_in form complete)

-- ---- Refusals

-- Why a check of a trace is refused. If the reader failed, what was read has no verdict. If the text is too long, its
-- first bytes, as many as it may have, have none, and another byte came. If memory ran out, only lines that are right
-- were read, or no more than shows a verdict, for whose lines there was no memory.
abbrev pub RefusesCheck : (most : ℕ) → (old new : Option (List ℕ)) → TraceError → Type 0
RefusesCheck most old new fault.Read = ReadsOn most old new
RefusesCheck most old new fault.Limit = PassesLimit most old new
RefusesCheck most old new fault.Memory =
    StopsAfter most old new ⊎ ((verdict : Verdict) × ShowsVerdict most old new verdict)

-- the same, of a mark log
abbrev pub RefusesCheckOfMarks : (most : ℕ) → (old new : Option (List ℕ)) → TraceError → Type 0
RefusesCheckOfMarks most old new fault.Read = ReadsOnMarks most old new
RefusesCheckOfMarks most old new fault.Limit = PassesMarksLimit most old new
RefusesCheckOfMarks most old new fault.Memory =
    StopsAfterMarks most old new ⊎ ((verdict : MarksVerdict) × JudgesMarks most old new verdict)

-- ---- By what is read

-- how many bytes a text may have that is followed; one that is only checked may have 16,777,216
abbrev pub most_followed : ℕ
most_followed = 9223372036854775808

abbrev pub ChecksKind : InputKind → (most : ℕ) → (complete : Bool) → Form → (old new before after : Option (List ℕ))
    → Bool → Type 0
ChecksKind reads.Trace = Checks
ChecksKind reads.Marks = ChecksMarks

abbrev pub RefusesCheckOfKind : InputKind → (most : ℕ) → (old new : Option (List ℕ)) → TraceError → Type 0
RefusesCheckOfKind reads.Trace = RefusesCheck
RefusesCheckOfKind reads.Marks = RefusesCheckOfMarks

-- the text tells in this form the verdict on the input, which may have to be complete
abbrev pub IsVerdictText : InputKind → (complete : Bool) → Form → (input text : List ℕ) → Type 0
IsVerdictText reads.Trace complete form input text = (verdict : Verdict) × (passes : Bool) × IsVerdict input verdict
    × MeetsTrace complete input verdict passes × (text ≡ verdict_in form complete passes verdict)
IsVerdictText reads.Marks complete form input text =
    (verdict : MarksVerdict) × (passes : Bool) × IsMarksVerdict input verdict
    × MeetsLog complete input verdict passes × (text ≡ marks_verdict_in form complete passes verdict)

-- ---- Who is told

-- What a watcher is told of a trace after each `every` lines that are right, by a command with this status: with a
-- verdict, none of it is left out. `old` is what was left in the reader before it, and `before` and `after` are what
-- the watcher was told, if they tell.
abbrev pub TellsOfTrace : (every : ℕ) → (old : Option (List ℕ)) → (before after : Option (List TraceSoFar))
    → (status : ℕ) → Type 0
TellsOfTrace every old before after status =
    (result : Result Verdict TraceError) × TellsTrace every old result before after
    × (status ≢ 1 → status ≢ 2 → IfSome old (λ input. IsOkAnd result (IsVerdict input)))

-- the same, of a mark log
abbrev pub TellsOfMarks : (every : ℕ) → (old : Option (List ℕ)) → (before after : Option (List MarksSoFar))
    → (status : ℕ) → Type 0
TellsOfMarks every old before after status =
    (result : Result MarksVerdict TraceError) × TellsMarks every old result before after
    × (status ≢ 1 → status ≢ 2 → IfSome old (λ input. IsOkAnd result (IsMarksVerdict input)))

-- the same, of a text of this kind; what is told of another kind does not matter
abbrev pub TellsOfKind : InputKind → (every : ℕ) → (old : Option (List ℕ))
    → (trace_before trace_after : Option (List TraceSoFar)) → (marks_before marks_after : Option (List MarksSoFar))
    → (status : ℕ) → Type 0
TellsOfKind reads.Trace every old trace_before trace_after marks_before marks_after status =
    TellsOfTrace every old trace_before trace_after status
TellsOfKind reads.Marks every old trace_before trace_after marks_before marks_after status =
    TellsOfMarks every old marks_before marks_after status
