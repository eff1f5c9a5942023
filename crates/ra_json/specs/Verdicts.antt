-- The objects of verdicts on traces and on mark logs.
use Rattle.std.specs.Prelude.{ℕ, Bool, List, Option, Some, None, codes}
use Rattle.serde_json.specs.Data.{Data, Members, boolean, number, string, unsigned, object, member, no_members}
use Rattle.ra_trace.specs.declared.checker.verdict.Cause.{Cause}
use Rattle.ra_trace.specs.declared.checker.verdict.Cause.TheVariants.{Line, Refused, NotUnderWay, Sends, Marks, Table}
use Rattle.ra_trace.specs.declared.checker.verdict.Verdict.{Verdict}
use Rattle.ra_trace.specs.declared.checker.verdict.Verdict.TheVariants.{Valid, Invalid}
use Rattle.ra_trace.specs.declared.mark_log.marks_verdict.MarkCause.{MarkCause}
use Rattle.ra_trace.specs.declared.mark_log.marks_verdict.MarkCause.TheVariants as mark
use Rattle.ra_trace.specs.declared.mark_log.marks_verdict.MarksVerdict.{MarksVerdict}
use Rattle.ra_trace.specs.declared.mark_log.marks_verdict.MarksVerdict.TheVariants as marks
use Rattle.ra_json.specs.Objects.{count, line_of}

-- the word for the cause of an invalid trace
abbrev pub cause_word : Cause → List ℕ
cause_word Line = codes "Line"
cause_word Refused = codes "Refused"
cause_word NotUnderWay = codes "NotUnderWay"
cause_word Sends = codes "Sends"
cause_word Marks = codes "Marks"
cause_word Table = codes "Table"

-- the word for the cause of an invalid mark log
abbrev pub mark_cause_word : MarkCause → List ℕ
mark_cause_word mark.Line = codes "Line"
mark_cause_word mark.NodeBusy = codes "NodeBusy"
mark_cause_word mark.NotAbove = codes "NotAbove"
mark_cause_word mark.NotWaiting = codes "NotWaiting"
mark_cause_word mark.Held = codes "Held"
mark_cause_word mark.Earlier = codes "Earlier"
mark_cause_word mark.NotHeld = codes "NotHeld"

-- a text is invalid: its first wrong line, and the word for the cause
abbrev pub invalid_object : (line : ℕ) → (word : List ℕ) → Data
invalid_object line word = object
    (member (codes "cause") (string word)
    (member (codes "line") (number (unsigned line))
    (member (codes "verdict") (string (codes "invalid"))
    no_members)))

-- A text is valid: these members and, if it has to be complete, whether it is.
abbrev pub valid_object : (complete : Option Bool) → Members → Data
valid_object None members = object members
valid_object (Some complete) members = object (member (codes "complete") (boolean complete) members)

-- the object of a verdict on a trace
abbrev pub verdict_object : (complete : Option Bool) → Verdict → Data
verdict_object complete (Valid requests messages) = valid_object complete
    (member (codes "messages") (count messages)
    (member (codes "requests") (count requests)
    (member (codes "verdict") (string (codes "valid"))
    no_members)))
verdict_object complete (Invalid line cause) = invalid_object line (cause_word cause)

-- the object of a verdict on a mark log
abbrev pub marks_verdict_object : (complete : Option Bool) → MarksVerdict → Data
marks_verdict_object complete (marks.Valid requests grants) = valid_object complete
    (member (codes "grants") (number (unsigned grants))
    (member (codes "requests") (number (unsigned requests))
    (member (codes "verdict") (string (codes "valid"))
    no_members)))
marks_verdict_object complete (marks.Invalid line cause) = invalid_object line (mark_cause_word cause)

-- their lines
abbrev pub invalid_line : (line : ℕ) → (word : List ℕ) → List ℕ
invalid_line line word = line_of (invalid_object line word)

abbrev pub verdict_line : (complete : Option Bool) → Verdict → List ℕ
verdict_line complete verdict = line_of (verdict_object complete verdict)

abbrev pub marks_verdict_line : (complete : Option Bool) → MarksVerdict → List ℕ
marks_verdict_line complete verdict = line_of (marks_verdict_object complete verdict)
