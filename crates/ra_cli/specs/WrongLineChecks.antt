-- What `ra check --marks --all` does: each wrong line of a mark log is told and left out, and the log goes on.
use Rattle.std.specs.Prelude.{◌≡◌, ◌==◌, ℕ, ◌+◌, ◌≤◌, Bool, List, [], ◌∷◌, ◌++◌, Option, IfSome, codes, cond, decimal, flat_map, length}
use Rattle.std.specs.Io.KnownBytes.{Consumes, Appends}
use Rattle.ra_text.specs.Lines.{field, total_line}
use Rattle.ra_trace.specs.declared.error.TraceError.{TraceError}
use Rattle.ra_trace.specs.declared.error.TraceError.TheVariants as fault
use Rattle.ra_trace.specs.declared.mark_log.marks_verdict.MarkCause.{MarkCause}
use Rattle.ra_trace.specs.declared.mark_log.marks_verdict.MarkCause.TheVariants as mark
use Rattle.ra_trace.specs.declared.mark_log.marks_verdict.MarksVerdict.TheVariants as marks
use Rattle.ra_trace.specs.declared.mark_log.marks_watcher.MarksSoFar.{MarksSoFar}
use Rattle.ra_trace.specs.declared.mark_log.wrong_lines.WrongLine.{WrongLine}
use Rattle.ra_trace.specs.LeftOut.{TellsAll, cause_place, count_at, first_of_each}
use Rattle.ra_json.specs.Verdicts.{mark_cause_word}
use Rattle.ra_cli.specs.Checks.{marks_verdict_text, most_followed}

-- the line of a wrong line: that of the verdict on a log in which it is the first wrong one
abbrev pub wrong_line : WrongLine → List ℕ
wrong_line wrong = marks_verdict_text (marks.Invalid wrong.line wrong.cause)

-- the line of a cause: how many lines are wrong for it, if any
abbrev pub cause_line : List WrongLine → MarkCause → List ℕ
cause_line wrong cause = cond (count_at (cause_place cause) wrong == 0) []
    (total_line (mark_cause_word cause) (count_at (cause_place cause) wrong))

abbrev pub cause_lines : List WrongLine → List ℕ
cause_lines wrong =
    cause_line wrong mark.Line ++ cause_line wrong mark.NodeBusy ++ cause_line wrong mark.NotAbove
    ++ cause_line wrong mark.NotWaiting ++ cause_line wrong mark.Held ++ cause_line wrong mark.Earlier
    ++ cause_line wrong mark.NotHeld

-- What is printed of a log. If no line is wrong, it is the verdict on it. Otherwise it is the first wrong line on each
-- name, and the first that has none, in order; how many lines are wrong, for each cause; and the requests and grants
-- among the other lines.
abbrev pub all_text : List WrongLine → MarksSoFar → List ℕ
all_text [] counts = marks_verdict_text (marks.Valid counts.requests counts.grants)
all_text (wrong ∷ others) counts =
    flat_map wrong_line (first_of_each (wrong ∷ others)) ++ cause_lines (wrong ∷ others)
    ++ total_line (codes "requests") counts.requests ++ total_line (codes "grants") counts.grants

-- the outcome of the check: the input was read to its end, these are its wrong lines, it passes or not, and exactly
-- this was written; if the input is not known, such a log still exists
abbrev pub ChecksAllLines : (complete : Bool) → (old new before after : Option (List ℕ)) → Bool → Type 0
ChecksAllLines complete old new before after passes =
    IfSome old (λ input. (wrong : List WrongLine) × (counts : MarksSoFar) × TellsAll complete input wrong counts passes
    × Consumes old new input × Appends before after (all_text wrong counts))
    × ((input : List ℕ) × (wrong : List WrongLine) × (counts : MarksSoFar)
    × TellsAll complete input wrong counts passes × Appends before after (all_text wrong counts))

-- the text is what is printed of the input
abbrev pub IsTextOfLines : (complete : Bool) → (input text : List ℕ) → Type 0
IsTextOfLines complete input text = (wrong : List WrongLine) × (counts : MarksSoFar) × (passes : Bool)
    × TellsAll complete input wrong counts passes × (text ≡ all_text wrong counts)

-- Why the check is refused. If the text is too long, its first bytes, as many as it may have, were read, and one more.
abbrev pub RefusesAllLines : (old new : Option (List ℕ)) → TraceError → Type 0
RefusesAllLines old new fault.Read = (taken : List ℕ) × Consumes old new taken × (length taken ≤ most_followed)
RefusesAllLines old new fault.Limit = (taken : List ℕ) × Consumes old new taken × (length taken ≡ most_followed + 1)
RefusesAllLines old new fault.Memory = (taken : List ℕ) × Consumes old new taken × (length taken ≤ most_followed)
