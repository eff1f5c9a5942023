use Rattle.std.proofs.Common.{◌≡◌, ◌⊎◌, ℕ, false, refl, List, Option, Some, None, Result, Ok, Err, inl, inr}
use Rattle.ra_trace.specs.declared.checker.verdict.Cause.TheVariants as cause
use Rattle.ra_trace.specs.declared.checker.verdict.Cause.TheVariants.{Sends, Marks}
use Rattle.ra_trace.specs.declared.checker.verdict.Verdict.{Verdict}
use Rattle.ra_trace.specs.declared.checker.verdict.Verdict.TheVariants.{Invalid}
use Rattle.ra_trace.specs.declared.error.TraceError.{TraceError}
use Rattle.ra_trace.specs.declared.line.Line.{Line}
use Rattle.ra_trace.specs.declared.checker.trace_watcher.TraceSoFar.{TraceSoFar}
use Rattle.ra_trace.specs.Due.{TellsDue}
use Rattle.ra_trace.specs.Following.{HasRightLines, IsTraceSoFar, trace_so_far_lines}
use Rattle.ra_trace.proofs.Complete.{tells_trace, tells_wrong}
use Rattle.ra_trace.proofs.Following.{told_nothing, tells_at_fault, tells_at_verdict}
use Rattle.ra_trace.proofs.Inputs.{checked}
use Rattle.ra_trace.proofs.TraceLaws.{traces_rest_on_runs}
use Rattle.ra_trace.proofs.Verdicts.{one_verdict}
use Rattle.ra_trace.proofs.checker.check_text.follow.follow_trace_with_end.Goals as goal

pub returns-in-Err-clause-checks : goal.returns-in-Err-clause-checks
returns-in-Err-clause-checks g c =
    checked 9223372036854775808 (g.B.Read.remaining c.args.reader.now) (g.B.Read.remaining c.take_first.new.reader) traces_rest_on_runs (one_verdict traces_rest_on_runs)
    (Err c.in-Err.fault) c.in-Err.ensures.opened

pub returns-in-Ok-Some-clause-checks : goal.returns-in-Ok-Some-clause-checks
returns-in-Ok-Some-clause-checks g c =
    let old = g.B.Read.remaining c.args.reader.now in
    checked 9223372036854775808 old (g.B.Read.remaining c.follow_after-result.new.reader) traces_rest_on_runs (one_verdict traces_rest_on_runs)
    c.follow_after-result.result (c.follow_after-result.ensures.answers old (rw c.in-Ok-Some.field-0-is at c.in-Ok-Some.ensures.opened))

pub returns-in-Ok-None-clause-checks : goal.returns-in-Ok-None-clause-checks
returns-in-Ok-None-clause-checks g c =
    checked 9223372036854775808 (g.B.Read.remaining c.args.reader.now) (g.B.Read.remaining c.take_first.new.reader) traces_rest_on_runs (one_verdict traces_rest_on_runs)
    (Ok (Invalid 1 cause.Line)) (rw c.in-Ok-None.field-0-is at c.in-Ok-None.ensures.opened)

-- the result is that this line is wrong for its sends or its marks
abbrev IsForDue : Result Verdict TraceError → ℕ → Type 0
IsForDue result line = (result ≡ Ok (Invalid line Sends)) ⊎ (result ≡ Ok (Invalid line Marks))

-- a line is due only there
none_due : (old : Option (List ℕ)) (result : Result Verdict TraceError) (next : Option Line) → ((line : ℕ) → IsForDue result line → ⊥) → TellsDue old result next
none_due None result next not = tt
none_due (Some input) result next not = λ line is. absurd (not line is)

no_verdict : (fault : TraceError) (line : ℕ) → IsForDue (Err fault) line → ⊥
no_verdict fault line which = elim which [ inl is ↦ cc | inr is ↦ cc ]

other_cause : (line : ℕ) → IsForDue (Ok (Invalid 1 cause.Line)) line → ⊥
other_cause line which = elim which [ inl is ↦ cc | inr is ↦ cc ]

pub returns-in-Err-clause-due : goal.returns-in-Err-clause-due
returns-in-Err-clause-due g c =
    none_due (g.B.Read.remaining c.args.reader.now) (Err c.in-Err.fault) _ (λ line is. no_verdict c.in-Err.fault line is)

pub returns-in-Ok-None-clause-due : goal.returns-in-Ok-None-clause-due
returns-in-Ok-None-clause-due g c =
    none_due (g.B.Read.remaining c.args.reader.now) (Ok (Invalid 1 cause.Line)) _ (λ line is. other_cause line is)

pub returns-in-Ok-Some-clause-due : goal.returns-in-Ok-Some-clause-due
returns-in-Ok-Some-clause-due g c =
    c.follow_after-result.ensures.due (g.B.Read.remaining c.args.reader.now) (rw c.in-Ok-Some.field-0-is at c.in-Ok-Some.ensures.opened)

pub returns-in-Err-clause-tells : goal.returns-in-Err-clause-tells
returns-in-Err-clause-tells g c =
    let old = g.B.Read.remaining c.args.reader.now in
    let told = g.W.TraceWatcher.told c.args.watcher.now in
    tells_at_fault TraceSoFar trace_so_far_lines IsTraceSoFar HasRightLines c.args.every old told told 1 c.args.every
    (told_nothing TraceSoFar trace_so_far_lines IsTraceSoFar c.args.every old told) c.in-Err.fault

pub returns-in-Ok-None-clause-tells : goal.returns-in-Ok-None-clause-tells
returns-in-Ok-None-clause-tells g c =
    let old = g.B.Read.remaining c.args.reader.now in
    let told = g.W.TraceWatcher.told c.args.watcher.now in
    tells_at_verdict TraceSoFar trace_so_far_lines IsTraceSoFar HasRightLines c.args.every old told told 1 c.args.every
    (told_nothing TraceSoFar trace_so_far_lines IsTraceSoFar c.args.every old told) (Invalid 1 cause.Line) (λ input known. (0, refl, refl))

pub returns-in-Ok-Some-clause-tells : goal.returns-in-Ok-Some-clause-tells
returns-in-Ok-Some-clause-tells g c =
    c.follow_after-result.ensures.tells (g.B.Read.remaining c.args.reader.now) (rw c.in-Ok-Some.field-0-is at c.in-Ok-Some.ensures.opened)

pub returns-in-Ok-Some-clause-end : goal.returns-in-Ok-Some-clause-end
returns-in-Ok-Some-clause-end g c =
    let old = g.B.Read.remaining c.args.reader.now in
    let new = g.B.Read.remaining c.follow_after-result.new.reader in
    let along = rw c.in-Ok-Some.field-0-is at c.in-Ok-Some.ensures.opened in
    let checks = checked 9223372036854775808 old new traces_rest_on_runs (one_verdict traces_rest_on_runs) c.follow_after-result.result (c.follow_after-result.ensures.answers old along) in
    tells_trace c.args.demanded 9223372036854775808 old new c.follow_after-result.new.checker c.follow_after-result.result c.passes_at_end.result checks.alone
    (c.follow_after-result.ensures.end old along) c.passes_at_end.ensures

pub returns-in-Ok-None-clause-end : goal.returns-in-Ok-None-clause-end
returns-in-Ok-None-clause-end g c =
    let old = g.B.Read.remaining c.args.reader.now in
    let new = g.B.Read.remaining c.take_first.new.reader in
    let checks = checked 9223372036854775808 old new traces_rest_on_runs (one_verdict traces_rest_on_runs) (Ok (Invalid 1 cause.Line))
    (rw c.in-Ok-None.field-0-is at c.in-Ok-None.ensures.opened) in
    tells_wrong c.args.demanded 9223372036854775808 old new (Invalid 1 cause.Line) false checks.alone (λ text. refl)
