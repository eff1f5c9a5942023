use Rattle.std.proofs.Common.{◌≡◌, ℕ, Bool, true, false, List, Option, Ok, Err, ap, refl, ◌∙◌, inl, inr}
use Rattle.ra_trace.specs.declared.mark_log.marks_verdict.MarksVerdict.{MarksVerdict}
use Rattle.ra_trace.specs.declared.mark_log.marks_verdict.MarksVerdict.TheVariants.{Valid, Invalid}
use Rattle.ra_trace.specs.Marks.{IsMarksVerdict}
use Rattle.ra_trace.specs.declared.error.TraceError.{TraceError}
use Rattle.ra_trace.specs.declared.error.TraceError.TheVariants.{Limit, Memory, Read}
use Rattle.ra_trace.specs.MarksReading.{JudgesMarks, PassesMarksLimit, ReadsOnMarks, StopsAfterMarks}
use Rattle.ra_trace.specs.Complete.{MeetsLog}
use Rattle.ra_arguments.specs.declared.command_line.Task.TheVariants as task
use Rattle.ra_arguments.specs.declared.command_line.input_kind.InputKind.TheVariants as reads
use Rattle.ra_cli.specs.Checks.{RefusesCheckOfMarks, is_run, marks_verdict_as, marks_verdict_in}
use Rattle.ra_cli.specs.declared.refusal_lines.CommandRefusal.TheVariants.{Check}
use Rattle.ra_cli.specs.Tasks.{IsPrintedBy}
use Rattle.ra_cli.proofs.ClusterRuns.{of_known}
use Rattle.ra_cli.proofs.Judging.{both_known, judges}
use Rattle.ra_cli.proofs.Numbers.{neither}
use Rattle.ra_cli.proofs.Statuses.{writes_as}
use Rattle.ra_cli.proofs.TaskStatuses.{if_judged, if_refused_at_once}
use Rattle.ra_cli.proofs.commands.follow_command.follow_log.Goals as goal

-- a verdict that says so is of a text of this kind
right : (verdict : MarksVerdict) → is_run verdict ≡ true → (m n : ℕ) × (verdict ≡ Valid m n)
right (Valid m n) is = (m, n, refl)
right (Invalid line why) is = absurd cc

-- why it is not checked
cause : (old new : Option (List ℕ)) (fault : TraceError) → (fault ≡ Read → ReadsOnMarks 9223372036854775808 old new) → (fault ≡ Limit → PassesMarksLimit 9223372036854775808 old new)
    → (fault ≡ Memory → StopsAfterMarks 9223372036854775808 old new) → RefusesCheckOfMarks 9223372036854775808 old new fault
cause old new Read failed limit memory = failed refl
cause old new Limit failed limit memory = limit refl
cause old new Memory failed limit memory = inl (memory refl)

pub returns-in-Ok-marks_verdict_as-clause-does : goal.returns-in-Ok-marks_verdict_as-clause-does
returns-in-Ok-marks_verdict_as-clause-does g c =
    let old = g.R.Read.remaining c.args.reader.now in
    let new = g.R.Read.remaining c.follow_marks_with_end.new.reader in
    let before = g.W.Write.contents c.args.writer.now in
    let after = g.W.Write.contents c.print_text.new.writer in
    let verdict = c.in-Ok.verdict in
    let passes = c.follow_marks_with_end.new.passes in
    let known = c.in-Ok.ensures.checks in
    let text = marks_verdict_in c.args.form c.args.complete passes verdict in
    if_judged (task.Follow reads.Marks c.args.every c.args.complete c.args.form) old new before after c.print_text.result.status text c.marks_outcome_of.result.status (passes ≡ true) (passes ≡ false)
    c.marks_outcome_of.ensures
    (writes_as text c.as_bytes.result.now c.marks_outcome_of.result.status before after c.print_text.result.status c.print_text.result.status refl
    (c.as_bytes.ensures.value ∙ c.in-Ok-marks_verdict_as.ensures ∙ ap (λ (o : Option Bool). marks_verdict_as c.args.form o verdict) c.if_demanded.ensures) c.print_text.ensures)
    (judges IsMarksVerdict (MeetsLog c.args.complete) (JudgesMarks 9223372036854775808) is_run (marks_verdict_in c.args.form c.args.complete) Valid right 9223372036854775808 old new before after verdict passes true known.ok known.valid c.in-Ok.ensures.end known.judged)
    (judges IsMarksVerdict (MeetsLog c.args.complete) (JudgesMarks 9223372036854775808) is_run (marks_verdict_in c.args.form c.args.complete) Valid right 9223372036854775808 old new before after verdict passes false known.ok known.valid c.in-Ok.ensures.end known.judged)
    (of_known old (λ input. IsMarksVerdict input verdict × MeetsLog c.args.complete input verdict passes) (λ input. IsPrintedBy (task.Follow reads.Marks c.args.every c.args.complete c.args.form) input text)
    (λ input h. (verdict, passes, h.0, h.1, refl))
    (both_known old (λ input. IsMarksVerdict input verdict) (λ input. MeetsLog c.args.complete input verdict passes) known.ok c.in-Ok.ensures.end.1))

pub returns-in-Err-clause-does : goal.returns-in-Err-clause-does
returns-in-Err-clause-does g c =
    let fault = c.in-Err.fault in
    if_refused_at_once (task.Follow reads.Marks c.args.every c.args.complete c.args.form) _ _ _ _ _ (Check fault) _ c.refuse.ensures (λ writer. writer)
    (fault, refl, cause _ _ fault (λ is. c.in-Err.ensures.checks.failed (ap Err is)) (λ is. c.in-Err.ensures.checks.limit (ap Err is)) (λ is. c.in-Err.ensures.checks.memory (ap Err is)))

pub returns-in-Err-marks_verdict_as-clause-does : goal.returns-in-Err-marks_verdict_as-clause-does
returns-in-Err-marks_verdict_as-clause-does g c =
    if_refused_at_once (task.Follow reads.Marks c.args.every c.args.complete c.args.form) _ _ _ _ _ (Check Memory) _ c.refuse-in-Err-marks_verdict_as.ensures (λ writer. writer)
    (Memory, refl, inr (c.in-Ok.verdict, c.in-Ok.ensures.checks.judged))

pub returns-in-Ok-marks_verdict_as-clause-told : goal.returns-in-Ok-marks_verdict_as-clause-told
returns-in-Ok-marks_verdict_as-clause-told g c = (Ok c.in-Ok.verdict, c.in-Ok.ensures.tells, λ _ _. c.in-Ok.ensures.checks.ok)

pub returns-in-Err-marks_verdict_as-clause-told : goal.returns-in-Err-marks_verdict_as-clause-told
returns-in-Err-marks_verdict_as-clause-told g c = (Ok c.in-Ok.verdict, c.in-Ok.ensures.tells, λ _ _. c.in-Ok.ensures.checks.ok)

pub returns-in-Err-clause-told : goal.returns-in-Err-clause-told
returns-in-Err-clause-told g c =
    (Err c.in-Err.fault, c.in-Err.ensures.tells, λ not_1 not_2. neither c.refuse.result.status c.refuse.ensures.not_done c.refuse.ensures.range not_1 not_2)
