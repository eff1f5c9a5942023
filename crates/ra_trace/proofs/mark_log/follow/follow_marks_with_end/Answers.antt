use Rattle.std.proofs.Common.{Err}
use Rattle.ra_trace.specs.declared.error.TraceError.TheVariants.{Memory}
use Rattle.ra_trace.specs.declared.mark_log.marks_watcher.MarksSoFar.{MarksSoFar}
use Rattle.ra_trace.specs.Following.{HasRightMarks, IsMarksSoFar, marks_lines}
use Rattle.ra_trace.proofs.Complete.{tells_log}
use Rattle.ra_trace.proofs.Following.{told_nothing, tells_at_fault}
use Rattle.ra_trace.proofs.MarkInputs.{checked}
use Rattle.ra_trace.proofs.MarksAlong.{no_log}
use Rattle.ra_trace.proofs.MarkVerdicts.{one_verdict}
use Rattle.ra_trace.proofs.TraceLaws.{mark_logs_rest_on_tables}
use Rattle.ra_trace.proofs.mark_log.follow.follow_marks_with_end.Goals as goal

pub returns-in_default-clause-checks : goal.returns-in_default-clause-checks
returns-in_default-clause-checks g c =
    let old = g.B.Read.remaining c.args.reader.now in
    checked 9223372036854775808 old old (one_verdict mark_logs_rest_on_tables) (Err Memory) (no_log mark_logs_rest_on_tables 9223372036854775808 old)

pub returns-in_default-clause-tells : goal.returns-in_default-clause-tells
returns-in_default-clause-tells g c =
    let told = g.W.MarksWatcher.told c.args.watcher.now in
    let old = g.B.Read.remaining c.args.reader.now in
    tells_at_fault MarksSoFar marks_lines IsMarksSoFar HasRightMarks c.args.every old told told 1 c.args.every
    (told_nothing MarksSoFar marks_lines IsMarksSoFar c.args.every old told) Memory

pub returns-clause-end : goal.returns-clause-end
returns-clause-end g c =
    tells_log c.args.demanded 9223372036854775808 (g.B.Read.remaining c.args.reader.now) (g.B.Read.remaining c.follow_in-checked.new.reader) c.follow_in-checked.new.log c.follow_in-checked.result
    c.passes_at_end.result c.follow_in-checked.ensures.checks.alone c.follow_in-checked.ensures.end c.passes_at_end.ensures
