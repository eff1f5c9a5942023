use Rattle.std.proofs.Common.{Err}
use Rattle.ra_trace.specs.declared.error.TraceError.TheVariants.{Memory}
use Rattle.ra_trace.proofs.Complete.{tells_log}
use Rattle.ra_trace.proofs.MarkInputs.{checked}
use Rattle.ra_trace.proofs.MarksAlong.{no_log}
use Rattle.ra_trace.proofs.MarkVerdicts.{one_verdict}
use Rattle.ra_trace.proofs.TraceLaws.{mark_logs_rest_on_tables}
use Rattle.ra_trace.proofs.mark_log.check_by.Goals as goal

pub returns-in_default-clause-checks : goal.returns-in_default-clause-checks
returns-in_default-clause-checks g c =
    let old = g.R.Read.remaining c.args.reader.now in
    checked c.args.limit old old (one_verdict mark_logs_rest_on_tables) (Err Memory) (no_log mark_logs_rest_on_tables c.args.limit old)

pub returns-clause-end : goal.returns-clause-end
returns-clause-end g c =
    tells_log c.args.demanded c.args.limit (g.R.Read.remaining c.args.reader.now) (g.R.Read.remaining c.check_in-checked.new.reader) c.check_in-checked.new.log c.check_in-checked.result
    c.passes_at_end.result c.check_in-checked.ensures.checks.alone c.check_in-checked.ensures.end c.passes_at_end.ensures
