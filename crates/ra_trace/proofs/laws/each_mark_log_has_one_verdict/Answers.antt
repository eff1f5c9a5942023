use Rattle.ra_trace.proofs.TraceLaws.{mark_logs_rest_on_tables}
use Rattle.ra_trace.proofs.MarkVerdicts.{one_verdict}
use Rattle.ra_trace.proofs.laws.each_mark_log_has_one_verdict.Goals as goal

pub returns : goal.returns
returns c = one_verdict mark_logs_rest_on_tables
