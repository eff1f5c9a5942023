use Rattle.ra_trace.proofs.TraceLaws.{traces_rest_on_runs}
use Rattle.ra_trace.proofs.Verdicts.{one_verdict}
use Rattle.ra_trace.proofs.laws.each_text_has_one_verdict.Goals as goal

pub returns : goal.returns
returns c = one_verdict traces_rest_on_runs
