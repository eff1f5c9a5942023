use Rattle.std.proofs.Common.{Ok, Err}
use Rattle.ra_trace.specs.declared.checker.verdict.Cause.TheVariants.{Line}
use Rattle.ra_trace.specs.declared.checker.verdict.Verdict.TheVariants.{Invalid}
use Rattle.ra_trace.proofs.Inputs.{checked}
use Rattle.ra_trace.proofs.TraceLaws.{traces_rest_on_runs}
use Rattle.ra_trace.proofs.Verdicts.{one_verdict}
use Rattle.ra_trace.proofs.checker.check_text.check_within.Goals as goal

pub returns-in-Err : goal.returns-in-Err
returns-in-Err g c =
    checked c.args.limit (g.R.Read.remaining c.args.reader.now) (g.R.Read.remaining c.take_first.new.reader) traces_rest_on_runs (one_verdict traces_rest_on_runs)
    (Err c.in-Err.fault) c.in-Err.ensures.opened

pub returns-in-Ok-Some : goal.returns-in-Ok-Some
returns-in-Ok-Some g c =
    let old = g.R.Read.remaining c.args.reader.now in
    checked c.args.limit old (g.R.Read.remaining c.verdict_after.new.reader) traces_rest_on_runs (one_verdict traces_rest_on_runs)
    c.verdict_after.result (c.verdict_after.ensures.answers old (rw c.in-Ok-Some.field-0-is at c.in-Ok-Some.ensures.opened))

pub returns-in-Ok-None : goal.returns-in-Ok-None
returns-in-Ok-None g c =
    checked c.args.limit (g.R.Read.remaining c.args.reader.now) (g.R.Read.remaining c.take_first.new.reader) traces_rest_on_runs (one_verdict traces_rest_on_runs)
    (Ok (Invalid 1 Line)) (rw c.in-Ok-None.field-0-is at c.in-Ok-None.ensures.opened)
