use Rattle.std.proofs.Common.{Err, true, ap, sym, ◌∙◌}
use Rattle.std.proofs.lemmas.Bool.{false≢true}
use Rattle.std.proofs.lemmas.Result.{err_from_is_err_and}
use Rattle.ra_schedule.specs.Driving.{Records}
use Rattle.ra_schedule.specs.Shrinking.{IsShrunk}
use Rattle.ra_schedule.proofs.HandedOn.{refusal_on, value_on, memory_ran_out}
use Rattle.ra_schedule.proofs.ShrunkRuns.{of_policy}
use Rattle.ra_schedule.proofs.driver.shrinking.shrink.Goals as goal

pub returns-in_err-steps : goal.returns-in_err-steps
returns-in_err-steps c =
    let p = err_from_is_err_and c.from_residual.result c.from_residual.ensures.1 in
    let script = c.args.script.now in
    let policy = c.args.policy.now in
    let limit = c.args.limit in
    refusal_on script policy limit (Records script policy limit true) (IsShrunk script policy limit) _ c.from_residual.result (p.1 ∙ ap Err p.2)
    c.in_err-steps.ensures

pub returns-then-not-stuck : goal.returns-then-not-stuck
returns-then-not-stuck c =
    let script = c.args.script.now in
    let policy = c.args.policy.now in
    let limit = c.args.limit in
    let told = c.in_ok-steps.ensures.ok in
    value_on script policy limit (Records script policy limit true) (IsShrunk script policy limit) _ _ c.in_ok-steps.ensures (record {
      moves = told.moves;
      report = _;
      run = told.run;
      choices = λ stuck. absurd (false≢true (sym c.if-not-stuck.true ∙ told.stuck.1 stuck));
    })

pub returns-in_err-shorten : goal.returns-in_err-shorten
returns-in_err-shorten c =
    let p = err_from_is_err_and c.from_residual-in_err-shorten.result c.from_residual-in_err-shorten.ensures.1 in
    memory_ran_out c.args.script.now c.args.policy.now c.args.limit (IsShrunk c.args.script.now c.args.policy.now c.args.limit) _ p.0 p.1 p.2

pub returns : goal.returns
returns c =
    let script = c.args.script.now in
    let policy = c.args.policy.now in
    let limit = c.args.limit in
    let told = c.in_ok-steps.ensures.ok in
    value_on script policy limit (Records script policy limit true) (IsShrunk script policy limit) _ _ c.in_ok-steps.ensures (record {
      moves = told.moves;
      report = _;
      run = told.run;
      choices = (
        told.stuck.0 c.if-not-stuck.false,
        c.in_ok-shorten.ensures told.moves (of_policy script policy limit _ told c.if-not-stuck.false),
      );
    })
