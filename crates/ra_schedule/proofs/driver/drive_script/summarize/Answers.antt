use Rattle.std.proofs.Common.{Err, false, ap, ◌∙◌}
use Rattle.std.proofs.lemmas.Result.{err_from_is_err_and}
use Rattle.ra_schedule.specs.Drive.{IsSummary}
use Rattle.ra_schedule.specs.Driving.{Records}
use Rattle.ra_schedule.proofs.HandedOn.{refusal_on, value_on}
use Rattle.ra_schedule.proofs.driver.drive_script.summarize.Goals as goal

pub returns : goal.returns
returns c =
    let script = c.args.script.now in
    let policy = c.args.policy.now in
    let limit = c.args.limit in
    let told = c.in_ok-summary.ensures.ok in
    value_on script policy limit (Records script policy limit false) (IsSummary script policy limit) _ _ c.in_ok-summary.ensures
    record { moves = told.moves; run = told.run; turns = told.turns }

pub returns-in_err-summary : goal.returns-in_err-summary
returns-in_err-summary c =
    let p = err_from_is_err_and c.from_residual.result c.from_residual.ensures.1 in
    let script = c.args.script.now in
    let policy = c.args.policy.now in
    let limit = c.args.limit in
    refusal_on script policy limit (Records script policy limit false) (IsSummary script policy limit) _ c.from_residual.result (p.1 ∙ ap Err p.2)
    c.in_err-summary.ensures
