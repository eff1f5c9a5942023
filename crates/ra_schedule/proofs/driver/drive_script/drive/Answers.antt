use Rattle.std.proofs.Common.{Err, true, refl, ap, ◌∙◌}
use Rattle.std.proofs.lemmas.Result.{err_from_is_err_and}
use Rattle.ra_schedule.specs.Drive.{IsRecording}
use Rattle.ra_schedule.specs.Driving.{Records}
use Rattle.ra_schedule.proofs.ChoicesMade.{made_again}
use Rattle.ra_schedule.proofs.HandedOn.{refusal_on, value_on}
use Rattle.ra_schedule.proofs.driver.drive_script.drive.Goals as goal

pub returns : goal.returns
returns c =
    let script = c.args.script.now in
    let policy = c.args.policy.now in
    let limit = c.args.limit in
    let told = c.in_ok-steps.ensures.ok in
    value_on script policy limit (Records script policy limit true) (IsRecording script policy limit) _ _ c.in_ok-steps.ensures
    record {
      moves = told.moves;
      run = told.run;
      steps = told.steps;
      choices = told.choices refl;
      again = made_again script policy _ told.moves told.run.follows (told.choices refl);
    }

pub returns-in_err-steps : goal.returns-in_err-steps
returns-in_err-steps c =
    let p = err_from_is_err_and c.from_residual.result c.from_residual.ensures.1 in
    let script = c.args.script.now in
    let policy = c.args.policy.now in
    let limit = c.args.limit in
    refusal_on script policy limit (Records script policy limit true) (IsRecording script policy limit) _ c.from_residual.result (p.1 ∙ ap Err p.2)
    c.in_err-steps.ensures
