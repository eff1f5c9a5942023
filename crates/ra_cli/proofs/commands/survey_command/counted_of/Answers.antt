use Rattle.std.proofs.Common.{List, ℕ, sym, subst}
use Rattle.ra_cli.specs.Surveyed.{IsSurveyed}
use Rattle.ra_cli.proofs.Surveys.{surveyed}
use Rattle.ra_cli.proofs.commands.survey_command.counted_of.Goals as goal

pub returns : goal.returns
returns g c input is =
    subst (λ (xs : List ℕ). IsSurveyed c.args.asked.now input xs c.all_finished.result) (sym c.in_ok-text.ensures)
    (surveyed c.args.asked.now input c.args.script.now c.in_ok-counted.counted c.all_finished.result is c.in_ok-counted.ensures.ok
    c.all_finished.ensures)
