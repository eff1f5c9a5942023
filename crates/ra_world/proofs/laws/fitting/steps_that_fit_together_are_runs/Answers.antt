use Rattle.ra_world.proofs.FittingRuns.{fit_with_copies}
use Rattle.ra_world.proofs.WorldLaws.{fitting_steps_are_runs}
use Rattle.ra_world.proofs.laws.fitting.steps_that_fit_together_are_runs.Goals as goal

pub returns : goal.returns
returns c =
    record {
      run = λ n start steps happened count fit.
          let all = fitting_steps_are_runs n start steps happened count (fit_with_copies n start steps happened fit) in
          (all.0, all.1, all.2);
      moves = λ n start steps happened count fit. fitting_steps_are_runs n start steps happened count (fit_with_copies n start steps happened fit);
    }
