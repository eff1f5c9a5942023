use Rattle.ra_world.proofs.WorldLaws.{fitting_steps_are_runs}
use Rattle.ra_world.proofs.laws.fitting.steps_that_fit_with_copies_are_runs.Goals as goal

pub returns : goal.returns
returns c = fitting_steps_are_runs
