use Rattle.ra_world.proofs.Runs.{one_run}
use Rattle.ra_world.proofs.WorldLaws.{laws_below}
use Rattle.ra_world.proofs.laws.runs_are_determined.Goals as goal

pub returns : goal.returns
returns c = one_run laws_below
