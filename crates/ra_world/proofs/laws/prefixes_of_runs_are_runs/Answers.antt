use Rattle.ra_world.proofs.Runs.{prefixes, prefix_of_steps, steps_go_on}
use Rattle.ra_world.proofs.WorldLaws.{laws_below}
use Rattle.ra_world.proofs.laws.prefixes_of_runs_are_runs.Goals as goal

pub returns : goal.returns
returns c =
    record {
      moves = λ n start prefix rest. prefixes laws_below.splits n start rest prefix;
      steps = prefix_of_steps laws_below.splits;
      step = steps_go_on laws_below;
    }
