use Rattle.ra_world.proofs.WorldLaws.{runs_are_fair}
use Rattle.ra_world.proofs.laws.fairness.each_other_node_overtakes_at_most_once.Goals as goal

pub returns : goal.returns
returns c = runs_are_fair
