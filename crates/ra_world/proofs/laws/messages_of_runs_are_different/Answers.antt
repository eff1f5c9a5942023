use Rattle.ra_world.proofs.DifferentRuns.{messages_differ}
use Rattle.ra_world.proofs.WorldLaws.{laws_below}
use Rattle.ra_world.proofs.laws.messages_of_runs_are_different.Goals as goal

pub returns : goal.returns
returns c n start moves count run = messages_differ laws_below n start count moves run
