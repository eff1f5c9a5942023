use Rattle.ra_world.proofs.Outcomes.{numbers_at_most}
use Rattle.ra_world.proofs.WorldLaws.{laws_below}
use Rattle.ra_world.proofs.laws.numbers_rise_at_most_by_the_requests.Goals as goal

pub returns : goal.returns
returns c n start moves nodes i name count run ends low high = numbers_at_most laws_below n start moves count run nodes ends i name (low, high)
