use Rattle.ra_world.proofs.OneOvertakes.{one_may_overtake}
use Rattle.ra_world.proofs.laws.fairness.one_request_may_overtake.Goals as goal

pub returns : goal.returns
returns c = one_may_overtake
