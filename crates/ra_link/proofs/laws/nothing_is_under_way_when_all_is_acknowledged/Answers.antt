use Rattle.ra_link.proofs.Honest.{nothing_under_way}
use Rattle.ra_link.proofs.laws.nothing_is_under_way_when_all_is_acknowledged.Goals as goal

pub returns : goal.returns
returns c = nothing_under_way
