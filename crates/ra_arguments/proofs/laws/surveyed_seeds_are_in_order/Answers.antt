use Rattle.ra_arguments.proofs.SeedOrder.{in_order}
use Rattle.ra_arguments.proofs.laws.surveyed_seeds_are_in_order.Goals as goal

pub returns : goal.returns
returns c = λ arguments asked asks. in_order arguments asked asks.1
