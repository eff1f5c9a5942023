use Rattle.ra_clients.proofs.Holding.{accounted}
use Rattle.ra_clients.proofs.laws.no_name_is_lost.Goals as goal

pub returns : goal.returns
returns c = accounted
