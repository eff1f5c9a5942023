use Rattle.ra_link.proofs.Finding.{settled_or_ended}
use Rattle.ra_link.proofs.laws.two_rounds_settle_or_find_out.Goals as goal

pub returns : goal.returns
returns c = settled_or_ended
