use Rattle.ra_link.proofs.Honest.{counts}
use Rattle.ra_link.proofs.laws.counts_are_true.Goals as goal

pub returns : goal.returns
returns c = counts
