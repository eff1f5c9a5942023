use Rattle.ra_link.proofs.Progress.{settled}
use Rattle.ra_link.proofs.laws.two_rounds_leave_nothing_under_way.Goals as goal

pub returns : goal.returns
returns c = settled
