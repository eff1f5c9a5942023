use Rattle.ra_deadlock.proofs.Lasting as lasting
use Rattle.ra_deadlock.proofs.laws.circles_last.Goals as goal

pub returns : goal.returns
returns c = lasting.circles_last
