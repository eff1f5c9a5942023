use Rattle.ra_link.proofs.Bounds.{ready_never_accused}
use Rattle.ra_link.proofs.laws.a_ready_host_is_not_accused.Goals as goal

pub returns : goal.returns
returns c = ready_never_accused
