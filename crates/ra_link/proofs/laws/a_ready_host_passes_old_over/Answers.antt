use Rattle.ra_link.proofs.Prefixes.{passes_old}
use Rattle.ra_link.proofs.laws.a_ready_host_passes_old_over.Goals as goal

pub returns : goal.returns
returns c = passes_old
