use Rattle.ra_host.proofs.SaidFrames.{kept_is}
use Rattle.ra_host.proofs.laws.running.a_ready_host_keeps_what_others_lack.Goals as goal

pub returns : goal.returns
returns c = kept_is
