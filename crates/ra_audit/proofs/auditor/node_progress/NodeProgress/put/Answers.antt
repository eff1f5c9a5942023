use Rattle.std.proofs.Common.{refl}
use Rattle.ra_audit.proofs.NextEvents.{kept_put}
use Rattle.ra_audit.proofs.auditor.node_progress.NodeProgress.put.Goals as goal

pub invariant_of-self-2 : goal.invariant_of-self-2
invariant_of-self-2 c = kept_put c.self.inside _ c.in-Some.event c.self.invariant c.in-Some.ensures.items c.and-self-inside.ensures refl refl refl
