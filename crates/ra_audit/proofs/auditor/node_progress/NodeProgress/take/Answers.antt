use Rattle.std.proofs.Common.{refl}
use Rattle.ra_audit.proofs.NextEvents.{kept_taken}
use Rattle.ra_audit.proofs.auditor.node_progress.NodeProgress.take.Goals as goal

pub invariant_of-self-2 : goal.invariant_of-self-2
invariant_of-self-2 c = kept_taken c.self.inside _ c.args.events.now c.self.invariant c.in-Some.ensures.0 c.in_ok-append.ensures.ok refl refl c.in-Some.ensures.1 refl
