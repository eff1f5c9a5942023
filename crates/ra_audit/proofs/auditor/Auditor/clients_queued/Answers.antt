use Rattle.std.proofs.Common.{subst}
use Rattle.ra_world.specs.World.{AreQueued}
use Rattle.ra_audit.specs.Audit.{AuditState}
use Rattle.ra_audit.proofs.auditor.Auditor.clients_queued.Goals as goal

pub returns-clause-value : goal.returns-clause-value
returns-clause-value c =
    subst (λ (a : AuditState). AreQueued a.world.count a.world.start a.world.moves c.queued.result) c.self.view_is c.queued.ensures.value
