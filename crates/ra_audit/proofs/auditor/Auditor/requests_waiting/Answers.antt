use Rattle.std.proofs.Common.{subst}
use Rattle.ra_world.specs.World.{AreWaiting}
use Rattle.ra_audit.specs.Audit.{AuditState}
use Rattle.ra_audit.proofs.auditor.Auditor.requests_waiting.Goals as goal

pub returns-clause-value : goal.returns-clause-value
returns-clause-value c =
    subst (λ (a : AuditState). AreWaiting a.world.count a.world.start a.world.moves c.waiting.result) c.self.view_is c.waiting.ensures.value
