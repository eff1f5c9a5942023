use Rattle.std.proofs.Common.{subst}
use Rattle.ra_audit.specs.Audit.{AuditState, AllWereSent}
use Rattle.ra_audit.proofs.auditor.Auditor.fault.Goals as goal

pub returns-clause-sent : goal.returns-clause-sent
returns-clause-sent c =
    subst (λ (a : AuditState). AllWereSent a.nodes a.world.moves a.lost) c.self.view_is (record { came = c.self.invariant.4.came; losses = c.self.invariant.5 })
