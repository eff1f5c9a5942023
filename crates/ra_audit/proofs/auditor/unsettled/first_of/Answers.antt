use Rattle.std.proofs.Common.{◌∷◌, [], subst, sym}
use Rattle.ra_audit.specs.AuditKeeping.{IsLeastOf}
use Rattle.ra_audit.proofs.LeastWaiting.{none_here}
use Rattle.ra_audit.proofs.auditor.unsettled.first_of.Goals as goal

pub returns-in_err-event-clause-first : goal.returns-in_err-event-clause-first
returns-in_err-event-clause-first c =
    subst (IsLeastOf (c.args.progress.now ∷ [])) (sym c.from_residual.ensures) (none_here c.args.progress.now (sym c.in_err-event.ensures.value))
