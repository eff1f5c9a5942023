use Rattle.std.proofs.Common.{subst}
use Rattle.ra_audit.specs.AuditKeeping.{IsLeastOf}
use Rattle.ra_audit.proofs.LeastWaiting.{least_before_none}
use Rattle.ra_audit.proofs.auditor.unsettled.lesser_of.Goals as goal

pub returns-in-Some : goal.returns-in-Some
returns-in-Some c = λ a b first second. c.lesser.ensures a b first (subst (IsLeastOf b) c.in-Some.is second)

pub returns-in-None : goal.returns-in-None
returns-in-None c = λ a b first second. least_before_none a b c.args.first first (subst (IsLeastOf b) c.in-None.is second)
