use Rattle.std.proofs.Common.{arith, subst}
use Rattle.ra_audit.specs.AuditKeeping.{IsLeastOf}
use Rattle.ra_audit.proofs.LeastWaiting.{least_other, least_second}
use Rattle.ra_audit.proofs.auditor.unsettled.lesser.Goals as goal

pub returns-else-one-other : goal.returns-else-one-other
returns-else-one-other c = λ a b first second.
    least_other a b c.in-Some.one c.args.other (subst (IsLeastOf a) c.in-Some.is first) second (omega (arith, c.if-one-other.false))

pub returns-in-None : goal.returns-in-None
returns-in-None c = λ a b first second. least_second a b c.args.other (subst (IsLeastOf a) c.in-None.is first) second
