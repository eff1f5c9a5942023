use Rattle.std.proofs.Common.{sym, subst}
use Rattle.ra_audit.specs.Audit.{AnswersRound}
use Rattle.ra_audit.proofs.auditor.Auditor.end.Goals as goal

-- the last round was Ok
pub returns-in-Ok-clause-round : goal.returns-in-Ok-clause-round
returns-in-Ok-clause-round g c = subst (AnswersRound c.args.cluster.now c.args.self.now _ c.audit.new.self _) (sym c.all_settled.ensures.round) c.in-Ok.ensures.round
