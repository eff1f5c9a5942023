use Rattle.std.proofs.Common.{◌≡◌, true, false, Err, ap, refl, subst, sym, ◌∙◌}
use Rattle.std.proofs.lemmas.Result.{err_from_is_err_and}
use Rattle.std.proofs.lemmas.Option.{none-some}
use Rattle.ra_audit.proofs.AuditLaws.{runs_meet_the_theorem}
use Rattle.ra_audit.proofs.AuditRounds.{audits_nothing, in_any_case}
use Rattle.ra_audit.specs.Audit.{IsAuditorOf, AnswersRound}
use Rattle.ra_audit.specs.declared.audit_error.RoundError.{RoundError}
use Rattle.ra_audit.proofs.auditor.Auditor.audit.Goals as goal

pub returns-clause-round : goal.returns-clause-round
returns-clause-round g c =
    let fits = c.in_ok-check_round.ensures.ok.0 in
    let faultless = c.in_ok-check_round.ensures.ok.1 in
    let says = c.go_round.ensures in
    record {
      audits = says.audits.audits;
      theorem = runs_meet_the_theorem _ _ _ says.audits.audits.audited.count says.audits.audits.audited.run;
      fits = in_any_case (IsAuditorOf c.args.cluster.now c.args.self.now) c.go_round.result fits;
      ok = says.ok;
      none_reached = says.none_reached;
      kept = says.kept;
      asked = says.audits.asked;
      may_be_put = says.may_be_put;
      not_audited = ((λ is. absurd (says.not_audited is)), λ no. let wrong : false ≡ true = sym no ∙ fits.audited in absurd cc);
      other_cluster = ((λ is. absurd (says.other_cluster is)), λ other. absurd (other.1 fits));
      unchanged = λ other. absurd (other fits);
      known = λ fault _ has. absurd (none-some fault (sym faultless ∙ has));
      found = λ fault _ is. says.found fault is;
      fault = λ fault _. says.fault fault;
      not_lost = says.not_lost;
      memory = says.memory;
      not_taken = says.not_taken;
    }

pub returns-in_err-check_round-clause-round : goal.returns-in_err-check_round-clause-round
returns-in_err-check_round-clause-round g c =
    let says = c.in_err-check_round.ensures in
    let p = err_from_is_err_and c.from_residual.result c.from_residual.ensures.1 in
    let told = g.O.MarkObserver.told c.args.observer.now in
    subst (AnswersRound c.args.cluster.now c.args.self.now told c.args.self.now told) (sym (p.1 ∙ ap (λ (e : RoundError). Err e) p.2))
    (record {
      audits = audits_nothing c.args.self.now told says.audited says.lost says.sent;
      theorem = runs_meet_the_theorem _ _ _ says.audited.count says.audited.run;
      fits = tt;
      ok = tt;
      none_reached = tt;
      kept = tt;
      asked = tt;
      may_be_put = tt;
      not_audited = says.not_audited;
      other_cluster = says.other_cluster;
      unchanged = λ _. refl;
      known = λ fault fits has. ((says.fault fault).1 (fits, has), refl);
      found = λ fault none is. absurd (none-some fault (sym none ∙ ((says.fault fault).0 is).1));
      fault = λ fault fits. ((λ is. ((says.fault fault).0 is).1), λ has. (says.fault fault).1 (fits, has));
      not_lost = λ frame is. absurd (says.not_lost frame is);
      memory = λ is. absurd (says.memory is);
      not_taken = λ node cause is. absurd (says.taken node cause is);
    })
