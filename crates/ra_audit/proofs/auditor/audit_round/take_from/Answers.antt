use Rattle.std.proofs.Common.{ap, ◌∙◌}
use Rattle.ra_site.specs.Sites.{SiteState}
use Rattle.ra_audit.proofs.AuditRounds.{took_by_handing, takes_all_at, not_taken_by}
use Rattle.ra_audit.proofs.auditor.audit_round.take_from.Goals as goal

-- each site of an audited cluster is audited
pub take_handed-requires : goal.take_handed-requires
take_handed-requires g c = ap (λ (s : SiteState). s.audited) c.in-Some-site.ensures.found ∙ c.requires.audited

pub returns-in-Ok-clause-more : goal.returns-in-Ok-clause-more
returns-in-Ok-clause-more g c =
    took_by_handing c.args.auditor.now c.take_handed.new.self _ c.args.number _ (ap (λ (s : SiteState). s.node) c.in-Some-site.ensures.found ∙ c.in-Some.ensures.value) c.take_handed.ensures.handed
    c.take_handed.ensures.rest c.take_handed.ensures.audited

pub returns-in-Err-clause-more : goal.returns-in-Err-clause-more
returns-in-Err-clause-more g c =
    took_by_handing c.args.auditor.now c.take_handed.new.self _ c.args.number _ (ap (λ (s : SiteState). s.node) c.in-Some-site.ensures.found ∙ c.in-Some.ensures.value) c.take_handed.ensures.handed
    c.take_handed.ensures.rest c.take_handed.ensures.audited

pub returns-in-Ok-clause-all : goal.returns-in-Ok-clause-all
returns-in-Ok-clause-all g c =
    takes_all_at c.args.auditor.now.nodes c.take_handed.new.self.nodes _ _ _ c.args.number tt (ap (λ (s : SiteState). s.node) c.in-Some-site.ensures.found ∙ c.in-Some.ensures.value) c.in-Ok.ensures.handed

pub returns-in-Err-clause-not_taken : goal.returns-in-Err-clause-not_taken
returns-in-Err-clause-not_taken g c = λ node cause is long.
    not_taken_by c.args.auditor.now.nodes c.take_handed.new.self.nodes _ _ _ c.args.number (c.in-Some.node, c.in-Err.cause) (node, cause)
    (ap (λ (s : SiteState). s.node) c.in-Some-site.ensures.found ∙ c.in-Some.ensures.value) c.in-Some.ensures.value long c.in-Err.ensures.handed is
