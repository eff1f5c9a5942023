use Rattle.std.proofs.Common.{◌≡◌, map, ap, ◌∙◌, subst}
use Rattle.std.specs.Prelude.{slice_get}
use Rattle.std.specs.List.{range_with_len}
use Rattle.ra_audit.specs.Audit.{AuditState}
use Rattle.ra_audit.proofs.AuditLosses.{match_ahead}
use Rattle.ra_audit.proofs.auditor.Auditor.unsettled_loss.Goals as goal

pub returns-clause-left : goal.returns-clause-left
returns-clause-left c =
    let a = c.args.self.now in
    match_ahead a.nodes a.world.count a.losing c.first.result
    (subst (λ (a : AuditState). map (λ p. p.node) a.nodes ≡ range_with_len 1 a.world.count) c.self.view_is c.self.invariant.0.numbers)
    c.requires (c.first.ensures ∙ ap (λ (a : AuditState). slice_get a.losing 0) c.self.view_is)
