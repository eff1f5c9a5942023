use Rattle.std.proofs.Common.{◌≡◌, List, map, sym, ap, ◌∙◌, subst}
use Rattle.std.specs.List.{range_with_len}
use Rattle.ra_audit.specs.Audit.{ProgressState, AuditState, NoneIsReady}
use Rattle.ra_audit.proofs.auditor.Auditor.find_unsent.Goals as goal

pub first_unsent-unsent-requires : goal.first_unsent-unsent-requires
first_unsent-unsent-requires c =
    let n = c.self.inside.world.count in
    let same : c.deref.result.now ≡ c.args.self.now.nodes = c.deref.ensures.value ∙ ap (λ (a : AuditState). a.nodes) c.self.view_is in
    record {
      numbers = (n, subst (λ (ns : List ProgressState). map (λ p. p.node) ns ≡ range_with_len 1 n) (sym c.deref.ensures.value) c.self.invariant.0.numbers);
      none_ready = subst NoneIsReady (sym same) c.requires;
    }
