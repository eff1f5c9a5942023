use Rattle.std.proofs.Common.{◌≡◌, ℕ, List, length, sym, ap, ◌∙◌, arith}
use Rattle.std.proofs.lemmas.List.{length-map}
use Rattle.std.proofs.lemmas.List.FromFn.{length-range_with_len}
use Rattle.ra_audit.specs.Audit.{ProgressState}
use Rattle.ra_audit.proofs.auditor.Auditor.waiting.Goals as goal

pub waiting_at-requires : goal.waiting_at-requires
waiting_at-requires c =
    let nodes = c.self.inside.nodes.items in
    let n = c.self.inside.world.count in
    let long : length nodes ≡ n =
    sym (length-map nodes (λ (p : ProgressState). p.node)) ∙ ap (λ (ns : List ℕ). length ns) c.self.invariant.0.numbers ∙ length-range_with_len 1 n
    in
    let same : length c.deref.result.now ≡ length nodes = ap (λ (ps : List ProgressState). length ps) c.deref.ensures.value in
    omega (arith, same, long, c.self.invariant.0.count)
