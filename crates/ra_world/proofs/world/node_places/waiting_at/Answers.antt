use Rattle.std.proofs.Common.{◌≡◌, ◌+◌, arith, sym, ap, ◌∙◌}
use Rattle.std.specs.Prelude.{sum_by}
use Rattle.std.proofs.lemmas.List.{take_all}
use Rattle.ra_node.specs.Node.{waiting_count}
use Rattle.ra_world.proofs.OneMore.{sum_next}
use Rattle.ra_world.proofs.world.node_places.waiting_at.Goals as goal

pub loop-node-preserved : goal.loop-node-preserved
loop-node-preserved c =
    let (counted, few) = c.loop-node.invariant in
    let here : c.from-waiting.result ≡ waiting_count c.node-item.result = c.from-waiting.ensures ∙ c.waiting.ensures.value in (
      (λ k. counted k + here k) ∙ sym (sum_next waiting_count c.args.nodes.now c.loop-node.node-index c.node-item.result c.loop-node-test.true c.node-item.is),
      omega (arith, few, c.from-waiting.ensures, c.waiting.type_inv),
    )

pub returns : goal.returns
returns c =
    c.loop-node.invariant.0 ∙ ap (sum_by waiting_count) (take_all c.loop-node.node-index c.args.nodes.now c.loop-node-test.false)
