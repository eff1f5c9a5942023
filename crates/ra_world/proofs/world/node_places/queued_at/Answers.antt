use Rattle.std.proofs.Common.{◌+◌, sym, ap, ◌∙◌}
use Rattle.std.specs.Prelude.{sum_by}
use Rattle.std.proofs.lemmas.List.{take_all}
use Rattle.ra_node.specs.Node.{queued_count}
use Rattle.ra_world.proofs.OneMore.{sum_next}
use Rattle.ra_world.proofs.world.node_places.queued_at.Goals as goal

pub loop-node-preserved : goal.loop-node-preserved
loop-node-preserved c =
    (λ k. c.loop-node.invariant k + c.queued-queued.ensures.value k)
    ∙ sym (sum_next queued_count c.args.nodes.now c.loop-node.node-index c.node-item.result c.loop-node-test.true c.node-item.is)

pub returns : goal.returns
returns c =
    c.loop-node.invariant ∙ ap (sum_by queued_count) (take_all c.loop-node.node-index c.args.nodes.now c.loop-node-test.false)
