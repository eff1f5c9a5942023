use Rattle.std.proofs.Common.{◌≡◌, take}
use Rattle.std.specs.Prelude.{sum_by}
use Rattle.ra_node.specs.Node.{queued_count}
use Rattle.ra_world.proofs.world.node_places.queued_at.Given as goal

-- how many are queued at the nodes so far
abbrev pub invariant-loop-node : goal.invariant-loop-node
invariant-loop-node l = l.queued ≡ sum_by queued_count (take l.node-index l.nodes)
