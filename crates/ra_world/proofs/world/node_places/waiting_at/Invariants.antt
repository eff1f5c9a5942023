use Rattle.std.proofs.Common.{◌≡◌, ◌≤◌, ◌*◌, ◌^◌, take}
use Rattle.std.specs.Prelude.{sum_by}
use Rattle.ra_node.specs.Node.{waiting_count}
use Rattle.ra_world.proofs.world.node_places.waiting_at.Given as goal

-- how many wait at the nodes so far, at each fewer than 2^64
abbrev pub invariant-loop-node : goal.invariant-loop-node
invariant-loop-node l = (l.waiting ≡ sum_by waiting_count (take l.node-index l.nodes)) × (l.waiting ≤ l.node-index * 2 ^ 64)
