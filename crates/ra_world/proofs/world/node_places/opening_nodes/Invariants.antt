use Rattle.std.proofs.Common.{◌≡◌, map}
use Rattle.std.specs.List.{range_with_len}
use Rattle.ra_node.specs.Node.{opening_node}
use Rattle.ra_world.proofs.world.node_places.opening_nodes.Given as goal

-- the nodes so far
abbrev pub invariant-loop-place : goal.invariant-loop-place
invariant-loop-place l = l.nodes.items ≡ map (λ i. opening_node i l.count l.start) (range_with_len 1 l.place)
