use Rattle.std.proofs.Common.{◌≡◌}
use Rattle.ra_draw.proofs.layout.Layout.fill_lanes.Given as goal

-- how many nodes there are stays as it is
abbrev pub invariant-loop-node : goal.invariant-loop-node
invariant-loop-node l = l.self.nodes ≡ l.fn.self.nodes

abbrev pub invariant-loop-span : goal.invariant-loop-span
invariant-loop-span l = l.self.nodes ≡ l.fn.self.nodes
