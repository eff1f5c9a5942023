use Rattle.std.proofs.Common.{length, take}
use Rattle.ra_world.specs.Keeping.{nodes_of}
use Rattle.ra_world.specs.StateLines.{lines_at, node_lines}
use Rattle.ra_text.specs.Drafting.{Adds}
use Rattle.ra_world.proofs.text.state_lines.push_nodes.Given as goal

-- the lines of the nodes so far
abbrev pub invariant-loop-place : goal.invariant-loop-place
invariant-loop-place l = Adds l.fn.text (node_lines (length l.nodes) l.names (nodes_of l.nodes) l.place) l.text

-- the lines of the names so far at one node
abbrev pub invariant-loop-name : goal.invariant-loop-name
invariant-loop-name l = Adds l.initial.text (lines_at l.count (take l.name-index l.names) l.me l.node) l.text
