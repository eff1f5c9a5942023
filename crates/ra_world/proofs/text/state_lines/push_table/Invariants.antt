use Rattle.std.proofs.Common.{take}
use Rattle.ra_world.specs.Keeping.{nodes_of}
use Rattle.ra_world.specs.StateLines.{table_lines_at, table_lines}
use Rattle.ra_text.specs.Drafting.{Adds}
use Rattle.ra_world.proofs.text.state_lines.push_table.Given as goal

-- the lines of the nodes so far
abbrev pub invariant-loop-place : goal.invariant-loop-place
invariant-loop-place l = Adds l.fn.text (table_lines l.names (nodes_of l.nodes) l.place) l.text

-- the lines of the names so far at one node
abbrev pub invariant-loop-name : goal.invariant-loop-name
invariant-loop-name l = Adds l.initial.text (table_lines_at (take l.name-index l.names) l.node) l.text
