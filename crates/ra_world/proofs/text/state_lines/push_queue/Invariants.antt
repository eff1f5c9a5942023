use Rattle.std.proofs.Common.{flat_map, take}
use Rattle.ra_node.specs.Node.{resource_at}
use Rattle.ra_world.specs.StateLines.{queued_line}
use Rattle.ra_text.specs.Drafting.{Adds}
use Rattle.ra_world.proofs.text.state_lines.push_queue.Given as goal

-- the lines of the clients so far
abbrev pub invariant-loop-place : goal.invariant-loop-place
invariant-loop-place l = Adds l.fn.text (flat_map (queued_line l.me l.name) (take l.place (resource_at l.node l.name).queue)) l.text
