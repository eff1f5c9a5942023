-- proofs/text/state_lines/push_others/Invariants.antt
use Rattle.ra_node.specs.Node.{resource_at}
use Rattle.ra_world.specs.StateLines.{awaited_lines, deferred_lines}
use Rattle.ra_text.specs.Drafting.{Adds}
use Rattle.ra_world.proofs.text.state_lines.push_others.Given as goal

-- the lines of the awaited nodes so far
abbrev pub invariant-loop-awaited : goal.invariant-loop-awaited
invariant-loop-awaited l = Adds l.initial.text (awaited_lines l.awaited l.me l.name (resource_at l.node l.name).state) l.text

-- the lines of the deferred ones so far
abbrev pub invariant-loop-deferred : goal.invariant-loop-deferred
invariant-loop-deferred l = Adds l.initial.text (deferred_lines l.deferred l.me l.name (resource_at l.node l.name).state) l.text
