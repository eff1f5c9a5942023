use Rattle.std.proofs.Common.{take}
use Rattle.ra_world.specs.StateLines.{message_lines}
use Rattle.ra_text.specs.Drafting.{Adds}
use Rattle.ra_world.proofs.text.state_lines.push_messages.Given as goal

-- the lines of the messages so far
abbrev pub invariant-loop-place : goal.invariant-loop-place
invariant-loop-place l = Adds l.fn.text (message_lines 0 (take l.place l.under_way.items)) l.text
