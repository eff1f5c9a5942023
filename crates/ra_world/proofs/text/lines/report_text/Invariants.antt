use Rattle.std.proofs.Common.{flat_map, take}
use Rattle.ra_text.specs.Lines.{mark_line}
use Rattle.ra_text.specs.Drafting.{Adds}
use Rattle.ra_world.proofs.text.lines.report_text.Given as goal

-- the lines of the marks so far
abbrev pub invariant-loop-mark : goal.invariant-loop-mark
invariant-loop-mark l = Adds l.initial.text (flat_map mark_line (take l.mark-index l.marks)) l.text
