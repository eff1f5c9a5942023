use Rattle.std.proofs.Common.{flat_map, take}
use Rattle.ra_text.specs.Drafting.{Says}
use Rattle.ra_json.specs.Settled.{mark_line}
use Rattle.ra_json.proofs.settled.mark_lines.Given as goal

-- the lines of the marks so far
abbrev pub invariant-loop-mark : goal.invariant-loop-mark
invariant-loop-mark l = Says l.text (flat_map mark_line (take l.mark-index l.marks))
