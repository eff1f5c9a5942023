use Rattle.std.proofs.Common.{take, flat_map, All}
use Rattle.ra_text.specs.Drafting.{Adds}
use Rattle.ra_text.specs.Lines.{mark_line}
use Rattle.ra_trace.specs.Ranges.{MarkFits}
use Rattle.ra_trace.proofs.trace_writing.push_marks.Given as goal

-- the lines of the marks so far were added
abbrev pub invariant-loop-mark : goal.invariant-loop-mark
invariant-loop-mark l = record {
  adds : Adds l.fn.text (flat_map mark_line (take l.mark-index l.mark-items)) l.text;
  fit : All MarkFits (take l.mark-index l.mark-items);
}
