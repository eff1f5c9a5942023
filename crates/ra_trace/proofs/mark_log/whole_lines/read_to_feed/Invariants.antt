use Rattle.std.proofs.Common.{◌-◌}
use Rattle.ra_trace.proofs.WholeLines.{IsWithin}
use Rattle.ra_trace.proofs.mark_log.whole_lines.read_to_feed.Given as goal

-- the bytes so far have no line feed, and the first of them are kept
abbrev pub invariant-loop-came : goal.invariant-loop-came
invariant-loop-came g l =
    IsWithin l.fn.left (g.R.Read.remaining l.fn.reader) (g.R.Read.remaining l.reader) l.taken l.bytes.items

abbrev pub decreases-loop-came : goal.decreases-loop-came
decreases-loop-came g l = l.fn.left - l.taken
