use Rattle.ra_trace.specs.MarksAlong.{IsAlongMarks}
use Rattle.ra_trace.proofs.MarksAlong.{IsFew}
use Rattle.ra_trace.proofs.mark_log.check_in.Given as goal

-- the lines so far are those of a run, and there are no more of them than bytes
abbrev pub invariant-loop-next : goal.invariant-loop-next
invariant-loop-next g l = record {
  along : IsAlongMarks l.fn.limit l.left (g.R.Read.remaining l.fn.reader) (g.R.Read.remaining l.reader) l.log l.line;
  few : IsFew l.fn.limit l.log l.line;
}

abbrev pub decreases-loop-next : goal.decreases-loop-next
decreases-loop-next g l = l.left
