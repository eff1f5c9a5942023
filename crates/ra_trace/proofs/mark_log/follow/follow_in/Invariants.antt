use Rattle.ra_trace.specs.Following.{IsMarksSoFar, marks_lines}
use Rattle.ra_trace.specs.FollowingAlong.{IsTold}
use Rattle.ra_trace.specs.MarksAlong.{IsAlongMarks}
use Rattle.ra_trace.proofs.MarksAlong.{IsFew}
use Rattle.ra_trace.proofs.mark_log.follow.follow_in.Given as goal

-- the lines so far are those of a run, there are no more of them than bytes, and the watcher was told of them
abbrev pub invariant-loop-next : goal.invariant-loop-next
invariant-loop-next g l = record {
  along : IsAlongMarks 9223372036854775808 l.left (g.B.Read.remaining l.fn.reader) (g.B.Read.remaining l.reader) l.log l.line;
  few : IsFew 9223372036854775808 l.log l.line;
  told : IsTold marks_lines IsMarksSoFar l.fn.every (g.B.Read.remaining l.fn.reader) (g.W.MarksWatcher.told l.fn.watcher)
      (g.W.MarksWatcher.told l.watcher) l.line l.due;
}

abbrev pub decreases-loop-next : goal.decreases-loop-next
decreases-loop-next g l = l.left
