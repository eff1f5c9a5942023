use Rattle.std.proofs.Common.{ℕ, List, Option, ◌+◌, ◌-◌, ◌≤◌}
use Rattle.ra_trace.specs.Along.{IsAlong}
use Rattle.ra_trace.specs.Following.{IsTraceSoFar, trace_so_far_lines}
use Rattle.ra_trace.specs.FollowingAlong.{IsTold}
use Rattle.ra_trace.proofs.checker.check_text.follow.follow_after.Given as goal

-- the lines so far are right, there are no more of them than bytes, and the watcher was told of them
abbrev pub invariant-loop-next : goal.invariant-loop-next
invariant-loop-next g l = record {
  along : (old : Option (List ℕ)) → IsAlong 9223372036854775808 (9223372036854775808 - l.fn.first) old (g.B.Read.remaining l.fn.reader) l.fn.checker 2
      → IsAlong 9223372036854775808 l.left old (g.B.Read.remaining l.reader) l.checker l.number;
  told : (old : Option (List ℕ)) → IsAlong 9223372036854775808 (9223372036854775808 - l.fn.first) old (g.B.Read.remaining l.fn.reader) l.fn.checker 2
      → IsTold trace_so_far_lines IsTraceSoFar l.fn.every old (g.W.TraceWatcher.told l.fn.watcher) (g.W.TraceWatcher.told l.watcher) l.number l.told_next;
  short : l.number + l.left ≤ 9223372036854775808 + 2;
}

abbrev pub decreases-loop-next : goal.decreases-loop-next
decreases-loop-next g l = l.left
