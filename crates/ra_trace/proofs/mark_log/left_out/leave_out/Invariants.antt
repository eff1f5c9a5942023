use Rattle.ra_trace.specs.LeftOutAlong.{IsAlongAll}
use Rattle.ra_trace.proofs.LeavingOut.{IsFewAll}
use Rattle.std.proofs.Common.{◌≡◌}
use Rattle.ra_trace.proofs.mark_log.left_out.leave_out.Given as goal

-- the lines so far are judged, there are no more of them than bytes, and the watcher was told nothing of the log as a
-- whole
abbrev pub invariant-loop-has_feed : goal.invariant-loop-has_feed
invariant-loop-has_feed g l = record {
  along : IsAlongAll 9223372036854775808 (g.B.Read.remaining l.fn.reader) (g.B.Read.remaining l.reader) l.log l.wrong l.lines l.left;
  few : IsFewAll 9223372036854775808 l.log l.wrong l.lines;
  told : g.W.MarksWatcher.told l.watcher ≡ g.W.MarksWatcher.told l.fn.watcher;
}

abbrev pub decreases-loop-has_feed : goal.decreases-loop-has_feed
decreases-loop-has_feed g l = l.left
