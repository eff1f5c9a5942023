use Rattle.std.proofs.Common.{◌≡◌, ◌++◌, take}
use Rattle.ra_audit.proofs.auditor.put_events.tell_all.Given as goal

-- the observer has the marks so far, and the grants are as before
abbrev pub invariant-loop-mark : goal.invariant-loop-mark
invariant-loop-mark g l = record {
  told : g.O.MarkObserver.told l.observer ≡ g.O.MarkObserver.told l.fn.observer ++ take l.mark-index l.marks;
  granted : g.O.MarkObserver.granted l.observer ≡ g.O.MarkObserver.granted l.fn.observer;
}
