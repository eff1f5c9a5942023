use Rattle.std.proofs.Common.{◌≡◌, drop}
use Rattle.ra_book.specs.History.{clock_from}
use Rattle.ra_audit.specs.Audit.{AreNextAt}
use Rattle.ra_audit.proofs.auditor.node_progress.latest_of.Given as goal

-- all are next ones if those that are left are, and the last clock is theirs
abbrev pub invariant-loop-event : goal.invariant-loop-event
invariant-loop-event l = record {
  all : AreNextAt l.node l.latest (drop l.event-index l.events) → AreNextAt l.node l.clock l.events;
  left : AreNextAt l.node l.clock l.events → AreNextAt l.node l.latest (drop l.event-index l.events);
  clock : clock_from l.latest (drop l.event-index l.events) ≡ clock_from l.clock l.events;
}
