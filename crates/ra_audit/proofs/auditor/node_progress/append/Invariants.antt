use Rattle.std.proofs.Common.{◌≡◌, ◌+◌, ◌++◌, take}
use Rattle.std.specs.VecDeque.{deque_len, deque_capacity}
use Rattle.ra_audit.proofs.auditor.node_progress.append.Given as goal

-- the events so far are at the end, and each has taken its room
abbrev pub invariant-loop-event : goal.invariant-loop-event
invariant-loop-event l = record {
  items : l.waiting.items ≡ l.initial.waiting.items ++ take l.event-index l.events;
  len : deque_len l.waiting ≡ deque_len l.initial.waiting + l.event-index;
  room : deque_capacity l.waiting ≡ deque_capacity l.initial.waiting;
}
