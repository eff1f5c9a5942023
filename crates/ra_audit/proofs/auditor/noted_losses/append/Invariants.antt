use Rattle.std.proofs.Common.{◌≡◌, ◌+◌, ◌++◌, take}
use Rattle.std.specs.VecDeque.{deque_len, deque_capacity}
use Rattle.ra_audit.proofs.auditor.noted_losses.append.Given as goal

-- the frames so far are at the end, and each has taken its room
abbrev pub invariant-loop-frame : goal.invariant-loop-frame
invariant-loop-frame l = record {
  items : l.losing.items ≡ l.initial.losing.items ++ take l.frame-index l.frames;
  len : deque_len l.losing ≡ deque_len l.initial.losing + l.frame-index;
  room : deque_capacity l.losing ≡ deque_capacity l.initial.losing;
}
