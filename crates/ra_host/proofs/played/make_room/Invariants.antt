use Rattle.std.proofs.Common.{◌≡◌, ◌<◌, ◌≤◌, ◌+◌, ℕ, map, get_or, vec_len}
use Rattle.std.specs.VecDeque.{deque_len, deque_capacity}
use Rattle.ra_host.specs.declared.outbox.Outbox.{Outbox}
use Rattle.ra_host.specs.Outgoing.{outgoing_of}
use Rattle.ra_host.proofs.played.make_room.Given as goal

-- those so far have room
abbrev pub invariant-loop-place : goal.invariant-loop-place
invariant-loop-place l = record {
  same : map outgoing_of l.outboxes.items ≡ map outgoing_of l.initial.outboxes.items;
  len : vec_len l.outboxes ≡ vec_len l.initial.outboxes;
  room : (k : ℕ) (d : Outbox) → k < l.place → deque_len (get_or l.outboxes.items k d).frames + 128 ≤ deque_capacity (get_or l.outboxes.items k d).frames;
}
