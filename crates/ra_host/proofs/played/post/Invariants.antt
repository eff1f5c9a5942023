use Rattle.std.proofs.Common.{◌≡◌, ◌-◌, map, drop, length}
use Rattle.ra_book.specs.History.{frames_at}
use Rattle.ra_host.specs.Outgoing.{HaveRoom, outgoing_of, posts}
use Rattle.ra_host.proofs.played.post.Given as goal

-- what the rest of the messages add, and the room that is left
abbrev pub invariant-loop-message : goal.invariant-loop-message
invariant-loop-message l = record {
  posted : posts (map outgoing_of l.outboxes.items) (frames_at l.clock (drop l.message-index l.sends))
      ≡ posts (map outgoing_of l.initial.outboxes.items) (frames_at l.clock l.sends);
  room : HaveRoom l.outboxes.items (length l.sends - l.message-index);
}
