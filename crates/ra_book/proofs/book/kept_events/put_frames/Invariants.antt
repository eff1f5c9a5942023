use Rattle.std.proofs.Common.{◌≡◌, ◌+◌, ◌++◌, take}
use Rattle.std.specs.Prelude.{vec_len, vec_capacity}
use Rattle.ra_book.specs.History.{frames_at}
use Rattle.ra_book.specs.Book.{as_sent}
use Rattle.ra_book.proofs.book.kept_events.put_frames.Given as goal

-- the frames so far are at the ends of both lists, and each has taken its room
abbrev pub invariant-loop-message : goal.invariant-loop-message
invariant-loop-message l = record {
  frames : l.frames.items ≡ l.initial.frames.items ++ frames_at l.clock (take l.message-index l.sends);
  room : l.frames.spare + l.message-index ≡ l.initial.frames.spare;
  sent : l.sent.items ≡ l.initial.sent.items ++ as_sent (frames_at l.clock (take l.message-index l.sends));
  len : vec_len l.sent ≡ vec_len l.initial.sent + l.message-index;
  capacity : vec_capacity l.sent ≡ vec_capacity l.initial.sent;
}
