use Rattle.std.proofs.Common.{◌≤◌, ◌+◌, List, ◌++◌, length, vec_len, vec_capacity, sym, ap, ◌∙◌, subst}
use Rattle.ra_stamp.specs.declared.message.Message.{Message}
use Rattle.ra_book.specs.History.{frames_at}
use Rattle.ra_book.specs.Book.{as_sent}
use Rattle.ra_book.proofs.Adding.{is_done}
use Rattle.ra_book.proofs.book.kept_events.keep.Goals as goal

pub put_frames-requires : goal.put_frames-requires
put_frames-requires c = record {
  frames = subst (λ (ms : List Message). length ms ≤ c.args.frames.spare) (sym c.as_slice.ensures) c.requires.frames;
  sent = subst (λ (ms : List Message). vec_len c.args.sent.now + length ms ≤ vec_capacity c.args.sent.now) (sym c.as_slice.ensures) c.requires.sent;
}

pub returns-clause-kept : goal.returns-clause-kept
returns-clause-kept c old new happens = record {
  sends = c.args.outcome.sends.items;
  happens = happens;
  events_are = is_done _ c.push.result (c.push.ensures.succeeds c.requires.event) c.push.ensures.ok;
  sent_are = c.put_frames.ensures.sent ∙ ap (λ (ms : List Message). c.args.sent.now.items ++ as_sent (frames_at c.args.event.clock ms)) c.as_slice.ensures;
  frames_are = c.put_frames.ensures.frames ∙ (λ i. c.requires.none i ++ frames_at c.args.event.clock (c.as_slice.ensures i));
}

pub returns-clause-used : goal.returns-clause-used
returns-clause-used c = record {
  spare_is = c.push.ensures.spare c.requires.event;
  len_is = c.put_frames.ensures.len ∙ ap (λ (ms : List Message). vec_len c.args.sent.now + length ms) c.as_slice.ensures;
  capacity_is = c.put_frames.ensures.capacity;
}
