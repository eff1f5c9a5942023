use Rattle.std.proofs.Common.{◌≤◌, List, ◌++◌, length, ap, ◌∙◌, arith}
use Rattle.std.specs.Prelude.{vec_len, vec_capacity}
use Rattle.std.proofs.lemmas.List.{take_all}
use Rattle.ra_stamp.specs.declared.message.Message.{Message}
use Rattle.ra_book.specs.History.{frames_at}
use Rattle.ra_book.specs.Book.{as_sent}
use Rattle.ra_book.proofs.Adding.{is_done, one_frame, one_sent, one_longer, room_left, all_put}
use Rattle.ra_book.proofs.book.kept_events.put_frames.Goals as goal

pub push_reserved-requires : goal.push_reserved-requires
push_reserved-requires c =
    room_left (vec_len c.args.sent.now) (vec_len c.loop-message.sent) (length c.args.sends.now) c.loop-message.message-index (vec_capacity c.args.sent.now) (vec_capacity c.loop-message.sent)
    c.loop-message.invariant.len c.loop-message.invariant.capacity c.requires.sent c.loop-message-test.true

pub loop-message-preserved : goal.loop-message-preserved
loop-message-preserved c =
    let sends = c.args.sends.now in
    let i = c.loop-message.message-index in
    let message = c.message-item.result in
    let within = c.loop-message-test.true in
    let so_far = c.loop-message.invariant in
    let room : 1 ≤ c.loop-message.frames.spare = omega (arith, so_far.room, c.requires.frames, within) in
    let put = is_done _ c.push.result (c.push.ensures.succeeds room) c.push.ensures.ok in
    record {
      frames = one_frame c.args.frames.now.items c.loop-message.frames.items c.push.new.self.items c.args.clock sends i message within c.message-item.is so_far.frames put;
      room = omega (arith, so_far.room, c.push.ensures.spare room);
      sent = one_sent c.args.sent.now.items c.loop-message.sent.items c.push_reserved.new.self.items c.args.clock sends i message within c.message-item.is so_far.sent c.push_reserved.ensures.items;
      len = one_longer (vec_len c.args.sent.now) (vec_len c.loop-message.sent) (vec_len c.push_reserved.new.self) i so_far.len c.push_reserved.ensures.len;
      capacity = c.push_reserved.ensures.capacity ∙ so_far.capacity;
    }

pub returns : goal.returns
returns c =
    let so_far = c.loop-message.invariant in
    let all = take_all c.loop-message.message-index c.args.sends.now c.loop-message-test.false in
    record {
      frames = so_far.frames ∙ ap (λ (ms : List Message). c.args.frames.now.items ++ frames_at c.args.clock ms) all;
      sent = so_far.sent ∙ ap (λ (ms : List Message). c.args.sent.now.items ++ as_sent (frames_at c.args.clock ms)) all;
      len = all_put (vec_len c.args.sent.now) (vec_len c.loop-message.sent) (length c.args.sends.now) c.loop-message.message-index so_far.len
          c.loop-message.auto.message-index-end c.loop-message-test.false;
      capacity = so_far.capacity;
    }
