use Rattle.std.proofs.Common.{◌≡◌, ◌+◌, ◌-◌, ◌<◌, ◌≤◌, ℕ, length, map, set, ap, ◌∙◌, arith}
use Rattle.std.specs.VecDeque.{deque_len, deque_capacity}
use Rattle.ra_stamp.specs.Message.{to_of}
use Rattle.ra_frame.specs.declared.frame.Frame.{Frame}
use Rattle.ra_host.specs.declared.outbox.Outbox.{Outbox}
use Rattle.ra_host.specs.Outgoing.{Outgoing, adds, adds_at, outgoing_of}
use Rattle.ra_host.proofs.Rooms.{added_at, none_at, posts_more, room_after, room_less}
use Rattle.ra_host.proofs.played.post.Goals as goal
use Rattle.ra_host.proofs.played.post.Goals.{then-place-len, else-place-len}

pub loop-message-preserved : goal.loop-message-preserved
loop-message-preserved c =
    let items = c.loop-message.outboxes.items in
    let i = c.loop-message.message-index in
    let sends = c.args.sends.now in
    let m = c.message-item.result in
    let f : Frame = record { clock = c.args.clock; message = m } in
    let at = c.place-place.result in
    let within : i < length sends = omega (arith, c.loop-message-test.true) in
    let place : at ≡ to_of m - 1 = omega (arith, c.place-place.ensures.value, c.to.ensures) in
    elim c.if-place-len.branch [
      | then-place-len w ↦
          let y = w.push.new.self in
          let old = w.index_mut.result.now in
          let low : at < length items = omega (arith, w.if-place-len.true, c.len.ensures, c.loop-message.outboxes.ok.0) in
          let value = w.index_mut.ensures.value in
          let made = ap (λ (o : Outgoing). o.made) w.push.ensures.outgoing in
          let was_made = ap (λ (b : Outbox). b.made) value in
          let len = ap (λ (b : Outbox). deque_len b.frames) value in
          let room = ap (λ (b : Outbox). deque_capacity b.frames) value in
          let added = added_at items at y old f low (w.push.ensures.outgoing ∙ ap (λ (b : Outbox). adds (outgoing_of b) f) value)
          ∙ ap (λ (p : ℕ). adds_at (map outgoing_of items) p f) place in
          rw w.outboxes-is (record {
            posted = posts_more (map outgoing_of items) (map outgoing_of (set items at y)) c.args.clock i sends m within c.message-item.is added ∙ c.loop-message.invariant.posted;
            room = room_after items at y old (length sends - (i + 1)) (length sends - i) low (omega (arith, within)) c.loop-message.invariant.room
                (omega (arith, made, was_made)) (omega (arith, w.push.ensures.len, len)) (w.push.ensures.capacity ∙ room);
          })
      | else-place-len w ↦
          let past : length items ≤ at = omega (arith, w.if-place-len.false, c.len.ensures, c.loop-message.outboxes.ok.0) in
          let same = none_at items at f past ∙ ap (λ (p : ℕ). adds_at (map outgoing_of items) p f) place in
          rw w.outboxes-is (record {
            posted = posts_more (map outgoing_of items) (map outgoing_of items) c.args.clock i sends m within c.message-item.is same ∙ c.loop-message.invariant.posted;
            room = room_less items (length sends - (i + 1)) (length sends - i) (omega arith) c.loop-message.invariant.room;
          })
    ]
