use Rattle.std.proofs.Common.{◌<◌, [], length, arith, sym, refl}
use Rattle.std.proofs.lemmas.List.{take_more, take_all}
use Rattle.ra_book_text.proofs.Put.{both, none}
use Rattle.ra_book_text.proofs.Sends.{sends_more}
use Rattle.ra_book_text.proofs.answering.answer_texts.put_frames.Goals as goal

pub loop-message-init : goal.loop-message-init
loop-message-init g c = ([], refl, none _ _)

pub loop-message-preserved : goal.loop-message-preserved
loop-message-preserved g c =
    let earlier = c.loop-message.invariant in
    let frame = c.put_frame.ensures in
    let more : c.loop-message.message-index < length c.args.sends.now = omega arith in (
      _,
      rw (take_more c.args.sends.now c.loop-message.message-index c.message-item.result more, sym c.message-item.is)
          (sends_more c.args.clock _ c.message-item.result earlier.0 frame.0 earlier.1 frame.1),
      both _ _ _ _ _ _ _ _ earlier.2 frame.2,
    )

pub returns : goal.returns
returns g c =
    let h = c.loop-message.invariant in
    rw (sym (take_all c.loop-message.message-index c.args.sends.now (omega arith))) h
