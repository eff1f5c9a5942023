use Rattle.std.proofs.Common.{◌≡◌, ◌++◌, List, refl, ap, subst, flat_map, codes, rules}
use Rattle.ra_stamp.specs.declared.message.Message.{Message}
use Rattle.ra_text.specs.Lines.{mark_line}
use Rattle.ra_book_text.specs.Answers.{AreSends, AreShown}
use Rattle.ra_book_text.proofs.Put.{both, renamed}
use Rattle.ra_book_text.proofs.answering.answer_texts.put_outcome.Goals as goal

pub returns : goal.returns
returns g c =
    let sent = c.put_frames.ensures in
    let one : c.as_slice.result.now ≡ c.args.outcome.now.sends.items = search rules in
    let two : c.as_slice-2.result.now ≡ c.args.outcome.now.marks.items = search rules in (
      sent.0 ++ flat_map mark_line c.args.outcome.now.marks.items ++ codes "ok\n",
      record { sent = sent.0; sends_are = subst (λ (ms : List Message). AreSends c.args.clock ms sent.0) one sent.1; marks_are = subst AreShown two c.put_marks.ensures.shown; text_is = refl },
      both _ _ _ _ _ _ _ _ (both _ _ _ _ _ _ _ _ sent.2 (renamed _ _ _ _ _ _ (ap (flat_map mark_line) two) c.put_marks.ensures.puts)) c.put.ensures,
    )
