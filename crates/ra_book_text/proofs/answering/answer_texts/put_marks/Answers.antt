use Rattle.std.proofs.Common.{◌≡◌, ◌+◌, ◌++◌, ◌∷◌, [], ◌∙◌, take, arith, ap, subst, sym, flat_map}
use Rattle.std.proofs.lemmas.List.{take_more, take_all, flat_map_more}
use Rattle.std.proofs.lemmas.List.Elements.{All-nil, All-push}
use Rattle.ra_stamp.specs.Mark.{entry_of_mark}
use Rattle.ra_text.specs.Lines.{mark_line}
use Rattle.ra_book_text.specs.Answers.{AreShown, IsShown}
use Rattle.ra_book_text.proofs.Put.{both, none, renamed}
use Rattle.ra_book_text.proofs.answering.answer_texts.put_marks.Goals as goal

pub loop-mark-init : goal.loop-mark-init
loop-mark-init g c = record { puts = none _ _; shown = All-nil (λ mark. IsShown (entry_of_mark mark)) }

pub loop-mark-preserved : goal.loop-mark-preserved
loop-mark-preserved g c =
    let marks = c.args.marks.now in
    let so_far = take c.loop-mark.mark-index marks in
    let mark = c.mark-item.result in
    let next : take (c.loop-mark.mark-index + 1) marks ≡ so_far ++ mark ∷ [] =
    rw (take_more marks c.loop-mark.mark-index mark c.loop-mark-test.true, sym c.mark-item.is) in
    record {
      puts =
          renamed _ _ _ _ _ _ (flat_map_more mark_line [] so_far mark ∙ ap (flat_map mark_line) (sym next))
          (both _ _ _ _ _ _ _ _ c.loop-mark.invariant.puts c.put_mark.ensures.puts);
      shown = subst AreShown (sym next) (All-push (λ mark. IsShown (entry_of_mark mark)) so_far mark c.loop-mark.invariant.shown c.put_mark.ensures.shown);
    }

pub returns-clause-puts : goal.returns-clause-puts
returns-clause-puts g c = renamed _ _ _ _ _ _ (ap (flat_map mark_line) (take_all c.loop-mark.mark-index c.args.marks.now (omega arith))) c.loop-mark.invariant.puts

pub returns-clause-shown : goal.returns-clause-shown
returns-clause-shown g c = subst AreShown (take_all c.loop-mark.mark-index c.args.marks.now (omega arith)) c.loop-mark.invariant.shown
