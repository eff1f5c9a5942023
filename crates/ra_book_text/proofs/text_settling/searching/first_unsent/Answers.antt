use Rattle.std.proofs.Common.{sym, subst, ◌∙◌}
use Rattle.std.specs.Prelude.{All}
use Rattle.std.proofs.lemmas.Bool.{false≢true}
use Rattle.std.proofs.lemmas.List.{take_all}
use Rattle.std.proofs.lemmas.List.Elements.{All-more}
use Rattle.ra_book.specs.Settled.{WasSent}
use Rattle.ra_book_text.specs.declared.text_settling.came_frames.Came.{Came}
use Rattle.ra_book_text.proofs.Sent.{unsent_at}
use Rattle.ra_book_text.proofs.text_settling.searching.first_unsent.Goals as goal

pub returns-then-not-was_sent : goal.returns-then-not-was_sent
returns-then-not-was_sent c =
    unsent_at c.args.books.now c.args.came.now c.loop-one.one-index c.one-item.result c.loop-one-test.true c.one-item.is
    (λ was. false≢true (sym c.if-not-was_sent.true ∙ c.was_sent.ensures.1 was)) c.loop-one.invariant

pub loop-one-preserved : goal.loop-one-preserved
loop-one-preserved c =
    let P = λ (it : Came). WasSent c.args.books.now it.frame in
    All-more P c.args.came.now c.loop-one.one-index c.one-item.result c.loop-one-test.true c.loop-one.invariant
    (subst P c.one-item.is (c.was_sent.ensures.0 c.if-not-was_sent.false))

pub returns : goal.returns
returns c =
    subst (All (λ (it : Came). WasSent c.args.books.now it.frame)) (take_all c.loop-one.one-index c.args.came.now c.loop-one-test.false) c.loop-one.invariant
