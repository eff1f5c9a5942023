use Rattle.std.proofs.Common.{sym, subst, ◌∙◌}
use Rattle.std.specs.Prelude.{All}
use Rattle.std.proofs.lemmas.Bool.{false≢true}
use Rattle.std.proofs.lemmas.List.{take_all}
use Rattle.std.proofs.lemmas.List.Elements.{All-nil, All-more}
use Rattle.ra_book_text.specs.Texts.{IsBeside}
use Rattle.ra_book_text.proofs.text_settling.gathering.are_beside.Goals as goal

pub loop-book-init : goal.loop-book-init
loop-book-init c =
    let first = c.args.first.now in
    All-nil (IsBeside first.member.node first.member.nodes first.start)

pub loop-book-preserved : goal.loop-book-preserved
loop-book-preserved c =
    let first = c.args.first.now in
    let P = IsBeside first.member.node first.member.nodes first.start in
    All-more P c.args.books.now c.loop-book.book-index c.book-item.result c.loop-book-test.true c.loop-book.invariant
    (subst P c.book-item.is (c.is_beside.ensures.0 c.if-not-is_beside.false))

pub returns-then-not-is_beside : goal.returns-then-not-is_beside
returns-then-not-is_beside c = (
  c.loop-book.book-index,
  c.book-item.result,
  c.loop-book-test.true,
  sym c.book-item.is,
  λ is. false≢true (sym c.if-not-is_beside.true ∙ c.is_beside.ensures.1 is),
)

pub returns : goal.returns
returns c =
    let first = c.args.first.now in
    subst (All (IsBeside first.member.node first.member.nodes first.start)) (take_all c.loop-book.book-index c.args.books.now c.loop-book-test.false) c.loop-book.invariant
