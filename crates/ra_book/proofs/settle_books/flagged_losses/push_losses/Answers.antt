use Rattle.std.proofs.Common.{◌≡◌, List, ◌++◌, map, sym, ap, ◌∙◌, subst, arith}
use Rattle.std.specs.Prelude.{All}
use Rattle.std.proofs.lemmas.List.{take_all}
use Rattle.std.proofs.lemmas.List.Elements.{All-more}
use Rattle.std.proofs.lemmas.Option.{slice_get_within, get_or_from_slice_get}
use Rattle.ra_world.specs.declared.step.Step.TheVariants.{Lose}
use Rattle.ra_book.specs.declared.book.sent.Sent.{Sent}
use Rattle.ra_book.specs.Book.{BookState, HasHistory}
use Rattle.ra_book.specs.Settled.{lost_among}
use Rattle.ra_book.proofs.LostSteps.{lost_more, kept_more, book_more}
use Rattle.ra_book.proofs.settle_books.flagged_losses.push_losses.Goals as goal
use Rattle.ra_book.proofs.settle_books.flagged_losses.push_losses.Goals.{then-sent+in_ok-push, else-sent}

pub loop-place-preserved : goal.loop-place-preserved
loop-place-preserved c =
    let all = c.book-item.result.sent in
    let place = c.loop-place.place in
    let sent = c.in-Some.sent in
    let found = sym c.in-Some.ensures.value in
    let within = slice_get_within all place sent found in
    let at = get_or_from_slice_get all place sent sent found in
    elim c.if-sent.branch [
      | then-sent+in_ok-push w ↦
          ap (λ s. s.items) w.steps-is ∙ w.in_ok-push.ensures.ok
          ∙ lost_more c.loop-place.steps.items c.loop-book.steps.items all place sent within at c.loop-place.invariant w.if-sent.true
      | else-sent w ↦
          ap (λ s. s.items) w.steps-is
          ∙ kept_more c.loop-place.steps.items c.loop-book.steps.items all place sent within at c.loop-place.invariant w.if-sent.false
    ]

pub loop-book-preserved : goal.loop-book-preserved
loop-book-preserved c =
    let books = c.args.books.now in
    let i = c.loop-book.book-index in
    let book = c.book-item.result in
    let before = c.loop-book.steps.items in
    let all = take_all c.loop-place.place book.sent (omega (arith, c.loop-place-test.false, c.sent_len-place-end.ensures.value)) in
    let put : c.loop-place.steps.items ≡ before ++ map (λ m. Lose m) (lost_among book.sent) =
    c.loop-place.invariant ∙ ap (λ (sent : List Sent). before ++ map (λ m. Lose m) (lost_among sent)) all
    in (
      book_more before c.loop-place.steps.items c.args.steps.now.items books i book c.loop-book-test.true c.book-item.is c.loop-book.invariant.0 put,
      All-more HasHistory books i book c.loop-book-test.true c.loop-book.invariant.1 (subst HasHistory c.book-item.is c.sent_len-place-end.ensures.history),
    )

pub returns-clause-histories : goal.returns-clause-histories
returns-clause-histories c =
    subst (λ (books : List BookState). All HasHistory books) (take_all c.loop-book.book-index c.args.books.now c.loop-book-test.false) c.loop-book.invariant.1
