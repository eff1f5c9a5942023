use Rattle.std.proofs.Common.{ap, ◌∙◌}
use Rattle.std.proofs.lemmas.List.{take_all}
use Rattle.ra_book.proofs.NextEvents.{first_of_each, one_more_first}
use Rattle.ra_book.proofs.settle_books.event_merge.first_events.Goals as goal

pub loop-book-preserved : goal.loop-book-preserved
loop-book-preserved c =
    one_more_first c.args.books.now c.loop-book.book-index c.book-item.result c.loop-book.nexts.items _ c.next_after.result c.loop-book-test.true c.book-item.is
    c.loop-book.invariant c.next_after.ensures c.in_ok-push.ensures.items

pub returns : goal.returns
returns c = c.loop-book.invariant ∙ ap first_of_each (take_all c.loop-book.book-index c.args.books.now c.loop-book-test.false)
