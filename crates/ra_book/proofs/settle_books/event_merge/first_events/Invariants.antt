use Rattle.std.proofs.Common.{◌≡◌, take}
use Rattle.ra_book.proofs.NextEvents.{first_of_each}
use Rattle.ra_book.proofs.settle_books.event_merge.first_events.Given as goal

-- the first events of the books so far
abbrev pub invariant-loop-book : goal.invariant-loop-book
invariant-loop-book l = l.nexts.items ≡ first_of_each (take l.book-index l.books)
