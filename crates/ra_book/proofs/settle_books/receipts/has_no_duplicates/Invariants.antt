use Rattle.std.proofs.Common.{◌++◌, map, take}
use Rattle.ra_book.specs.Keys.{HasEach, messages_among}
use Rattle.ra_book.specs.Settled.{all_received}
use Rattle.ra_book.proofs.settle_books.receipts.has_no_duplicates.Given as goal

-- the messages that came at the books so far, which are all different
abbrev pub invariant-loop-book : goal.invariant-loop-book
invariant-loop-book l = HasEach l.came (map (λ f. f.message) (all_received (take l.book-index l.books)))

-- and those in the events so far of another book
abbrev pub invariant-loop-event : goal.invariant-loop-event
invariant-loop-event l =
    HasEach l.came (map (λ f. f.message) (all_received (take l.book-index l.books)) ++ messages_among (take l.event-index l.events))
