use Rattle.std.proofs.Common.{take}
use Rattle.std.specs.Prelude.{All}
use Rattle.ra_book.specs.Settled.{WasSent, received_among, all_received}
use Rattle.ra_book.proofs.settle_books.receipts.were_sent.Given as goal

-- each of those that came by the books so far was sent
abbrev pub invariant-loop-book : goal.invariant-loop-book
invariant-loop-book l = All (λ f. WasSent l.books f) (all_received (take l.book-index l.books))

-- and so were those of the events so far of another book
abbrev pub invariant-loop-event : goal.invariant-loop-event
invariant-loop-event l = All (λ f. WasSent l.books f) (received_among (take l.event-index l.events))
