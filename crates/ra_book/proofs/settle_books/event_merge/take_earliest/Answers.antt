use Rattle.std.proofs.Common.{length, refl, subst, sym, arith}
use Rattle.ra_book.specs.EventMerge.{IsEarliest, taken_of}
use Rattle.ra_book.proofs.Taking.{no_head, head_within}
use Rattle.ra_book.proofs.NextEvents.{earliest_there, one_is_there, one_more_taken, are_next_then}
use Rattle.ra_book.proofs.settle_books.event_merge.take_earliest.Goals as goal

pub returns-in_err-head-clause-earliest : goal.returns-in_err-head-clause-earliest
returns-in_err-head-clause-earliest c =
    let books = c.args.books.now in
    let taken = taken_of c.args.nexts.now in
    subst (IsEarliest books taken (length books)) (sym c.from_residual.ensures) (no_head books taken (length books) (c.in_err-head.ensures books c.requires))

pub returns-in_err-event-clause-earliest : goal.returns-in_err-event-clause-earliest
returns-in_err-event-clause-earliest c =
    let books = c.args.books.now in
    absurd (one_is_there books c.args.nexts.now c.requires c.in_ok-head.head (c.in_ok-head.ensures books c.requires) c.index-books-head.result c.index-books-head.is _
    (sym c.in_err-event.ensures.value))

pub returns-clause-earliest : goal.returns-clause-earliest
returns-clause-earliest c =
    let books = c.args.books.now in
    earliest_there books c.args.nexts.now c.requires c.in_ok-head.head (c.in_ok-head.ensures books c.requires) c.index-books-head.result c.index-books-head.is _
    c.in_ok-event.event (sym c.in_ok-event.ensures.value)

pub returns-clause-taken : goal.returns-clause-taken
returns-clause-taken c =
    let books = c.args.books.now in
    one_more_taken books c.args.nexts.now c.requires c.in_ok-head.head (c.in_ok-head.ensures books c.requires) c.index-books-head.result c.index-books-head.is _
    c.next_after.result c.next_after.ensures

pub returns-clause-next : goal.returns-clause-next
returns-clause-next c =
    let books = c.args.books.now in
    are_next_then books c.args.nexts.now c.requires c.in_ok-head.head (c.in_ok-head.ensures books c.requires) c.index-books-head.result c.index-books-head.is _
    c.next_after.result c.next_after.ensures

pub bounds-nexts-head-2 : goal.bounds-nexts-head-2
bounds-nexts-head-2 c =
    let books = c.args.books.now in
    omega (arith, head_within books (taken_of c.args.nexts.now) (length books) c.in_ok-head.head (c.in_ok-head.ensures books c.requires), c.requires.long)

pub overflow_add-taken : goal.overflow_add-taken
overflow_add-taken c = omega (arith, c.in_ok-event.ensures.fits refl)
