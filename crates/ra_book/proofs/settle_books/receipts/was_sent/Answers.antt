use Rattle.std.proofs.Common.{◌≡◌, ◌+◌, length, refl, arith}
use Rattle.std.proofs.lemmas.Option.{slice_get_read}
use Rattle.ra_stamp.specs.Message.{from_of}
use Rattle.ra_book.proofs.WasSent.{by_its_book, no_book}
use Rattle.ra_book.proofs.Truth.{no}
use Rattle.ra_book.proofs.settle_books.receipts.was_sent.Goals as goal

pub returns-in-Some : goal.returns-in-Some
returns-in-Some c =
    let books = c.args.books.now in
    let place = c.place.result in
    let book = c.in-Some.book.now in
    let from : place + 1 ≡ from_of c.args.frame.now.message = omega (arith, c.place.ensures.value, c.place.ensures.valid, c.from.ensures) in
    let at = slice_get_read books (length books) place book refl c.in-Some.ensures.lookup.3.0 c.in-Some.ensures.lookup.1 in
    let its = by_its_book books c.requires c.args.frame.now place from book at in
    (λ is. its.0 (c.has_kept.ensures.0 is), λ was. c.has_kept.ensures.1 (its.1 was))

pub returns-in-None : goal.returns-in-None
returns-in-None c =
    let place = c.place.result in
    let from : place + 1 ≡ from_of c.args.frame.now.message = omega (arith, c.place.ensures.value, c.place.ensures.valid, c.from.ensures) in
    no (no_book c.args.books.now c.requires c.args.frame.now place from c.in-None.ensures.lookup.3)
