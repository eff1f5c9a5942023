use Rattle.std.proofs.Common.{refl}
use Rattle.ra_audit.proofs.StillLost.{found_still, none_still_further, none_still}
use Rattle.ra_audit.proofs.auditor.ending.first_still_lost.Goals as goal

pub returns-in-Some : goal.returns-in-Some
returns-in-Some c =
    found_still c.args.books.now c.loop-book.book-index c.book-item.result _ c.in-Some.frame c.loop-book-test.true c.book-item.is refl c.in-Some.ensures c.loop-book.invariant

pub loop-book-preserved : goal.loop-book-preserved
loop-book-preserved c =
    none_still_further c.args.books.now c.loop-book.book-index c.book-item.result c.loop-book-test.true c.book-item.is c.in_default.ensures c.loop-book.invariant

pub returns : goal.returns
returns c = none_still c.args.books.now c.loop-book.book-index c.loop-book-test.false c.loop-book.invariant
