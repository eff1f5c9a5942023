use Rattle.ra_book.proofs.KeySets.{at_true, at_false}
use Rattle.ra_book.proofs.WasSent.{all_sent, no_repeats}
use Rattle.ra_book.specs.declared.error.SettleError.TheVariants.{Memory}
use Rattle.ra_book.specs.SettlingParts.{RefusesReceived}
use Rattle.ra_book.proofs.Causes.{refused}
use Rattle.ra_book.proofs.settle_books.receipts.check_received.Goals as goal

pub returns-then-not-were_sent : goal.returns-then-not-were_sent
returns-then-not-were_sent c = at_false c.were_sent.result _ _ c.if-not-were_sent.true c.were_sent.ensures

pub returns-in_err-has_no_duplicates : goal.returns-in_err-has_no_duplicates
returns-in_err-has_no_duplicates c =
    let sent = all_sent c.args.books.now (at_true c.were_sent.result _ _ c.if-not-were_sent.false c.were_sent.ensures) in
    refused _ (RefusesReceived c.args.books.now) Memory sent c.from_residual.result c.from_residual.ensures.1

pub returns-then-not-branch : goal.returns-then-not-branch
returns-then-not-branch c = (
  at_false c.in_ok-has_no_duplicates.field-0 _ _ c.if-not-branch.true c.in_ok-has_no_duplicates.ensures,
  all_sent c.args.books.now (at_true c.were_sent.result _ _ c.if-not-were_sent.false c.were_sent.ensures),
)

pub returns : goal.returns
returns c = (
  all_sent c.args.books.now (at_true c.were_sent.result _ _ c.if-not-were_sent.false c.were_sent.ensures),
  no_repeats _ (at_true c.in_ok-has_no_duplicates.field-0 _ _ c.if-not-branch.false c.in_ok-has_no_duplicates.ensures),
)
