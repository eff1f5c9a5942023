use Rattle.ra_book.proofs.KeySets.{at_true}
use Rattle.ra_book.proofs.WasSent.{all_sent}
use Rattle.ra_book.proofs.CopiesSettled.{settled_run, main_theorem, not_sent, settles}
use Rattle.ra_book.proofs.settle_books.copies.settle_with_copies.Goals as goal

pub run_with_copies-requires-clause-sent : goal.run_with_copies-requires-clause-sent
run_with_copies-requires-clause-sent c = all_sent c.args.books.now (at_true c.were_sent.result _ _ c.if-were_sent.true c.were_sent.ensures)

pub returns-then-were_sent-clause-not_sent : goal.returns-then-were_sent-clause-not_sent
returns-then-were_sent-clause-not_sent c =
    not_sent c.args.books.now c.run_with_copies.result c.run_with_copies.ensures (all_sent c.args.books.now (at_true c.were_sent.result _ _ c.if-were_sent.true c.were_sent.ensures))

pub returns-then-were_sent-clause-settled_run : goal.returns-then-were_sent-clause-settled_run
returns-then-were_sent-clause-settled_run c = settled_run c.args.books.now c.run_with_copies.result c.run_with_copies.ensures

pub returns-then-were_sent-clause-main_theorem : goal.returns-then-were_sent-clause-main_theorem
returns-then-were_sent-clause-main_theorem c = main_theorem c.args.books.now c.run_with_copies.result c.run_with_copies.ensures

pub returns-then-were_sent-clause-settles : goal.returns-then-were_sent-clause-settles
returns-then-were_sent-clause-settles c _ = settles c.args.books.now c.run_with_copies.result c.run_with_copies.ensures
