use Rattle.std.proofs.Common.{sym, subst, length}
use Rattle.ra_world.specs.Run.{WorldRun}
use Rattle.ra_book.specs.Settled.{start_of}
use Rattle.ra_book.specs.Repeats.{AreWithCopies}
use Rattle.ra_book.specs.SettlingParts.{HasRun, SettlesWithCopies}
use Rattle.ra_book.proofs.SettledReport.{where_ok}
use Rattle.ra_book.proofs.CopiesSettled.{no_losses, settles_with_copies}
use Rattle.ra_book.proofs.SettlingLaws.{fitting_books_settle_with_copies}
use Rattle.ra_book.proofs.settle_books.copies.run_with_copies.Goals as goal

pub run_steps-requires : goal.run_steps-requires
run_steps-requires c =
    let books = c.args.books.now in
    let (placed, order, has) = c.in_ok-steps.ensures in
    let same = no_losses books c.in_ok-steps.steps.items c.push_losses.new.steps.items c.requires.lossless c.in_ok-push_losses.ensures.ok in
    let runs = fitting_books_settle_with_copies.runs books placed c.in_ok-steps.steps.items c.requires.cluster c.in_ok-push_losses.ensures.histories order c.requires.sent has in
    record { cluster = c.requires.cluster; run = subst (WorldRun (length books) (start_of books)) (sym same) runs }

pub returns : goal.returns
returns c =
    let books = c.args.books.now in
    let (placed, order, has) = c.in_ok-steps.ensures in
    let steps = c.push_losses.new.steps.items in
    let same = no_losses books c.in_ok-steps.steps.items steps c.requires.lossless c.in_ok-push_losses.ensures.ok in
    where_ok (HasRun books steps) (SettlesWithCopies books)
    (λ settled. settles_with_copies fitting_books_settle_with_copies books c.requires.cluster c.in_ok-push_losses.ensures.histories placed steps settled order
    (subst (AreWithCopies placed) (sym same) has))
    c.run_steps.result c.run_steps.ensures
