use Rattle.std.proofs.Common.{◌≡◌, ◌++◌, map, take}
use Rattle.std.specs.Prelude.{All}
use Rattle.ra_world.specs.declared.step.Step.TheVariants.{Lose}
use Rattle.ra_book.specs.Book.{HasHistory}
use Rattle.ra_book.specs.Settled.{lost_among, all_lost}
use Rattle.ra_book.proofs.settle_books.flagged_losses.push_losses.Given as goal

-- the losses of the books so far
abbrev pub invariant-loop-book : goal.invariant-loop-book
invariant-loop-book l =
    (l.steps.items ≡ l.initial.steps.items ++ map (λ m. Lose m) (all_lost (take l.book-index l.books))) × All HasHistory (take l.book-index l.books)

-- and the losses among the frames so far of another book
abbrev pub invariant-loop-place : goal.invariant-loop-place
invariant-loop-place l = l.steps.items ≡ l.initial.steps.items ++ map (λ m. Lose m) (lost_among (take l.place l.book.sent))
