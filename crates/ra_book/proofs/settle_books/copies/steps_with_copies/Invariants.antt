use Rattle.std.proofs.Common.{◌≡◌, take}
use Rattle.ra_book.proofs.settle_books.copies.steps_with_copies.Given as goal

-- the steps so far
abbrev pub invariant-loop-step : goal.invariant-loop-step
invariant-loop-step l = l.steps.items ≡ take l.step-index l.step-items
