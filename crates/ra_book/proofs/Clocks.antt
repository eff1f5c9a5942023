-- The clock of a node after more events.
use Rattle.std.proofs.Common.{◌≡◌, ℕ, List, [], ◌∷◌, ◌++◌, refl}
use Rattle.ra_book.specs.declared.book.event.BookEvent.{BookEvent}
use Rattle.ra_book.specs.History.{clock_from}

pub clock_append : (clock : ℕ) (xs ys : List BookEvent) → clock_from clock (xs ++ ys) ≡ clock_from (clock_from clock xs) ys
clock_append clock [] ys = refl
clock_append clock (x ∷ xs) ys = clock_append x.clock xs ys
