use Rattle.std.proofs.Common.{◌≡◌, ℕ, ◌<◌, get_or}
use Rattle.ra_book.specs.Book.{BookState}
use Rattle.ra_cluster.proofs.settled_script.begin_at_0.Given as goal

-- the numbers of each book so far begin at 0
abbrev pub invariant-loop-book : goal.invariant-loop-book
invariant-loop-book l = (k : ℕ) (d : BookState) → k < l.book-index → (get_or l.books k d).start ≡ 0
