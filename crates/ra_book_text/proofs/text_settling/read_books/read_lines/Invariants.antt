use Rattle.std.proofs.Common.{List, ℕ, [], ◌∷◌, ◌+◌, ◌≤◌, length}
use Rattle.ra_book_text.specs.Texts.{Begins}
use Rattle.ra_book_text.specs.Gathering.{IsGathered}
use Rattle.ra_book_text.proofs.BookTexts.{SoFar}
use Rattle.ra_book_text.proofs.text_settling.read_books.read_lines.Given as goal

-- each line took a byte or more, and the lines so far were gathered
abbrev pub invariant-loop-turn : goal.invariant-loop-turn
invariant-loop-turn l = record {
  left : length l.rest + l.turn ≤ length l.text;
  so_far : (whole first : List ℕ) → Begins whole (first ∷ []) l.text → IsGathered (first ∷ []) l.fn.gathered → SoFar whole l.rest l.turn l.gathered;
}
