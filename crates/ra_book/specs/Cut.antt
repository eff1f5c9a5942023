-- What a book was after its first events, as it is read back if the last ones are missing.
use Rattle.std.specs.Prelude.{◌≢◌, ◌≤◌, ℕ, nat_le, List, map, length, take, All}
use Rattle.std.specs.List.{filter}
use Rattle.ra_book.specs.History.{clock_of}
use Rattle.ra_book.specs.Book.{BookState}
use Rattle.ra_book.specs.Pairs.{sent_to, come_from}

-- the book after its first `count` events, or after all if it has fewer: these, and the frames with no greater clocks
-- than the last of them. Nothing was taken from the book
abbrev pub first_of : ℕ → BookState → BookState
first_of count book = record book {
  events = take count book.events;
  sent = filter (λ s. nat_le s.frame.clock (clock_of (take count book.events))) book.sent;
}

-- the books, each after its first events: this many, by node
abbrev pub cut_books : (ℕ → ℕ) → List BookState → List BookState
cut_books counts books = map (λ b. first_of (counts b.me) b) books

-- of each two different nodes, no more frames came at one from the other than the other one sent to it
abbrev pub NoMoreCame : List BookState → Type 0
NoMoreCame books = All (λ at. All (λ other. at.me ≢ other.me
    → length (come_from other.me at) ≤ length (sent_to at.me other)) books) books
