-- The events of a host's book, as lines.
use Rattle.std.specs.Prelude.{◌≡◌, ℕ, ◌+◌, List, [], ◌∷◌, length, Some, None}
use Rattle.ra_frame.specs.declared.frame.Frame.{Frame}
use Rattle.ra_trace.specs.Forms.{cut}
use Rattle.ra_book.specs.declared.book.event.BookKind.{BookKind}
use Rattle.ra_book.specs.Book.{BookState, with_event}
use Rattle.ra_book.specs.Timed.{CanCome}
use Rattle.ra_book_text.specs.BookText.{IsEvent, IsUnread}
use Rattle.ra_book_text.specs.declared.answering.line_refusal.Refusal.{Refusal}

-- the text begins with the line of this event, which has so many bytes with its line feed
pub record BeginsWith (text : List ℕ) (kind : BookKind) (len : ℕ) : Type 0 where
  pub line : List ℕ
  pub rest : List ℕ
  pub cut_is : cut 10 text ≡ Some (line, rest)
  pub is_event : IsEvent line kind
  pub can_come : CanCome kind
  pub len_is : len ≡ length line + 1

-- the text begins with a line that is no event
pub record BeginsWrong (text : List ℕ) : Type 0 where
  pub line : List ℕ
  pub rest : List ℕ
  pub cut_is : cut 10 text ≡ Some (line, rest)
  pub why : Refusal
  pub unread : IsUnread line why

-- the lines of the text are these events, in order; what follows the last line feed is none
abbrev pub AreEvents : List ℕ → List BookKind → Type 0
AreEvents text [] = cut 10 text ≡ None
AreEvents text (kind ∷ kinds) =
    (line : List ℕ) × (rest : List ℕ) × (cut 10 text ≡ Some (line, rest)) × IsEvent line kind × AreEvents rest kinds

-- the second book is the first one with these events more, whatever their clocks and what the node sent
abbrev pub HasMore : BookState → List BookKind → BookState → Type 0
HasMore book [] new = new ≡ book
HasMore book (kind ∷ kinds) new =
    (clock : ℕ) × (frames : List Frame) × HasMore (with_event book clock kind frames) kinds new
