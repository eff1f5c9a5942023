-- How a book is written: its first line, and a line for each event in order. What was sent, and what happened to it, is
-- in no line.
use Rattle.std.specs.Prelude.{◌≡◌, ℕ, List, ◌∷◌, [], ◌++◌, map}
use Rattle.std.specs.List.{AllZip}
use Rattle.hex.specs.Hex.{encode_lower}
use Rattle.ra_frame.specs.Fits.{Fits}
use Rattle.ra_frame.specs.FrameText.{IsWrittenText}
use Rattle.ra_text.specs.declared.draft.Draft.{Draft}
use Rattle.ra_text.specs.Drafting.{Adds, Says}
use Rattle.ra_book.specs.declared.book.event.BookEvent.{BookEvent}
use Rattle.ra_book.specs.declared.book.event.BookKind.{BookKind}
use Rattle.ra_book.specs.declared.book.event.BookKind.TheVariants as kinds
use Rattle.ra_book.specs.Book.{BookState}
use Rattle.ra_book_text.specs.BookText.{IsEvent, IsFirst, form_text}
use Rattle.ra_book_text.specs.BookText.Form.{Ask, Leave, Cancel, Forget, Receive}
use Rattle.ra_book_text.specs.declared.next_line.book_version.BookVersion.{BookVersion}
use Rattle.ra_book_text.specs.declared.next_line.book_version.BookVersion.TheVariants.{One, Two}
use Rattle.ra_book_text.specs.Input.{HasNoFeed}
use Rattle.ra_book_text.specs.Book.{lines_text}

-- how the line of an event is spelled: a frame that came is in version 2 and in lower case
abbrev pub IsSpelled : List ℕ → BookKind → Type 0
IsSpelled line (kinds.Ask client name mode) = line ≡ form_text (Ask client name mode)
IsSpelled line (kinds.Leave client name) = line ≡ form_text (Leave client name)
IsSpelled line (kinds.Cancel client name) = line ≡ form_text (Cancel client name)
IsSpelled line kinds.Forget = line ≡ form_text Forget
IsSpelled line (kinds.Receive frame) =
    (bytes : List ℕ) × IsWrittenText bytes frame × (line ≡ form_text (Receive (encode_lower bytes)))

-- the line is this event, spelled so, and has no line feed
pub record IsWrittenEvent (line : List ℕ) (kind : BookKind) : Type 0 where
  pub is_event : IsEvent line kind
  pub spelled : IsSpelled line kind
  pub no_feed : HasNoFeed line

-- the version in which these events are written: the second if a client gave up or the node forgot names, and otherwise
-- the first
abbrev pub version_with : BookKind → BookVersion → BookVersion
version_with (kinds.Ask client name mode) rest = rest
version_with (kinds.Leave client name) rest = rest
version_with (kinds.Cancel client name) rest = Two
version_with kinds.Forget rest = Two
version_with (kinds.Receive frame) rest = rest

abbrev pub version_for : List BookEvent → BookVersion
version_for [] = One
version_for (event ∷ events) = version_with event.kind (version_for events)

-- the lines are the first line of the book, and then its events in order
pub record IsWrittenBook (lines : List (List ℕ)) (book : BookState) : Type 0 where
  pub first : List ℕ
  pub events : List (List ℕ)
  pub lines_are : lines ≡ first ∷ events
  pub is_first : IsFirst first (version_for book.events) book.me book.nodes book.start
  pub no_feed : HasNoFeed first
  pub are_events : AllZip IsWrittenEvent events (map (λ event. event.kind) book.events)

-- these lines were added to a text
abbrev pub AddsLines : (old new : List ℕ) → List (List ℕ) → Type 0
AddsLines old new lines = new ≡ old ++ lines_text lines

-- the frame that comes by the event does not fit, so that it has no text
abbrev pub IsUnfit : BookKind → Type 0
IsUnfit (kinds.Ask client name mode) = ⊥
IsUnfit (kinds.Leave client name) = ⊥
IsUnfit (kinds.Cancel client name) = ⊥
IsUnfit kinds.Forget = ⊥
IsUnfit (kinds.Receive frame) = Fits frame → ⊥

-- ---- Only private contracts and proofs speak of it.

-- the line of the event was added to a draft
abbrev pub AddsEvent : Draft → Draft → BookKind → Type 0
AddsEvent old new kind = (line : List ℕ) × IsWrittenEvent line kind × Adds old (line ++ 10 ∷ []) new

-- the draft is this text, and then the lines of these events
abbrev pub SaysEvents : Draft → List ℕ → List BookEvent → Type 0
SaysEvents draft first events =
    (lines : List (List ℕ)) × AllZip IsWrittenEvent lines (map (λ event. event.kind) events)
    × Says draft (first ++ lines_text lines)
