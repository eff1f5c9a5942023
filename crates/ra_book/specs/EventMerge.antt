-- How the events of books are put in order, when this many of each book are taken. No public contract speaks of it.
use Rattle.std.specs.Prelude.{◌≡◌, ◌⊎◌, ℕ, ◌+◌, ◌<◌, ◌≤◌, List, length, map, set, Option, Some, None, if◌then◌else◌, nat_le, option_map, slice_get, slice_index, slice_index_or}
use Rattle.ra_book.specs.declared.book.event.BookEvent.{BookEvent}
use Rattle.ra_book.specs.declared.settle_books.event_merge.Head.{Head}
use Rattle.ra_book.specs.declared.settle_books.event_merge.Next.{Next}
use Rattle.ra_book.specs.declared.settle_books.event_merge.Turn.{Turn}
use Rattle.ra_book.specs.declared.settle_books.event_merge.PlacedEvent.{PlacedEvent}
use Rattle.ra_book.specs.Book.{BookState}
use Rattle.ra_book.specs.Settled.{Placed}

-- this event of the book at this place comes next
abbrev pub IsNextOfBook : List BookState → List ℕ → ℕ → BookEvent → Type 0
IsNextOfBook books taken place event =
    (book : BookState) × (slice_get books place ≡ Some book)
    × (slice_get book.events (slice_index taken place) ≡ Some event)

-- what comes next of a book after its first `taken` events
abbrev pub next_of_book : BookState → ℕ → Next
next_of_book book taken = record { taken = taken; clock = option_map (λ e. e.clock) (slice_get book.events taken) }

-- how many events of each book are taken
abbrev pub taken_of : List Next → List ℕ
taken_of nexts = map (λ next. next.taken) nexts

-- the same after one more event of the book at this place
abbrev pub with_one_more : List ℕ → ℕ → List ℕ
with_one_more taken place = set taken place (slice_index taken place + 1)

-- what is noted of each book is what comes next of it, after as many events as are taken
pub record AreNext (books : List BookState) (nexts : List Next) : Type 0 where
  pub long : length nexts ≡ length books
  pub each : (place : ℕ) (book : BookState) (d : Next) → slice_get books place ≡ Some book
      → slice_index_or nexts place d ≡ next_of_book book (slice_index_or nexts place d).taken

-- the turn has a lesser clock than the event, or the same one and a place that is not after this one
abbrev pub IsNotAfter : Turn → ℕ → BookEvent → Type 0
IsNotAfter turn place event =
    (turn.event.clock < event.clock) ⊎ ((turn.event.clock ≡ event.clock) × (turn.place ≤ place))

-- the earliest of the next events of the first `count` books
abbrev pub IsEarliest : List BookState → List ℕ → ℕ → Option Turn → Type 0
IsEarliest books taken count None =
    (place : ℕ) (event : BookEvent) → place < count → IsNextOfBook books taken place event → ⊥
IsEarliest books taken count (Some turn) =
    (turn.place < count) × IsNextOfBook books taken turn.place turn.event
    × ((place : ℕ) (event : BookEvent) → place < count → IsNextOfBook books taken place event
    → IsNotAfter turn place event)

-- the place of an event's book, and its clock
abbrev pub head_of : Turn → Head
head_of turn = record { place = turn.place; clock = turn.event.clock }

-- the head of the earliest of the next events, if there is one
abbrev pub IsHeadOfEarliest : List BookState → List ℕ → ℕ → Option Head → Type 0
IsHeadOfEarliest books taken count head =
    (turn : Option Turn) × IsEarliest books taken count turn × (head ≡ option_map head_of turn)

-- the first head, unless it does not exist or the other one has a lesser clock
abbrev pub lesser_of : Option Head → Head → Head
lesser_of None other = other
lesser_of (Some head) other = if nat_le head.clock other.clock then head else other

-- the events with their nodes
abbrev pub placed_at : PlacedEvent → Placed
placed_at one = record { node = one.node; event = one.event }

abbrev pub all_placed_at : List PlacedEvent → List Placed
all_placed_at events = map placed_at events
