-- The events of all books, taken one after the other, each time the earliest.
use Rattle.std.proofs.Common.{◌≡◌, ℕ, zero, suc, ◌+◌, ◌<◌, ◌≤◌, Bool, true, false, cond, leb, List, [], ◌∷◌, Option, Some, None, slice_index, refl, sym, ap, ◌∙◌, subst, inl, inr, arith}
use Rattle.std.specs.Prelude.{option_map, slice_get}
use Rattle.std.proofs.lemmas.Bool.{leb-true, leb-false, cases_lt}
use Rattle.std.proofs.lemmas.Option.{same_Some, none-some}
use Rattle.ra_book.specs.declared.book.event.BookKind.{BookKind}
use Rattle.ra_book.specs.declared.book.event.BookKind.TheVariants.{Ask, Leave, Cancel, Receive, Forget}
use Rattle.ra_book.specs.declared.book.event.BookEvent.{BookEvent}
use Rattle.ra_book.specs.declared.settle_books.event_merge.Head.{Head}
use Rattle.ra_book.specs.declared.settle_books.event_merge.Turn.{Turn}
use Rattle.ra_book.specs.History.{AreClocked, clock_after}
use Rattle.ra_book.specs.Book.{BookState}
use Rattle.ra_book.specs.EventMerge.{IsNextOfBook, IsNotAfter, IsEarliest, IsHeadOfEarliest, head_of, lesser_of}

-- ---- The clocks of one book

later_clock : (clock : ℕ) (kind : BookKind) → clock < clock_after clock kind
later_clock clock (Ask client name mode) = omega arith
later_clock clock (Leave client name) = omega arith
later_clock clock (Cancel client name) = omega arith
later_clock clock Forget = omega arith
later_clock clock (Receive frame) = omega arith

pub clocks_rise : (clock : ℕ) (events : List BookEvent) (i : ℕ) (a b : BookEvent) → AreClocked clock events → slice_get events i ≡ Some a → slice_get events (suc i) ≡ Some b → a.clock < b.clock
clocks_rise clock [] i a b clocked at next = absurd (none-some a at)
clocks_rise clock (e ∷ []) i a b clocked at next = absurd (none-some b next)
clocks_rise clock (e ∷ f ∷ es) zero a b clocked at next =
    let here : e ≡ a = same_Some e a at in
    let there : f ≡ b = same_Some f b next in
    subst (λ (x : BookEvent). x.clock < b.clock) here
    (subst (λ (x : BookEvent). e.clock < x.clock) there (subst (λ (n : ℕ). e.clock < n) (sym clocked.2.0) (later_clock e.clock f.kind)))
clocks_rise clock (e ∷ f ∷ es) (suc i) a b clocked at next = clocks_rise e.clock (f ∷ es) i a b clocked.2 at next

-- ---- The earliest of the next events

-- the first one, unless it is missing or the other one has a lesser clock
abbrev earlier_of : Option Turn → Turn → Turn
earlier_of None other = other
earlier_of (Some turn) other = cond (leb turn.event.clock other.event.clock) turn other

-- the next event of a book is one
one_next : (books : List BookState) (taken : List ℕ) (k : ℕ) (a b : BookEvent) → IsNextOfBook books taken k a → IsNextOfBook books taken k b → a ≡ b
one_next books taken k a b x y =
    let book = same_Some x.0 y.0 (sym x.1 ∙ y.1) in
    same_Some a b (sym x.2 ∙ ap (λ (s : BookState). slice_get s.events (slice_index taken k)) book ∙ y.2)

moved : (books : List BookState) (taken : List ℕ) (k j : ℕ) (e : BookEvent) → k ≡ j → IsNextOfBook books taken k e → IsNextOfBook books taken j e
moved books taken k j e same is = subst (λ (n : ℕ). IsNextOfBook books taken n e) same is

earliest_same : (books : List BookState) (taken : List ℕ) (count : ℕ) (first : Option Turn) → IsEarliest books taken count first
    → ((e : BookEvent) → IsNextOfBook books taken count e → ⊥) → IsEarliest books taken (count + 1) first
earliest_same books taken count None before none =
    λ place event low is. elim (cases_lt place count) [
      | inl less ↦ before place event less is
      | inr not ↦ none event (moved books taken place count event (omega arith) is)
    ]
earliest_same books taken count (Some turn) before none = (
  omega (arith, before.0),
  before.1,
  λ place event low is. elim (cases_lt place count) [
    | inl less ↦ before.2 place event less is
    | inr not ↦ absurd (none event (moved books taken place count event (omega arith) is))
  ],
)

module _ (books : List BookState) (taken : List ℕ) (count : ℕ) (event : BookEvent) (next : IsNextOfBook books taken count event) where
  abbrev here : Turn
  here = record { place = count; event = event }

  itself : (e : BookEvent) (place : ℕ) → place ≡ count → IsNextOfBook books taken place e → IsNotAfter here place e
  itself e place same is =
      inr (ap (λ (x : BookEvent). x.clock) (one_next books taken count event e next (moved books taken place count e same is)), omega (arith, same))

  earliest_more : (first : Option Turn) → IsEarliest books taken count first → IsEarliest books taken (count + 1) (Some (earlier_of first here))
  earliest_more None before = (
    omega arith,
    next,
    λ place e low is. elim (cases_lt place count) [
      | inl less ↦ absurd (before place e less is)
      | inr not ↦ itself e place (omega arith) is
    ],
  )
  earliest_more (Some turn) before = by_clock (leb turn.event.clock event.clock) refl
    where
      by_clock : (b : Bool) → leb turn.event.clock event.clock ≡ b → IsEarliest books taken (count + 1) (Some (cond b turn here))
      by_clock true e = (
        omega (arith, before.0),
        before.1,
        λ place f low is. elim (cases_lt place count) [
          | inl less ↦ before.2 place f less is
          | inr not ↦ after f place (omega arith) (leb-true turn.event.clock event.clock e) is
        ],
      )
        where
          after : (f : BookEvent) (place : ℕ) → place ≡ count → turn.event.clock ≤ event.clock → IsNextOfBook books taken place f → IsNotAfter turn place f
          after f place same no_more is =
              let one : event.clock ≡ f.clock = ap (λ (x : BookEvent). x.clock) (one_next books taken count event f next (moved books taken place count f same is)) in
              elim (cases_lt turn.event.clock event.clock) [
                | inl less ↦ inl (omega (arith, less, one))
                | inr not ↦ inr (omega (arith, no_more, not, one), omega (arith, before.0, same))
              ]
      by_clock false e = (
        omega arith,
        next,
        λ place f low is. elim (cases_lt place count) [
          | inl less ↦ inl (ahead f place (leb-false turn.event.clock event.clock e) (before.2 place f less is))
          | inr not ↦ itself f place (omega arith) is
        ],
      )
        where
          ahead : (f : BookEvent) (place : ℕ) → event.clock < turn.event.clock → IsNotAfter turn place f → event.clock < f.clock
          ahead f place less (inl lt) = omega (arith, less, lt)
          ahead f place less (inr same) = omega (arith, less, same.0)

pub no_next : (books : List BookState) (taken : List ℕ) (k : ℕ) (book : BookState) → slice_get books k ≡ Some book → {o : Option BookEvent} → slice_get book.events (slice_index taken k) ≡ o
    → ((e : BookEvent) → o ≡ Some e → ⊥) → (e : BookEvent) → IsNextOfBook books taken k e → ⊥
no_next books taken k book at said none e is =
    let same = same_Some book is.0 (sym at ∙ is.1) in
    none e (sym said ∙ ap (λ (b : BookState). slice_get b.events (slice_index taken k)) same ∙ is.2)

-- ---- The heads of events

-- its head is the head of the earlier one
lesser_head : (first : Option Turn) (other : Turn) → lesser_of (option_map head_of first) (head_of other) ≡ head_of (earlier_of first other)
lesser_head None other = refl
lesser_head (Some turn) other = by_clock (leb turn.event.clock other.event.clock)
  where
    by_clock : (b : Bool) → cond b (head_of turn) (head_of other) ≡ head_of (cond b turn other)
    by_clock true = refl
    by_clock false = refl

-- another book has this event next
pub head_more : (books : List BookState) (taken : List ℕ) (count : ℕ) (event : BookEvent) → IsNextOfBook books taken count event → (first : Option Head) → IsHeadOfEarliest books taken count first
    → IsHeadOfEarliest books taken (count + 1) (Some (lesser_of first (record { place = count; clock = event.clock })))
head_more books taken count event next first (turn, earliest, is) =
    let here : Turn = record { place = count; event = event } in (
      Some (earlier_of turn here),
      earliest_more books taken count event next turn earliest,
      ap (λ (h : Option Head). Some (lesser_of h (head_of here))) is ∙ ap (λ (h : Head). Some h) (lesser_head turn here),
    )

-- another book has none
pub head_same : (books : List BookState) (taken : List ℕ) (count : ℕ) (first : Option Head) → IsHeadOfEarliest books taken count first
    → ((e : BookEvent) → IsNextOfBook books taken count e → ⊥) → IsHeadOfEarliest books taken (count + 1) first
head_same books taken count first (turn, earliest, is) none = (turn, earliest_same books taken count turn earliest none, is)

-- the only event is the earliest
pub turn_of_head : (books : List BookState) (taken : List ℕ) (count : ℕ) (head : Head) (turn : Turn) → IsHeadOfEarliest books taken count (Some head)
    → turn.place ≡ head.place → IsNextOfBook books taken head.place turn.event → IsEarliest books taken count (Some turn)
turn_of_head books taken count head turn (None, earliest, is) at next = absurd (none-some head (sym is))
turn_of_head books taken count head turn (Some t, earliest, is) at next =
    let here : head ≡ head_of t = same_Some head (head_of t) is in
    let place : turn.place ≡ t.place = at ∙ ap (λ (h : Head). h.place) here in
    let event : turn.event ≡ t.event =
    one_next books taken t.place turn.event t.event (moved books taken head.place t.place turn.event (ap (λ (h : Head). h.place) here) next) earliest.1
    in
    let same : t ≡ turn = λ i. record { place = sym place i; event = sym event i } in
    subst (λ (x : Turn). IsEarliest books taken count (Some x)) same earliest

-- a head is at a book, whose next event there is
pub head_within : (books : List BookState) (taken : List ℕ) (count : ℕ) (head : Head) → IsHeadOfEarliest books taken count (Some head) → head.place < count
head_within books taken count head (None, earliest, is) = absurd (none-some head (sym is))
head_within books taken count head (Some t, earliest, is) =
    let here : head ≡ head_of t = same_Some head (head_of t) is in
    omega (arith, earliest.0, ap (λ (h : Head). h.place) here)

pub head_is_next : (books : List BookState) (taken : List ℕ) (count : ℕ) (head : Head) → IsHeadOfEarliest books taken count (Some head)
    → ((e : BookEvent) → IsNextOfBook books taken head.place e → ⊥) → ⊥
head_is_next books taken count head (None, earliest, is) none = none-some head (sym is)
head_is_next books taken count head (Some t, earliest, is) none =
    let here : head ≡ head_of t = same_Some head (head_of t) is in
    none t.event (moved books taken t.place head.place t.event (sym (ap (λ (h : Head). h.place) here)) earliest.1)

pub no_head : (books : List BookState) (taken : List ℕ) (count : ℕ) → IsHeadOfEarliest books taken count None → IsEarliest books taken count None
no_head books taken count (None, earliest, is) = earliest
no_head books taken count (Some t, earliest, is) = absurd (none-some (head_of t) is)

-- the clock of the next event is the clock of a book's next event
pub clock_is_next : (books : List BookState) (taken : List ℕ) (k : ℕ) (book : BookState) (clock : ℕ) → slice_get books k ≡ Some book
    → Some clock ≡ option_map (λ (e : BookEvent). e.clock) (slice_get book.events (slice_index taken k)) → (e : BookEvent) × IsNextOfBook books taken k e × (clock ≡ e.clock)
clock_is_next books taken k book clock at is = of (slice_get book.events (slice_index taken k)) refl is
  where
    of : (o : Option BookEvent) → slice_get book.events (slice_index taken k) ≡ o → Some clock ≡ option_map (λ (e : BookEvent). e.clock) o
        → (e : BookEvent) × IsNextOfBook books taken k e × (clock ≡ e.clock)
    of None read is = absurd (none-some clock (sym is))
    of (Some e) read is = (e, (book, at, read), same_Some clock e.clock is)

pub no_clock_no_next : (books : List BookState) (taken : List ℕ) (k : ℕ) (book : BookState) → slice_get books k ≡ Some book
    → {o : Option ℕ} → o ≡ option_map (λ (e : BookEvent). e.clock) (slice_get book.events (slice_index taken k)) → ((clock : ℕ) → o ≡ Some clock → ⊥) → (e : BookEvent) → IsNextOfBook books taken k e → ⊥
no_clock_no_next books taken k book at is none e next =
    let same = same_Some book next.0 (sym at ∙ next.1) in
    let read : slice_get book.events (slice_index taken k) ≡ Some e = ap (λ (b : BookState). slice_get b.events (slice_index taken k)) same ∙ next.2 in
    none e.clock (is ∙ ap (λ (o : Option BookEvent). option_map (λ (e : BookEvent). e.clock) o) read)
