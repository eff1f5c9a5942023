-- The events of the books of a cluster can always be put in the settled order.
use Rattle.std.proofs.Common.{◌≡◌, ℕ, zero, suc, ◌+◌, ◌<◌, ◌≤◌, List, [], length, get_or, replicate, Option, Some, None, slice_index, refl, sym, subst, arith, add-one}
use Rattle.std.specs.Prelude.{All, slice_get}
use Rattle.std.proofs.lemmas.Option.{slice_get_within, slice_get-get_or, get_or_from_slice_get, none-some}
use Rattle.ra_book.specs.declared.book.event.BookEvent.{BookEvent}
use Rattle.ra_book.specs.declared.settle_books.event_merge.Head.{Head}
use Rattle.ra_book.specs.declared.settle_books.event_merge.Turn.{Turn}
use Rattle.ra_book.specs.Book.{BookState, HasHistory}
use Rattle.ra_book.specs.Settled.{IsCluster, IsSettledOrder, Placed}
use Rattle.ra_book.specs.EventMerge.{IsEarliest, IsHeadOfEarliest, with_one_more}
use Rattle.ra_book.proofs.Taking.{head_more, head_same, no_next}
use Rattle.ra_book.proofs.Merging.{Merges, nothing_merged, all_merged, left, event_taken}
use Rattle.ra_book.proofs.SettledNodes.{nobody, book_at}

module _ (books : List BookState) (cluster : IsCluster books) (histories : All HasHistory books) where
  -- the head of the earliest of the next events of the first `count` books
  head_of_earliest : (taken : List ℕ) (count : ℕ) → count ≤ length books → (head : Option Head) × IsHeadOfEarliest books taken count head
  head_of_earliest taken zero few = (None, (None, (λ place event low is. absurd (omega (arith, low))), refl))
  head_of_earliest taken (suc count) few =
      subst (λ (k : ℕ). (head : Option Head) × IsHeadOfEarliest books taken k head) (add-one count)
      (by_next (slice_get (book_at books count).events (slice_index taken count)) refl (head_of_earliest taken count (omega (arith, few))))
    where
      at : slice_get books count ≡ Some (book_at books count)
      at = slice_get-get_or books count nobody (omega (arith, few))

      by_next : (next : Option BookEvent) → slice_get (book_at books count).events (slice_index taken count) ≡ next → (head : Option Head) × IsHeadOfEarliest books taken count head
          → (head : Option Head) × IsHeadOfEarliest books taken (count + 1) head
      by_next None is before = (before.0, head_same books taken count before.0 before.1 (no_next books taken count (book_at books count) at is (λ e none. none-some e none)))
      by_next (Some event) is before = (_, head_more books taken count event (book_at books count, at, is) before.0 before.1)

  abbrev Ordered : Type 0
  Ordered = (placed : List Placed) × IsSettledOrder books placed

  -- the earliest event is taken, or all are
  one_taken : (taken : List ℕ) (placed : List Placed) → Merges books taken placed
      → ((taken' : List ℕ) (placed' : List Placed) → left books taken' < left books taken → Merges books taken' placed' → Ordered) → Ordered
  one_taken taken placed merged go = by_turn earliest.1.0 earliest.1.1
    where
      earliest : (head : Option Head) × IsHeadOfEarliest books taken (length books) head
      earliest = head_of_earliest taken (length books) (omega arith)

      by_turn : (turn : Option Turn) → IsEarliest books taken (length books) turn → Ordered
      by_turn None none = (placed, all_merged books taken placed cluster merged none)
      by_turn (Some turn) is =
          let book = is.1.0 in
          let within = slice_get_within books turn.place book is.1.1 in
          let here : get_or books turn.place book ≡ book = get_or_from_slice_get books turn.place book book is.1.1 in
          let more =
          event_taken books taken (with_one_more taken turn.place) placed turn book book.me cluster merged is refl (sym here)
          (subst HasHistory here (histories turn.place book within)) refl
          in
          go (with_one_more taken turn.place) _ more.1 more.0

  all_taken : (fuel : ℕ) (taken : List ℕ) (placed : List Placed) → left books taken < fuel → Merges books taken placed → Ordered
  all_taken zero taken placed enough merged = absurd (omega (arith, enough))
  all_taken (suc fuel) taken placed enough merged =
      one_taken taken placed merged (λ taken' placed' less more. all_taken fuel taken' placed' (omega (arith, enough, less)) more)

  pub settled_order : Ordered
  settled_order =
      let none = replicate (length books) 0 in
      all_taken (suc (left books none)) none [] (omega arith) (nothing_merged books none refl)
