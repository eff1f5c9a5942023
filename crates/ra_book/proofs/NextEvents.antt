-- What comes next of each book, as it is noted while the events of all books are taken.
use Rattle.std.proofs.Common.{◌≡◌, ℕ, ◌+◌, ◌<◌, List, [], ◌∷◌, ◌++◌, map, length, get_or, set, take, replicate, Option, Some, None, slice_index, refl, sym, ap, ◌∙◌, subst, inl, inr, arith, Vec}
use Rattle.std.specs.Prelude.{slice_get}
use Rattle.std.specs.Vec.{with_items}
use Rattle.std.proofs.lemmas.Bool.{cases_eq}
use Rattle.std.proofs.lemmas.List.{get_or-map, get_or-set_same, get_or-set_other, length-set, length-map, map-set, map_push, take_more, with_items_is}
use Rattle.std.proofs.lemmas.Option.{slice_get_cases, slice_get_within, slice_get_read, get_or_from_slice_get, same_Some, none-some}
use Rattle.ra_book.specs.declared.book.event.BookEvent.{BookEvent}
use Rattle.ra_book.specs.declared.settle_books.event_merge.Head.{Head}
use Rattle.ra_book.specs.declared.settle_books.event_merge.Next.{Next}
use Rattle.ra_book.specs.declared.settle_books.event_merge.Turn.{Turn}
use Rattle.ra_book.specs.Book.{BookState}
use Rattle.ra_book.specs.EventMerge.{IsEarliest, IsHeadOfEarliest, AreNext, taken_of, with_one_more, next_of_book, lesser_of}
use Rattle.ra_book.proofs.Taking.{head_more, head_same, head_within, head_is_next, turn_of_head, clock_is_next, no_clock_no_next, no_next}

taken_at : (nexts : List Next) (k : ℕ) (d : Next) → k < length nexts → slice_index (taken_of nexts) k ≡ (get_or nexts k d).taken
taken_at nexts k d low = get_or-map (λ (n : Next). n.taken) nexts k d 0 low

-- ---- Nothing is taken

abbrev pub first_of_each : List BookState → List Next
first_of_each books = map (λ book. next_of_book book 0) books

none_of_each : (books : List BookState) → taken_of (first_of_each books) ≡ replicate (length books) 0
none_of_each [] = refl
none_of_each (b ∷ books) = ap (λ (ns : List ℕ). 0 ∷ ns) (none_of_each books)

are_first : (books : List BookState) → AreNext books (first_of_each books)
are_first books =
    record {
      long = length-map books (λ (b : BookState). next_of_book b 0);
      each = λ k book d at.
          let here : get_or (first_of_each books) k d ≡ next_of_book book 0 =
          get_or-map (λ (b : BookState). next_of_book b 0) books k book d (slice_get_within books k book at)
          ∙ ap (λ (b : BookState). next_of_book b 0) (get_or_from_slice_get books k book book at)
          in
          here ∙ sym (ap (λ (n : Next). next_of_book book n.taken) here);
    }

pub nothing_taken : (books : List BookState) (nexts : List Next) → nexts ≡ first_of_each books → AreNext books nexts × (taken_of nexts ≡ replicate (length books) 0)
nothing_taken books nexts is = (subst (AreNext books) (sym is) (are_first books), ap taken_of is ∙ none_of_each books)

-- another book
pub one_more_first : (books : List BookState) (i : ℕ) (book : BookState) (nexts nexts' : List Next) (next : Next) → i < length books → book ≡ get_or books i book
    → nexts ≡ first_of_each (take i books) → next ≡ next_of_book book 0 → nexts' ≡ nexts ++ next ∷ [] → nexts' ≡ first_of_each (take (i + 1) books)
one_more_first books i book nexts nexts' next within at are is more =
    let longer : take (i + 1) books ≡ take i books ++ book ∷ [] = take_more books i book within ∙ ap (λ (b : BookState). take i books ++ b ∷ []) (sym at) in
    let pushed : nexts' ≡ first_of_each (take i books) ++ next_of_book book 0 ∷ [] = more ∙ (λ j. are j ++ is j ∷ []) in
    pushed ∙ sym (map_push (λ (b : BookState). next_of_book b 0) (take i books) book) ∙ ap first_of_each (sym longer)

-- ---- The head of the earliest

module _ (books : List BookState) (nexts : List Next) (are : AreNext books nexts) (count : ℕ) (within : count < length nexts) (d : Next) where
  abbrev taken : List ℕ
  taken = taken_of nexts

  -- the book that it is noted of
  its_book : (book : BookState) × (slice_get books count ≡ Some book) × (get_or nexts count d ≡ next_of_book book (slice_index taken count))
  its_book =
      elim (slice_get_cases books count).1 [
        | inl there ↦ (there.0, there.2, are.each count there.0 d there.2 ∙ ap (next_of_book there.0) (sym (taken_at nexts count d within)))
        | inr past ↦ absurd (omega (arith, within, are.long, past.0))
      ]

  pub head_with : (first : Option Head) (clock : ℕ) → (get_or nexts count d).clock ≡ Some clock → IsHeadOfEarliest books taken count first
      → IsHeadOfEarliest books taken (count + 1) (Some (lesser_of first (record { place = count; clock = clock })))
  head_with first clock some before =
      let its = its_book in
      let event = clock_is_next books taken count its.0 clock its.1 (sym some ∙ ap (λ (n : Next). n.clock) its.2) in
      subst (λ (n : ℕ). IsHeadOfEarliest books taken (count + 1) (Some (lesser_of first (record { place = count; clock = n })))) (sym event.2)
      (head_more books taken count event.0 event.1 first before)

  pub head_without : (first : Option Head) → ((clock : ℕ) → (get_or nexts count d).clock ≡ Some clock → ⊥) → IsHeadOfEarliest books taken count first
      → IsHeadOfEarliest books taken (count + 1) first
  head_without first none before =
      let its = its_book in
      head_same books taken count first before (no_clock_no_next books taken count its.0 its.1 (ap (λ (n : Next). n.clock) its.2) none)

-- ---- The earliest is taken

module _ (books : List BookState) (nexts : List Next) (are : AreNext books nexts) (head : Head)
    (heads : IsHeadOfEarliest books (taken_of nexts) (length books) (Some head)) where
  abbrev place : ℕ
  place = head.place

  abbrev so_far : List ℕ
  so_far = taken_of nexts

  pub place_within : place < length nexts
  place_within = omega (arith, head_within books so_far (length books) head heads, are.long)

  module _ (book : BookState) (book_is : book ≡ get_or books place book) (d : Next) where
    at_place : slice_get books place ≡ Some book
    at_place = slice_get_read books (length books) place book refl (head_within books so_far (length books) head heads) book_is

    its_taken : (get_or nexts place d).taken ≡ slice_index so_far place
    its_taken = sym (taken_at nexts place d place_within)

    pub earliest_there : (event : BookEvent) → slice_get book.events (get_or nexts place d).taken ≡ Some event
        → IsEarliest books so_far (length books) (Some (record { place = place; event = event }))
    earliest_there event here =
        turn_of_head books so_far (length books) head (record { place = place; event = event }) heads refl
        (book, at_place, subst (λ (n : ℕ). slice_get book.events n ≡ Some event) its_taken here)

    pub one_is_there : slice_get book.events (get_or nexts place d).taken ≡ None → ⊥
    one_is_there none =
        head_is_next books so_far (length books) head heads
        (no_next books so_far place book at_place (subst (λ (n : ℕ). slice_get book.events n ≡ None) its_taken none) (λ e is. none-some e is))

    module _ (after : Next) (after_is : after ≡ next_of_book book ((get_or nexts place d).taken + 1)) where
      pub one_more_taken : taken_of (set nexts place after) ≡ with_one_more so_far place
      one_more_taken =
          map-set (λ (n : Next). n.taken) nexts place after ∙ ap (λ (n : Next). set so_far place n.taken) after_is
          ∙ ap (λ (n : ℕ). set so_far place (n + 1)) its_taken

      pub are_next_then : AreNext books (set nexts place after)
      are_next_then =
          record {
            long = length-set nexts place after ∙ are.long;
            each = λ k b e found. elim (cases_eq k place) [
              | inl same ↦
                  let one : book ≡ b = same_Some book b (sym at_place ∙ ap (slice_get books) (sym same) ∙ found) in
                  let here : get_or (set nexts place after) k e ≡ next_of_book b ((get_or nexts place d).taken + 1) =
                  ap (λ (j : ℕ). get_or (set nexts place after) j e) same ∙ get_or-set_same nexts place after e place_within ∙ after_is
                  ∙ ap (λ (x : BookState). next_of_book x ((get_or nexts place d).taken + 1)) one
                  in
                  here ∙ sym (ap (λ (n : Next). next_of_book b n.taken) here)
              | inr apart ↦
                  let other : get_or (set nexts place after) k e ≡ get_or nexts k e = get_or-set_other nexts place k after e apart in
                  other ∙ are.each k b e found ∙ sym (ap (λ (n : Next). next_of_book b n.taken) other)
            ];
          }

-- ---- One turn of the loop that is lent the list

pub next_turn : {Z : Type 0} (books : List BookState) (nexts : Vec Next Z) (lent new : List Next) (turn : Turn) → AreNext books nexts.items → lent ≡ nexts.items
    → IsEarliest books (taken_of lent) (length books) (Some turn) → taken_of new ≡ with_one_more (taken_of lent) turn.place → AreNext books new
    → IsEarliest books (taken_of nexts.items) (length books) (Some turn)
    × (taken_of (with_items nexts new).items ≡ with_one_more (taken_of nexts.items) turn.place)
    × AreNext books (with_items nexts new).items
next_turn books nexts lent new turn are lent_is earliest more then =
    let written : (with_items nexts new).items ≡ new = with_items_is nexts new (then.long ∙ sym are.long ∙ sym nexts.ok.0) in (
      subst (λ (ns : List Next). IsEarliest books (taken_of ns) (length books) (Some turn)) lent_is earliest,
      ap taken_of written ∙ more ∙ ap (λ (ns : List Next). with_one_more (taken_of ns) turn.place) lent_is,
      subst (AreNext books) (sym written) then,
    )
