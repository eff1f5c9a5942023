-- The counts of blocks of slots stay right as slots are appended, emptied and dropped.
use Rattle.std.proofs.Common.{◌≡◌, ◌<◌, ◌≤◌, ◌+◌, ◌-◌, ◌*◌, ℕ, zero, suc, true, cond, List, ◌∷◌, [], ◌++◌, length, get_or, set, take, drop, replicate, Option, Some, None, inl, inr, refl, sym, ap, ◌∙◌, subst, arith, append_assoc}
use Rattle.std.specs.Option.{is_some}
use Rattle.std.proofs.lemmas.Bool.Decides.{leb_tells}
use Rattle.std.proofs.lemmas.List.{length-append, length-drop, length-take-le, length-replicate, take_all, drop_all, take-append-le, drop-append-le, get_or-take, get_or-drop, get_or-append-add, take-set-le, drop-set-lt, drop-set-add, drop-drop, set_split, set-append_right}
use Rattle.std.proofs.Math.Seq.{take-set-lt, take-add}
use native.Mathlib.Nat.{mul-suc, mul-le-mul_left}
use Rattle.ra_stamp.specs.declared.message.Message.{Message}
use Rattle.ra_bag.specs.declared.filled.Filled.{Filled}
use Rattle.ra_bag.specs.Bag.{messages_in}
use Rattle.ra_bag.specs.Filled.{AreCounts, IsShown, KeepsShown, count_of, after_gone}
use Rattle.ra_bag.proofs.Emptied.{in_both}

-- ---- How many slots have a message

count_more : (slots : List (Option Message)) (kept : Option Message) → count_of (slots ++ kept ∷ []) ≡ count_of slots + cond (is_some kept) 1 0
count_more slots kept = ap length (in_both slots (kept ∷ [])) ∙ length-append (messages_in slots) (messages_in (kept ∷ [])) ∙ ap (λ n. count_of slots + n) (by kept)
  where
    by : (kept : Option Message) → count_of (kept ∷ []) ≡ cond (is_some kept) 1 0
    by None = refl
    by (Some m) = refl

count_less : (slots : List (Option Message)) (i : ℕ) → i < length slots → is_some (get_or slots i None) ≡ true → count_of slots ≡ count_of (set slots i None) + 1
count_less [] i lt some = absurd (omega (arith, lt))
count_less (None ∷ slots) zero lt some = absurd cc
count_less (Some m ∷ slots) zero lt some = omega arith
count_less (None ∷ slots) (suc i) lt some = count_less slots i (omega (arith, lt)) some
count_less (Some m ∷ slots) (suc i) lt some = omega (arith, count_less slots i (omega (arith, lt)) some)

-- those of the first slots and those of the next ones
so_many : (slots : List (Option Message)) (i n : ℕ) → count_of (take (i + n) slots) ≡ count_of (take i slots) + count_of (take n (drop i slots))
so_many slots i n = ap count_of (take-add i n slots) ∙ ap length (in_both (take i slots) (take n (drop i slots))) ∙ length-append (messages_in (take i slots)) (messages_in (take n (drop i slots)))

-- those that are gone had none
pub none_gone : (gone n : ℕ) (slots : List (Option Message)) → count_of (take n (after_gone gone slots)) ≡ count_of (take (n - gone) slots)
none_gone zero n slots =
    let same : n ≡ n - 0 = omega arith in
    ap (λ m. count_of (take m slots)) same
none_gone (suc gone) zero slots =
    let none : 0 ≡ 0 - suc gone = omega arith in
    ap (λ m. count_of (take m slots)) none
none_gone (suc gone) (suc n) slots =
    let less : n - gone ≡ suc n - suc gone = omega arith in
    none_gone gone n slots ∙ ap (λ m. count_of (take m slots)) less

gone_length : (gone : ℕ) (slots : List (Option Message)) → length (after_gone gone slots) ≡ gone + length slots
gone_length gone slots = length-append (replicate gone None) slots ∙ ap (λ n. n + length slots) (length-replicate {A = Option Message} gone None)

-- ---- Blocks of one size

next_start : (size j : ℕ) → size * suc j ≡ size * j + size
next_start size j = mul-suc size j

module _ (size : ℕ) where
  at_most : (counts : List ℕ) (slots : List (Option Message)) → AreCounts size counts slots → length slots ≤ size * length counts
  at_most [] slots none = omega (arith, ap length none)
  at_most (n ∷ counts) slots (here, rest) = omega (arith, at_most counts (drop size slots) rest, length-drop size slots, next_start size (length counts))

  pub count_at : (counts : List ℕ) (slots : List (Option Message)) (j : ℕ) → j < length counts → AreCounts size counts slots → get_or counts j 0 ≡ count_of (take size (drop (size * j) slots))
  count_at [] slots j lt are = absurd (omega (arith, lt))
  count_at (n ∷ counts) slots zero lt (here, rest) =
      let start : 0 ≡ size * 0 = omega arith in
      here ∙ ap (λ m. count_of (take size (drop m slots))) start
  count_at (n ∷ counts) slots (suc j) lt (here, rest) =
      let next : size + size * j ≡ size * suc j = omega (arith, next_start size j) in
      count_at counts (drop size slots) j (omega (arith, lt)) rest
      ∙ ap (λ (l : List (Option Message)). count_of (take size l)) (drop-drop (size * j) size slots ∙ ap (λ n. drop n slots) next)

  added : (counts : List ℕ) (slots : List (Option Message)) (kept : Option Message) (j k : ℕ) → length slots ≡ size * j + k → k < size → j < length counts → AreCounts size counts slots
      → AreCounts size (set counts j (get_or counts j 0 + cond (is_some kept) 1 0)) (slots ++ kept ∷ [])
  added [] slots kept j k at lt less are = absurd (omega (arith, less))
  added (n ∷ counts) slots kept zero k at lt less (here, rest) =
      let len : length slots ≡ k = omega (arith, at) in
      let end : length (slots ++ kept ∷ []) ≤ size = omega (arith, len, lt, length-append slots (kept ∷ [])) in (
        ap (λ m. m + cond (is_some kept) 1 0) (here ∙ ap count_of (take_all size slots (omega (arith, len, lt)))) ∙ sym (count_more slots kept)
            ∙ sym (ap count_of (take_all size (slots ++ kept ∷ []) end)),
        subst (AreCounts size counts) (drop_all size slots (omega (arith, len, lt)) ∙ sym (drop_all size (slots ++ kept ∷ []) end)) rest,
      )
  added (n ∷ counts) slots kept (suc j) k at lt less (here, rest) =
      let full : size ≤ length slots = omega (arith, at, next_start size j) in (
        here ∙ sym (ap count_of (take-append-le size slots (kept ∷ []) full)),
        subst (AreCounts size (set counts j (get_or counts j 0 + cond (is_some kept) 1 0))) (sym (drop-append-le size slots (kept ∷ []) full))
            (added counts (drop size slots) kept j k (omega (arith, at, length-drop size slots, next_start size j)) lt (omega (arith, less)) rest),
      )

  pushed : (counts : List ℕ) (slots : List (Option Message)) (kept : Option Message) → 0 < size → length slots ≡ size * length counts → AreCounts size counts slots
      → AreCounts size (counts ++ cond (is_some kept) 1 0 ∷ []) (slots ++ kept ∷ [])
  pushed [] slots kept some at none =
      let one : length (kept ∷ []) ≤ size = omega (arith, some) in
      let count : cond (is_some kept) 1 0 ≡ count_of (take size (kept ∷ [])) = omega (arith, count_more [] kept, ap count_of (take_all size (kept ∷ []) one)) in
      subst (λ (l : List (Option Message)). AreCounts size (cond (is_some kept) 1 0 ∷ []) (l ++ kept ∷ [])) (sym none) (count, drop_all size (kept ∷ []) one)
  pushed (n ∷ counts) slots kept some at (here, rest) =
      let full : size ≤ length slots = omega (arith, at, next_start size (length counts)) in (
        here ∙ sym (ap count_of (take-append-le size slots (kept ∷ []) full)),
        subst (AreCounts size (counts ++ cond (is_some kept) 1 0 ∷ [])) (sym (drop-append-le size slots (kept ∷ []) full))
            (pushed counts (drop size slots) kept some (omega (arith, at, length-drop size slots, next_start size (length counts))) rest),
      )

  -- the count of the block of the next slot, which may be the first slot of a further block, grows if it has a message
  grown : (counts new : List ℕ) (slots : List (Option Message)) (kept : Option Message) (j k more : ℕ) → length slots ≡ size * j + k → k < size → more ≡ cond (is_some kept) 1 0
      → (j < length counts → new ≡ set counts j (get_or counts j 0 + more)) → (length counts ≤ j → new ≡ counts ++ more ∷ [])
      → AreCounts size counts slots → AreCounts size new (slots ++ kept ∷ [])
  grown counts new slots kept j k more at lt extra there after are = elim (leb_tells (length counts) j) [
    | inl end ↦
        let wide : size * length counts ≤ size * j = mul-le-mul_left size end.1 in
        let within = at_most counts slots are in
        let full : length slots ≡ size * length counts = omega (arith, at, wide, within) in
        subst (λ (l : List ℕ). AreCounts size l (slots ++ kept ∷ [])) (sym (after end.1 ∙ ap (λ m. counts ++ m ∷ []) extra))
        (pushed counts slots kept (omega (arith, lt)) full are)
    | inr near ↦
        subst (λ (l : List ℕ). AreCounts size l (slots ++ kept ∷ [])) (sym (there near.1 ∙ ap (λ m. set counts j (get_or counts j 0 + m)) extra))
        (added counts slots kept j k at lt near.1 are)
  ]

  -- the count of the block of a slot that has a message falls by one
  taken : (counts : List ℕ) (slots : List (Option Message)) (i j k : ℕ) → i ≡ size * j + k → k < size → i < length slots → is_some (get_or slots i None) ≡ true → AreCounts size counts slots
      → (less : ℕ) × (j < length counts) × (get_or counts j 0 ≡ less + 1) × AreCounts size (set counts j less) (set slots i None)
  taken [] slots i j k at lt there some none = absurd (omega (arith, there, ap length none))
  taken (n ∷ counts) slots i zero k at lt there some (here, rest) =
      let near : i < size = omega (arith, at, lt) in
      let within : i < length (take size slots) = by slots i near there in
      let same : is_some (get_or (take size slots) i None) ≡ true = ap is_some (get_or-take size slots i None near) ∙ some in
      let less = count_of (set (take size slots) i None) in (
        less,
        omega arith,
        here ∙ count_less (take size slots) i within same,
        (ap count_of (sym (take-set-lt size slots i None near)), subst (AreCounts size counts) (sym (drop-set-lt size slots i None near)) rest),
      )
    where
      by : (slots : List (Option Message)) (i : ℕ) → i < size → i < length slots → i < length (take size slots)
      by slots i near there = elim (leb_tells size (length slots)) [
        | inl le ↦ omega (arith, near, length-take-le size slots le.1)
        | inr gt ↦ omega (arith, there, ap length (take_all size slots (omega (arith, gt.1))))
      ]
  taken (n ∷ counts) slots i (suc j) k at lt there some (here, rest) =
      let later = i - size in
      let is_later : i ≡ size + later = omega (arith, at, next_start size j) in
      let len = length-drop size slots in
      let (less, within, has, are) = taken counts (drop size slots) later j k (omega (arith, at, next_start size j)) lt (omega (arith, there, is_later, len))
      (ap is_some (get_or-drop size slots later None ∙ ap (λ n. get_or slots n None) (sym is_later)) ∙ some) rest in (
        less,
        omega (arith, within),
        has,
        (
          here ∙ sym (ap count_of (take-set-le size slots i None (omega (arith, is_later)))),
          subst (AreCounts size (set counts j less)) (sym (ap (λ n. drop size (set slots n None)) is_later ∙ drop-set-add size slots later None)) are,
        ),
      )

  -- an empty slot at the end is dropped
  without_last : (counts : List ℕ) (slots : List (Option Message)) → AreCounts size counts (slots ++ None ∷ []) → AreCounts size counts slots
  without_last [] slots none = absurd (omega (arith, ap length none, length-append slots (None ∷ [])))
  without_last (n ∷ counts) slots (here, rest) = elim (leb_tells size (length slots)) [
    | inl full ↦ (
      here ∙ ap count_of (take-append-le size slots (None ∷ []) full.1),
      without_last counts (drop size slots) (subst (AreCounts size counts) (drop-append-le size slots (None ∷ []) full.1) rest),
    )
    | inr short ↦
        let len = length-append slots (None ∷ []) in (
          here ∙ ap count_of (take_all size (slots ++ None ∷ []) (omega (arith, len, short.1))) ∙ count_more slots None ∙ omega arith
              ∙ ap count_of (sym (take_all size slots (omega (arith, short.1)))),
          subst (AreCounts size counts) (drop_all size (slots ++ None ∷ []) (omega (arith, len, short.1)) ∙ sym (drop_all size slots (omega (arith, short.1)))) rest,
        )
  ]

  -- the next block is skipped
  pub next_block : (counts : List ℕ) (slots : List (Option Message)) (j left count place : ℕ) → AreCounts size counts slots → j < length counts → count ≡ get_or counts j 0 → count ≤ left
      → left + count_of (take (size * j) slots) ≡ place → (left - count) + count_of (take (size * (j + 1)) slots) ≡ place
  next_block counts slots j left count place are lt is le before =
      let suc_is : j + 1 ≡ suc j = omega arith in
      let next : size * (j + 1) ≡ size * j + size = ap (λ n. size * n) suc_is ∙ next_start size j in
      omega (
        arith,
        is,
        le,
        before,
        count_at counts slots j lt are,
        so_many slots (size * j) size,
        ap (λ n. count_of (take n slots)) next,
      )

  -- ---- After slots that are gone

  module _ (counts : List ℕ) (gone : ℕ) (slots : List (Option Message)) (are : AreCounts size counts (after_gone gone slots)) where
    pub count_added : (new : List ℕ) (kept : Option Message) (j k more : ℕ) → gone + length slots ≡ size * j + k → k < size → more ≡ cond (is_some kept) 1 0
        → (j < length counts → new ≡ set counts j (get_or counts j 0 + more)) → (length counts ≤ j → new ≡ counts ++ more ∷ [])
        → AreCounts size new (after_gone gone (slots ++ kept ∷ []))
    count_added new kept j k more at lt extra there after =
        subst (AreCounts size new) (append_assoc (replicate gone None) slots (kept ∷ []))
        (grown counts new (after_gone gone slots) kept j k more (gone_length gone slots ∙ at) lt extra there after are)

    pub count_taken : (new : List ℕ) (slot at j k : ℕ) → at ≡ gone + slot → at ≡ size * j + k → k < size → slot < length slots → is_some (get_or slots slot None) ≡ true
        → ((less : ℕ) → j < length counts → get_or counts j 0 ≡ less + 1 → new ≡ set counts j less)
        → AreCounts size new (after_gone gone (set slots slot None))
    count_taken new slot at j k is at_is small lt some made =
        let len = length-replicate {A = Option Message} gone None in
        let index : length (replicate {A = Option Message} gone None) + slot ≡ at = omega (arith, len, is) in
        let (less, there, has, has_counts) = taken counts (after_gone gone slots) at j k at_is small (omega (arith, is, lt, gone_length gone slots))
        (ap is_some (ap (λ n. get_or (after_gone gone slots) n None) (sym index) ∙ get_or-append-add (replicate gone None) slots slot None) ∙ some) are in
        let moved : set (after_gone gone slots) at None ≡ after_gone gone (set slots slot None) =
        set-append_right (replicate gone None) slots gone at None len (omega (arith, is)) ∙ ap (λ n. replicate gone None ++ set slots n None) (omega (arith, is)) in
        subst (AreCounts size new) moved
        (subst (λ (l : List ℕ). AreCounts size l (set (after_gone gone slots) at None)) (sym (made less there has)) has_counts)

  count_without_last : (counts : List ℕ) (gone : ℕ) (slots : List (Option Message)) (i : ℕ) → i + 1 ≡ length slots → AreCounts size counts (after_gone gone (set slots i None))
      → AreCounts size counts (after_gone gone (take i slots))
  count_without_last counts gone slots i last are =
      let split = set_split slots i None (omega (arith, last)) ∙ ap (λ (l : List (Option Message)). take i slots ++ None ∷ l) (drop_all (suc i) slots (omega (arith, last))) in
      without_last counts (after_gone gone (take i slots))
      (subst (AreCounts size counts) (ap (λ (l : List (Option Message)). replicate gone None ++ l) split ∙ sym (append_assoc (replicate gone None) (take i slots) (None ∷ []))) are)

-- ---- Blocks of three sizes

pub shown_without_last : (filled : Filled) (slots : List (Option Message)) (i : ℕ) → i + 1 ≡ length slots → KeepsShown filled (set slots i None) → KeepsShown filled (take i slots)
shown_without_last filled slots i last shown some =
    let old = shown some in
    record {
      small = count_without_last 16 filled.small.items filled.gone slots i last old.small;
      middle = count_without_last 256 filled.middle.items filled.gone slots i last old.middle;
      large = count_without_last 4096 filled.large.items filled.gone slots i last old.large;
      noted = sym (none_last slots i filled.noted_slot last) ∙ old.noted;
    }
  where
    none_last : (slots : List (Option Message)) (i n : ℕ) → i + 1 ≡ length slots → count_of (take n (set slots i None)) ≡ count_of (take n (take i slots))
    none_last [] i n last = absurd (omega (arith, last))
    none_last (slot ∷ slots) zero zero last = refl
    none_last (slot ∷ []) zero (suc n) last = by n
      where
        by : (n : ℕ) → count_of (take n []) ≡ 0
        by zero = refl
        by (suc n) = refl
    none_last (slot ∷ next ∷ slots) zero (suc n) last = absurd (omega (arith, last))
    none_last (slot ∷ slots) (suc i) zero last = refl
    none_last (None ∷ slots) (suc i) (suc n) last = none_last slots i n (omega (arith, last))
    none_last (Some m ∷ slots) (suc i) (suc n) last = ap suc (none_last slots i n (omega (arith, last)))

-- no slots have no counts
pub none_shown : (filled : Filled) → filled.small.items ≡ [] → filled.middle.items ≡ [] → filled.large.items ≡ [] → filled.gone ≡ 0 → (filled.noted ≡ 0) × (filled.noted_slot ≡ 0) → IsShown filled []
none_shown filled small middle large gone noted =
    record { small = rw (small, gone); middle = rw (middle, gone); large = rw (large, gone); noted = ap (λ n. count_of (take n [])) noted.1 ∙ sym noted.0 }
