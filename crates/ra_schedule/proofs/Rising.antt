-- Lists of numbers, each of them below the next.
use Rattle.std.proofs.Common.{◌≡◌, ◌⊎◌, ℕ, zero, suc, ◌+◌, ◌<◌, List, [], ◌∷◌, ◌++◌, length, get_or, refl, sym, ap, ◌∙◌, subst, arith, inl, inr}
use Rattle.std.specs.Prelude.{Contains}
use Rattle.std.specs.List.Sorted.{IsStrictlyIncreasing}
use Rattle.std.proofs.lemmas.Bool.{cases_eq}
use Rattle.std.proofs.lemmas.List.{get_or_append_left, length-append}
use Rattle.std.proofs.lemmas.Grind.{get_or_default_zero}
use Rattle.std.proofs.lemmas.List.Kept.{AllPairs-from_increasing}
use Rattle.std.proofs.Math.Seq.{get_or-append_seam}

-- the later one of two items is the greater one
pub later_is_above : (xs : List ℕ) (i j : ℕ) → IsStrictlyIncreasing xs → i < j → j < length xs → get_or xs i 0 < get_or xs j 0
later_is_above xs i j rises less within = AllPairs-from_increasing xs rises i j 0 less within

-- another item at the end, above all others
pub rises_more : (xs : List ℕ) (x : ℕ) → IsStrictlyIncreasing xs → ((k : ℕ) → k < length xs → get_or xs k 0 < x)
    → IsStrictlyIncreasing (xs ++ x ∷ [])
rises_more xs x rises above k within =
    let len : length (xs ++ x ∷ []) ≡ length xs + 1 = length-append xs (x ∷ []) in
    let this : get_or (xs ++ x ∷ []) k 0 ≡ get_or xs k 0 = get_or_append_left xs (x ∷ []) 0 k (omega arith) in
    elim (cases_eq (k + 1) (length xs)) [
      | inl last ↦
          let end : get_or (xs ++ x ∷ []) (k + 1) 0 ≡ x = ap (λ (i : ℕ). get_or (xs ++ x ∷ []) i 0) last ∙ get_or-append_seam xs x [] 0 in
          let below = above k (omega arith) in
          omega arith
      | inr inner ↦
          let next : get_or (xs ++ x ∷ []) (k + 1) 0 ≡ get_or xs (k + 1) 0 = get_or_append_left xs (x ∷ []) 0 (k + 1) (omega arith) in
          let below = rises k (omega arith) in
          omega arith
    ]

-- ---- Two such lists with the same items are one

rest_rises : (x : ℕ) (xs : List ℕ) → IsStrictlyIncreasing (x ∷ xs) → IsStrictlyIncreasing xs
rest_rises x xs rises k within = later_is_above (x ∷ xs) (suc k) (suc (k + 1)) rises (omega arith) (omega arith)

first_is_below : (x : ℕ) (xs : List ℕ) (y : ℕ) → IsStrictlyIncreasing (x ∷ xs) → Contains xs y → x < y
first_is_below x xs y rises (k, within, is) =
    let less : x < get_or xs k y = subst (λ (z : ℕ). x < z) (sym (get_or_default_zero xs k y within)) (later_is_above (x ∷ xs) 0 (suc k) rises (omega arith) (omega arith)) in
    omega arith

in_rest : (x : ℕ) (xs : List ℕ) (y : ℕ) → Contains (x ∷ xs) y → (x ≡ y) ⊎ Contains xs y
in_rest x xs y (zero, within, is) = inl is
in_rest x xs y (suc k, within, is) = inr (k, omega arith, is)

in_tail : (x : ℕ) (xs : List ℕ) (y : ℕ) → Contains xs y → Contains (x ∷ xs) y
in_tail x xs y (k, within, is) = (suc k, omega arith, is)

same_first : (x y : ℕ) (xs ys : List ℕ) → IsStrictlyIncreasing (x ∷ xs) → IsStrictlyIncreasing (y ∷ ys)
    → Contains (y ∷ ys) x → Contains (x ∷ xs) y → x ≡ y
same_first x y xs ys a b here there =
    elim (in_rest y ys x here) [
      | inl same ↦ sym same
      | inr later ↦
          elim (in_rest x xs y there) [
            | inl same ↦ same
            | inr too ↦
                let above = first_is_below y ys x b later in
                let below = first_is_below x xs y a too in
                absurd (omega arith)
          ]
    ]

rest_has : (x y : ℕ) (xs ys : List ℕ) → x ≡ y → IsStrictlyIncreasing (x ∷ xs) → ((n : ℕ) → Contains (x ∷ xs) n → Contains (y ∷ ys) n)
    → (n : ℕ) → Contains xs n → Contains ys n
rest_has x y xs ys same rises all n has =
    elim (in_rest y ys n (all n (in_tail x xs n has))) [
      | inl first ↦ let above = first_is_below x xs n rises has in absurd (omega arith)
      | inr later ↦ later
    ]

pub same_items : (xs ys : List ℕ) → IsStrictlyIncreasing xs → IsStrictlyIncreasing ys
    → ((n : ℕ) → Contains xs n → Contains ys n) → ((n : ℕ) → Contains ys n → Contains xs n) → xs ≡ ys
same_items [] [] a b to from = refl
same_items [] (y ∷ ys) a b to from = let has = from y (0, omega arith, refl) in absurd (nothing has)
  where
    nothing : {n : ℕ} → Contains [] n → ⊥
    nothing (k, within, is) = omega arith
same_items (x ∷ xs) [] a b to from = let has = to x (0, omega arith, refl) in absurd (nothing has)
  where
    nothing : {n : ℕ} → Contains [] n → ⊥
    nothing (k, within, is) = omega arith
same_items (x ∷ xs) (y ∷ ys) a b to from =
    let first : x ≡ y = same_first x y xs ys a b (to x (0, omega arith, refl)) (from y (0, omega arith, refl)) in
    let rest : xs ≡ ys = same_items xs ys (rest_rises x xs a) (rest_rises y ys b)
    (rest_has x y xs ys first a to) (rest_has y x ys xs (sym first) b from) in
    cc
