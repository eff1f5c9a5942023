-- A list with a new item at its end, taken apart at another place.
use Rattle.std.proofs.Common.{◌≡◌, ◌⊎◌, ℕ, zero, suc, ◌<◌, List, [], ◌∷◌, ◌++◌, length, take, drop, ap, refl, arith, inl, inr}

-- the list is taken apart at its last item, or at one of the list before
pub split_last : {X : Type 0} (xs : List X) (x : X) (before after : List X) (y : X) → xs ++ x ∷ [] ≡ before ++ y ∷ after
    → ((before ≡ xs) × (y ≡ x) × (after ≡ [])) ⊎ ((rest : List X) × (after ≡ rest ++ x ∷ []) × (xs ≡ before ++ y ∷ rest))
split_last [] x [] after y e = inl (refl, cc, cc)
split_last [] x (z ∷ []) after y e = absurd cc
split_last [] x (z ∷ w ∷ before) after y e = absurd cc
split_last (w ∷ xs) x [] after y e = inr (xs, cc, cc)
split_last (w ∷ xs) x (z ∷ before) after y e =
    let head : w ≡ z = cc in
    let tail : xs ++ x ∷ [] ≡ before ++ y ∷ after = cc in
    elim (split_last xs x before after y tail) [
      | inl h ↦ let same = h.0 in inl (cc, h.1, h.2)
      | inr h ↦ let same = h.2 in inr (h.0, h.1, cc)
    ]

-- the item at a place, with what is before it and after it
pub at_place : {X : Type 0} (n : ℕ) (xs : List X) → n < length xs
    → (x : X) × (xs ≡ take n xs ++ x ∷ drop (suc n) xs) × (take (suc n) xs ≡ take n xs ++ x ∷ [])
at_place n [] less = absurd (omega arith)
at_place zero (x ∷ xs) less = (x, refl, refl)
at_place (suc n) (y ∷ xs) less =
    let (x, whole, prefix_is) = at_place n xs (omega arith) in
    (x, ap (λ zs. y ∷ zs) whole, ap (λ zs. y ∷ zs) prefix_is)
