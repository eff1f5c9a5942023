-- A walk from an item of a list to one that is above it, again and again, comes to an end.
use Rattle.std.proofs.Common.{◌≡◌, ◌⊎◌, ℕ, zero, suc, ◌+◌, ◌<◌, ◌≤◌, List, [], ◌∷◌, Contains, sym, subst, arith, inl, inr}

-- 1 for a fact that holds, and 0 for one that does not
abbrev pub weight : {X Y : Type 0} → X ⊎ Y → ℕ
weight (inl x) = 1
weight (inr y) = 0

module _ {A : Type 0} (Below : A → A → Type 0) (decide : (a b : A) → Below a b ⊎ (Below a b → ⊥))
    (trans : (a b c : A) → Below a b → Below b c → Below a c) (irreflexive : (a : A) → Below a a → ⊥) where
  -- how many items of the list are above this one
  abbrev pub above : A → List A → ℕ
  above x [] = 0
  above x (y ∷ ys) = weight (decide x y) + above x ys

  weight_some : (x y : A) → Below x y → weight (decide x y) ≡ 1
  weight_some x y less = elim (decide x y) as (λ d. weight d ≡ 1) [ inl it_is ↦ omega arith | inr it_is_not ↦ absurd (it_is_not less) ]

  weight_none : (x y : A) → (Below x y → ⊥) → weight (decide x y) ≡ 0
  weight_none x y not = elim (decide x y) as (λ d. weight d ≡ 0) [ inl it_is ↦ absurd (not it_is) | inr it_is_not ↦ omega arith ]

  lighter : (x y z : A) → Below x y → weight (decide y z) ≤ weight (decide x z)
  lighter x y z less = elim (decide y z) as (λ d. weight d ≤ weight (decide x z)) [
    | inl it_is ↦ omega (arith, weight_some x z (trans x y z less it_is))
    | inr it_is_not ↦ omega arith
  ]

  fewer : (x y : A) (zs : List A) → Below x y → above y zs ≤ above x zs
  fewer x y [] less = omega arith
  fewer x y (z ∷ zs) less = omega (arith, lighter x y z less, fewer x y zs less)

  fewer_by_one : (x y : A) (zs : List A) → Below x y → Contains zs y → above y zs < above x zs
  fewer_by_one x y [] less at = absurd (omega (arith, at.1))
  fewer_by_one x y (z ∷ zs) less (zero, within, is) =
      let more = weight_some x z (subst (Below x) (sym is) less) in
      let none = weight_none y z (λ h. irreflexive y (subst (Below y) is h)) in
      omega (arith, more, none, fewer x y zs less)
  fewer_by_one x y (z ∷ zs) less (suc k, within, is) =
      omega (arith, lighter x y z less, fewer_by_one x y zs less (k, omega (arith, within), is))

  -- from each item one comes to the goal, or to an item above it
  climbs : (P : A → Type 0) (Goal : Type 0) (zs : List A) → ((x : A) → P x → Contains zs x)
      → ((x : A) → P x → Goal ⊎ ((y : A) × P y × Below x y)) → (bound : ℕ) (x : A) → P x → above x zs < bound → Goal
  climbs P Goal zs all steps zero x p less = absurd (omega (arith, less))
  climbs P Goal zs all steps (suc bound) x p less = elim (steps x p) [
    | inl goal ↦ goal
    | inr up ↦ climbs P Goal zs all steps bound up.0 up.1 (omega (arith, less, fewer_by_one x up.0 zs up.2 (all up.0 up.1)))
  ]

  pub climbed : (P : A → Type 0) (Goal : Type 0) (zs : List A) → ((x : A) → P x → Contains zs x)
      → ((x : A) → P x → Goal ⊎ ((y : A) × P y × Below x y)) → (x : A) → P x → Goal
  climbed P Goal zs all steps x p = climbs P Goal zs all steps (above x zs + 1) x p (omega arith)
