-- Lists in parts.
use Rattle.std.proofs.Common.{◌≡◌, ◌⊎◌, ℕ, ◌+◌, ◌<◌, List, [], ◌∷◌, ◌++◌, length, get_or, take, drop, zero, suc, refl, sym, ap, ◌∙◌, subst, inl, inr, arith}
use Rattle.std.specs.Prelude.{Contains, Option, Some, slice_get}
use Rattle.std.specs.List.{Any, flat_map}
use Rattle.std.proofs.lemmas.List.{take_more, take-append-drop, drop_more, length-append, get_or_append_left, get_or-append-add}
use Rattle.std.proofs.lemmas.Option.{slice_get-get_or}
use Rattle.std.proofs.lemmas.List.Elements.{Contains-append_cases, Contains-append_left, Contains-append_right}

-- a list in two parts, with what is between
pub split : {X : Type 0} (xs : List X) (i : ℕ) (x : X) → i < length xs → x ≡ get_or xs i x → xs ≡ take i xs ++ x ∷ drop (i + 1) xs
split xs i x within at = sym (take-append-drop i xs) ∙ ap (λ ys. take i xs ++ ys) (drop_more xs i x within ∙ ap (λ y. y ∷ drop (i + 1) xs) (sym at))

pub more : {X : Type 0} (xs : List X) (i : ℕ) (x : X) → i < length xs → x ≡ get_or xs i x → take (i + 1) xs ≡ take i xs ++ x ∷ []
more xs i x within at = take_more xs i x within ∙ ap (λ y. take i xs ++ y ∷ []) (sym at)

-- ---- Some of a list

pub any_left : {X : Type 0} (P : X → Type 0) (xs ys : List X) → Any P xs → Any P (xs ++ ys)
any_left P xs ys is = (is.0, is.1, omega (arith, is.2, length-append xs ys), get_or_append_left xs ys is.1 is.0 is.2 ∙ is.3, is.4)

pub any_right : {X : Type 0} (P : X → Type 0) (xs ys : List X) → Any P ys → Any P (xs ++ ys)
any_right P xs ys is = (length xs + is.0, is.1, omega (arith, is.2, length-append xs ys), get_or-append-add xs ys is.0 is.1 ∙ is.3, is.4)

pub any_first : {X : Type 0} (P : X → Type 0) (x : X) (xs : List X) → P x → Any P (x ∷ xs)
any_first P x xs p = (0, x, omega arith, refl, p)

-- ---- Joined lists

-- what is in one of several joined lists, and in which one
pub in_one : {X Y : Type 0} (f : X → List Y) (xs : List X) (y : Y) → Contains (flat_map f xs) y → Any (λ x. Contains (f x) y) xs
in_one f [] y is = absurd (omega (arith, is.1))
in_one f (x ∷ xs) y is =
    elim (Contains-append_cases (f x) (flat_map f xs) y is) [
      | inl here ↦ any_first (λ x. Contains (f x) y) x xs here
      | inr later ↦ any_right (λ x. Contains (f x) y) (x ∷ []) xs (in_one f xs y later)
    ]

pub in_all : {X Y : Type 0} (f : X → List Y) (xs : List X) (y : Y) → Any (λ x. Contains (f x) y) xs → Contains (flat_map f xs) y
in_all f [] y is = absurd (omega (arith, is.2))
in_all {X} f (x ∷ xs) y is = at is.0 is.1 is.2 is.3 is.4 (λ k z low e here. in_all f xs y (k, z, low, e, here))
  where
    at : (k : ℕ) (z : X) → k < length (x ∷ xs) → get_or (x ∷ xs) k z ≡ z → Contains (f z) y
        → ((k : ℕ) (z : X) → k < length xs → get_or xs k z ≡ z → Contains (f z) y → Contains (flat_map f xs) y) → Contains (flat_map f (x ∷ xs)) y
    at zero z low e here later = Contains-append_left (f x) (flat_map f xs) y (subst (λ w. Contains (f w) y) (sym e) here)
    at (suc k) z low e here later = Contains-append_right (f x) (flat_map f xs) y (later k z (omega (arith, low)) e here)

-- ---- Members

pub first : {X : Type 0} (x : X) (xs : List X) → Contains (x ∷ xs) x
first x xs = (0, omega arith, refl)

pub later : {X : Type 0} (x : X) (xs : List X) (y : X) → Contains xs y → Contains (x ∷ xs) y
later x xs y is = (suc is.0, omega (arith, is.1), is.2)

pub first_or_later : {X : Type 0} (x : X) (xs : List X) (y : X) → Contains (x ∷ xs) y → (x ≡ y) ⊎ Contains xs y
first_or_later x xs y is = at is.0 is.1 is.2
  where
    at : (k : ℕ) → k < length (x ∷ xs) → get_or (x ∷ xs) k y ≡ y → (x ≡ y) ⊎ Contains xs y
    at zero low e = inl e
    at (suc k) low e = inr (k, omega arith, e)

-- ---- Places

pub is_there : {X : Type 0} (xs : List X) (k : ℕ) {o : Option X} → k < length xs → o ≡ slice_get xs k → ((x : X) → o ≡ Some x → ⊥) → ⊥
is_there [] k low is none = omega (arith, low)
is_there (x ∷ xs) k low is none = none (get_or (x ∷ xs) k x) (is ∙ slice_get-get_or (x ∷ xs) k x low)
