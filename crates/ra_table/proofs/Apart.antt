-- Lists into which one element was put anywhere, or from which one was taken.
use Rattle.std.proofs.Common.{◌≡◌, zero, suc, List, [], ◌∷◌, ◌++◌, length, get_or, All, AllPairs, Contains, refl, arith, inl, inr}
use Rattle.std.specs.Prelude.{◌⊎◌}
use Rattle.std.proofs.lemmas.List.Elements.{All-cons, All-head, All-tail, Contains-get_or, Contains-append_left, Contains-append_right, Contains-append_cases}
use Rattle.std.proofs.lemmas.List.{length-append, get_or_at}
use Rattle.std.proofs.lemmas.List.Kept.{AllPairs-cons}

-- R holds of each element and each later one, by recursion
abbrev pub Apart : {X : Type 0} → (X → X → Type 0) → List X → Type 0
Apart R [] = Unit {0}
Apart R (x ∷ xs) = All (R x) xs × Apart R xs

pub AllPairs-apart : {X : Type 0} (R : X → X → Type 0) (xs : List X) → Apart R xs → AllPairs R xs
AllPairs-apart R [] apart = λ i j d lt within. absurd (omega arith)
AllPairs-apart R (x ∷ xs) apart = AllPairs-cons R x xs apart.0 (AllPairs-apart R xs apart.1)

pub Apart-from_pairs : {X : Type 0} (R : X → X → Type 0) (xs : List X) → AllPairs R xs → Apart R xs
Apart-from_pairs R [] pairs = tt
Apart-from_pairs R (x ∷ xs) pairs = (
  λ k d lt. pairs 0 (suc k) d (omega arith) (omega (arith, lt)),
  Apart-from_pairs R xs (λ i j d lt within. pairs (suc i) (suc j) d (omega (arith, lt)) (omega (arith, within))),
)

-- ---- each element

pub All-put : {X : Type 0} (P : X → Type 0) (prefix rest : List X) (x : X) → All P (prefix ++ rest) → P x → All P (prefix ++ x ∷ rest)
All-put P [] rest x all p = All-cons P x rest p all
All-put P (y ∷ prefix) rest x all p =
    All-cons P y (prefix ++ x ∷ rest) (All-head P y (prefix ++ rest) all) (All-put P prefix rest x (All-tail P y (prefix ++ rest) all) p)

pub All-taken : {X : Type 0} (P : X → Type 0) (prefix rest : List X) (x : X) → All P (prefix ++ x ∷ rest) → All P (prefix ++ rest)
All-taken P [] rest x all = All-tail P x rest all
All-taken P (y ∷ prefix) rest x all =
    All-cons P y (prefix ++ rest) (All-head P y (prefix ++ x ∷ rest) all) (All-taken P prefix rest x (All-tail P y (prefix ++ x ∷ rest) all))

pub All-there : {X : Type 0} (P : X → Type 0) (prefix rest : List X) (x : X) → All P (prefix ++ x ∷ rest) → P x
All-there P [] rest x all = All-head P x rest all
All-there P (y ∷ prefix) rest x all = All-there P prefix rest x (All-tail P y (prefix ++ x ∷ rest) all)

-- ---- each two elements, of a relation that does not depend on their order

pub Apart-put : {X : Type 0} (R : X → X → Type 0) → ((a b : X) → R a b → R b a) → (prefix rest : List X) (x : X)
    → Apart R (prefix ++ rest) → All (R x) (prefix ++ rest) → Apart R (prefix ++ x ∷ rest)
Apart-put R flip [] rest x apart all = (all, apart)
Apart-put R flip (y ∷ prefix) rest x apart all = (
  All-put (R y) prefix rest x apart.0 (flip x y (All-head (R x) y (prefix ++ rest) all)),
  Apart-put R flip prefix rest x apart.1 (All-tail (R x) y (prefix ++ rest) all),
)

pub Apart-taken : {X : Type 0} (R : X → X → Type 0) (prefix rest : List X) (x : X) → Apart R (prefix ++ x ∷ rest) → Apart R (prefix ++ rest)
Apart-taken R [] rest x apart = apart.1
Apart-taken R (y ∷ prefix) rest x apart = (All-taken (R y) prefix rest x apart.0, Apart-taken R prefix rest x apart.1)

pub All-apart : {X : Type 0} (R : X → X → Type 0) → ((a b : X) → R a b → R b a) → (prefix rest : List X) (x : X)
    → Apart R (prefix ++ x ∷ rest) → All (R x) (prefix ++ rest)
All-apart R flip [] rest x apart = apart.0
All-apart R flip (y ∷ prefix) rest x apart =
    All-cons (R x) y (prefix ++ rest) (flip y x (All-there (R y) prefix rest x apart.0)) (All-apart R flip prefix rest x apart.1)

-- ---- what a list contains

pub Contains-there : {X : Type 0} (prefix rest : List X) (x : X) → Contains (prefix ++ x ∷ rest) x
Contains-there prefix rest x = (length prefix, simp length-append (omega arith), get_or_at prefix x rest x (length prefix) refl)

pub Contains-tail : {X : Type 0} (x : X) (xs : List X) (y : X) → Contains xs y → Contains (x ∷ xs) y
Contains-tail x xs y at = (suc at.0, omega arith, at.2)

pub Contains-cons_cases : {X : Type 0} (x : X) (xs : List X) (y : X) → Contains (x ∷ xs) y → (x ≡ y) ⊎ Contains xs y
Contains-cons_cases x xs y (zero, lt, is) = inl is
Contains-cons_cases x xs y (suc k, lt, is) = inr (k, omega arith, is)

pub Contains-put : {X : Type 0} (prefix rest : List X) (x y : X) → Contains (prefix ++ rest) y → Contains (prefix ++ x ∷ rest) y
Contains-put prefix rest x y at =
    elim (Contains-append_cases prefix rest y at) [
      | inl before ↦ Contains-append_left prefix (x ∷ rest) y before
      | inr after ↦ Contains-append_right prefix (x ∷ rest) y (Contains-tail x rest y after)
    ]

-- what is in the longer list is the one element, or is in the shorter list
pub Contains-cases : {X : Type 0} (prefix rest : List X) (x y : X) → Contains (prefix ++ x ∷ rest) y → (x ≡ y) ⊎ Contains (prefix ++ rest) y
Contains-cases prefix rest x y at =
    elim (Contains-append_cases prefix (x ∷ rest) y at) [
      | inl before ↦ inr (Contains-append_left prefix rest y before)
      | inr after ↦ elim (Contains-cons_cases x rest y after) [
        | inl same ↦ inl same
        | inr later ↦ inr (Contains-append_right prefix rest y later)
      ]
    ]

pub All-from_contains : {X : Type 0} (P : X → Type 0) (xs : List X) → ((x : X) → Contains xs x → P x) → All P xs
All-from_contains P xs each = λ k d lt. each (get_or xs k d) (Contains-get_or xs k d lt)
