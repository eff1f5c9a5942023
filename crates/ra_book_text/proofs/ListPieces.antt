-- Lists, piece by piece.
use Rattle.std.proofs.Common.{◌≢◌, suc, ◌+◌, List, [], ◌∷◌, ◌++◌, length, get_or, sym, subst, ◌∙◌, arith}
use Rattle.std.specs.Prelude.{All, AllPairs}
use Rattle.std.specs.List.{flat_map}
use Rattle.std.proofs.lemmas.List.{length-append, get_or_append_left, get_or-append-add, get_or_default}
use Rattle.std.proofs.lemmas.List.Elements.{All-append, All-cons, All-head, All-nil, All-tail}
use Rattle.std.proofs.lemmas.List.Kept.{AllPairs-cons}
use Rattle.ra_book.specs.Settled.{Repeats}

abbrev pub AreDifferent : {X : Type 0} → List X → Type 0
AreDifferent xs = AllPairs (λ a b. a ≢ b) xs

-- what does not repeat has no two equal elements
pub never_twice : {X : Type 0} (xs : List X) → (Repeats xs → ⊥) → AreDifferent xs
never_twice xs none i j d below within same =
    none (record {
      first = i;
      second = j;
      item = get_or xs i d;
      in_order = below;
      within = within;
      first_is = get_or_default xs i (get_or xs i d) d (omega (arith, below, within));
      second_is = get_or_default xs j (get_or xs i d) d within ∙ sym same;
    })

module _ {X : Type 0} where
  pub all_left : (P : X → Type 0) (xs ys : List X) → All P (xs ++ ys) → All P xs
  all_left P xs ys all k d low = subst P (get_or_append_left xs ys d k low) (all k d (omega (arith, low, length-append xs ys)))

  pub all_right : (P : X → Type 0) (xs ys : List X) → All P (xs ++ ys) → All P ys
  all_right P xs ys all k d low = subst P (get_or-append-add xs ys k d) (all (length xs + k) d (omega (arith, low, length-append xs ys)))

  pub pairs_left : (R : X → X → Type 0) (xs ys : List X) → AllPairs R (xs ++ ys) → AllPairs R xs
  pairs_left R xs ys pairs i j d below within =
      subst (λ x. R x (get_or xs j d)) (get_or_append_left xs ys d i (omega (arith, below, within)))
      (subst (λ x. R (get_or (xs ++ ys) i d) x) (get_or_append_left xs ys d j within) (pairs i j d below (omega (arith, within, length-append xs ys))))

  pub pairs_right : (R : X → X → Type 0) (xs ys : List X) → AllPairs R (xs ++ ys) → AllPairs R ys
  pairs_right R xs ys pairs i j d below within =
      subst (λ x. R x (get_or ys j d)) (get_or-append-add xs ys i d)
      (subst (λ x. R (get_or (xs ++ ys) (length xs + i) d) x) (get_or-append-add xs ys j d)
      (pairs (length xs + i) (length xs + j) d (omega (arith, below)) (omega (arith, within, length-append xs ys))))

  -- of pairs the first one, with each that comes later
  pub pairs_first : (R : X → X → Type 0) (x : X) (xs : List X) → AllPairs R (x ∷ xs) → All (R x) xs
  pairs_first R x xs pairs k d low = pairs 0 (suc k) d (omega arith) (omega (arith, low))

  pub pairs_rest : (R : X → X → Type 0) (x : X) (xs : List X) → AllPairs R (x ∷ xs) → AllPairs R xs
  pairs_rest R x xs pairs i j d below within = pairs (suc i) (suc j) d (omega (arith, below)) (omega (arith, within))

  pub pairs_joined : (R : X → X → Type 0) (xs ys : List X) → AllPairs R xs → AllPairs R ys → All (λ x. All (R x) ys) xs → AllPairs R (xs ++ ys)
  pairs_joined R [] ys left right across = right
  pairs_joined R (x ∷ xs) ys left right across =
      AllPairs-cons R x (xs ++ ys) (All-append (R x) xs ys (pairs_first R x xs left) (λ k d low. across 0 x (omega arith) k d low))
      (pairs_joined R xs ys (pairs_rest R x xs left) right (λ k d low. across (suc k) d (omega (arith, low))))

-- of lists, one after the other
pub all_in_each : {X Y : Type 0} (P : Y → Type 0) (g : X → List Y) (xs : List X) → All P (flat_map g xs) → All (λ x. All P (g x)) xs
all_in_each P g [] all = All-nil (λ x. All P (g x))
all_in_each P g (x ∷ xs) all =
    All-cons (λ x. All P (g x)) x xs (all_left P (g x) (flat_map g xs) all) (all_in_each P g xs (all_right P (g x) (flat_map g xs) all))

pub all_of_each : {X Y : Type 0} (P : Y → Type 0) (g : X → List Y) (xs : List X) → All (λ x. All P (g x)) xs → All P (flat_map g xs)
all_of_each P g [] each = All-nil P
all_of_each P g (x ∷ xs) each =
    All-append P (g x) (flat_map g xs) (All-head (λ x. All P (g x)) x xs each) (all_of_each P g xs (All-tail (λ x. All P (g x)) x xs each))
