-- Lists, and their last item.
use Rattle.std.proofs.Common.{◌≡◌, ℕ, ◌+◌, ◌<◌, ◌≤◌, Bool, true, false, Result, Ok, Err, List, [], ◌∷◌, ◌++◌, length, get_or, refl, subst, ◌∙◌, arith}
use Rattle.std.specs.Prelude.{All, AllPairs, MatchBool, OnOk, is_err}
use Rattle.std.specs.List.{Any}
use Rattle.std.proofs.lemmas.List.{get_or_append_left, get_or_push, length_push}
use Rattle.std.proofs.lemmas.List.Elements.{All-push}

module _ {X : Type 0} where
  -- what is true of all is true of those before the last, and of the last
  pub all_before : (P : X → Type 0) (xs : List X) (y : X) → All P (xs ++ y ∷ []) → All P xs
  all_before P xs y h k d low = subst P (get_or_append_left xs (y ∷ []) d k low) (h k d (omega (arith, low, length_push xs y)))

  pub at_last : (P : X → Type 0) (xs : List X) (y : X) → All P (xs ++ y ∷ []) → P y
  at_last P xs y h = subst P (get_or_push xs y y (length xs) refl) (h (length xs) y (omega (arith, length_push xs y)))

  pub pairs_before : (R : X → X → Type 0) (xs : List X) (y : X) → AllPairs R (xs ++ y ∷ []) → AllPairs R xs
  pairs_before R xs y h i j d low within =
      subst (λ (b : X). R (get_or xs i d) b) (get_or_append_left xs (y ∷ []) d j within)
      (subst (λ (a : X). R a (get_or (xs ++ y ∷ []) j d)) (get_or_append_left xs (y ∷ []) d i (omega (arith, low, within)))
      (h i j d low (omega (arith, within, length_push xs y))))

  pub pairs_at_last : (R : X → X → Type 0) (xs : List X) (y : X) → AllPairs R (xs ++ y ∷ []) → (k : ℕ) (d : X) → k < length xs → R (get_or xs k d) y
  pairs_at_last R xs y h k d low =
      subst (λ (b : X). R (get_or xs k d) b) (get_or_push xs y d (length xs) refl)
      (subst (λ (a : X). R a (get_or (xs ++ y ∷ []) (length xs) d)) (get_or_append_left xs (y ∷ []) d k low)
      (h k (length xs) d low (omega (arith, length_push xs y))))

  -- one before the last
  pub any_before : (P : X → Type 0) (xs : List X) (y : X) → Any P xs → Any P (xs ++ y ∷ [])
  any_before P xs y (k, x, low, at, is) = (k, x, omega (arith, low, length_push xs y), get_or_append_left xs (y ∷ []) x k low ∙ at, is)

  -- it is true of the last, and of the others it was found out
  pub with_last : (P : X → Type 0) (xs : List X) (y : X) (b : Bool) → P y → MatchBool b (All P xs) (Any (λ x. P x → ⊥) xs)
      → MatchBool b (All P (xs ++ y ∷ [])) (Any (λ x. P x → ⊥) (xs ++ y ∷ []))
  with_last P xs y true here all = All-push P xs y all here
  with_last P xs y false here any = any_before (λ x. P x → ⊥) xs y any

-- room that was made
pub room_for_two : {T E : Type 0} (r : Result T E) (len capacity : ℕ) → is_err r ≡ false → OnOk r (len + 2 ≤ capacity) → len + 1 < capacity
room_for_two (Ok done) len capacity fine room = omega (arith, room)
room_for_two (Err failed) len capacity fine room = absurd cc
