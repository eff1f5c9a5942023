-- Lists by places, for the proofs of this crate and of those above.
use Rattle.std.proofs.Common.{◌≡◌, ◌<◌, ℕ, suc, List, ◌∷◌, ◌++◌, length, get_or, take, drop, refl, sym, ap, ◌∙◌, add-one}
use Rattle.std.proofs.lemmas.List.{take-append-drop, drop_more}

-- a list is what is before a place, the element at the place, and what is after it
pub split_at : {X : Type 0} (xs : List X) (i : ℕ) (x : X) → i < length xs → get_or xs i x ≡ x → xs ≡ take i xs ++ x ∷ drop (suc i) xs
split_at xs i x lt is = sym (take-append-drop i xs) ∙ ap (λ s. take i xs ++ s) (drop_more xs i x lt ∙ rw (add-one, is) refl)
