-- What comes before and after a space.
use Rattle.std.proofs.Common.{◌≡◌, ◌≢◌, ℕ, ◌==◌, false, List, [], ◌∷◌, ◌++◌, All, Option, Some, None, option_map, refl, sym, ap, inl, inr}
use Rattle.std.proofs.lemmas.Bool.{ne_eqb, cases_Bool, eqb-true}
use Rattle.std.proofs.lemmas.List.Elements.{All-head, All-tail}
use Rattle.std.proofs.lemmas.Option.{same_Some}
use Rattle.ra_script.specs.Operation.{cut}

-- an option that was mapped
mapped : {A B : Type 0} (f : A → B) (o : Option A) (y : B) → option_map f o ≡ Some y → (x : A) × (o ≡ Some x) × (f x ≡ y)
mapped f None y e = absurd cc
mapped f (Some x) y e = (x, refl, same_Some _ _ e)

-- the space after bytes that are none
pub cut-append : (xs ys : List ℕ) → All (λ b. b ≢ 32) xs → cut (xs ++ 32 ∷ ys) ≡ Some (xs, ys)
cut-append [] ys free = refl
cut-append (x ∷ xs) ys free =
    let other : (x == 32) ≡ false = ne_eqb x 32 (All-head (λ b. b ≢ 32) x xs free) in
    rw (other, cut-append xs ys (All-tail (λ b. b ≢ 32) x xs free))

pub cut-only : (text : List ℕ) (parts : List ℕ × List ℕ) → cut text ≡ Some parts → text ≡ parts.0 ++ 32 ∷ parts.1
cut-only [] parts e = absurd cc
cut-only (b ∷ text) parts e =
    elim (cases_Bool (b == 32)) [
      | inl same ↦ let is : ([], text) ≡ parts = same_Some _ _ (rw same at e) in rw (sym is, eqb-true b 32 same)
      | inr other ↦
          let (others, found, is) = mapped (λ (rest : List ℕ × List ℕ). (b ∷ rest.0, rest.1)) (cut text) parts (rw other at e) in
          rw (sym is) (ap (λ (bytes : List ℕ). b ∷ bytes) (cut-only text others found))
    ]
