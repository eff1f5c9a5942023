-- The place of two dots in a text.
use Rattle.std.proofs.Common.{◌≡◌, ◌∙◌, ◌==◌, ◌&&◌, ◌<◌, ◌≤◌, ℕ, zero, suc, Bool, true, false, [], ◌∷◌, ◌++◌, Some, None, length, take, drop, refl, sym, ap, ap₂, arith}
use Rattle.std.proofs.lemmas.Bool.{eqb-true}
use Rattle.std.proofs.lemmas.List.{drop_all}
use Rattle.std.specs.Str.Pattern.{LacksTextAt}
use Rattle.clap.specs.Words.{Text}
use Rattle.ra_arguments.specs.Meanings.{cut_at_dots}

abbrev pub dots : Text
dots = 46 ∷ 46 ∷ []

-- two bytes that are not both dots
no_dots : (a b : ℕ) (rest : Text) → LacksTextAt dots (a ∷ b ∷ rest) 0 → (a == 46 && b == 46) ≡ false
no_dots a b rest lacks = go (a == 46) refl (b == 46) refl
  where
    go : (x : Bool) → (a == 46) ≡ x → (y : Bool) → (b == 46) ≡ y → (a == 46 && b == 46) ≡ false
    go true e true f =
        let same_a : a ≡ 46 = eqb-true _ _ e in
        let same_b : b ≡ 46 = eqb-true _ _ f in absurd (lacks rest (ap₂ (λ x y. x ∷ y ∷ rest) same_a same_b))
    go true e false f = rw (e, f) refl
    go false e y f = rw e refl

-- nothing has no dots
nothing : (i : ℕ) (behind : Text) → drop i [] ≡ dots ++ behind → ⊥
nothing i behind split = let count = ap length (sym (drop_all i [] (omega arith)) ∙ split) in omega (arith, count)

-- they are found at their place
pub cut_there : (text : Text) (i : ℕ) (behind : Text) → ((k : ℕ) → k < i → LacksTextAt dots text k) → drop i text ≡ dots ++ behind
    → cut_at_dots text ≡ Some (take i text, behind)
cut_there [] i behind lacks split = absurd (nothing i behind split)
cut_there (a ∷ []) zero behind lacks split = cc
cut_there (a ∷ []) (suc i) behind lacks split = absurd (nothing i behind split)
cut_there (a ∷ b ∷ rest) zero behind lacks split =
    let first : a ≡ 46 = cc in
    let second : b ≡ 46 = cc in
    let same : rest ≡ behind = cc in
    rw (first, second, same) refl
cut_there (a ∷ b ∷ rest) (suc i) behind lacks split =
    let here = no_dots a b rest (lacks 0 (omega arith)) in
    let after = cut_there (b ∷ rest) i behind (λ k less. lacks (suc k) (omega (arith, less))) split in
    rw (here, after) refl

-- and at no other place
pub cut_nowhere : (text : Text) → ((k : ℕ) → k ≤ length text → LacksTextAt dots text k) → cut_at_dots text ≡ None
cut_nowhere [] lacks = refl
cut_nowhere (a ∷ []) lacks = refl
cut_nowhere (a ∷ b ∷ rest) lacks =
    let here = no_dots a b rest (lacks 0 (omega arith)) in
    let after = cut_nowhere (b ∷ rest) (λ k less. lacks (suc k) (omega (arith, less))) in
    rw (here, after) refl
