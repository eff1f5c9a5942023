-- What a watcher is told of a text while it is checked.
use Rattle.std.proofs.Common.{◌≡◌, ◌≢◌, ℕ, ◌+◌, ◌*◌, ◌<◌, ◌≤◌, List, [], ◌∷◌, ◌++◌, length, All, Option, Some, None, refl, sym, ap, ◌∙◌, subst, arith, append_assoc, length-append, suc-mul}
use Rattle.std.specs.Prelude.{Ok, Err, IfSome}
use Rattle.std.proofs.lemmas.List.{append-nil}
use Rattle.std.proofs.lemmas.List.Elements.{All-nil, All-push}
use Rattle.ra_trace.specs.Following.{Tells, AreEvery, TellsEvery}
use Rattle.ra_trace.specs.FollowingAlong.{IsTold}

-- ---- What is told one after the other

tells_nothing : {S : Type 0} (told : Option (List S)) → Tells told told []
tells_nothing None = tt
tells_nothing (Some xs) = sym (append-nil xs)

tells_both : {S : Type 0} (old now new : Option (List S)) (xs ys : List S) → Tells old now xs → Tells now new ys → Tells old new (xs ++ ys)
tells_both None now new xs ys h g = tt
tells_both (Some a) None new xs ys h g = absurd h
tells_both (Some a) (Some b) None xs ys h g = absurd g
tells_both {S} (Some a) (Some b) (Some c) xs ys h g = g ∙ ap (λ (zs : List S). zs ++ ys) h ∙ append_assoc a xs ys

one_more : (a b : ℕ) → (a + 1) * b ≡ a * b + b
one_more a b = grind (arith, suc-mul)

module _ (S : Type 0) (lines_of : S → ℕ) (IsTrueOf : List ℕ → S → Type 0) where
  each_none : (old : Option (List ℕ)) → IfSome old (λ input. All (IsTrueOf input) [])
  each_none None = tt
  each_none (Some input) = All-nil (IsTrueOf input)

  each_more : (old : Option (List ℕ)) (told : List S) (so_far : S) → IfSome old (λ input. All (IsTrueOf input) told)
      → IfSome old (λ input. IsTrueOf input so_far) → IfSome old (λ input. All (IsTrueOf input) (told ++ so_far ∷ []))
  each_more None told so_far h p = tt
  each_more (Some input) told so_far h p = All-push (IsTrueOf input) told so_far h p

  every_more : (every place : ℕ) (told : List S) (so_far : S) → AreEvery lines_of every place told
      → lines_of so_far ≡ (place + length told + 1) * every → AreEvery lines_of every place (told ++ so_far ∷ [])
  every_more every place [] so_far are is =
      let same : place + 0 + 1 ≡ place + 1 = omega arith in (subst (λ (n : ℕ). lines_of so_far ≡ n * every) same is, tt)
  every_more every place (first ∷ told) so_far are is =
      let same : place + length (first ∷ told) + 1 ≡ place + 1 + length told + 1 = omega arith in
      (are.0, every_more every (place + 1) told so_far are.1 (subst (λ (n : ℕ). lines_of so_far ≡ n * every) same is))

  -- ---- Line by line

  -- before the first line
  pub told_nothing : (every : ℕ) (old : Option (List ℕ)) (before : Option (List S)) → IsTold lines_of IsTrueOf every old before before 1 every
  told_nothing every old before = record {
    told = [];
    tells = tells_nothing before;
    each = each_none old;
    places = tt;
    due_is = omega arith;
    ahead = λ some. some;
    none = λ zero. refl;
  }

  -- nothing was to be told after this line
  pub told_no_more : (every : ℕ) (old : Option (List ℕ)) (before now : Option (List S)) (number due : ℕ)
      → IsTold lines_of IsTrueOf every old before now number due → number ≢ due → IsTold lines_of IsTrueOf every old before now (number + 1) due
  told_no_more every old before now number due so other = record {
    told = so.told;
    tells = so.tells;
    each = so.each;
    places = so.places;
    due_is = so.due_is;
    ahead = λ some. omega (arith, so.ahead some, other);
    none = so.none;
  }

  -- this was told after this line
  pub told_more : (every : ℕ) (old : Option (List ℕ)) (before now new : Option (List S)) (so_far : S) (due : ℕ)
      → IsTold lines_of IsTrueOf every old before now (lines_of so_far) due → Tells now new (so_far ∷ []) → IfSome old (λ input. IsTrueOf input so_far)
      → lines_of so_far ≡ due → 1 ≤ lines_of so_far → IsTold lines_of IsTrueOf every old before new (lines_of so_far + 1) (due + every)
  told_more every old before now new so_far due so tells is at some =
      let count : length (so.told ++ so_far ∷ []) ≡ length so.told + 1 = omega (arith, length-append so.told (so_far ∷ [])) in
      let many : due + every ≡ (length so.told + 1 + 1) * every = ap (λ (n : ℕ). n + every) so.due_is ∙ sym (one_more (length so.told + 1) every) in
      let nothing : (length so.told + 1) * 0 ≡ 0 = omega arith in
      let place : length so.told + 1 ≡ 0 + length so.told + 1 = omega arith in
      record {
        told = so.told ++ so_far ∷ [];
        tells = tells_both before now new so.told (so_far ∷ []) so.tells tells;
        each = each_more old so.told so_far so.each is;
        places = every_more every 0 so.told so_far so.places (subst (λ (n : ℕ). lines_of so_far ≡ n * every) place (at ∙ so.due_is));
        due_is = subst (λ (n : ℕ). due + every ≡ (n + 1) * every) (sym count) many;
        ahead = λ each. omega (arith, at, each);
        none = λ zero.
            let due_zero : due ≡ 0 = so.due_is ∙ ap (λ (n : ℕ). (length so.told + 1) * n) zero ∙ nothing in absurd (omega (arith, due_zero, at, some));
      }

  -- ---- With the result

  module _ {V E : Type 0} (HasRight : List ℕ → V → ℕ → Type 0) (every : ℕ) (old : Option (List ℕ)) (before now : Option (List S)) (number due : ℕ)
      (so : IsTold lines_of IsTrueOf every old before now number due)
    where
      -- there is no verdict
      pub tells_at_fault : (fault : E) → TellsEvery lines_of IsTrueOf HasRight every old (Err fault) before now
      tells_at_fault fault = record { told = so.told; tells = so.tells; each = so.each; places = so.places; all = tt; none = so.none }

      -- as many lines are right as come before the one with this number
      pub tells_at_verdict : (verdict : V) → ((input : List ℕ) → old ≡ Some input → (count : ℕ) × HasRight input verdict count × (number ≡ count + 1))
          → TellsEvery {S = S} {V = V} {E = E} lines_of IsTrueOf HasRight every old (Ok verdict) before now
      tells_at_verdict verdict right = record {
        told = so.told;
        tells = so.tells;
        each = so.each;
        places = so.places;
        all = at old right;
        none = so.none;
      }
        where
          at : (input : Option (List ℕ)) → ((text : List ℕ) → input ≡ Some text → (count : ℕ) × HasRight text verdict count × (number ≡ count + 1))
              → IfSome input (λ text. (count : ℕ) × HasRight text verdict count × (1 ≤ every → count < (length so.told + 1) * every))
          at None right = tt
          at (Some text) right =
              let (count, has, is) = right text refl in
              (count, has, λ some. subst (λ (n : ℕ). count < n) so.due_is (omega (arith, so.ahead some, is)))
