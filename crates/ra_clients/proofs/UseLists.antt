-- What is at the place of a name in a client's list, and what is after it.
use Rattle.std.proofs.Common.{◌≡◌, ℕ, zero, suc, ◌<◌, true, false, cond, List, [], ◌∷◌, length, get_or, set, Some, None, refl, sym, ap, subst, arith}
use Rattle.std.specs.List.{remove}
use Rattle.ra_clients.specs.declared.uses.NameUse.{NameUse}
use Rattle.ra_clients.proofs.NamedUses.{its_own}
use Rattle.ra_clients.specs.Uses.{is_of, use_of, let_in, held_use, without}

-- the name is at this place, and at none before it
pub record IsFirst (name : List ℕ) (us : List NameUse) (place : ℕ) : Type 0 where
  pub within : place < length us
  pub found : (d : NameUse) → is_of name (get_or us place d) ≡ true
  pub first : (k : ℕ) (d : NameUse) → k < place → is_of name (get_or us k d) ≡ false

-- the name is at no place
abbrev pub IsNowhere : List ℕ → List NameUse → Type 0
IsNowhere name us = (k : ℕ) (d : NameUse) → k < length us → is_of name (get_or us k d) ≡ false

module _ (name : List ℕ) where
  later : (u : NameUse) (us : List NameUse) (k : ℕ) → IsFirst name (u ∷ us) (suc k) → IsFirst name us k
  later u us k at = record {
    within = omega (arith, at.within);
    found = λ d. at.found d;
    first = λ j d low. at.first (suc j) d (omega (arith, low));
  }

  pub found_use : (us : List NameUse) (k : ℕ) (d : NameUse) → IsFirst name us k → use_of name us ≡ Some (get_or us k d)
  found_use [] k d at = absurd (omega (arith, at.within))
  found_use (u ∷ us) zero d at = rw (at.found d) refl
  found_use (u ∷ us) (suc k) d at = rw (at.first 0 d (omega arith)) (found_use us k d (later u us k at))

  pub entered : (us : List NameUse) (k now : ℕ) → IsFirst name us k → set us k (held_use name now) ≡ let_in name now us
  entered [] k now at = absurd (omega (arith, at.within))
  entered (u ∷ us) zero now at = rw (at.found u) refl
  entered (u ∷ us) (suc k) now at = rw (at.first 0 u (omega arith)) (ap (λ (vs : List NameUse). u ∷ vs) (entered us k now (later u us k at)))

  pub removed : (us : List NameUse) (k : ℕ) → IsFirst name us k → remove us k ≡ without name us
  removed [] k at = absurd (omega (arith, at.within))
  removed (u ∷ us) zero at = rw (at.found u) refl
  removed (u ∷ us) (suc k) at = rw (at.first 0 u (omega arith)) (ap (λ (vs : List NameUse). u ∷ vs) (removed us k (later u us k at)))

  rest_nowhere : (u : NameUse) (us : List NameUse) → IsNowhere name (u ∷ us) → IsNowhere name us
  rest_nowhere u us none = λ k d low. none (suc k) d (omega (arith, low))

  pub no_use : (us : List NameUse) → IsNowhere name us → use_of name us ≡ None
  no_use [] none = refl
  no_use (u ∷ us) none = rw (none 0 u (omega arith)) (no_use us (rest_nowhere u us none))

  pub none_without : (us : List NameUse) → IsNowhere name us → without name us ≡ us
  none_without [] none = refl
  none_without (u ∷ us) none = rw (none 0 u (omega arith)) (ap (λ (vs : List NameUse). u ∷ vs) (none_without us (rest_nowhere u us none)))

-- the first use is that of its name
pub first_named : (us : List NameUse) (u d : NameUse) → 0 < length us → u ≡ get_or us 0 d → use_of u.name us ≡ Some u
first_named [] u d some is = absurd (omega (arith, some))
first_named (x ∷ us) u d some is = subst (λ (v : NameUse). use_of v.name (x ∷ us) ≡ Some v) (sym is) (rw (its_own x.name) refl)
