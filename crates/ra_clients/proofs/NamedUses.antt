-- The use of one name, when a list of uses changes.
use Rattle.std.proofs.Common.{◌≡◌, ◌≢◌, ℕ, ◌+◌, true, false, cond, List, [], ◌∷◌, ◌++◌, length, Option, Some, None, refl, sym, ap, ◌∙◌, inl, inr, arith}
use Rattle.std.specs.Str.{bytes_eq}
use Rattle.std.proofs.lemmas.Bool.{cases_Bool}
use Rattle.std.proofs.lemmas.Option.{same_Some}
use Rattle.std.proofs.lemmas.Slice.Eq.{bytes_eq-Decides}
use Rattle.ra_clients.specs.declared.uses.NameUse.{NameUse}
use Rattle.ra_clients.specs.Uses.{use_of, let_in, held_use, without}

pub none_some : {A : Type 0} (x : A) → None ≡ Some x → ⊥
none_some x is = absurd (cc)

pub same_name : (a b : List ℕ) → bytes_eq a b ≡ true → a ≡ b
same_name a b is = (bytes_eq-Decides a b).0 is

pub its_own : (a : List ℕ) → bytes_eq a a ≡ true
its_own a = (bytes_eq-Decides a a).1 refl

pub differs : (a b : List ℕ) → a ≢ b → bytes_eq a b ≡ false
differs a b other =
    elim (cases_Bool (bytes_eq a b)) [
      | inl same ↦ absurd (other (same_name a b same))
      | inr unequal ↦ unequal
    ]

-- the use of a name is on it
pub on_name : (name : List ℕ) (us : List NameUse) (u : NameUse) → use_of name us ≡ Some u → u.name ≡ name
on_name name [] u is = absurd (none_some u is)
on_name name (x ∷ us) u is =
    elim (cases_Bool (bytes_eq x.name name)) [
      | inl equal ↦
          let same : x ≡ u = same_Some x u (rw equal at is) in
          ap (λ (v : NameUse). v.name) (sym same) ∙ same_name x.name name equal
      | inr unequal ↦ on_name name us u (rw unequal at is)
    ]

-- a new use comes after it
pub after_push : (name : List ℕ) (us vs : List NameUse) (u : NameUse) → use_of name us ≡ Some u → use_of name (us ++ vs) ≡ Some u
after_push name [] vs u is = absurd (none_some u is)
after_push name (x ∷ us) vs u is =
    elim (cases_Bool (bytes_eq x.name name)) [
      | inl equal ↦ rw equal (rw equal at is)
      | inr unequal ↦ rw unequal (after_push name us vs u (rw unequal at is))
    ]

-- the use of another name ends
pub after_end : (name other : List ℕ) (us : List NameUse) → name ≢ other → use_of name (without other us) ≡ use_of name us
after_end name other [] differ = refl
after_end name other (x ∷ us) differ =
    elim (cases_Bool (bytes_eq x.name other)) [
      | inl equal ↦
          let unequal : bytes_eq x.name name ≡ false = differs x.name name (λ same. differ (sym same ∙ same_name x.name other equal)) in
          rw (equal, unequal) refl
      | inr unequal ↦ rw unequal (ap (λ (o : Option NameUse). cond (bytes_eq x.name name) (Some x) o) (after_end name other us differ))
    ]

-- the client is let in to another name
pub after_other_entry : (name other : List ℕ) (now : ℕ) (us : List NameUse) → name ≢ other → use_of name (let_in other now us) ≡ use_of name us
after_other_entry name other now [] differ = refl
after_other_entry name other now (x ∷ us) differ =
    elim (cases_Bool (bytes_eq x.name other)) [
      | inl equal ↦
          let unequal : bytes_eq x.name name ≡ false = differs x.name name (λ same. differ (sym same ∙ same_name x.name other equal)) in
          let not_it : bytes_eq other name ≡ false = differs other name (λ same. differ (sym same)) in
          rw (equal, unequal, not_it) refl
      | inr unequal ↦ rw unequal (ap (λ (o : Option NameUse). cond (bytes_eq x.name name) (Some x) o) (after_other_entry name other now us differ))
    ]

-- the client is let in to this name
pub after_entry : (name : List ℕ) (now : ℕ) (us : List NameUse) (u : NameUse) → use_of name us ≡ Some u → use_of name (let_in name now us) ≡ Some (held_use name now)
after_entry name now [] u is = absurd (none_some u is)
after_entry name now (x ∷ us) u is =
    elim (cases_Bool (bytes_eq x.name name)) [
      | inl equal ↦ rw (equal, its_own name) refl
      | inr unequal ↦ rw (unequal, unequal) (after_entry name now us u (rw unequal at is))
    ]

-- there is one use less
pub one_less : (name : List ℕ) (us : List NameUse) (u : NameUse) → use_of name us ≡ Some u → length (without name us) + 1 ≡ length us
one_less name [] u is = absurd (none_some u is)
one_less name (x ∷ us) u is =
    elim (cases_Bool (bytes_eq x.name name)) [
      | inl equal ↦ rw equal (omega arith)
      | inr unequal ↦ rw unequal (let rest = one_less name us u (rw unequal at is) in omega (arith, rest))
    ]
