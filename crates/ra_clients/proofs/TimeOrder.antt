-- Entries of times are apart if the time, the client or the name differs.
use Rattle.std.proofs.Common.{◌≡◌, ◌≤◌, ℕ, Bool, true, false, List, Option, Some, None, BTreeSet, refl, sym, ap, subst, ◌∙◌, inl, inr, arith}
use Rattle.std.specs.BTreeSet as sorted
use Rattle.std.specs.Ordering.{is_eq, is_gt, eq_by_cmp, nat_cmp, ordering_then}
use Rattle.std.specs.Cmp.Lexicographic.{slice_cmp}
use Rattle.std.proofs.lemmas.Bool.{cases_Bool, cases_order, eqb-true, eq-eqb, false≢true, le-ltb, ne_eqb}
use Rattle.std.proofs.lemmas.Map.Lookups.{CmpEqualImpliesEq, exact_bytes, exact_pairs, exact_unsigned}
use Rattle.std.proofs.lemmas.Map.Views.{tells_apart}
use Rattle.ra_clients.specs.Times.{End, end_cmp, ends_at, is_end, Sets}

exact : CmpEqualImpliesEq end_cmp
exact = exact_pairs (λ (x y : ℕ × ℕ). ordering_then (nat_cmp x.0 y.0) (nat_cmp x.1 y.1)) (slice_cmp nat_cmp) (exact_pairs nat_cmp nat_cmp exact_unsigned exact_unsigned) exact_bytes

apart : (a b : End) → (a ≡ b → ⊥) → eq_by_cmp end_cmp a b ≡ false
apart a b other =
    elim (cases_Bool (eq_by_cmp end_cmp a b)) [
      | inl same ↦ absurd (other (tells_apart exact a b same))
      | inr differ ↦ differ
    ]

pub this_time : (time until : ℕ) → is_end time (Some until) ≡ true → time ≡ until
this_time time until is = eqb-true time until is

pub not_now : (time until : ℕ) → is_end time (Some until) ≡ false → time ≡ until → ⊥
not_now time until isnt same = false≢true (sym isnt ∙ eq-eqb time until same)

pub one_set : (old new : BTreeSet End) (number until : ℕ) (name : List ℕ) (b : Bool)
    → sorted.Updates end_cmp old new ((until, number), name) b → Sets old number name (Some until) b new
one_set old new number until name b put = record {
  here = λ time is. ap (λ (t : ℕ). ends_at new t number name) (this_time time until is) ∙ put.1;
  rest = λ time isnt.
      put.2 ((time, number), name)
      (apart ((until, number), name) ((time, number), name) (λ same. not_now time until isnt (sym (ap (λ (e : End). e.0.0) same))));
  others = λ time k n other.
      put.2 ((time, k), n)
      (apart ((until, number), name) ((time, k), n) (λ same. other (sym (ap (λ (e : End). e.0.1) same)) (sym (ap (λ (e : End). e.1) same))));
}

-- nothing is set if there is no time
pub none_set : (old : BTreeSet End) (number : ℕ) (name : List ℕ) (b : Bool) → Sets old number name None b old
none_set old number name b = record {
  here = λ time is. absurd (false≢true is);
  rest = λ time isnt. refl;
  others = λ time k n other. refl;
}

-- an entry that is not above another one does not begin with a later time
pub not_above : (a b : End) → is_gt (end_cmp a b) ≡ false → a.0.0 ≤ b.0.0
not_above a b is =
    elim (cases_order a.0.0 b.0.0) [
      | inl same ↦ omega (arith, same)
      | inr other ↦
          elim other [
            | inl below ↦ omega (arith, below)
            | inr above ↦
                let low : b.0.0 ≤ a.0.0 = omega (arith, above) in
                absurd (false≢true (sym (rw (le-ltb a.0.0 b.0.0 low, ne_eqb a.0.0 b.0.0 (λ e. omega (arith, e, above))) at is)))
          ]
    ]
