-- The numbers of a range that pass a test: which they are, as a set and as the keys of a map.
use Rattle.std.proofs.Common.{◌≡◌, ◌⊎◌, ℕ, zero, suc, ◌+◌, ◌<◌, ◌≤◌, Bool, true, false, cond, List, ◌∷◌, filter, map, Some, None, T, refl, sym, ap, ◌∙◌, subst, arith, inl, inr, nat_eq}
use Rattle.std.specs.List.{list_any, range_with_len}
use Rattle.std.specs.Ordering.{nat_cmp, is_lt}
use Rattle.std.specs.FinMap as finmap
use Rattle.std.specs.FinMap.Entries.{below_all}
use Rattle.std.proofs.lemmas.Bool.{cases_lt}
use Rattle.std.proofs.lemmas.Bool.Decides.{nat_tests}
use Rattle.ra_automaton.proofs.Apart.{eq_at, eq_apart, tied, untied, cases_same}

-- ---- Whether a number is among them.

any_before : (p : ℕ → Bool) (first n q : ℕ) → q < first → list_any (λ y. nat_eq y q) (filter p (range_with_len first n)) ≡ false
any_before p first zero q h = refl
any_before p first (suc n) q h =
    let rest = any_before p (first + 1) n q (omega arith) in
    elim (p first) as (λ b. list_any (λ y. nat_eq y q) (cond b (first ∷ filter p (range_with_len (first + 1) n)) (filter p (range_with_len (first + 1) n))) ≡ false) [
      | true ↦ rw (eq_apart first q (omega arith)) rest
      | false ↦ rest
    ]

any_past : (p : ℕ → Bool) (first n q : ℕ) → first + n ≤ q → list_any (λ y. nat_eq y q) (filter p (range_with_len first n)) ≡ false
any_past p first zero q h = refl
any_past p first (suc n) q h =
    let rest = any_past p (first + 1) n q (omega arith) in
    elim (p first) as (λ b. list_any (λ y. nat_eq y q) (cond b (first ∷ filter p (range_with_len (first + 1) n)) (filter p (range_with_len (first + 1) n))) ≡ false) [
      | true ↦ rw (eq_apart first q (omega arith)) rest
      | false ↦ rest
    ]

-- inside the range it is as it passes
pub any_inside : (p : ℕ → Bool) (first n q : ℕ) → first ≤ q → q < first + n → list_any (λ y. nat_eq y q) (filter p (range_with_len first n)) ≡ p q
any_inside p first zero q low high = absurd (omega arith)
any_inside p first (suc n) q low high =
    elim (cases_same first q) [
      | inl same ↦
          elim (p first) as (λ b. p first ≡ b → list_any (λ y. nat_eq y q) (cond b (first ∷ filter p (range_with_len (first + 1) n)) (filter p (range_with_len (first + 1) n))) ≡ p q) [
            | true ↦ λ e. rw (eq_at first q same) (sym (subst (λ (k : ℕ). p k ≡ true) same e))
            | false ↦ λ e. any_before p (first + 1) n q (omega arith) ∙ sym (subst (λ (k : ℕ). p k ≡ false) same e)
          ] refl
      | inr apart ↦
          let rest = any_inside p (first + 1) n q (omega arith) (omega arith) in
          elim (p first) as (λ b. list_any (λ y. nat_eq y q) (cond b (first ∷ filter p (range_with_len (first + 1) n)) (filter p (range_with_len (first + 1) n))) ≡ p q) [
            | true ↦ rw (eq_apart first q apart) rest
            | false ↦ rest
          ]
    ]

-- and outside it is not
pub any_outside : (p : ℕ → Bool) (first n q : ℕ) → (q < first) ⊎ (first + n ≤ q) → list_any (λ y. nat_eq y q) (filter p (range_with_len first n)) ≡ false
any_outside p first n q out = elim out [ inl before ↦ any_before p first n q before | inr past ↦ any_past p first n q past ]

-- so what is among them is inside the range and passes
pub any_passes : (p : ℕ → Bool) (first n q : ℕ) → list_any (λ y. nat_eq y q) (filter p (range_with_len first n)) ≡ true → (first ≤ q) × (q < first + n) × (p q ≡ true)
any_passes p first n q h =
    elim (cases_lt q first) [
      | inl before ↦ absurd (false_true (sym (any_outside p first n q (inl before)) ∙ h))
      | inr low ↦ elim (cases_lt q (first + n)) [
        | inl high ↦ (low, high, sym (any_inside p first n q low high) ∙ h)
        | inr past ↦ absurd (false_true (sym (any_outside p first n q (inr past)) ∙ h))
      ]
    ]
  where
    false_true : false ≡ true → ⊥
    false_true e = cc

-- ---- Each with a value of its own, as the entries of a map.

found_before : (p : ℕ → Bool) (v : ℕ → ℕ) (first n q : ℕ) → q < first → finmap.find nat_cmp q (map (λ node. (node, v node)) (filter p (range_with_len first n))) ≡ None
found_before p v first zero q h = refl
found_before p v first (suc n) q h =
    let rest = found_before p v (first + 1) n q (omega arith) in
    elim (p first) as (λ b. finmap.find nat_cmp q (map (λ node. (node, v node)) (cond b (first ∷ filter p (range_with_len (first + 1) n)) (filter p (range_with_len (first + 1) n)))) ≡ None) [
      | true ↦ rw (untied q first (omega arith)) rest
      | false ↦ rest
    ]

found_past : (p : ℕ → Bool) (v : ℕ → ℕ) (first n q : ℕ) → first + n ≤ q → finmap.find nat_cmp q (map (λ node. (node, v node)) (filter p (range_with_len first n))) ≡ None
found_past p v first zero q h = refl
found_past p v first (suc n) q h =
    let rest = found_past p v (first + 1) n q (omega arith) in
    elim (p first) as (λ b. finmap.find nat_cmp q (map (λ node. (node, v node)) (cond b (first ∷ filter p (range_with_len (first + 1) n)) (filter p (range_with_len (first + 1) n)))) ≡ None) [
      | true ↦ rw (untied q first (omega arith)) rest
      | false ↦ rest
    ]

pub found_inside : (p : ℕ → Bool) (v : ℕ → ℕ) (first n q : ℕ) → first ≤ q → q < first + n → finmap.find nat_cmp q (map (λ node. (node, v node)) (filter p (range_with_len first n))) ≡ cond (p q) (Some (v q)) None
found_inside p v first zero q low high = absurd (omega arith)
found_inside p v first (suc n) q low high =
    elim (cases_same q first) [
      | inl same ↦
          elim (p first) as (λ b. p first ≡ b → finmap.find nat_cmp q (map (λ node. (node, v node)) (cond b (first ∷ filter p (range_with_len (first + 1) n)) (filter p (range_with_len (first + 1) n)))) ≡ cond (p q) (Some (v q)) None) [
            | true ↦ λ e. rw (tied q first same) (subst (λ (k : ℕ). Some (v first) ≡ cond (p k) (Some (v k)) None) (sym same) (rw e refl))
            | false ↦ λ e. found_before p v (first + 1) n q (omega arith) ∙ subst (λ (k : ℕ). None ≡ cond (p k) (Some (v k)) None) (sym same) (rw e refl)
          ] refl
      | inr apart ↦
          let rest = found_inside p v (first + 1) n q (omega arith) (omega arith) in
          elim (p first) as (λ b. finmap.find nat_cmp q (map (λ node. (node, v node)) (cond b (first ∷ filter p (range_with_len (first + 1) n)) (filter p (range_with_len (first + 1) n)))) ≡ cond (p q) (Some (v q)) None) [
            | true ↦ rw (untied q first apart) rest
            | false ↦ rest
          ]
    ]

pub found_outside : (p : ℕ → Bool) (v : ℕ → ℕ) (first n q : ℕ) → (q < first) ⊎ (first + n ≤ q) → finmap.find nat_cmp q (map (λ node. (node, v node)) (filter p (range_with_len first n))) ≡ None
found_outside p v first n q out = elim out [ inl before ↦ found_before p v first n q before | inr past ↦ found_past p v first n q past ]

is_below : (a b : ℕ) → a < b → is_lt (nat_cmp a b) ≡ true
is_below a b h = grind (arith, nat_tests)

above_first : (p : ℕ → Bool) (v : ℕ → ℕ) (first n low : ℕ) → low < first → below_all nat_cmp low (map (λ node. (node, v node)) (filter p (range_with_len first n))) ≡ true
above_first p v first zero low h = refl
above_first p v first (suc n) low h =
    let rest = above_first p v (first + 1) n low (omega arith) in
    elim (p first) as (λ b. below_all nat_cmp low (map (λ node. (node, v node)) (cond b (first ∷ filter p (range_with_len (first + 1) n)) (filter p (range_with_len (first + 1) n)))) ≡ true) [
      | true ↦ rw (is_below low first h) rest
      | false ↦ rest
    ]

sorted_from : (p : ℕ → Bool) (v : ℕ → ℕ) (first n : ℕ) → finmap.is_sorted nat_cmp (map (λ node. (node, v node)) (filter p (range_with_len first n))) ≡ true
sorted_from p v first zero = refl
sorted_from p v first (suc n) =
    let rest = sorted_from p v (first + 1) n in
    elim (p first) as (λ b. finmap.is_sorted nat_cmp (map (λ node. (node, v node)) (cond b (first ∷ filter p (range_with_len (first + 1) n)) (filter p (range_with_len (first + 1) n)))) ≡ true) [
      | true ↦ rw (above_first p v (first + 1) n first (omega arith)) rest
      | false ↦ rest
    ]

pub sorted : (p : ℕ → Bool) (v : ℕ → ℕ) (first n : ℕ) → T (finmap.is_sorted nat_cmp (map (λ node. (node, v node)) (filter p (range_with_len first n))))
sorted p v first n = subst T (sym (sorted_from p v first n)) tt

-- ---- A longer range in which no further element passes

pub filter-longer : (p : ℕ → Bool) (first n more : ℕ) → n ≤ more → ((q : ℕ) → first + n ≤ q → q < first + more → p q ≡ false) → filter p (range_with_len first more) ≡ filter p (range_with_len first n)
filter-longer p first zero zero le none = refl
filter-longer p first (suc n) zero le none = absurd (omega arith)
filter-longer p first zero (suc more) le none =
    rw (none first (omega arith) (omega arith)) (filter-longer p (first + 1) zero more (omega arith) (λ q low high. none q (omega arith) (omega arith)))
filter-longer p first (suc n) (suc more) le none =
    let rest = filter-longer p (first + 1) n more (omega arith) (λ q low high. none q (omega arith) (omega arith)) in
    ap (λ (xs : List ℕ). cond (p first) (first ∷ xs) xs) rest
