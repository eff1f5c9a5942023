-- The highest number of entries: what it answers, and how a grant raises it.
use Rattle.std.proofs.Common.{◌≡◌, ◌↔◌, ℕ, zero, suc, ◌≤◌, List, [], ◌∷◌, ◌++◌, Option, Some, None, Any, refl, sym, ap, ◌∙◌, subst, arith, inl, inr}
use Rattle.std.specs.Prelude.{max, unwrap_or, ◌⊎◌}
use Rattle.std.proofs.lemmas.Bool.{cases_lt}
use Rattle.std.proofs.lemmas.List.Elements.{All-contains}
use Rattle.ra_stamp.specs.declared.entry.Entry.{Entry}
use Rattle.ra_table.specs.NameTables.{AreOn, highest_of, Reaches}

pub Any-tail : (P : Entry → Type 0) (x : Entry) (xs : List Entry) → Any P xs → Any P (x ∷ xs)
Any-tail P x xs some = (suc some.0, some.1, omega arith, some.3, some.4)

pub Any-cases : (P : Entry → Type 0) (x : Entry) (xs : List Entry) → Any P (x ∷ xs) → P x ⊎ Any P xs
Any-cases P x xs (zero, y, lt, is, p) = inl (subst P (sym is) p)
Any-cases P x xs (suc k, y, lt, is, p) = inr (k, y, omega arith, is, p)

-- ---- what the highest number answers

-- the entry has this number or a greater one
abbrev pub IsFrom : ℕ → Entry → Type 0
IsFrom number x = number ≤ x.stamp.seq

reaches_either : (h : Option ℕ) (n number : ℕ) → number ≤ max n (unwrap_or h 0) → (number ≤ n) ⊎ Reaches h number
reaches_either None n number at = inl (omega arith)
reaches_either (Some m) n number at =
    elim (cases_lt n number) [
      | inl above ↦ inr (omega arith)
      | inr here ↦ inl here
    ]

reaches_rest : (h : Option ℕ) (n number : ℕ) → Reaches h number → number ≤ max n (unwrap_or h 0)
reaches_rest None n number at = absurd at
reaches_rest (Some m) n number at = omega arith

Any-reached : (number : ℕ) (es : List Entry) → Reaches (highest_of es) number → Any (IsFrom number) es
Any-reached number [] at = absurd at
Any-reached number (e ∷ es) at =
    elim (reaches_either (highest_of es) e.stamp.seq number at) [
      | inl here ↦ (0, e, omega arith, refl, here)
      | inr rest ↦ Any-tail (IsFrom number) e es (Any-reached number es rest)
    ]

reached-Any : (number : ℕ) (es : List Entry) → Any (IsFrom number) es → Reaches (highest_of es) number
reached-Any number [] some = absurd (omega (arith, some.2))
reached-Any number (e ∷ es) some =
    elim (Any-cases (IsFrom number) e es some) [
      | inl here ↦
          let reached : number ≤ max e.stamp.seq (unwrap_or (highest_of es) 0) = omega (arith, here) in
          reached
      | inr rest ↦ reaches_rest (highest_of es) e.stamp.seq number (reached-Any number es rest)
    ]

-- of entries on one name it answers whether one of them has the number of this entry or a greater one
pub highest_answers : (e : Entry) (es : List Entry) → AreOn e.name es → Reaches (highest_of es) e.stamp.seq ↔ Any (λ x. (x.name ≡ e.name) × (e.stamp.seq ≤ x.stamp.seq)) es
highest_answers e es on = (
  λ at. let some = Any-reached e.stamp.seq es at in (some.0, some.1, some.2, some.3, (All-contains (λ (x : Entry). x.name ≡ e.name) es some.1 on (some.0, some.2, some.3), some.4)),
  λ some. reached-Any e.stamp.seq es (some.0, some.1, some.2, some.3, some.4.1),
)

-- ---- one more entry

pub highest_of-push : (es : List Entry) (e : Entry) → highest_of (es ++ e ∷ []) ≡ Some (max e.stamp.seq (unwrap_or (highest_of es) 0))
highest_of-push [] e = refl
highest_of-push (x ∷ xs) e =
    let swapped : max x.stamp.seq (max e.stamp.seq (unwrap_or (highest_of xs) 0)) ≡ max e.stamp.seq (max x.stamp.seq (unwrap_or (highest_of xs) 0)) = omega arith in
    ap (λ (o : Option ℕ). Some (max x.stamp.seq (unwrap_or o 0))) (highest_of-push xs e) ∙ ap (λ (n : ℕ). Some n) swapped
