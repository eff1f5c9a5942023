-- Which names a client holds, by the places of its operations, and how loops over these find a lock out of order, or one
-- that is never unlocked.
use Rattle.std.proofs.Common.{◌≡◌, ◌≢◌, ℕ, zero, suc, true, false, ltb, ◌+◌, ◌-◌, ◌<◌, ◌≤◌, List, [], ◌∷◌, ◌++◌, length, take, drop, Some, None, slice_get, get_or, All, refl, sym, ap, ◌∙◌, subst, arith, inl, inr}
use Rattle.std.proofs.lemmas.Bool.{cases_lt, ltb-true, ltb-false}
use Rattle.std.proofs.lemmas.Option.{slice_get_within, slice_get-get_or, get_or_from_slice_get, same_Some, none-some}
use Rattle.ra_stamp.specs.declared.mode.Mode.{Mode}
use Rattle.ra_schedule.specs.declared.script.Op.{Op}
use Rattle.ra_schedule.specs.declared.script.Op.TheVariants.{Lock, Unlock}
use Rattle.ra_schedule.specs.Script.{IsHeldAfter}
use Rattle.ra_schedule.specs.LockOrder.{IsBelow, LocksOutOfOrder, EndsHolding, LocksAt, LocksBelow, NeverUnlocks}
use Rattle.ra_schedule.specs.LockSearch.{LocksNotAbove, NoneBelow}

-- ---- Lists, by places

-- the element at a seam
at_seam : {X : Type 0} (xs ys : List X) (x : X) → slice_get (xs ++ x ∷ ys) (length xs) ≡ Some x
at_seam [] ys x = refl
at_seam (y ∷ xs) ys x = at_seam xs ys x

-- what is after a seam
after_seam : {X : Type 0} (xs ys : List X) (x : X) (n k : ℕ) → n ≡ suc (length xs + k) → slice_get (xs ++ x ∷ ys) n ≡ slice_get ys k
after_seam [] ys x zero k e = absurd (omega arith)
after_seam [] ys x (suc n) k e = ap (slice_get ys) (omega arith)
after_seam (y ∷ xs) ys x zero k e = absurd (omega arith)
after_seam (y ∷ xs) ys x (suc n) k e = after_seam xs ys x n k (omega arith)

-- a list is split at each of its elements
split_at : {X : Type 0} (xs : List X) (i : ℕ) (x : X) → slice_get xs i ≡ Some x → xs ≡ take i xs ++ x ∷ drop (suc i) xs
split_at [] i x is = absurd (none-some x is)
split_at (y ∷ xs) zero x is = ap (λ z. z ∷ xs) (same_Some y x is)
split_at (y ∷ xs) (suc i) x is = ap (λ zs. y ∷ zs) (split_at xs i x is)

get_drop : {X : Type 0} (xs : List X) (n k m : ℕ) → m ≡ n + k → slice_get (drop n xs) k ≡ slice_get xs m
get_drop xs zero k m e = ap (slice_get xs) (omega arith)
get_drop [] (suc n) k m e = refl
get_drop (x ∷ xs) (suc n) k zero e = absurd (omega arith)
get_drop (x ∷ xs) (suc n) k (suc m) e = get_drop xs n k m (omega arith)

get_take : {X : Type 0} (xs : List X) (n k : ℕ) → k < n → slice_get (take n xs) k ≡ slice_get xs k
get_take xs zero k less = absurd (omega arith)
get_take [] (suc n) k less = refl
get_take (x ∷ xs) (suc n) zero less = refl
get_take (x ∷ xs) (suc n) (suc k) less = get_take xs n k (omega arith)

past_take : {X : Type 0} (xs : List X) (n k : ℕ) → n ≤ k → slice_get (take n xs) k ≡ None
past_take xs zero k more = refl
past_take [] (suc n) k more = refl
past_take (x ∷ xs) (suc n) zero more = absurd (omega arith)
past_take (x ∷ xs) (suc n) (suc k) more = past_take xs n k (omega arith)

-- the operation that is read at a place
pub read_at : (ops : List Op) (place : ℕ) (op : Op) → place < length ops → op ≡ get_or ops place op → slice_get ops place ≡ Some op
read_at ops place op less is = slice_get-get_or ops place op less ∙ ap Some (sym is)

-- ---- A name that is held

-- from this place on, the name is not unlocked
abbrev IsKept : List Op → ℕ → List ℕ → Type 0
IsKept ops place held = (k : ℕ) → place < k → slice_get ops k ≢ Some (Unlock held)

-- if there are only other operations, the name is not unlocked
not_unlocked : (ops : List Op) (held : List ℕ) (k : ℕ) → All (λ op. op ≢ Unlock held) ops → slice_get ops k ≢ Some (Unlock held)
not_unlocked ops held k all is =
    all k (Unlock held) (slice_get_within ops k (Unlock held) is) (get_or_from_slice_get ops k (Unlock held) (Unlock held) is)

-- a name that is held was locked at some place, and not unlocked after it
held_place : (ops : List Op) (held : List ℕ) → IsHeldAfter ops held → (i : ℕ) × LocksAt ops i held × IsKept ops i held
held_place ops held h =
    let before = h.0 in
    let after = h.1 in
    let mode = h.2 in (
      length before,
      (mode, ap (λ xs. slice_get xs (length before)) h.3 ∙ at_seam before after (Lock held mode)),
      λ k from is.
          let j : ℕ = k - (length before + 1) in
          let later : slice_get (before ++ Lock held mode ∷ after) k ≡ slice_get after j = after_seam before after (Lock held mode) k j (omega arith) in
          not_unlocked after held j h.4 (sym later ∙ (sym (ap (λ xs. slice_get xs k) h.3) ∙ is)),
    )

place_held : (ops : List Op) (held : List ℕ) (i : ℕ) → LocksAt ops i held → IsKept ops i held → IsHeldAfter ops held
place_held ops held i locks kept = (
  take i ops,
  drop (suc i) ops,
  locks.0,
  split_at ops i (Lock held locks.0) locks.1,
  λ k d less e.
      kept
      (suc i + k)
      (omega arith)
      (sym (get_drop ops (suc i) k (suc i + k) refl) ∙ (slice_get-get_or (drop (suc i) ops) k d less ∙ ap Some e)),
)

-- the operation at a place locks one name
one_name : (ops : List Op) (place : ℕ) (a b : List ℕ) → LocksAt ops place a → LocksAt ops place b → a ≡ b
one_name ops place a b x y =
    let same : Lock a x.0 ≡ Lock b y.0 = same_Some (Lock a x.0) (Lock b y.0) (sym x.1 ∙ y.1) in
    cc

-- ---- Out of order

pub below_out_of_order : (ops : List Op) (since place : ℕ) → LocksBelow ops since place → LocksOutOfOrder ops
below_out_of_order ops since place b = (
  place,
  b.name,
  b.locks.0,
  b.held,
  b.locks.1,
  place_held (take place ops) b.held since (b.locks_held.0, get_take ops place since b.later ∙ b.locks_held.1) (λ k more e.
      elim (cases_lt k place) [
        | inl less ↦ b.kept k more less (sym (get_take ops place k less) ∙ e)
        | inr past ↦ none-some (Unlock b.held) (sym (past_take ops place k past) ∙ e)
      ]),
  b.not_above,
)

pub out_of_order_below : (ops : List Op) → LocksOutOfOrder ops → (since place : ℕ) × LocksBelow ops since place
out_of_order_below ops h =
    let place = h.0 in
    let held = h.3 in
    let p = held_place (take place ops) held h.5 in
    let since = p.0 in
    let earlier : since < place =
    elim (cases_lt since place) [
      | inl less ↦ less
      | inr past ↦ absurd (none-some (Lock held p.1.0) (sym (past_take ops place since past) ∙ p.1.1))
    ] in (
      since,
      place,
      record {
        held = held;
        name = h.1;
        later = earlier;
        locks_held = (p.1.0, sym (get_take ops place since earlier) ∙ p.1.1);
        kept = λ k more less e. p.2 k more (get_take ops place k less ∙ e);
        locks = (h.2, h.4);
        not_above = h.6;
      },
    )

-- the operation at this place, if there is one, neither unlocks the name nor locks one that is not above it
abbrev pub Passed : List Op → List ℕ → ℕ → Type 0
Passed ops held k = (op : Op) → slice_get ops k ≡ Some op → (op ≢ Unlock held) × (LocksNotAbove op held → ⊥)

-- so do the operations after one place and before another
abbrev pub AllPassed : List Op → List ℕ → (since place : ℕ) → Type 0
AllPassed ops held since place = (k : ℕ) → since < k → k < place → Passed ops held k

pub passed_more : (ops : List Op) (held : List ℕ) (since place : ℕ) (op : Op) → slice_get ops place ≡ Some op
    → AllPassed ops held since place → op ≢ Unlock held → (LocksNotAbove op held → ⊥) → AllPassed ops held since (place + 1)
passed_more ops held since place op is before not_unlock not_below k low less =
    elim (cases_lt k place) [
      | inl under ↦ before k low under
      | inr over ↦
          let here : Passed ops held place = λ other is'.
          let same : op ≡ other = same_Some op other (sym is ∙ is') in (
            λ e. not_unlock (same ∙ e),
            λ below. not_below (below.0, below.1, same ∙ below.2, below.3),
          ) in
          let at : place ≡ k = omega arith in
          subst (Passed ops held) at here
    ]

module _ (ops : List Op) (held : List ℕ) (since place : ℕ) (locked : LocksAt ops since held) (before : AllPassed ops held since place) where
  -- nothing was found so far
  pub none_below : NoneBelow ops since place
  none_below other less b =
      let same : b.held ≡ held = one_name ops since b.held held b.locks_held locked in
      (before other b.later less (Lock b.name b.locks.0) b.locks.1).1
      (b.name, b.locks.0, refl, λ is. b.not_above (subst (λ (n : List ℕ). IsBelow n b.name) (sym same) is))

  -- the name is unlocked before another is locked that is not above it
  pub unlocked_first : since < place → slice_get ops place ≡ Some (Unlock held) → (end : ℕ) → NoneBelow ops since end
  unlocked_first later is end other less b =
      let same : b.held ≡ held = one_name ops since b.held held b.locks_held locked in
      elim (cases_lt other place) [
        | inl under ↦ none_below other under b
        | inr over ↦ elim (cases_lt place other) [
          | inl above ↦ b.kept place later above (is ∙ ap (λ (n : List ℕ). Some (Unlock n)) (sym same))
          | inr under ↦
              let at : other ≡ place = omega arith in
              let e : Lock b.name b.locks.0 ≡ Unlock held =
              same_Some (Lock b.name b.locks.0) (Unlock held) (sym b.locks.1 ∙ (ap (slice_get ops) at ∙ is)) in
              cc
        ]
      ]

  -- such a name is locked here
  pub below_found : since < place → (op : Op) → slice_get ops place ≡ Some op → LocksNotAbove op held → LocksBelow ops since place
  below_found later op is below = record {
    held = held;
    name = below.0;
    later = later;
    locks_held = locked;
    kept = λ k more less e. (before k more less (Unlock held) e).0 refl;
    locks = (below.1, is ∙ ap Some below.2);
    not_above = below.3;
  }

-- ---- Never unlocked

pub kept_held : (ops : List Op) (place : ℕ) → NeverUnlocks ops place → EndsHolding ops
kept_held ops place b = (b.name, place_held ops b.name place b.locks b.kept)

pub held_kept : (ops : List Op) → EndsHolding ops → (place : ℕ) × NeverUnlocks ops place
held_kept ops h =
    let p = held_place ops h.0 h.1 in
    (p.0, record { name = h.0; locks = p.1; kept = p.2 })

-- the places after one and before another do not unlock the name
abbrev pub AllKept : List Op → List ℕ → (from place : ℕ) → Type 0
AllKept ops held from place = (k : ℕ) → from < k → k < place → slice_get ops k ≢ Some (Unlock held)

pub kept_more : (ops : List Op) (held : List ℕ) (from place : ℕ) (op : Op) → slice_get ops place ≡ Some op → AllKept ops held from place → op ≢ Unlock held
    → AllKept ops held from (place + 1)
kept_more ops held from place op is before other k low less =
    elim (cases_lt k place) [
      | inl under ↦ before k low under
      | inr over ↦
          let at : k ≡ place = omega arith in
          λ e. other (same_Some op (Unlock held) (sym is ∙ (ap (slice_get ops) (sym at) ∙ e)))
    ]

pub kept_to_the_end : (ops : List Op) (held : List ℕ) (place end : ℕ) → length ops ≤ end → LocksAt ops place held → AllKept ops held place end
    → NeverUnlocks ops place
kept_to_the_end ops held place end all locks kept = record {
  name = held;
  locks = locks;
  kept = λ k more e. let within : k < length ops = slice_get_within ops k (Unlock held) e in kept k more (omega arith) e;
}

pub not_kept : (ops : List Op) (held : List ℕ) (place later : ℕ) → place < later → LocksAt ops place held → slice_get ops later ≡ Some (Unlock held)
    → NeverUnlocks ops place → ⊥
not_kept ops held place later more locks is b =
    b.kept later more (is ∙ ap (λ (n : List ℕ). Some (Unlock n)) (one_name ops place held b.name locks b.locks))

-- ---- What is found at a place

-- the operation at this place locks a name
pub lock_found : (ops : List Op) (place : ℕ) (op : Op) (name : List ℕ) (mode : Mode) → true ≡ ltb place (length ops) → op ≡ get_or ops place op
    → op ≡ Lock name mode → (place < length ops) × LocksAt ops place name
lock_found ops place op name mode inside at is =
    let less = ltb-true place (length ops) (sym inside) in (less, (mode, read_at ops place op less at ∙ ap Some is))

-- it unlocks one, and so locks none
pub unlock_found : (ops : List Op) (place : ℕ) (op : Op) (unlocked name : List ℕ) → true ≡ ltb place (length ops) → op ≡ get_or ops place op
    → op ≡ Unlock unlocked → LocksAt ops place name → ⊥
unlock_found ops place op unlocked name inside at is locks =
    let there = read_at ops place op (ltb-true place (length ops) (sym inside)) at in
    let clash : Unlock unlocked ≡ Lock name locks.0 = sym is ∙ same_Some op (Lock name locks.0) (sym there ∙ locks.1) in
    cc

-- there is no such place
pub nothing_found : (ops : List Op) (place : ℕ) (name : List ℕ) → false ≡ ltb place (length ops) → LocksAt ops place name → ⊥
nothing_found ops place name outside locks =
    let past = ltb-false place (length ops) (sym outside) in
    let less = slice_get_within ops place (Lock name locks.0) locks.1 in
    omega (arith, past, less)
