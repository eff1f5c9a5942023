-- Requests in the order of their names: those for one name are next to each other, and those that are queued come last.
use Rattle.std.proofs.Common.{rules, ◌≡◌, ◌⊎◌, ℕ, zero, suc, ◌<◌, ◌≤◌, ◌+◌, inl, inr, List, [], ◌∷◌, Bool, true, false, length, get_or, refl, sym, ◌∙◌, ap, subst, arith}
use Rattle.std.specs.Cmp.{IsTotalOrder, bool_cmp_total}
use Rattle.std.specs.Cmp.Lexicographic.{slice_cmp}
use Rattle.std.specs.List.Sorted.{IsSortedByKey}
use Rattle.std.specs.declared.cmp.Ordering.{Ordering}
use Rattle.std.specs.declared.cmp.Ordering.TheVariants.{Less, Equal, Greater}
use Rattle.std.proofs.lemmas.Bool.{cases_lt, false≢true}
use Rattle.std.specs.Ordering.{nat_cmp, bool_cmp, is_gt, is_lt, ordering_reverse, ordering_then}
use Rattle.std.proofs.lemmas.Cmp.{then_total, on_total, nat_list_cmp_total, tied_itself}
use Rattle.std.proofs.lemmas.List.{get_or_default}
use Rattle.std.proofs.lemmas.List.Sorted.{sorted_far}
use Rattle.std.proofs.lemmas.List.MinMax.{ranks_by}
use Rattle.std.proofs.lemmas.Map.Lookups.{exact_bytes}
use Rattle.ra_stamp.specs.declared.entry.Entry.{Entry}
use Rattle.ra_deadlock.specs.declared.request.Stage.{Stage}
use Rattle.ra_deadlock.specs.declared.request.Stage.TheVariants.{Waits, Queued, Holds}
use Rattle.ra_deadlock.specs.declared.request.Request.{Request}
use Rattle.ra_deadlock.specs.declared.search.ranks.Ranked.{Ranked}
use Rattle.ra_deadlock.specs.Deadlock.{IsInTheWay, IsInTheWayAt}
use Rattle.ra_deadlock.specs.Ranks.{Agree, is_queued, key_of, key_cmp}

abbrev name_of : Ranked → List ℕ
name_of ranked = ranked.request.entry.name

-- ---- Whose request is in the way

-- a request in the way of another one is for the same name
pub same_name : (ahead own : Request) → IsInTheWay ahead own → ahead.entry.name ≡ own.entry.name
same_name ahead own = by_stages ahead.stage own.stage where
  by_stages : (first second : Stage) → IsInTheWayAt second (record { entry = ahead.entry; stage = first }) own.entry → ahead.entry.name ≡ own.entry.name
  by_stages Waits Waits = λ way. way.0.0
  by_stages Holds Waits = λ way. way.0
  by_stages Queued Waits = λ way. absurd way
  by_stages Waits Queued = λ way. way.0
  by_stages Holds Queued = λ way. way.0
  by_stages Queued Queued = λ way. absurd way
  by_stages first Holds = λ way. absurd way

-- one that is queued is in the way of none
pub queued_is_in_no_way : (ahead own : Request) → is_queued ahead.stage ≡ true → IsInTheWay ahead own → ⊥
queued_is_in_no_way ahead own = by_stages ahead.stage own.stage where
  by_stages : (first second : Stage) → is_queued first ≡ true → IsInTheWayAt second (record { entry = ahead.entry; stage = first }) own.entry → ⊥
  by_stages Waits second = λ is. absurd (false≢true is)
  by_stages Holds second = λ is. absurd (false≢true is)
  by_stages Queued Waits = λ is way. way
  by_stages Queued Queued = λ is way. way
  by_stages Queued Holds = λ is way. way

pub apart : (a b : Ranked) → (name_of a ≡ name_of b → ⊥) → Agree a b
apart a b other = (λ way. absurd (other (sym (same_name b.request a.request way))), λ way. absurd (other (same_name a.request b.request way)))

pub both_queued : (a b : Ranked) → is_queued a.request.stage ≡ true → is_queued b.request.stage ≡ true → Agree a b
both_queued a b first second = (λ way. absurd (queued_is_in_no_way b.request a.request second way), λ way. absurd (queued_is_in_no_way a.request b.request first way))

-- ---- In order

key_total : IsTotalOrder key_cmp
key_total = then_total (on_total (λ (key : List ℕ × Bool). key.0) nat_list_cmp_total) (on_total (λ (key : List ℕ × Bool). key.1) bool_cmp_total)

far : (ranked : List Ranked) → IsSortedByKey key_of key_cmp ranked → (i j : ℕ) (d : Ranked) → i ≤ j → j < length ranked
    → is_lt (key_cmp (key_of (get_or ranked j d)) (key_of (get_or ranked i d))) ≡ false
far ranked sorted = sorted_far (λ x y. is_lt (key_cmp (key_of x) (key_of y))) (ranks_by key_total key_of) ranked sorted

first_not_less : (p q : Ordering) → is_lt (ordering_then p q) ≡ false → is_lt p ≡ false
first_not_less Less q is = is
first_not_less Equal q is = refl
first_not_less Greater q is = refl

-- two names of which none is less than the other are the same
same : (a b : List ℕ) → is_lt (slice_cmp nat_cmp a b) ≡ false → is_lt (slice_cmp nat_cmp b a) ≡ false → a ≡ b
same a b first second = by (slice_cmp nat_cmp a b) refl where
  by : (o : Ordering) → slice_cmp nat_cmp a b ≡ o → a ≡ b
  by Less = λ is. absurd (false≢true (sym first ∙ ap is_lt is))
  by Equal = λ is. exact_bytes a b is
  by Greater = λ is. absurd (false≢true (sym second ∙ ap is_lt (nat_list_cmp_total.antisymm b a ∙ ap ordering_reverse is)))

-- after a request for another name there is none for this one
pub none_later : (ranked : List Ranked) → IsSortedByKey key_of key_cmp ranked → (i k j : ℕ) (d : Ranked) → i ≤ k → k ≤ j → j < length ranked
    → (name_of (get_or ranked k d) ≡ name_of (get_or ranked i d) → ⊥) → name_of (get_or ranked i d) ≡ name_of (get_or ranked j d) → ⊥
none_later ranked sorted i k j d low high within other is =
    let up : is_lt (slice_cmp nat_cmp (name_of (get_or ranked k d)) (name_of (get_or ranked i d))) ≡ false = first_not_less _ _ (far ranked sorted i k d low (omega (arith, high, within))) in
    let later : is_lt (slice_cmp nat_cmp (name_of (get_or ranked j d)) (name_of (get_or ranked k d))) ≡ false = first_not_less _ _ (far ranked sorted k j d high within) in
    other (same _ _ up (subst (λ (name : List ℕ). is_lt (slice_cmp nat_cmp name (name_of (get_or ranked k d))) ≡ false) (sym is) later))

second_not_less : (p : Ordering) (a b : Bool) → p ≡ Equal → is_lt (ordering_then p (bool_cmp a b)) ≡ false → b ≡ true → a ≡ true
second_not_less Equal true b is not up = refl
second_not_less Equal false true is not up = absurd (false≢true (sym not))
second_not_less Equal false false is not up = up
second_not_less Less a b is not up = absurd (false≢true (sym not))
second_not_less Greater a b is not up = absurd (false≢true (ap is_gt (sym is)))

name_equal : (a b : List ℕ) → a ≡ b → slice_cmp nat_cmp a b ≡ Equal
name_equal a b is = subst (λ (x : List ℕ). slice_cmp nat_cmp a x ≡ Equal) is (tied_itself nat_list_cmp_total a)

-- after one that is queued, those for the same name are, too
pub queued_later : (ranked : List Ranked) → IsSortedByKey key_of key_cmp ranked → (i j : ℕ) (d : Ranked) → i ≤ j → j < length ranked
    → is_queued (get_or ranked i d).request.stage ≡ true → name_of (get_or ranked j d) ≡ name_of (get_or ranked i d) → is_queued (get_or ranked j d).request.stage ≡ true
queued_later ranked sorted i j d low within queued is =
    second_not_less _ _ _ (name_equal _ _ is) (far ranked sorted i j d low within) queued

-- ---- A request and those after it

later_of : (ranked : List Ranked) → IsSortedByKey key_of key_cmp ranked → (i j : ℕ) (d own : Ranked) → own ≡ get_or ranked i own → is_queued own.request.stage ≡ true → i < j → j < length ranked
    → name_of (get_or ranked j d) ≡ name_of own → is_queued (get_or ranked j d).request.stage ≡ true
later_of ranked sorted i j d own at queued low within is =
    let here : own ≡ get_or ranked i d = at ∙ get_or_default ranked i own d (omega (arith, low, within)) in
    queued_later ranked sorted i j d (omega (arith, low)) within (subst (λ (x : Ranked). is_queued x.request.stage ≡ true) here queued) (subst (λ (x : Ranked). name_of (get_or ranked j d) ≡ name_of x) here is)

-- one that is queued agrees with those after it
pub queued_agrees : (ranked : List Ranked) → IsSortedByKey key_of key_cmp ranked → (i : ℕ) (own : Ranked) → i < length ranked → own ≡ get_or ranked i own → is_queued own.request.stage ≡ true
    → (j : ℕ) (d : Ranked) → i < j → j < length ranked → Agree (get_or ranked i d) (get_or ranked j d)
queued_agrees ranked sorted i own first at queued j d low within =
    let here : own ≡ get_or ranked i d = at ∙ get_or_default ranked i own d first in
    let other = get_or ranked j d in
    subst (λ (x : Ranked). Agree x other) here (
      λ way. absurd (queued_is_in_no_way other.request own.request (later_of ranked sorted i j d own at queued low within (same_name other.request own.request way)) way),
      λ way. absurd (queued_is_in_no_way own.request other.request queued way),
    )

-- after one for another name, all agree
pub others_agree : (ranked : List Ranked) → IsSortedByKey key_of key_cmp ranked → (i k : ℕ) (own other : Ranked) → i < k → k < length ranked → own ≡ get_or ranked i own → other ≡ get_or ranked k other
    → (name_of other ≡ name_of own → ⊥) → ((j : ℕ) (d : Ranked) → i < j → j < k → Agree (get_or ranked i d) (get_or ranked j d))
    → (j : ℕ) (d : Ranked) → i < j → j < length ranked → Agree (get_or ranked i d) (get_or ranked j d)
others_agree ranked sorted i k own other low inside at there apart_names before j d less within =
    elim (cases_lt j k) [
      | inl earlier ↦ before j d less earlier
      | inr later ↦
          let here : own ≡ get_or ranked i d = at ∙ get_or_default ranked i own d (omega (arith, low, inside)) in
          let next : other ≡ get_or ranked k d = there ∙ get_or_default ranked k other d inside in
          let apart_there : name_of (get_or ranked k d) ≡ name_of (get_or ranked i d) → ⊥ =
          subst (λ (x : Ranked). name_of x ≡ name_of (get_or ranked i d) → ⊥) next (subst (λ (x : Ranked). name_of other ≡ name_of x → ⊥) here apart_names) in
          apart (get_or ranked i d) (get_or ranked j d)
          (λ is. none_later ranked sorted i k j d (omega (arith, low)) later within apart_there is)
    ]

-- one more agrees
pub one_more_agrees : (ranked : List Ranked) (i k : ℕ) (own other : Ranked) → i < k → k < length ranked → own ≡ get_or ranked i own → other ≡ get_or ranked k other → Agree own other
    → ((j : ℕ) (d : Ranked) → i < j → j < k → Agree (get_or ranked i d) (get_or ranked j d))
    → (j : ℕ) (d : Ranked) → i < j → j < k + 1 → Agree (get_or ranked i d) (get_or ranked j d)
one_more_agrees ranked i k own other low inside at there both before j d less within =
    elim (cases_lt j k) [
      | inl earlier ↦ before j d less earlier
      | inr not ↦
          let same_place : k ≡ j = omega (arith, not, within) in
          let here : own ≡ get_or ranked i d = at ∙ get_or_default ranked i own d (omega (arith, low, inside)) in
          let next : other ≡ get_or ranked k d = there ∙ get_or_default ranked k other d inside in
          subst (λ (m : ℕ). Agree (get_or ranked i d) (get_or ranked m d)) same_place
          (subst (λ (x : Ranked). Agree (get_or ranked i d) x) next (subst (λ (x : Ranked). Agree x other) here both))
    ]
