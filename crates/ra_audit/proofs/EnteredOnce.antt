-- In a run each request enters once, so grants that are matched with its marks differ.
use Rattle.std.proofs.Common.{◌≡◌, ◌≢◌, ℕ, zero, suc, ◌<◌, ◌≤◌, List, [], ◌∷◌, ◌++◌, length, get_or, AllPairs, Contains, Some, refl, sym, ap, ◌∙◌, subst, inl, inr, arith}
use Rattle.std.specs.Prelude.{◌⊎◌, slice_get, swap}
use Rattle.std.specs.List.Sorted.{IsPermutation}
use Rattle.std.proofs.lemmas.Bool.{cases_lt, cases_eq}
use Rattle.std.proofs.lemmas.List.{append-nil, length-append, length-map, get_or-map, get_or_append_left}
use Rattle.std.proofs.lemmas.List.Edits.{length-swap, swapped_from_swap}
use Rattle.std.proofs.lemmas.List.Elements.{All-contains, Contains-append_left, Contains-get_or}
use Rattle.std.proofs.lemmas.List.Sorted.{IsPermutation-sym, IsPermutation-keeps, Contains-permutation}
use Rattle.std.proofs.lemmas.Option.{same_Some, none-some, slice_get_read}
use Rattle.ra_stamp.specs.declared.entry.Entry.{Entry}
use Rattle.ra_stamp.specs.declared.entry.Mark.{Mark}
use Rattle.ra_stamp.specs.declared.entry.Mark.TheVariants.{Requested, Entered, Left, Withdrawn}
use Rattle.ra_book.specs.declared.book.grant.Grant.{Grant}
use Rattle.ra_table.specs.Table.{LockTable, empty_table, TableRun}
use Rattle.ra_table.specs.Laws.{IsAt}
use Rattle.ra_table.proofs.Apart.{Apart, AllPairs-apart, All-from_contains}
use Rattle.ra_table.proofs.History.{run_waits, run_granted}
use Rattle.ra_table.proofs.Runs.{steps_split}
use Rattle.ra_audit.specs.Matching.{AreAllMatched, AreGrantedOnce, entered_in, entries_of}

-- ---- Marks before a place

-- what comes before a place
before : (marks : List Mark) (j : ℕ) (m : Mark) → IsAt marks j m → (prefix : List Mark) × (rest : List Mark) × (marks ≡ prefix ++ m ∷ rest) × (length prefix ≡ j)
before [] j m at = absurd (none-some m at)
before (x ∷ marks) zero m at = ([], marks, ap (λ (y : Mark). y ∷ marks) (same_Some x m at), refl)
before (x ∷ marks) (suc j) m at =
    let b = before marks j m at in
    (x ∷ b.0, b.1, ap (λ (ms : List Mark). x ∷ ms) b.2, ap suc b.3)

-- the marks before it are the same there
as_before : (prefix rest : List Mark) (i : ℕ) (m : Mark) → i < length prefix → IsAt (prefix ++ rest) i m → IsAt prefix i m
as_before [] rest i m low at = absurd (omega (arith, low))
as_before (x ∷ prefix) rest zero m low at = at
as_before (x ∷ prefix) rest (suc i) m low at = as_before prefix rest i m (omega (arith, low)) at

requested_apart : (e f : Entry) → ◌≡◌ {A = Mark} (Requested e) (Entered f) → ⊥
requested_apart e f is = cc

-- ---- A request enters once

-- it was not granted before it is requested
not_before : (marks : List Mark) (table : LockTable) (e : Entry) → TableRun marks table → (i r : ℕ) → i < r → IsAt marks i (Entered e) → IsAt marks r (Requested e) → ⊥
not_before marks table e run i r less entered requested =
    let b = before marks r (Requested e) requested in
    let steps = steps_split b.0 (Requested e ∷ b.1) empty_table table (subst (λ (ms : List Mark). TableRun ms table) b.2 run) in
    let c = steps.0 in
    let at : IsAt b.0 i (Entered e) = as_before b.0 (Requested e ∷ b.1) i (Entered e) (omega (arith, less, b.3)) (subst (λ (ms : List Mark). IsAt ms i (Entered e)) b.2 entered) in
    let there : Contains c.granted e = (run_granted b.0 c e steps.1).1 (i, at) in
    let may = steps.2.1.0 in
    let above = All-contains (λ (x : Entry). x.name ≡ e.name → x.stamp.seq < e.stamp.seq) c.granted e may.above there refl in
    omega (arith, above)

enters_once : (marks : List Mark) (table : LockTable) (e : Entry) → TableRun marks table → (i j : ℕ) → i < j → IsAt marks i (Entered e) → IsAt marks j (Entered e) → ⊥
enters_once marks table e run i j less first second =
    let b = before marks j (Entered e) second in
    let steps = steps_split b.0 (Entered e ∷ b.1) empty_table table (subst (λ (ms : List Mark). TableRun ms table) b.2 run) in
    let c = steps.0 in
    let at : IsAt b.0 i (Entered e) = as_before b.0 (Entered e ∷ b.1) i (Entered e) (omega (arith, less, b.3)) (subst (λ (ms : List Mark). IsAt ms i (Entered e)) b.2 first) in
    let waits : Contains c.waiting e = steps.2.1.0.waits in
    let since = (run_waits b.0 c e steps.1).0 waits in
    let r = since.requested in
    elim (cases_lt r i) [
      | inl earlier ↦ since.not_entered i earlier at
      | inr later ↦ elim (cases_lt i r) [
        | inl past ↦ not_before b.0 c e steps.1 i r past at since.was_requested
        | inr here ↦
            let same : r ≡ i = omega (arith, later, here) in
            requested_apart e e (same_Some (Requested e) (Entered e) (sym since.was_requested ∙ ap (slice_get b.0) same ∙ at))
      ]
    ]

-- ---- The requests that enter are all different

-- no request enters twice
abbrev EnterOnce : List Mark → Type 0
EnterOnce marks = (e : Entry) (i j : ℕ) → i < j → IsAt marks i (Entered e) → IsAt marks j (Entered e) → ⊥

later : (m : Mark) (marks : List Mark) → EnterOnce (m ∷ marks) → EnterOnce marks
later m marks once e i j less first second = once e (suc i) (suc j) (omega (arith, less)) first second

one_later : (x : Mark) (marks : List Mark) (m : Mark) → Contains marks m → Contains (x ∷ marks) m
one_later x marks m at = (suc at.0, omega (arith, at.1), at.2)

-- a request that enters has its mark
entered_is_mark : (marks : List Mark) (e : Entry) → Contains (entered_in marks) e → Contains marks (Entered e)
entered_is_mark [] e at = absurd (omega (arith, at.1))
entered_is_mark (Requested f ∷ marks) e at = one_later (Requested f) marks (Entered e) (entered_is_mark marks e at)
entered_is_mark (Left f ∷ marks) e at = one_later (Left f) marks (Entered e) (entered_is_mark marks e at)
entered_is_mark (Withdrawn f ∷ marks) e at = one_later (Withdrawn f) marks (Entered e) (entered_is_mark marks e at)
entered_is_mark (Entered f ∷ marks) e (zero, low, is) = (0, omega arith, ap (λ (x : Entry). Entered x) is)
entered_is_mark (Entered f ∷ marks) e (suc k, low, is) = one_later (Entered f) marks (Entered e) (entered_is_mark marks e (k, omega (arith, low), is))

-- a mark that there is, at a place
place_of : (marks : List Mark) (m : Mark) → Contains marks m → (k : ℕ) × IsAt marks k m
place_of marks m at = (at.0, slice_get_read marks (length marks) at.0 m refl at.1 (sym at.2))

all_apart : (marks : List Mark) → EnterOnce marks → Apart (λ (a b : Entry). a ≢ b) (entered_in marks)
all_apart [] once = tt
all_apart (Requested e ∷ marks) once = all_apart marks (later (Requested e) marks once)
all_apart (Left e ∷ marks) once = all_apart marks (later (Left e) marks once)
all_apart (Withdrawn e ∷ marks) once = all_apart marks (later (Withdrawn e) marks once)
all_apart (Entered e ∷ marks) once = (
  All-from_contains (λ (x : Entry). e ≢ x) (entered_in marks)
      (λ x there same.
      let k = place_of marks (Entered x) (entered_is_mark marks x there) in
      once e 0 (suc k.0) (omega arith) refl (k.1 ∙ ap (λ (y : Entry). Some (Entered y)) (sym same))),
  all_apart marks (later (Entered e) marks once),
)

-- ---- In any order

-- the old place of the element at a place, if the elements at two places are exchanged
abbrev Goes : ℕ → ℕ → ℕ → ℕ → Type 0
Goes a b k m = ((k ≡ a) × (m ≡ b)) ⊎ (((k ≢ a) × (k ≡ b) × (m ≡ a)) ⊎ ((k ≢ a) × (k ≢ b) × (m ≡ k)))

module _ {X : Type 0} where
  abbrev Differ : List X → Type 0
  Differ xs = AllPairs (λ a b. a ≢ b) xs

  -- elements at different places differ
  apart_at : (xs : List X) → Differ xs → (i j : ℕ) (d : X) → i ≢ j → i < length xs → j < length xs → get_or xs i d ≢ get_or xs j d
  apart_at xs differ i j d other low low' = elim (cases_lt i j) [
    | inl less ↦ differ i j d less low'
    | inr more ↦ λ same. differ j i d (below i j other more) low (sym same)
  ]
    where
      below : (i j : ℕ) → i ≢ j → j ≤ i → j < i
      below i j other more = elim (cases_lt j i) [
        | inl less ↦ less
        | inr least ↦ absurd (other (omega (arith, more, least)))
      ]

  -- an exchange keeps that
  exchanged : (xs : List X) (a b : ℕ) → a < length xs → b < length xs → Differ xs → Differ (swap xs a b)
  exchanged xs a b low low' differ i j d less within =
      let ys = swap xs a b in
      let long = length-swap xs a b in
      let s = swapped_from_swap xs ys a b d low low' refl in
      let from : (k : ℕ) → k < length xs → (m : ℕ) × (m < length xs) × (get_or ys k d ≡ get_or xs m d) × Goes a b k m =
      λ k below. elim (cases_eq k a) [
        | inl here ↦ (b, low', ap (λ (n : ℕ). get_or ys n d) here ∙ s.0, inl (here, refl))
        | inr other ↦ elim (cases_eq k b) [
          | inl here ↦ (a, low, ap (λ (n : ℕ). get_or ys n d) here ∙ s.1, inr (inl (other, here, refl)))
          | inr neither ↦ (k, below, s.2 k other neither, inr (inr (other, neither, refl)))
        ]
      ]
      in
      let p = from i (omega (arith, less, within, long)) in
      let q = from j (omega (arith, within, long)) in
      λ same. apart_at xs differ p.0 q.0 d (places i j less a b p.0 q.0 p.3 q.3) p.1 q.1 (sym p.2 ∙ same ∙ q.2)
    where
      places : (i j : ℕ) → i < j → (a b p q : ℕ) → Goes a b i p → Goes a b j q → p ≢ q
      places i j less a b p q (inl x) (inl y) same = omega (arith, less, x.0, y.0)
      places i j less a b p q (inl x) (inr (inl y)) same = y.0 (y.1 ∙ sym x.1 ∙ same ∙ y.2)
      places i j less a b p q (inl x) (inr (inr y)) same = y.1 (sym y.2 ∙ sym same ∙ x.1)
      places i j less a b p q (inr (inl x)) (inl y) same = x.0 (x.1 ∙ sym y.1 ∙ sym same ∙ x.2)
      places i j less a b p q (inr (inl x)) (inr (inl y)) same = omega (arith, less, x.1, y.1)
      places i j less a b p q (inr (inl x)) (inr (inr y)) same = y.0 (sym y.2 ∙ sym same ∙ x.2)
      places i j less a b p q (inr (inr x)) (inl y) same = x.1 (sym x.2 ∙ same ∙ y.1)
      places i j less a b p q (inr (inr x)) (inr (inl y)) same = x.0 (sym x.2 ∙ same ∙ y.2)
      places i j less a b p q (inr (inr x)) (inr (inr y)) same = omega (arith, less, x.2, y.2, same)

  in_any_order : (xs ys : List X) → IsPermutation xs ys → Differ xs → Differ ys
  in_any_order xs ys same differ = IsPermutation-keeps xs Differ differ (λ l i j p q h. exchanged l i j p q h) ys same

  -- the first ones of them differ, too
  first_ones : (xs ys : List X) → Differ (xs ++ ys) → Differ xs
  first_ones xs ys differ i j d less within =
      let long = length-append xs ys in
      λ same. differ i j d less (omega (arith, within, long)) (get_or_append_left xs ys d i (omega (arith, less, within)) ∙ same ∙ sym (get_or_append_left xs ys d j within))

-- ---- Grants that are matched

pub granted_once : (marks : List Mark) (table : LockTable) (grants : List Grant) → TableRun marks table → AreAllMatched marks grants → AreGrantedOnce marks grants
granted_once marks table grants run all =
    let m = all.1 in
    let matched = m.matched in
    let grants_are : IsPermutation (entries_of grants) matched = subst (IsPermutation (entries_of grants)) (append-nil matched) m.grants_are in
    let entered = entered_in marks in
    let differ : AllPairs (λ (a b : Entry). a ≢ b) entered = AllPairs-apart (λ (a b : Entry). a ≢ b) entered (all_apart marks (λ e i j. enters_once marks table e run i j)) in
    let both = in_any_order entered (matched ++ all.0) m.marks_are differ in
    let entries = in_any_order matched (entries_of grants) (IsPermutation-sym (entries_of grants) matched grants_are) (first_ones matched all.0 both) in
    record {
      granted = λ k d low.
          let g = get_or grants k d in
          let there : Contains (entries_of grants) g.entry =
          subst (Contains (entries_of grants)) (get_or-map (λ (x : Grant). x.entry) grants k d d.entry low)
          (Contains-get_or (entries_of grants) k d.entry (omega (arith, low, length-map grants (λ (x : Grant). x.entry)))) in
          entered_is_mark marks g.entry (Contains-permutation (matched ++ all.0) entered g.entry (IsPermutation-sym entered (matched ++ all.0) m.marks_are)
          (Contains-append_left matched all.0 g.entry (Contains-permutation (entries_of grants) matched g.entry grants_are there)));
      once = λ i j d less within same.
          entries i j d.entry less (omega (arith, within, length-map grants (λ (x : Grant). x.entry)))
          (get_or-map (λ (x : Grant). x.entry) grants i d d.entry (omega (arith, less, within)) ∙ ap (λ (x : Grant). x.entry) same ∙ sym (get_or-map (λ (x : Grant). x.entry) grants j d d.entry within));
    }
