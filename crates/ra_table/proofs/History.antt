-- Who waits, holds and was granted in the table of a run, read off its marks.
use Rattle.std.proofs.Common.{◌≡◌, ℕ, zero, suc, ◌<◌, List, [], ◌∷◌, ◌++◌, All, Contains, Some, refl, sym, ap, subst, ◌∙◌, arith, inl, inr}
use Rattle.std.specs.Prelude.{◌⊎◌, ◌↔◌}
use Rattle.std.proofs.lemmas.Option.{same_Some}
use Rattle.std.proofs.lemmas.List.Elements.{All-contains}
use Rattle.ra_stamp.specs.declared.entry.Entry.{Entry}
use Rattle.ra_stamp.specs.declared.entry.Mark.{Mark}
use Rattle.ra_stamp.specs.declared.entry.Mark.TheVariants.{Requested, Entered, Left, Withdrawn}
use Rattle.ra_table.specs.Table.{LockTable, empty_table, TableStep, TableSteps, TableRun}
use Rattle.ra_table.specs.Laws.{IsAt, WaitsSince, HoldsSince, SameEntries}
use Rattle.ra_table.proofs.Apart.{All-apart, Contains-there, Contains-put, Contains-cases}
use Rattle.ra_table.proofs.Sound.{NotOfOneNode, NotOfOneNode-flip, IsSoundTable, empty_is_sound, step_sound}
use Rattle.ra_table.proofs.Runs.{keeps_granted}
use Rattle.ra_table.proofs.Counts.{steps_counts}

-- P comes with the mark `on`, and stays until a mark that is Off
record Lasts (P : LockTable → Type 0) (on : Mark) (Off : Mark → Type 0) : Type 0 where
  starts : (old new : LockTable) → TableStep old on new → P new
  keeps : (old new : LockTable) (m : Mark) → TableStep old m new → (Off m → ⊥) → P old → P new
  comes : (old new : LockTable) (m : Mark) → IsSoundTable old → TableStep old m new → P new → (P old × (Off m → ⊥)) ⊎ (m ≡ on)

-- no mark from this place on is Off
abbrev NoneFrom : (Mark → Type 0) → List Mark → ℕ → Type 0
NoneFrom Off marks place = (k : ℕ) (m : Mark) → place < suc k → IsAt marks k m → Off m → ⊥

none_before : (Off : Mark → Type 0) (m : Mark) (ms : List Mark) → (Off m → ⊥) → NoneFrom Off ms 0 → NoneFrom Off (m ∷ ms) 0
none_before Off m ms first rest zero x lt at off = first (subst Off (sym (same_Some m x at)) off)
none_before Off m ms first rest (suc k) x lt at off = rest k x (omega arith) at off

none_later : (Off : Mark → Type 0) (m : Mark) (ms : List Mark) (place : ℕ) → NoneFrom Off ms place → NoneFrom Off (m ∷ ms) (suc place)
none_later Off m ms place rest zero x lt at off = absurd (omega arith)
none_later Off m ms place rest (suc k) x lt at off = rest k x (omega arith) at off

none_rest : (Off : Mark → Type 0) (m : Mark) (ms : List Mark) (place : ℕ) → NoneFrom Off (m ∷ ms) (suc place) → NoneFrom Off ms place
none_rest Off m ms place none k x lt at off = none (suc k) x (omega arith) at off

-- the mark `on` is at this place, and none after it is Off
record Since (on : Mark) (Off : Mark → Type 0) (marks : List Mark) (place : ℕ) : Type 0 where
  there : IsAt marks place on
  none : NoneFrom Off marks (suc place)

came : (P : LockTable → Type 0) (on : Mark) (Off : Mark → Type 0) → Lasts P on Off → (marks : List Mark) (old new : LockTable) → TableSteps old marks new → IsSoundTable old → P new
    → (P old × NoneFrom Off marks 0) ⊎ ((place : ℕ) × Since on Off marks place)
came P on Off lasts [] old new same sound p = inl (subst P same p, λ k m lt at off. absurd cc)
came P on Off lasts (m ∷ ms) old new steps sound p =
    elim (came P on Off lasts ms steps.0 new steps.2 (step_sound old steps.0 m steps.1 sound) p) [
      | inl before ↦ elim (lasts.comes old steps.0 m sound steps.1 before.0) [
        | inl older ↦ inl (older.0, none_before Off m ms older.1 before.1)
        | inr is ↦ inr (0, record { there = ap (λ (x : Mark). Some x) is; none = none_later Off m ms 0 before.1 })
      ]
      | inr since ↦ inr (suc since.0, record { there = since.1.there; none = none_later Off m ms (suc since.0) since.1.none })
    ]

stays : (P : LockTable → Type 0) (on : Mark) (Off : Mark → Type 0) → Lasts P on Off → (marks : List Mark) (old new : LockTable) → TableSteps old marks new → P old → NoneFrom Off marks 0 → P new
stays P on Off lasts [] old new same p none = subst P (sym same) p
stays P on Off lasts (m ∷ ms) old new steps p none =
    stays P on Off lasts ms steps.0 new steps.2 (lasts.keeps old steps.0 m steps.1 (none 0 m (omega arith) refl) p) (λ k x lt at off. none (suc k) x (omega arith) at off)

is_since : (P : LockTable → Type 0) (on : Mark) (Off : Mark → Type 0) → Lasts P on Off → (marks : List Mark) (old new : LockTable) (place : ℕ) → TableSteps old marks new
    → IsAt marks place on → NoneFrom Off marks (suc place) → P new
is_since P on Off lasts [] old new place steps there none = absurd cc
is_since P on Off lasts (m ∷ ms) old new zero steps there none =
    let step : TableStep old on steps.0 = subst (λ (x : Mark). TableStep old x steps.0) (same_Some m on there) steps.1 in
    stays P on Off lasts ms steps.0 new steps.2 (lasts.starts old steps.0 step) (none_rest Off m ms 0 none)
is_since P on Off lasts (m ∷ ms) old new (suc place) steps there none =
    is_since P on Off lasts ms steps.0 new place steps.2 there (none_rest Off m ms (suc place) none)

-- ---- waiting, from the request to the grant or the withdrawal

abbrev Waits : Entry → LockTable → Type 0
Waits e t = Contains t.waiting e

abbrev EndsWait : Entry → Mark → Type 0
EndsWait e m = (m ≡ Entered e) ⊎ (m ≡ Withdrawn e)

waits_starts : (e : Entry) (old new : LockTable) → TableStep old (Requested e) new → Waits e new
waits_starts e old new step = rw step.1.3 (Contains-there step.1.0 step.1.1 e)

waits_keeps : (e : Entry) (old new : LockTable) (m : Mark) → TableStep old m new → (EndsWait e m → ⊥) → Waits e old → Waits e new
waits_keeps e old new (Requested x) step other at = rw step.1.3 (Contains-put step.1.0 step.1.1 x e (subst (λ (w : List Entry). Contains w e) step.1.2 at))
waits_keeps e old new (Entered x) step other at =
    elim (Contains-cases step.1.0 step.1.1 x e (subst (λ (w : List Entry). Contains w e) step.1.3 at)) [
      | inl same ↦ absurd (other (inl (ap (λ (y : Entry). Entered y) same)))
      | inr rest ↦ rw step.1.2 rest
    ]
waits_keeps e old new (Left x) step other at = rw step.1 at
waits_keeps e old new (Withdrawn x) step other at =
    elim (Contains-cases step.1.0 step.1.1 x e (subst (λ (w : List Entry). Contains w e) step.1.3 at)) [
      | inl same ↦ absurd (other (inr (ap (λ (y : Entry). Withdrawn y) same)))
      | inr rest ↦ rw step.1.2 rest
    ]

-- an entry that still waits after another one lost its place is not that one
not_lost : (old : LockTable) (prefix rest : List Entry) (x e : Entry) → IsSoundTable old → old.waiting ≡ prefix ++ x ∷ rest → Contains (prefix ++ rest) e → x ≡ e → ⊥
not_lost old prefix rest x e sound was at same =
    let others : All (NotOfOneNode x) (prefix ++ rest) = All-apart NotOfOneNode NotOfOneNode-flip prefix rest x (rw (← was) sound.apart_waiting) in
    All-contains (NotOfOneNode x) (prefix ++ rest) e others at (ap (λ (y : Entry). y.name) same, ap (λ (y : Entry). y.stamp.node) same)

not_ended : (e x : Entry) → (x ≡ e → ⊥) → EndsWait e (Entered x) → ⊥
not_ended e x apart ends = elim ends [ inl is ↦ apart cc | inr is ↦ absurd cc ]

not_given_up : (e x : Entry) → (x ≡ e → ⊥) → EndsWait e (Withdrawn x) → ⊥
not_given_up e x apart ends = elim ends [ inl is ↦ absurd cc | inr is ↦ apart cc ]

goes_on_waiting : (e x : Entry) (m : Mark) → (m ≡ Requested x) ⊎ (m ≡ Left x) → EndsWait e m → ⊥
goes_on_waiting e x m kind ends = elim kind [
  | inl k ↦ elim ends [ inl is ↦ absurd cc | inr is ↦ absurd cc ]
  | inr k ↦ elim ends [ inl is ↦ absurd cc | inr is ↦ absurd cc ]
]

waits_comes : (e : Entry) (old new : LockTable) (m : Mark) → IsSoundTable old → TableStep old m new → Waits e new → (Waits e old × (EndsWait e m → ⊥)) ⊎ (m ≡ Requested e)
waits_comes e old new (Requested x) sound step at =
    elim (Contains-cases step.1.0 step.1.1 x e (subst (λ (w : List Entry). Contains w e) step.1.3 at)) [
      | inl same ↦ inr (ap (λ (y : Entry). Requested y) same)
      | inr older ↦ inl (rw step.1.2 older, goes_on_waiting e x (Requested x) (inl refl))
    ]
waits_comes e old new (Entered x) sound step at =
    let rest : Contains (step.1.0 ++ step.1.1) e = subst (λ (w : List Entry). Contains w e) step.1.2 at in
    inl (rw step.1.3 (Contains-put step.1.0 step.1.1 x e rest), not_ended e x (not_lost old step.1.0 step.1.1 x e sound step.1.3 rest))
waits_comes e old new (Left x) sound step at = inl (rw (← step.1) at, goes_on_waiting e x (Left x) (inr refl))
waits_comes e old new (Withdrawn x) sound step at =
    let rest : Contains (step.1.0 ++ step.1.1) e = subst (λ (w : List Entry). Contains w e) step.1.2 at in
    inl (rw step.1.3 (Contains-put step.1.0 step.1.1 x e rest), not_given_up e x (not_lost old step.1.0 step.1.1 x e sound step.1.3 rest))

waiting_lasts : (e : Entry) → Lasts (Waits e) (Requested e) (EndsWait e)
waiting_lasts e = record { starts = waits_starts e; keeps = waits_keeps e; comes = waits_comes e }

-- ---- holding, from the grant to the leave

abbrev Holds : Entry → LockTable → Type 0
Holds e t = Contains t.holding e

holds_starts : (e : Entry) (old new : LockTable) → TableStep old (Entered e) new → Holds e new
holds_starts e old new step = rw step.2.3 (Contains-there step.2.0 step.2.1 e)

holds_keeps : (e : Entry) (old new : LockTable) (m : Mark) → TableStep old m new → (m ≡ Left e → ⊥) → Holds e old → Holds e new
holds_keeps e old new (Requested x) step other at = rw step.2 at
holds_keeps e old new (Entered x) step other at = rw step.2.3 (Contains-put step.2.0 step.2.1 x e (subst (λ (h : List Entry). Contains h e) step.2.2 at))
holds_keeps e old new (Left x) step other at =
    elim (Contains-cases step.2.0 step.2.1 x e (subst (λ (h : List Entry). Contains h e) step.2.3 at)) [
      | inl same ↦ absurd (other (ap (λ (y : Entry). Left y) same))
      | inr rest ↦ rw step.2.2 rest
    ]
holds_keeps e old new (Withdrawn x) step other at = rw step.2 at

holds_comes : (e : Entry) (old new : LockTable) (m : Mark) → IsSoundTable old → TableStep old m new → Holds e new → (Holds e old × (m ≡ Left e → ⊥)) ⊎ (m ≡ Entered e)
holds_comes e old new (Requested x) sound step at = inl (rw (← step.2) at, λ is. absurd cc)
holds_comes e old new (Entered x) sound step at =
    elim (Contains-cases step.2.0 step.2.1 x e (subst (λ (h : List Entry). Contains h e) step.2.3 at)) [
      | inl same ↦ inr (ap (λ (y : Entry). Entered y) same)
      | inr older ↦ inl (rw step.2.2 older, λ is. absurd cc)
    ]
holds_comes e old new (Left x) sound step at =
    let rest : Contains (step.2.0 ++ step.2.1) e = subst (λ (h : List Entry). Contains h e) step.2.2 at in
    let others : All (NotOfOneNode x) (step.2.0 ++ step.2.1) = All-apart NotOfOneNode NotOfOneNode-flip step.2.0 step.2.1 x (rw (← step.2.3) sound.apart_holding) in
    inl (rw step.2.3 (Contains-put step.2.0 step.2.1 x e rest), λ is. let same : x ≡ e = cc in All-contains (NotOfOneNode x) (step.2.0 ++ step.2.1) e others rest (ap (λ (y : Entry). y.name) same, ap (λ (y : Entry). y.stamp.node) same))
holds_comes e old new (Withdrawn x) sound step at = inl (rw (← step.2) at, λ is. absurd cc)

holding_lasts : (e : Entry) → Lasts (Holds e) (Entered e) (λ m. m ≡ Left e)
holding_lasts e = record { starts = holds_starts e; keeps = holds_keeps e; comes = holds_comes e }

-- ---- granted, from the grant on

abbrev WasGranted : Entry → LockTable → Type 0
WasGranted e t = Contains t.granted e

granted_starts : (e : Entry) (old new : LockTable) → TableStep old (Entered e) new → WasGranted e new
granted_starts e old new step = rw step.3.3 (Contains-there step.3.0 step.3.1 e)

granted_comes : (e : Entry) (old new : LockTable) (m : Mark) → IsSoundTable old → TableStep old m new → WasGranted e new → (WasGranted e old × (⊥ → ⊥)) ⊎ (m ≡ Entered e)
granted_comes e old new (Requested x) sound step at = inl (rw (← step.3) at, λ no. no)
granted_comes e old new (Entered x) sound step at =
    elim (Contains-cases step.3.0 step.3.1 x e (subst (λ (g : List Entry). Contains g e) step.3.3 at)) [
      | inl same ↦ inr (ap (λ (y : Entry). Entered y) same)
      | inr older ↦ inl (rw step.3.2 older, λ no. no)
    ]
granted_comes e old new (Left x) sound step at = inl (rw (← step.3) at, λ no. no)
granted_comes e old new (Withdrawn x) sound step at = inl (rw (← step.3) at, λ no. no)

granted_lasts : (e : Entry) → Lasts (WasGranted e) (Entered e) (λ _. ⊥)
granted_lasts e = record { starts = granted_starts e; keeps = λ old new m step on at. keeps_granted old new m e step at; comes = granted_comes e }

-- ---- in a run

nothing_there : (e : Entry) → Contains [] e → ⊥
nothing_there e at = let lt = at.1 in omega arith

-- an entry that entered was requested before, if it did not wait at first
requested_before : (marks : List Mark) (old new : LockTable) (e : Entry) (j : ℕ) → TableSteps old marks new → IsSoundTable old → IsAt marks j (Entered e)
    → Waits e old ⊎ ((i : ℕ) × (i < j) × IsAt marks i (Requested e))
requested_before [] old new e j steps sound at = absurd cc
requested_before (m ∷ ms) old new e zero steps sound at =
    let step : TableStep old (Entered e) steps.0 = subst (λ (x : Mark). TableStep old x steps.0) (same_Some m (Entered e) at) steps.1 in
    inl step.0.waits
requested_before (m ∷ ms) old new e (suc j) steps sound at =
    elim (requested_before ms steps.0 new e j steps.2 (step_sound old steps.0 m steps.1 sound) at) [
      | inl waits ↦ elim (waits_comes e old steps.0 m sound steps.1 waits) [
        | inl older ↦ inl older.0
        | inr is ↦ inr (0, omega arith, ap (λ (x : Mark). Some x) is)
      ]
      | inr before ↦ inr (suc before.0, (let lt = before.1 in omega arith), before.2)
    ]

pub run_waits : (marks : List Mark) (table : LockTable) (e : Entry) → TableRun marks table → Contains table.waiting e ↔ WaitsSince marks e
run_waits marks table e run = (
  λ at. elim (came (Waits e) (Requested e) (EndsWait e) (waiting_lasts e) marks empty_table table run empty_is_sound at) [
    | inl before ↦ absurd (nothing_there e before.0)
    | inr since ↦ record {
      requested = since.0;
      was_requested = since.1.there;
      not_entered = λ k lt there. since.1.none k (Entered e) (omega arith) there (inl refl);
      not_withdrawn = λ k lt there. since.1.none k (Withdrawn e) (omega arith) there (inr refl);
    }
  ],
  λ since. is_since (Waits e) (Requested e) (EndsWait e) (waiting_lasts e) marks empty_table table since.requested run since.was_requested
      (λ k m lt there ends. elim ends [
        | inl is ↦ since.not_entered k (omega arith) (there ∙ ap (λ (x : Mark). Some x) is)
        | inr is ↦ since.not_withdrawn k (omega arith) (there ∙ ap (λ (x : Mark). Some x) is)
      ]),
)

pub run_holds : (marks : List Mark) (table : LockTable) (e : Entry) → TableRun marks table → Contains table.holding e ↔ HoldsSince marks e
run_holds marks table e run = (
  λ at. elim (came (Holds e) (Entered e) (λ m. m ≡ Left e) (holding_lasts e) marks empty_table table run empty_is_sound at) [
    | inl before ↦ absurd (nothing_there e before.0)
    | inr since ↦ elim (requested_before marks empty_table table e since.0 run empty_is_sound since.1.there) [
      | inl waits ↦ absurd (nothing_there e waits)
      | inr before ↦ record {
        requested = before.0;
        entered = since.0;
        in_order = before.1;
        was_requested = before.2;
        was_entered = since.1.there;
        not_left = λ k lt there. since.1.none k (Left e) (omega arith) there refl;
      }
    ]
  ],
  λ since. is_since (Holds e) (Entered e) (λ m. m ≡ Left e) (holding_lasts e) marks empty_table table since.entered run since.was_entered
      (λ k m lt there is. since.not_left k (omega arith) (there ∙ ap (λ (x : Mark). Some x) is)),
)

pub run_granted : (marks : List Mark) (table : LockTable) (e : Entry) → TableRun marks table → Contains table.granted e ↔ ((j : ℕ) × IsAt marks j (Entered e))
run_granted marks table e run = (
  λ at. elim (came (WasGranted e) (Entered e) (λ _. ⊥) (granted_lasts e) marks empty_table table run empty_is_sound at) [
    | inl before ↦ absurd (nothing_there e before.0)
    | inr since ↦ (since.0, since.1.there)
  ],
  λ entered. is_since (WasGranted e) (Entered e) (λ _. ⊥) (granted_lasts e) marks empty_table table entered.0 run entered.1 (λ k m lt there off. off),
)

pub same_entries : (marks : List Mark) (a b : LockTable) → TableRun marks a → TableRun marks b → SameEntries a b
same_entries marks a b run run' =
    let counts = steps_counts marks empty_table empty_table a b run run' (record { waiting = refl; holding = refl; granted = refl }) in
    record {
      waiting = λ e. (λ at. (run_waits marks b e run').1 ((run_waits marks a e run).0 at), λ at. (run_waits marks a e run).1 ((run_waits marks b e run').0 at));
      holding = λ e. (λ at. (run_holds marks b e run').1 ((run_holds marks a e run).0 at), λ at. (run_holds marks a e run).1 ((run_holds marks b e run').0 at));
      granted = λ e. (λ at. (run_granted marks b e run').1 ((run_granted marks a e run).0 at), λ at. (run_granted marks a e run).1 ((run_granted marks b e run').0 at));
      waiting_count = counts.waiting;
      holding_count = counts.holding;
      granted_count = counts.granted;
    }
