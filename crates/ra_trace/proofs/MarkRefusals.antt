-- Why a lock table refuses a mark: never one that it allows, for one cause alone, and for the same in each table of one run.
use Rattle.std.proofs.Common.{◌≡◌, ◌≤◌, List, All, Any, Contains, sym, ◌∙◌, inl, inr, arith}
use Rattle.std.proofs.lemmas.List.Elements.{All-contains}
use Rattle.ra_stamp.specs.declared.entry.Entry.{Entry}
use Rattle.ra_stamp.specs.declared.entry.Mark.{Mark}
use Rattle.ra_stamp.specs.declared.entry.Mark.TheVariants.{Requested, Entered, Left, Withdrawn}
use Rattle.ra_stamp.specs.Stamp.{IsEarlier}
use Rattle.ra_table.specs.Table.{LockTable, Excludes, MayRequest}
use Rattle.ra_table.specs.Refusals.{SharesNodeAndName, IsNodeBusy, IsNotAbove, IsHeld}
use Rattle.ra_table.specs.Laws.{AllowsMark, SameEntries}
use Rattle.ra_trace.specs.declared.mark_log.marks_verdict.MarkCause.{MarkCause}
use Rattle.ra_trace.specs.Marks.{TableRefuses}

not_any : {X : Type 0} (P : X → Type 0) (xs : List X) → All (λ x. P x → ⊥) xs → Any P xs → ⊥
not_any P xs none some = All-contains (λ x. P x → ⊥) xs some.1 none (some.0, some.2, some.3) some.4

any_in : {X : Type 0} (P : X → Type 0) (xs ys : List X) → ((x : X) → Contains xs x → Contains ys x) → Any P xs → Any P ys
any_in P xs ys within some = let there = within some.1 (some.0, some.2, some.3) in (there.0, some.1, there.1, there.2, some.4)

-- ---- What is allowed is not refused

not_busy : (table : LockTable) (e : Entry) → MayRequest table e → IsNodeBusy table e → ⊥
not_busy table e may (inl waits) =
    not_any (λ x. SharesNodeAndName x e) table.waiting (λ k d lt shares. may.not_waiting k d lt shares.0 shares.1) waits
not_busy table e may (inr holds) =
    not_any (λ x. SharesNodeAndName x e) table.holding (λ k d lt shares. may.not_holding k d lt shares.0 shares.1) holds

above : (table : LockTable) (e : Entry) → MayRequest table e → IsNotAbove table e → ⊥
above table e may some =
    not_any (λ x. (x.name ≡ e.name) × (e.stamp.seq ≤ x.stamp.seq)) table.granted
    (λ k d lt same. let higher = may.above k d lt same.0 in let le = same.1 in omega arith) some

pub refused_is_not_allowed : (table : LockTable) (mark : Mark) (why : MarkCause) → TableRefuses table mark why → AllowsMark table mark → ⊥
refused_is_not_allowed table (Requested e) why (inl busy) (next, step) = not_busy table e step.0 busy.1
refused_is_not_allowed table (Requested e) why (inr low) (next, step) = above table e step.0 low.2
refused_is_not_allowed table (Entered e) why (inl absent) (next, step) = let may = step.0 in absent.1 may.waits
refused_is_not_allowed table (Entered e) why (inr (inl held)) (next, step) =
    let may = step.0 in not_any (λ x. Excludes x e) table.holding may.not_held held.2
refused_is_not_allowed table (Entered e) why (inr (inr earlier)) (next, step) =
    let may = step.0 in
    not_any (λ x. Excludes x e × IsEarlier x.stamp e.stamp) table.waiting (λ k d lt before. may.no_earlier k d lt before.0 before.1) earlier.3
refused_is_not_allowed table (Left e) why absent (next, step) = absent.1 step.0
refused_is_not_allowed table (Withdrawn e) why absent (next, step) = absent.1 step.0

-- ---- One cause

pub one_cause : (table : LockTable) (mark : Mark) (a b : MarkCause) → TableRefuses table mark a → TableRefuses table mark b → a ≡ b
one_cause table (Requested e) a b (inl x) (inl y) = x.0 ∙ sym y.0
one_cause table (Requested e) a b (inl x) (inr y) = absurd (y.1 x.1)
one_cause table (Requested e) a b (inr x) (inl y) = absurd (x.1 y.1)
one_cause table (Requested e) a b (inr x) (inr y) = x.0 ∙ sym y.0
one_cause table (Entered e) a b (inl x) (inl y) = x.0 ∙ sym y.0
one_cause table (Entered e) a b (inl x) (inr (inl y)) = absurd (x.1 y.1)
one_cause table (Entered e) a b (inl x) (inr (inr y)) = absurd (x.1 y.1)
one_cause table (Entered e) a b (inr (inl x)) (inl y) = absurd (y.1 x.1)
one_cause table (Entered e) a b (inr (inl x)) (inr (inl y)) = x.0 ∙ sym y.0
one_cause table (Entered e) a b (inr (inl x)) (inr (inr y)) = absurd (y.2 x.2)
one_cause table (Entered e) a b (inr (inr x)) (inl y) = absurd (y.1 x.1)
one_cause table (Entered e) a b (inr (inr x)) (inr (inl y)) = absurd (x.2 y.2)
one_cause table (Entered e) a b (inr (inr x)) (inr (inr y)) = x.0 ∙ sym y.0
one_cause table (Left e) a b x y = x.0 ∙ sym y.0
one_cause table (Withdrawn e) a b x y = x.0 ∙ sym y.0

-- ---- Tables of one run

swapped : (a b : LockTable) → SameEntries a b → SameEntries b a
swapped a b same = record {
  waiting = λ e. ((same.waiting e).1, (same.waiting e).0);
  holding = λ e. ((same.holding e).1, (same.holding e).0);
  granted = λ e. ((same.granted e).1, (same.granted e).0);
  waiting_count = sym same.waiting_count;
  holding_count = sym same.holding_count;
  granted_count = sym same.granted_count;
}

busy_alike : (a b : LockTable) (e : Entry) → SameEntries a b → IsNodeBusy a e → IsNodeBusy b e
busy_alike a b e same (inl waits) = inl (any_in (λ x. SharesNodeAndName x e) a.waiting b.waiting (λ x. (same.waiting x).0) waits)
busy_alike a b e same (inr holds) = inr (any_in (λ x. SharesNodeAndName x e) a.holding b.holding (λ x. (same.holding x).0) holds)

held_alike : (a b : LockTable) (e : Entry) → SameEntries a b → IsHeld a e → IsHeld b e
held_alike a b e same = any_in (λ x. Excludes x e) a.holding b.holding (λ x. (same.holding x).0)

pub refuses_alike : (a b : LockTable) (mark : Mark) (why : MarkCause) → SameEntries a b → TableRefuses a mark why → TableRefuses b mark why
refuses_alike a b (Requested e) why same (inl h) = inl (h.0, busy_alike a b e same h.1)
refuses_alike a b (Requested e) why same (inr h) = inr (
  h.0,
  λ busy. h.1 (busy_alike b a e (swapped a b same) busy),
  any_in (λ x. (x.name ≡ e.name) × (e.stamp.seq ≤ x.stamp.seq)) a.granted b.granted (λ x. (same.granted x).0) h.2,
)
refuses_alike a b (Entered e) why same (inl h) = inl (h.0, λ waits. h.1 ((same.waiting e).1 waits))
refuses_alike a b (Entered e) why same (inr (inl h)) = inr (inl (h.0, (same.waiting e).0 h.1, held_alike a b e same h.2))
refuses_alike a b (Entered e) why same (inr (inr h)) = inr (inr (
  h.0,
  (same.waiting e).0 h.1,
  λ held. h.2 (held_alike b a e (swapped a b same) held),
  any_in (λ x. Excludes x e × IsEarlier x.stamp e.stamp) a.waiting b.waiting (λ x. (same.waiting x).0) h.3,
))
refuses_alike a b (Left e) why same h = (h.0, λ holds. h.1 ((same.holding e).1 holds))
refuses_alike a b (Withdrawn e) why same h = (h.0, λ waits. h.1 ((same.waiting e).1 waits))
