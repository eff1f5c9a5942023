-- Runs are made of steps, and what is true of entries that conflict in them.
use Rattle.std.proofs.Common.{ℕ, zero, suc, ◌<◌, List, [], ◌∷◌, ◌++◌, All, Contains, refl, sym, subst, arith}
use Rattle.std.proofs.lemmas.Option.{same_Some}
use Rattle.std.proofs.lemmas.List.Elements.{All-contains}
use Rattle.ra_stamp.specs.declared.entry.Entry.{Entry}
use Rattle.ra_stamp.specs.declared.entry.Mark.{Mark}
use Rattle.ra_stamp.specs.declared.entry.Mark.TheVariants.{Requested, Entered, Left, Withdrawn}
use Rattle.ra_stamp.specs.Stamp.{IsEarlier}
use Rattle.ra_table.specs.Table.{LockTable, empty_table, Excludes, TableStep, TableSteps, TableRun}
use Rattle.ra_table.specs.Laws.{IsConflictFree, IsAt}
use Rattle.ra_table.proofs.Apart.{Apart, AllPairs-apart, Contains-there, Contains-put}
use Rattle.ra_table.proofs.Conflicts.{ConflictIsSymmetric, StampsAreTotal, DoesNotExclude, step_conflict_free, IsBehind, IsOrdered, empty_is_ordered, step_ordered}

-- ---- runs are made of steps

pub steps_join : (xs ys : List Mark) (a b c : LockTable) → TableSteps a xs b → TableSteps b ys c → TableSteps a (xs ++ ys) c
steps_join [] ys a b c first second = subst (λ (t : LockTable). TableSteps t ys c) first second
steps_join (x ∷ xs) ys a b c first second = (first.0, first.1, steps_join xs ys first.0 b c first.2 second)

pub steps_split : (xs ys : List Mark) (a c : LockTable) → TableSteps a (xs ++ ys) c → (b : LockTable) × TableSteps a xs b × TableSteps b ys c
steps_split [] ys a c steps = (a, refl, steps)
steps_split (x ∷ xs) ys a c steps =
    let rest = steps_split xs ys steps.0 c steps.2 in
    (rest.0, (steps.0, steps.1, rest.1), rest.2)

pub steps_grow : (xs : List Mark) (x : Mark) (a b c : LockTable) → TableSteps a xs b → TableStep b x c → TableSteps a (xs ++ x ∷ []) c
steps_grow xs x a b c steps step = steps_join xs (x ∷ []) a b c steps (c, step, refl)

-- ---- no two conflicting entries hold at once

steps_conflict_free : ConflictIsSymmetric → (marks : List Mark) (old new : LockTable) → TableSteps old marks new
    → Apart DoesNotExclude old.holding → Apart DoesNotExclude new.holding
steps_conflict_free symmetric [] old new same free = subst (λ (t : LockTable). Apart DoesNotExclude t.holding) (sym same) free
steps_conflict_free symmetric (m ∷ ms) old new steps free =
    steps_conflict_free symmetric ms steps.0 new steps.2 (step_conflict_free symmetric old steps.0 m steps.1 free)

pub holders_do_not_conflict : ConflictIsSymmetric → (marks : List Mark) (table : LockTable) → TableRun marks table → IsConflictFree table.holding
holders_do_not_conflict symmetric marks table run =
    AllPairs-apart DoesNotExclude table.holding (steps_conflict_free symmetric marks empty_table table run tt)

-- ---- conflicting entries are granted in stamp order

pub keeps_granted : (old new : LockTable) (mark : Mark) (e : Entry) → TableStep old mark new → Contains old.granted e → Contains new.granted e
keeps_granted old new (Requested x) e step at = rw step.3 at
keeps_granted old new (Entered x) e step at = rw step.3.3 (Contains-put step.3.0 step.3.1 x e (subst (λ (g : List Entry). Contains g e) step.3.2 at))
keeps_granted old new (Left x) e step at = rw step.3 at
keeps_granted old new (Withdrawn x) e step at = rw step.3 at

-- an entry that is granted after another was, and that excludes it, is later
later_grant : ConflictIsSymmetric → StampsAreTotal → (marks : List Mark) (old new : LockTable) (e f : Entry) (j : ℕ) → TableSteps old marks new
    → IsOrdered old → Contains old.granted e → IsAt marks j (Entered f) → Excludes e f → IsEarlier e.stamp f.stamp
later_grant symmetric total [] old new e f j steps ordered granted at ex = absurd cc
later_grant symmetric total (m ∷ ms) old new e f zero steps ordered granted at ex =
    let entered : TableStep old (Entered f) steps.0 = subst (λ (x : Mark). TableStep old x steps.0) (same_Some m (Entered f) at) steps.1 in
    let behind : All (IsBehind e) old.waiting = All-contains (λ g. All (IsBehind g) old.waiting) old.granted e ordered.behind granted in
    All-contains (IsBehind e) old.waiting f behind entered.0.waits ex
later_grant symmetric total (m ∷ ms) old new e f (suc j) steps ordered granted at ex =
    later_grant symmetric total ms steps.0 new e f j steps.2 (step_ordered symmetric total old steps.0 m steps.1 ordered) (keeps_granted old steps.0 m e steps.1 granted) at ex

grants_in_order : ConflictIsSymmetric → StampsAreTotal → (marks : List Mark) (old new : LockTable) (e f : Entry) (i j : ℕ) → TableSteps old marks new
    → IsOrdered old → i < j → IsAt marks i (Entered e) → IsAt marks j (Entered f) → Excludes e f → IsEarlier e.stamp f.stamp
grants_in_order symmetric total [] old new e f i j steps ordered lt at-i at-j ex = absurd cc
grants_in_order symmetric total (m ∷ ms) old new e f i zero steps ordered lt at-i at-j ex = absurd (omega arith)
grants_in_order symmetric total (m ∷ ms) old new e f zero (suc j) steps ordered lt at-i at-j ex =
    let entered : TableStep old (Entered e) steps.0 = subst (λ (x : Mark). TableStep old x steps.0) (same_Some m (Entered e) at-i) steps.1 in
    let granted : Contains steps.0.granted e = rw entered.3.3 (Contains-there entered.3.0 entered.3.1 e) in
    later_grant symmetric total ms steps.0 new e f j steps.2 (step_ordered symmetric total old steps.0 m steps.1 ordered) granted at-j ex
grants_in_order symmetric total (m ∷ ms) old new e f (suc i) (suc j) steps ordered lt at-i at-j ex =
    grants_in_order symmetric total ms steps.0 new e f i j steps.2 (step_ordered symmetric total old steps.0 m steps.1 ordered) (omega arith) at-i at-j ex

pub grants_by_stamp : ConflictIsSymmetric → StampsAreTotal → (marks : List Mark) (table : LockTable) (e f : Entry) (i j : ℕ) → TableRun marks table → i < j
    → IsAt marks i (Entered e) → IsAt marks j (Entered f) → Excludes e f → IsEarlier e.stamp f.stamp
grants_by_stamp symmetric total marks table e f i j run = grants_in_order symmetric total marks empty_table table e f i j run empty_is_ordered
