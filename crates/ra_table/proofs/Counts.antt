-- The marks decide how many entries wait, hold and were granted.
use Rattle.std.proofs.Common.{◌≡◌, suc, List, [], ◌∷◌, length, sym, ap, ◌∙◌, arith}
use Rattle.std.proofs.lemmas.List.{length-append}
use Rattle.ra_stamp.specs.declared.entry.Entry.{Entry}
use Rattle.ra_stamp.specs.declared.entry.Mark.{Mark}
use Rattle.ra_stamp.specs.declared.entry.Mark.TheVariants.{Requested, Entered, Left, Withdrawn}
use Rattle.ra_table.specs.Table.{LockTable, Gains, TableStep, TableSteps}

-- as many entries wait, hold and were granted in the one table as in the other
pub record SameCounts (a b : LockTable) : Type 0 where
  pub waiting : length a.waiting ≡ length b.waiting
  pub holding : length a.holding ≡ length b.holding
  pub granted : length a.granted ≡ length b.granted

length-gained : (old : List Entry) (e : Entry) (new : List Entry) → Gains old e new → length new ≡ suc (length old)
length-gained old e new gains = rw (gains.2, gains.3) (simp length-append (omega arith))

-- lists of one length stay such if each gains an entry, and if each loses one
both_gain : (a b a' b' : List Entry) (e : Entry) → length a ≡ length b → Gains a e a' → Gains b e b' → length a' ≡ length b'
both_gain a b a' b' e same gains gains' = length-gained a e a' gains ∙ ap suc same ∙ sym (length-gained b e b' gains')

both_lose : (a b a' b' : List Entry) (e : Entry) → length a ≡ length b → Gains a' e a → Gains b' e b → length a' ≡ length b'
both_lose a b a' b' e same gains gains' = omega (arith, length-gained a' e a gains, length-gained b' e b gains')

step_counts : (a b a' b' : LockTable) (mark : Mark) → TableStep a mark a' → TableStep b mark b' → SameCounts a b → SameCounts a' b'
step_counts a b a' b' (Requested e) step step' same = record {
  waiting = both_gain a.waiting b.waiting a'.waiting b'.waiting e same.waiting step.1 step'.1;
  holding = rw (step.2, step'.2) same.holding;
  granted = rw (step.3, step'.3) same.granted;
}
step_counts a b a' b' (Entered e) step step' same = record {
  waiting = both_lose a.waiting b.waiting a'.waiting b'.waiting e same.waiting step.1 step'.1;
  holding = both_gain a.holding b.holding a'.holding b'.holding e same.holding step.2 step'.2;
  granted = both_gain a.granted b.granted a'.granted b'.granted e same.granted step.3 step'.3;
}
step_counts a b a' b' (Left e) step step' same = record {
  waiting = rw (step.1, step'.1) same.waiting;
  holding = both_lose a.holding b.holding a'.holding b'.holding e same.holding step.2 step'.2;
  granted = rw (step.3, step'.3) same.granted;
}
step_counts a b a' b' (Withdrawn e) step step' same = record {
  waiting = both_lose a.waiting b.waiting a'.waiting b'.waiting e same.waiting step.1 step'.1;
  holding = rw (step.2, step'.2) same.holding;
  granted = rw (step.3, step'.3) same.granted;
}

pub steps_counts : (marks : List Mark) (a b a' b' : LockTable) → TableSteps a marks a' → TableSteps b marks b' → SameCounts a b → SameCounts a' b'
steps_counts [] a b a' b' ends ends' same = rw (ends, ends') same
steps_counts (m ∷ ms) a b a' b' steps steps' same =
    steps_counts ms steps.0 steps'.0 a' b' steps.2 steps'.2 (step_counts a b steps.0 steps'.0 m steps.1 steps'.1 same)
