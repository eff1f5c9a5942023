-- What is true of every run of the lock table.
use Rattle.std.specs.Prelude.{◌≡◌, ◌<◌, ◌↔◌, ℕ, List, Some, AllPairs, Contains, length, slice_get}
use Rattle.ra_stamp.specs.declared.entry.Entry.{Entry}
use Rattle.ra_stamp.specs.declared.entry.Mark.{Mark}
use Rattle.ra_stamp.specs.declared.entry.Mark.TheVariants.{Requested, Entered, Left, Withdrawn}
use Rattle.ra_table.specs.Table.{LockTable, Excludes, TableStep}

-- no two of these entries exclude each other
abbrev pub IsConflictFree : List Entry → Type 0
IsConflictFree entries = AllPairs (λ a b. ¬ Excludes a b) entries

-- some table step has this mark
abbrev pub AllowsMark : LockTable → Mark → Type 0
AllowsMark table mark = (next : LockTable) × TableStep table mark next

-- this mark is at this place of the marks, counted from 0
abbrev pub IsAt : List Mark → ℕ → Mark → Type 0
IsAt marks place mark = slice_get marks place ≡ Some mark

-- the entry was requested, and has neither entered nor been withdrawn since
pub record WaitsSince (marks : List Mark) (e : Entry) : Type 0 where
  pub requested : ℕ
  pub was_requested : IsAt marks requested (Requested e)
  pub not_entered : (k : ℕ) → requested < k → IsAt marks k (Entered e) → ⊥
  pub not_withdrawn : (k : ℕ) → requested < k → IsAt marks k (Withdrawn e) → ⊥

-- the entry was requested, then it entered, and it has not left since
pub record HoldsSince (marks : List Mark) (e : Entry) : Type 0 where
  pub requested : ℕ
  pub entered : ℕ
  pub in_order : requested < entered
  pub was_requested : IsAt marks requested (Requested e)
  pub was_entered : IsAt marks entered (Entered e)
  pub not_left : (k : ℕ) → entered < k → IsAt marks k (Left e) → ⊥

-- in both tables the same entries, and equally many, wait, hold and were granted, in whatever order
pub record SameEntries (a b : LockTable) : Type 0 where
  pub waiting : (e : Entry) → Contains a.waiting e ↔ Contains b.waiting e
  pub holding : (e : Entry) → Contains a.holding e ↔ Contains b.holding e
  pub granted : (e : Entry) → Contains a.granted e ↔ Contains b.granted e
  pub waiting_count : length a.waiting ≡ length b.waiting
  pub holding_count : length a.holding ≡ length b.holding
  pub granted_count : length a.granted ≡ length b.granted
