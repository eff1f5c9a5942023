-- The main theorem, about what a report says. docs/MODEL.md has a key to the notation.
use Rattle.std.specs.Prelude.{◌≡◌, ◌<◌, ℕ, ◌*◌, ◌-◌, List, All, length}
use Rattle.ra_stamp.specs.declared.entry.Entry.{Entry}
use Rattle.ra_stamp.specs.declared.entry.Mark.{Mark}
use Rattle.ra_stamp.specs.declared.entry.Mark.TheVariants.{Entered}
use Rattle.ra_stamp.specs.Stamp.{IsEarlier}
use Rattle.ra_table.specs.Table.{LockTable, TableRun, Excludes, MayEnter}
use Rattle.ra_table.specs.Laws.{IsConflictFree, IsAt}
use Rattle.ra_world.specs.declared.text.report.Report.{Report}
use Rattle.ra_world.specs.Quiet.{IsBlocked}

-- conflicting entries on one name are granted in the order of their stamps
abbrev pub AreGrantedInOrder : List Mark → Type 0
AreGrantedInOrder marks = (e f : Entry) (i j : ℕ) → i < j → IsAt marks i (Entered e)
    → IsAt marks j (Entered f)
    → Excludes e f → IsEarlier e.stamp f.stamp

-- the report says that nothing was lost and nothing is under way
pub record IsQuietReport (report : Report) : Type 0 where
  pub none_lost : report.lost ≡ 0
  pub none_under_way : report.under_way ≡ 0

-- The theorem, for n nodes. A table of the report is any table that its marks lead to.
pub record MainTheorem (n : ℕ) (report : Report) : Type 0 where
  -- the requests, grants, releases and withdrawals reported are a run of the lock table
  pub table_run : (table : LockTable) × TableRun report.marks.items table
  -- and as many requests wait in it as the report says
  pub waiting : (table : LockTable) → TableRun report.marks.items table
      → length table.waiting ≡ report.waiting
  -- no two conflicting entries on one name hold at once
  pub exclusive : (table : LockTable) → TableRun report.marks.items table → IsConflictFree table.holding
  -- and conflicting ones are granted in the order of their stamps
  pub in_order : AreGrantedInOrder report.marks.items
  -- whenever nothing was lost and nothing is under way, every waiting request is blocked by a conflicting request that
  -- holds, or that waits with an earlier stamp
  pub blocked : (table : LockTable) → TableRun report.marks.items table → IsQuietReport report
      → All (IsBlocked table) table.waiting
  -- so no waiting request could enter
  pub none_may_enter : (table : LockTable) → TableRun report.marks.items table → IsQuietReport report
      → All (λ e. MayEnter table e → ⊥) table.waiting
  -- and if no request waits and nothing was repeated or withdrawn, exactly two messages were sent for each request
  -- and other node
  pub count : IsQuietReport report → report.repeated ≡ 0 → report.withdrawn ≡ 0 → report.waiting ≡ 0
      → report.sent ≡ 2 * (n - 1) * report.requests
