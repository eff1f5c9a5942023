-- What the crates below say of runs and of the lock table, as far as traces depend on it.
use Rattle.std.specs.Prelude.{◌≡◌, ◌↔◌, ℕ, List, [], ◌∷◌, ◌++◌, map}
use Rattle.ra_stamp.specs.NodeId.{IsNodeNumber}
use Rattle.ra_stamp.specs.declared.entry.Mark.{Mark}
use Rattle.ra_table.specs.Table.{LockTable, empty_table, TableStep, TableSteps, TableRun}
use Rattle.ra_table.specs.Laws.{AllowsMark}
use Rattle.ra_world.specs.Traffic.{Move}
use Rattle.ra_world.specs.Run.{IsRun, marks_of}

-- the laws of runs and of the lock table that the laws of traces depend on
pub record LawsBelow : Type 0 where
  -- of runs
  pub none : (n start : ℕ) → IsRun n start []
  pub prefixes : (n start : ℕ) (prefix rest : List Move) → IsRun n start (prefix ++ rest) → IsRun n start prefix
  pub determined : (n start : ℕ) (a b : List Move) → IsNodeNumber n → IsRun n start a → IsRun n start b
      → map (λ move. move.step) a ≡ map (λ move. move.step) b → a ≡ b
  pub has_table : (n start : ℕ) (moves : List Move) → IsNodeNumber n → IsRun n start moves
      → (table : LockTable) × TableRun (marks_of moves) table
  -- of the lock table
  pub empty : TableRun [] empty_table
  pub splits : (prefix rest : List Mark) (a c : LockTable) → TableSteps a (prefix ++ rest) c
      → (b : LockTable) × TableSteps a prefix b × TableSteps b rest c
  pub steps_on : (marks : List Mark) (mark : Mark) (table next : LockTable) → TableRun marks table
      → TableStep table mark next → TableRun (marks ++ mark ∷ []) next
  pub goes_on : (marks : List Mark) (mark : Mark) (table : LockTable) → TableRun marks table
      → AllowsMark table mark ↔ ((next : LockTable) × TableRun (marks ++ mark ∷ []) next)
