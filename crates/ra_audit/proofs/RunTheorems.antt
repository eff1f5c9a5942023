-- Each run meets the main theorem, and is fair.
use Rattle.std.proofs.Common.{◌≡◌, ℕ, ◌<◌, List, [], get_or, All, Contains}
use Rattle.std.proofs.lemmas.List.{get_or_default}
use Rattle.ra_stamp.specs.declared.entry.Entry.{Entry}
use Rattle.ra_stamp.specs.declared.entry.Mark.{Mark}
use Rattle.ra_stamp.specs.declared.entry.Mark.TheVariants.{Entered}
use Rattle.ra_stamp.specs.NodeId.{IsNodeNumber}
use Rattle.ra_stamp.specs.Stamp.{IsEarlier}
use Rattle.ra_table.specs.Table.{LockTable, TableRun, MayEnter, Excludes}
use Rattle.ra_table.specs.Laws.{IsConflictFree, IsAt}
use Rattle.ra_world.specs.Traffic.{Move, repeated_by}
use Rattle.ra_world.specs.Run.{IsRun, marks_of}
use Rattle.ra_world.specs.Quiet.{IsQuiet, IsBlocked, withdrawn_in, MeetsMessageCount}
use Rattle.ra_world.specs.Fairness.{IsFair}
use Rattle.ra_audit.specs.Audit.{RunTheorem}

each : (P : Entry → Type 0) (xs : List Entry) → ((x : Entry) → Contains xs x → P x) → All P xs
each P xs h k d low = h (get_or xs k d) (k, low, get_or_default xs k (get_or xs k d) d low)

module _
    (table_of : (n start : ℕ) (moves : List Move) → IsNodeNumber n → IsRun n start moves → (table : LockTable) × TableRun (marks_of moves) table)
    (blocked : (n start : ℕ) (moves : List Move) (table : LockTable) (e : Entry)
    → IsNodeNumber n → IsRun n start moves → IsQuiet moves → TableRun (marks_of moves) table
    → Contains table.waiting e → IsBlocked table e)
    (no_entry : (n start : ℕ) (moves : List Move) (table : LockTable) (e : Entry)
    → IsNodeNumber n → IsRun n start moves → IsQuiet moves → TableRun (marks_of moves) table
    → MayEnter table e → ⊥)
    (count_of : (n start : ℕ) (moves : List Move) (table : LockTable)
    → IsNodeNumber n → IsRun n start moves → IsQuiet moves → repeated_by moves ≡ [] → withdrawn_in (marks_of moves) ≡ 0 → TableRun (marks_of moves) table
    → table.waiting ≡ [] → MeetsMessageCount n moves)
    (exclusive : (marks : List Mark) (table : LockTable) → TableRun marks table → IsConflictFree table.holding)
    (in_order : (marks : List Mark) (table : LockTable) (e f : Entry) (i j : ℕ) → TableRun marks table → i < j
    → IsAt marks i (Entered e) → IsAt marks j (Entered f) → Excludes e f → IsEarlier e.stamp f.stamp)
    (fair : (n start : ℕ) (moves : List Move) → IsNodeNumber n → IsRun n start moves → IsFair n moves)
  where
    pub run_theorem : (n start : ℕ) (moves : List Move) → IsNodeNumber n → IsRun n start moves → RunTheorem n moves
    run_theorem n start moves count run =
        let some = table_of n start moves count run in
        record {
          table_run = some;
          exclusive = exclusive (marks_of moves);
          in_order = λ e f i j. in_order (marks_of moves) some.0 e f i j some.1;
          blocked = λ table is quiet. each (IsBlocked table) table.waiting (λ e at. blocked n start moves table e count run quiet is at);
          none_may_enter = λ table is quiet. each (λ e. MayEnter table e → ⊥) table.waiting (λ e _. no_entry n start moves table e count run quiet is);
          count = λ table is quiet unrepeated unwithdrawn none. count_of n start moves table count run quiet unrepeated unwithdrawn is none;
          fair = fair n start moves count run;
        }
