-- The report of a run meets the main theorem.
use Rattle.std.proofs.Common.{◌≡◌, ℕ, ◌-◌, ◌*◌, ◌<◌, List, [], length, get_or, All, Contains, sym, ap, ◌∙◌, subst}
use Rattle.std.proofs.lemmas.List.{nil_from_length, get_or_default}
use Rattle.ra_stamp.specs.declared.entry.Entry.{Entry}
use Rattle.ra_stamp.specs.declared.entry.Mark.{Mark}
use Rattle.ra_stamp.specs.declared.entry.Mark.TheVariants.{Entered}
use Rattle.ra_stamp.specs.declared.message.Message.{Message}
use Rattle.ra_stamp.specs.NodeId.{IsNodeNumber}
use Rattle.ra_stamp.specs.Stamp.{IsEarlier}
use Rattle.ra_node.specs.Node.{NodeState}
use Rattle.ra_table.specs.Table.{LockTable, TableRun, MayEnter, Excludes}
use Rattle.ra_table.specs.Laws.{IsConflictFree, IsAt}
use Rattle.ra_world.specs.declared.text.report.Report.{Report}
use Rattle.ra_world.specs.Traffic.{Move, LeavesUnderWay, lost_by, repeated_by}
use Rattle.ra_world.specs.Run.{IsRun, EndsWith, marks_of, waiting_at_all}
use Rattle.ra_world.specs.Quiet.{IsQuiet, IsBlocked, MeetsMessageCount, withdrawn_in}
use Rattle.ra_world.specs.World.{Reports}
use Rattle.ra_world.specs.MainTheorem.{IsQuietReport, MainTheorem}

each : (P : Entry → Type 0) (xs : List Entry) → ((x : Entry) → Contains xs x → P x) → All P xs
each P xs h k d low = h (get_or xs k d) (k, low, get_or_default xs k (get_or xs k d) d low)

module _
    (table_of : (n start : ℕ) (moves : List Move) → IsNodeNumber n → IsRun n start moves → (table : LockTable) × TableRun (marks_of moves) table)
    (waiting_of : (n start : ℕ) (moves : List Move) (nodes : ℕ → NodeState) (table : LockTable)
    → IsNodeNumber n → IsRun n start moves → EndsWith n start moves nodes → TableRun (marks_of moves) table
    → length table.waiting ≡ waiting_at_all n nodes)
    (blocked : (n start : ℕ) (moves : List Move) (table : LockTable) (e : Entry)
    → IsNodeNumber n → IsRun n start moves → IsQuiet moves → TableRun (marks_of moves) table
    → Contains table.waiting e → IsBlocked table e)
    (no_entry : (n start : ℕ) (moves : List Move) (table : LockTable) (e : Entry)
    → IsNodeNumber n → IsRun n start moves → IsQuiet moves → TableRun (marks_of moves) table
    → MayEnter table e → ⊥)
    (count_of : (n start : ℕ) (moves : List Move) (table : LockTable)
    → IsNodeNumber n → IsRun n start moves → IsQuiet moves → repeated_by moves ≡ [] → withdrawn_in (marks_of moves) ≡ 0 → TableRun (marks_of moves) table
    → table.waiting ≡ [] → MeetsMessageCount n moves)
    (exclusive : (marks : List Mark) (table : LockTable) → TableRun marks table → IsConflictFree table.holding)
    (in_order : (marks : List Mark) (table : LockTable) (e f : Entry) (i j : ℕ) → TableRun marks table → i < j
    → IsAt marks i (Entered e) → IsAt marks j (Entered f) → Excludes e f → IsEarlier e.stamp f.stamp)
  where
    pub meets : (n start : ℕ) (moves : List Move) (report : Report) → IsNodeNumber n → IsRun n start moves
        → Reports n start moves report → MainTheorem n report
    meets n start moves report count run reports =
        let marks = report.marks.items in
        let of_moves : (table : LockTable) → TableRun marks table → TableRun (marks_of moves) table =
        λ table is. subst (λ (ms : List Mark). TableRun ms table) reports.marks is in
        let some = table_of n start moves count run in
        let first : (table : LockTable) × TableRun marks table = (some.0, subst (λ (ms : List Mark). TableRun ms some.0) (sym reports.marks) some.1) in
        let quiet_of : IsQuietReport report → IsQuiet moves =
        λ quiet. record {
          none_lost = nil_from_length (lost_by moves) (sym reports.lost ∙ quiet.none_lost);
          none_under_way = subst (λ (ms : List Message). LeavesUnderWay moves ms)
              (nil_from_length reports.under_way.0 (sym reports.under_way.2 ∙ quiet.none_under_way)) reports.under_way.1;
        } in
        let waits : (table : LockTable) → TableRun marks table → length table.waiting ≡ report.waiting =
        λ table is. waiting_of n start moves reports.at_nodes.0 table count run reports.at_nodes.1 (of_moves table is) ∙ sym reports.at_nodes.2 in
        record {
          table_run = first;
          waiting = waits;
          exclusive = exclusive marks;
          in_order = λ e f i j. in_order marks first.0 e f i j first.1;
          blocked = λ table is quiet. each (IsBlocked table) table.waiting
              (λ e at. blocked n start moves table e count run (quiet_of quiet) (of_moves table is) at);
          none_may_enter = λ table is quiet. each (λ e. MayEnter table e → ⊥) table.waiting
              (λ e _. no_entry n start moves table e count run (quiet_of quiet) (of_moves table is));
          count = λ quiet unrepeated unwithdrawn none.
              reports.sent
              ∙ count_of n start moves first.0 count run (quiet_of quiet) (nil_from_length (repeated_by moves) (sym reports.repeated ∙ unrepeated)) (sym reports.withdrawn ∙ unwithdrawn) (of_moves first.0 first.1) (nil_from_length first.0.waiting (waits first.0 first.1 ∙ none))
              ∙ ap (λ k. 2 * (n - 1) * k) (sym reports.requests);
        }
