-- How the whole table changes if the table of a name changes or is added.
use Rattle.std.proofs.Common.{◌≡◌, ℕ, List, [], ◌∷◌, ◌++◌, Some, None, Contains, Result, Ok, Err, OnOk, OnErr, refl, sym, ap, ◌∙◌, subst}
use Rattle.std.specs.Str.{bytes_eq}
use Rattle.std.specs.Map.{lookup}
use Rattle.std.proofs.lemmas.List.{append-nil}
use Rattle.std.proofs.lemmas.List.Elements.{All-nil, All-push}
use Rattle.indexmap.specs.IndexMap.{IndexMap, IsUnique}
use Rattle.ra_stamp.specs.declared.entry.Entry.{Entry}
use Rattle.ra_stamp.specs.declared.entry.Mark.{Mark}
use Rattle.ra_stamp.specs.declared.entry.Mark.TheVariants.{Requested, Entered, Left, Withdrawn}
use Rattle.ra_table.specs.Table.{LockTable, empty_table, Gains, Loses, MayRequest, MayEnter, TableStep}
use Rattle.ra_table.specs.Laws.{IsConflictFree}
use Rattle.ra_table.specs.NameTables.{AreOn, first_request, on_name, joined, AreOnTheirNames, waiting_of, holding_of, granted_of, table_of, IsKept}
use Rattle.ra_table.proofs.Moves.{of_parts, Gains-push}
use Rattle.ra_table.proofs.Conflicts.{stays_conflict_free}
use Rattle.ra_table.proofs.Checked.{Shows, name_table_waits, name_table_holds, may_request, may_enter}
use Rattle.ra_table.proofs.Written.{IsWritten}
use Rattle.ra_table.proofs.Joined.{All-gains, All-loses, found, missing, name_table_is_on, name_table_gains, name_table_loses, name_table_stays, stay_on, joined_more, more_on}

pub empty_may : (e : Entry) → MayRequest empty_table e
empty_may e = record {
  not_waiting = All-nil (λ (x : Entry). x.name ≡ e.name → x.stamp.node ≡ e.stamp.node → ⊥);
  not_holding = All-nil (λ (x : Entry). x.name ≡ e.name → x.stamp.node ≡ e.stamp.node → ⊥);
  above = All-nil _;
}

module _ {S : Type 0} (name_tables : IndexMap (List ℕ) LockTable S) (now : LockTable) (is : table_of name_tables.entries ≡ now) (kept : IsKept name_tables.entries) (e : Entry) where
  -- ---- Looking a name up

  pub shown : (name_table : LockTable) → Some name_table ≡ lookup (bytes_eq e.name) name_tables.entries → Shows e.name name_table now
  shown name_table at = record {
    waiting = found waiting_of e.name name_tables.entries name_table kept.distinct kept.waiting at ∙ ap (λ (t : LockTable). on_name e.name t.waiting) is;
    holding = found holding_of e.name name_tables.entries name_table kept.distinct kept.holding at ∙ ap (λ (t : LockTable). on_name e.name t.holding) is;
    granted = found granted_of e.name name_tables.entries name_table kept.distinct kept.granted at ∙ ap (λ (t : LockTable). on_name e.name t.granted) is;
  }

  -- a name that has no table is as one whose table is empty
  pub none_shown : None ≡ lookup (bytes_eq e.name) name_tables.entries → Shows e.name empty_table now
  none_shown none = record {
    waiting = missing waiting_of e.name name_tables.entries kept.waiting none ∙ ap (λ (t : LockTable). on_name e.name t.waiting) is;
    holding = missing holding_of e.name name_tables.entries kept.holding none ∙ ap (λ (t : LockTable). on_name e.name t.holding) is;
    granted = missing granted_of e.name name_tables.entries kept.granted none ∙ ap (λ (t : LockTable). on_name e.name t.granted) is;
  }

  pub granted_on : (name_table : LockTable) → Some name_table ≡ lookup (bytes_eq e.name) name_tables.entries → AreOn e.name name_table.granted
  granted_on name_table at = name_table_is_on granted_of e.name name_tables.entries name_table kept.granted at

  pub is_free : IsConflictFree now.holding
  is_free = subst (λ (t : LockTable). IsConflictFree t.holding) is kept.conflict_free

  -- what is so after a mark of the entry was tried, whether it was refused or not
  pub record IsTried {E : Type 0} (mark : Mark) (name_tables' : IndexMap (List ℕ) LockTable S) (result : Result (Unit {0}) E) : Type 0 where
    pub still_kept : IsKept name_tables'.entries
    pub ok : OnOk result (TableStep now mark (table_of name_tables'.entries))
    pub err : OnErr result (table_of name_tables'.entries ≡ now)

  -- what a step of the table has left
  record IsMade (mark : Mark) (name_tables' : IndexMap (List ℕ) LockTable S) : Type 0 where
    step : TableStep now mark (table_of name_tables'.entries)
    kept_after : IsConflictFree (joined holding_of name_tables'.entries) → IsKept name_tables'.entries

  made_tried : {E : Type 0} (mark : Mark) (name_tables' : IndexMap (List ℕ) LockTable S) (u : Unit {0}) → IsMade mark name_tables' → IsTried {E = E} mark name_tables' (Ok u)
  made_tried mark name_tables' u made = record {
    still_kept = made.kept_after (stays_conflict_free now (table_of name_tables'.entries) mark made.step is_free);
    ok = made.step;
    err = tt;
  }

  -- ---- The table of the name changes

  module _ (name_tables' : IndexMap (List ℕ) LockTable S) (old new : LockTable) (at : Some old ≡ lookup (bytes_eq e.name) name_tables.entries) (written : IsWritten name_tables.entries e.name new name_tables'.entries) where
    shows : Shows e.name old now
    shows = shown old at

    gains : (part : LockTable → List Entry) → Gains (part old) e (part new) → Gains (joined part name_tables.entries) e (joined part name_tables'.entries)
    gains part one = subst (λ (es : List (List ℕ × LockTable)). Gains (joined part name_tables.entries) e (joined part es)) (sym written.entries_are) (name_table_gains part e.name name_tables.entries old new e at one)

    loses : (part : LockTable → List Entry) → Loses (part old) e (part new) → Loses (joined part name_tables.entries) e (joined part name_tables'.entries)
    loses part one = subst (λ (es : List (List ℕ × LockTable)). Loses (joined part name_tables.entries) e (joined part es)) (sym written.entries_are) (name_table_loses part e.name name_tables.entries old new e at one)

    stays : (part : LockTable → List Entry) → part new ≡ part old → joined part name_tables'.entries ≡ joined part name_tables.entries
    stays part same = ap (joined part) written.entries_are ∙ name_table_stays part e.name name_tables.entries old new at same

    on_after : (part : LockTable → List Entry) → AreOnTheirNames part name_tables.entries → AreOn e.name (part new) → AreOnTheirNames part name_tables'.entries
    on_after part on here = subst (AreOnTheirNames part) (sym written.entries_are) (stay_on part e.name name_tables.entries new on here)

    on_old : (part : LockTable → List Entry) → AreOnTheirNames part name_tables.entries → AreOn e.name (part old)
    on_old part on = name_table_is_on part e.name name_tables.entries old on at

    gains_on : (part : LockTable → List Entry) → AreOnTheirNames part name_tables.entries → Gains (part old) e (part new) → AreOnTheirNames part name_tables'.entries
    gains_on part on one = on_after part on (All-gains (λ (x : Entry). x.name ≡ e.name) (part old) (part new) e one (on_old part on) refl)

    loses_on : (part : LockTable → List Entry) → AreOnTheirNames part name_tables.entries → Loses (part old) e (part new) → AreOnTheirNames part name_tables'.entries
    loses_on part on one = on_after part on (All-loses (λ (x : Entry). x.name ≡ e.name) (part old) (part new) e one (on_old part on))

    stays_on : (part : LockTable → List Entry) → AreOnTheirNames part name_tables.entries → part new ≡ part old → AreOnTheirNames part name_tables'.entries
    stays_on part on same = on_after part on (subst (AreOn e.name) (sym same) (on_old part on))

    is_now : (mark : Mark) → TableStep (table_of name_tables.entries) mark (table_of name_tables'.entries) → TableStep now mark (table_of name_tables'.entries)
    is_now mark step = subst (λ (t : LockTable). TableStep t mark (table_of name_tables'.entries)) is step

    requested : TableStep old (Requested e) new → IsMade (Requested e) name_tables'
    requested step = record {
      step = is_now (Requested e) (subst (λ (t : LockTable). MayRequest t e) (sym is) ((may_request old now e shows).0 step.0), gains waiting_of step.1, stays holding_of step.2, stays granted_of step.3);
      kept_after = λ free. record {
        distinct = written.distinct;
        waiting = gains_on waiting_of kept.waiting step.1;
        holding = stays_on holding_of kept.holding step.2;
        granted = stays_on granted_of kept.granted step.3;
        conflict_free = free;
      };
    }

    entered : TableStep old (Entered e) new → IsMade (Entered e) name_tables'
    entered step = record {
      step = is_now (Entered e) (subst (λ (t : LockTable). MayEnter t e) (sym is) ((may_enter old now e shows).0 step.0), loses waiting_of step.1, gains holding_of step.2, gains granted_of step.3);
      kept_after = λ free. record {
        distinct = written.distinct;
        waiting = loses_on waiting_of kept.waiting step.1;
        holding = gains_on holding_of kept.holding step.2;
        granted = gains_on granted_of kept.granted step.3;
        conflict_free = free;
      };
    }

    left : TableStep old (Left e) new → IsMade (Left e) name_tables'
    left step = record {
      step = is_now (Left e) (subst (λ (t : LockTable). Contains t.holding e) (sym is) ((name_table_holds old now e shows).0 step.0), stays waiting_of step.1, loses holding_of step.2, stays granted_of step.3);
      kept_after = λ free. record {
        distinct = written.distinct;
        waiting = stays_on waiting_of kept.waiting step.1;
        holding = loses_on holding_of kept.holding step.2;
        granted = stays_on granted_of kept.granted step.3;
        conflict_free = free;
      };
    }

    withdrawn : TableStep old (Withdrawn e) new → IsMade (Withdrawn e) name_tables'
    withdrawn step = record {
      step = is_now (Withdrawn e) (subst (λ (t : LockTable). Contains t.waiting e) (sym is) ((name_table_waits old now e shows).0 step.0), loses waiting_of step.1, stays holding_of step.2, stays granted_of step.3);
      kept_after = λ free. record {
        distinct = written.distinct;
        waiting = loses_on waiting_of kept.waiting step.1;
        holding = stays_on holding_of kept.holding step.2;
        granted = stays_on granted_of kept.granted step.3;
        conflict_free = free;
      };
    }

    refused : {E : Type 0} (mark : Mark) (fault : E) → new ≡ old → IsTried mark name_tables' (Err fault)
    refused mark fault same =
        let part_stays = λ (part : LockTable → List Entry). ap part same in
        record {
          still_kept = record {
            distinct = written.distinct;
            waiting = stays_on waiting_of kept.waiting (part_stays waiting_of);
            holding = stays_on holding_of kept.holding (part_stays holding_of);
            granted = stays_on granted_of kept.granted (part_stays granted_of);
            conflict_free = subst IsConflictFree (sym (stays holding_of (part_stays holding_of))) kept.conflict_free;
          };
          ok = tt;
          err = (λ i. of_parts (stays waiting_of (part_stays waiting_of) i) (stays holding_of (part_stays holding_of) i) (stays granted_of (part_stays granted_of) i)) ∙ is;
        }

    tried : {E : Type 0} (mark : Mark) → (TableStep old mark new → IsMade mark name_tables') → (result : Result (Unit {0}) E) → OnOk result (TableStep old mark new) → OnErr result (new ≡ old) → IsTried mark name_tables' result
    tried mark makes (Ok u) ok err = made_tried mark name_tables' u (makes ok)
    tried mark makes (Err fault) ok err = refused mark fault err

    pub request_tried : {E : Type 0} (result : Result (Unit {0}) E) → OnOk result (TableStep old (Requested e) new) → OnErr result (new ≡ old) → IsTried (Requested e) name_tables' result
    request_tried = tried (Requested e) requested

    pub enter_tried : {E : Type 0} (result : Result (Unit {0}) E) → OnOk result (TableStep old (Entered e) new) → OnErr result (new ≡ old) → IsTried (Entered e) name_tables' result
    enter_tried = tried (Entered e) entered

    pub leave_tried : {E : Type 0} (result : Result (Unit {0}) E) → OnOk result (TableStep old (Left e) new) → OnErr result (new ≡ old) → IsTried (Left e) name_tables' result
    leave_tried = tried (Left e) left

    pub withdraw_tried : {E : Type 0} (result : Result (Unit {0}) E) → OnOk result (TableStep old (Withdrawn e) new) → OnErr result (new ≡ old) → IsTried (Withdrawn e) name_tables' result
    withdraw_tried = tried (Withdrawn e) withdrawn

  -- ---- The name has its first table

  opened : (name_tables' : IndexMap (List ℕ) LockTable S) → None ≡ lookup (bytes_eq e.name) name_tables.entries → name_tables'.entries ≡ name_tables.entries ++ (e.name, first_request e) ∷ [] → IsUnique bytes_eq name_tables' → IsMade (Requested e) name_tables'
  opened name_tables' none more unique =
      let first = first_request e in
      let joined_is = λ (part : LockTable → List Entry). ap (joined part) more ∙ joined_more part name_tables.entries e.name first in
      let on_nothing = All-nil (λ (x : Entry). x.name ≡ e.name) in
      let on_more = λ (part : LockTable → List Entry) (on : AreOnTheirNames part name_tables.entries) (here : AreOn e.name (part first)). subst (AreOnTheirNames part) (sym more) (more_on part name_tables.entries e.name first on here) in
      record {
        step = subst (λ (t : LockTable). TableStep t (Requested e) (table_of name_tables'.entries)) is (
          subst (λ (t : LockTable). MayRequest t e) (sym is) ((may_request empty_table now e (none_shown none)).0 (empty_may e)),
          subst (Gains (joined waiting_of name_tables.entries) e) (sym (joined_is waiting_of)) (Gains-push (joined waiting_of name_tables.entries) e),
          joined_is holding_of ∙ append-nil (joined holding_of name_tables.entries),
          joined_is granted_of ∙ append-nil (joined granted_of name_tables.entries),
        );
        kept_after = λ free. record {
          distinct = unique;
          waiting = on_more waiting_of kept.waiting (All-push (λ (x : Entry). x.name ≡ e.name) [] e on_nothing refl);
          holding = on_more holding_of kept.holding on_nothing;
          granted = on_more granted_of kept.granted on_nothing;
          conflict_free = free;
        };
      }

  pub open_tried : {E : Type 0} (before name_tables' : IndexMap (List ℕ) LockTable S) → before ≡ name_tables → None ≡ lookup (bytes_eq e.name) name_tables.entries → (result : Result (Unit {0}) E)
      → OnOk result (name_tables'.entries ≡ before.entries ++ (e.name, first_request e) ∷ []) → OnOk result (IsUnique bytes_eq name_tables') → OnErr result (name_tables'.entries ≡ before.entries) → IsTried (Requested e) name_tables' result
  open_tried before name_tables' same none (Ok u) more unique err =
      made_tried (Requested e) name_tables' u (opened name_tables' none (more ∙ ap (λ (m : IndexMap (List ℕ) LockTable S). m.entries ++ (e.name, first_request e) ∷ []) same) unique)
  open_tried before name_tables' same none (Err fault) more unique err =
      let back : name_tables'.entries ≡ name_tables.entries = err ∙ ap (λ (m : IndexMap (List ℕ) LockTable S). m.entries) same in
      record { still_kept = subst IsKept (sym back) kept; ok = tt; err = ap table_of back ∙ is }
