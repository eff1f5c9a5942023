-- Whether nobody waits or holds in the tables of all names.
use Rattle.std.proofs.Common.{◌≡◌, ◌∙◌, ◌&&◌, ◌++◌, ℕ, Bool, true, false, List, [], ◌∷◌, refl, ap}
use Rattle.std.specs.List.{list_all}
use Rattle.std.specs.Map.{values_of}
use Rattle.ra_stamp.specs.declared.entry.Entry.{Entry}
use Rattle.ra_table.specs.Table.{LockTable}
use Rattle.ra_table.specs.Idle.{is_empty, is_idle}
use Rattle.ra_table.specs.NameTables.{table_of}

both_empty : (a b : List Entry) → is_empty (a ++ b) ≡ (is_empty a && is_empty b)
both_empty [] b = refl
both_empty (entry ∷ a) b = refl

exchanged : (a b c d : Bool) → ((a && b) && (c && d)) ≡ ((a && c) && (b && d))
exchanged true true c d = refl
exchanged true false true d = refl
exchanged true false false d = refl
exchanged false b c d = refl

-- the tables are idle one by one
pub each_idle : (name_tables : List (List ℕ × LockTable)) → is_idle (table_of name_tables) ≡ list_all is_idle (values_of name_tables)
each_idle [] = refl
each_idle (name_table ∷ name_tables) =
    let first = name_table.1 in
    let rest = table_of name_tables in
    rw (both_empty first.waiting rest.waiting, both_empty first.holding rest.holding)
    (exchanged (is_empty first.waiting) (is_empty rest.waiting) (is_empty first.holding) (is_empty rest.holding)
    ∙ ap (λ (b : Bool). is_idle first && b) (each_idle name_tables))
