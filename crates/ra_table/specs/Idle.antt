-- Whether nobody waits or holds.
use Rattle.std.specs.Prelude.{◌&&◌, Bool, true, false, List, [], ◌∷◌}
use Rattle.ra_stamp.specs.declared.entry.Entry.{Entry}
use Rattle.ra_table.specs.Table.{LockTable}

abbrev pub is_empty : List Entry → Bool
is_empty [] = true
is_empty (entry ∷ entries) = false

-- no entry waits or holds
abbrev pub is_idle : LockTable → Bool
is_idle table = is_empty table.waiting && is_empty table.holding
