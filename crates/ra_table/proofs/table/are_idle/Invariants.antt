use Rattle.std.proofs.Common.{◌≡◌}
use Rattle.std.specs.List.{list_all}
use Rattle.indexmap.specs.IndexMap.{values}
use Rattle.ra_table.specs.Idle.{is_idle}
use Rattle.ra_table.proofs.table.are_idle.Given as goal

-- the tables so far are idle
abbrev pub invariant-loop-name_table : goal.invariant-loop-name_table
invariant-loop-name_table l =
    record {
      rest : list_all is_idle l.name_table-iterator ≡ list_all is_idle (values l.name_tables);
    }
