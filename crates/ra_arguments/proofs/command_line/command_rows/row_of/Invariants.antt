use Rattle.std.proofs.Common.{◌≡◌, drop, map}
use Rattle.ra_arguments.specs.Helping.{called, command_called}
use Rattle.ra_arguments.specs.OptionTable.{label_of_row}
use Rattle.ra_arguments.proofs.command_line.command_rows.row_of.Given as goal

-- it is not one of the rows so far
abbrev pub invariant-loop-row : goal.invariant-loop-row
invariant-loop-row l = command_called l.name ≡ called (map label_of_row (drop l.row-index l.row-items)) l.name
