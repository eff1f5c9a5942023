use Rattle.std.proofs.Common.{◌≡◌, drop, map}
use Rattle.ra_arguments.specs.FileWords.{is_taking}
use Rattle.ra_arguments.specs.OptionTable.{rule_of_row}
use Rattle.ra_arguments.proofs.command_line.option_rows.is_taking_among.Given as goal

-- it is none of the rows so far
abbrev pub invariant-loop-row : goal.invariant-loop-row
invariant-loop-row l = is_taking (map rule_of_row l.rows) l.argument ≡ is_taking (map rule_of_row (drop l.row-index l.rows)) l.argument
