use Rattle.std.proofs.Common.{◌≡◌, [], map, take}
use Rattle.clap.specs.Words.{app_of}
use Rattle.ra_arguments.specs.Application.{command}
use Rattle.ra_arguments.specs.OptionTable.{rule_of_row}
use Rattle.ra_arguments.proofs.command_line.command_rows.command_of.Given as goal

-- it has the options so far
abbrev pub invariant-loop-option : goal.invariant-loop-option
invariant-loop-option l = app_of l.command ≡ record { top = command l.fn.row.name.now (map rule_of_row (take l.option-index l.option-items)); subs = [] }
