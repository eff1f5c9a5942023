use Rattle.std.proofs.Common.{◌≡◌, List, map, take}
use Rattle.clap.specs.Words.{Shape, app_of}
use Rattle.ra_arguments.specs.OptionTable.{AreCommandsOf, label_of_row, program_of}
use Rattle.ra_arguments.proofs.command_line.command_rows.matches_of.Given as goal

-- it has the commands so far
abbrev pub invariant-loop-row : goal.invariant-loop-row
invariant-loop-row l = (commands : List Shape) × AreCommandsOf (map label_of_row (take l.row-index l.row-items)) commands × (app_of l.program ≡ program_of commands)
