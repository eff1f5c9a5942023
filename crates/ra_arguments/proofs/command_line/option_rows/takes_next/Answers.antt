use Rattle.std.proofs.Common.{◌∙◌}
use Rattle.ra_arguments.proofs.FileWords.{same_taking}
use Rattle.ra_arguments.proofs.command_line.option_rows.takes_next.Goals as goal

pub returns-in-Some : goal.returns-in-Some
returns-in-Some c = rw c.in-Some.is (c.is_taking_among.ensures ∙ same_taking c.in-Some.kind _ c.args.argument.now c.options_of.ensures)
