use Rattle.std.proofs.Common.{take, flat_map}
use Rattle.ra_text.specs.Drafting.{Adds}
use Rattle.ra_cli.specs.WrongLineChecks.{wrong_line}
use Rattle.ra_cli.proofs.commands.wrong_lines_text.push_wrong_lines.Given as goal

-- the lines so far were added
abbrev pub invariant-loop-wrong : goal.invariant-loop-wrong
invariant-loop-wrong l = Adds l.fn.text (flat_map wrong_line (take l.wrong-index l.firsts)) l.text
