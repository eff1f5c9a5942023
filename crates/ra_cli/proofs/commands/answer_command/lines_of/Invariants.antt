use Rattle.std.proofs.Common.{take}
use Rattle.ra_cli.specs.Answer.{AreLines}
use Rattle.ra_cli.proofs.commands.answer_command.lines_of.Given as goal

abbrev pub invariant-loop-message : goal.invariant-loop-message
invariant-loop-message l = AreLines l.clock (take l.message-index l.message-items) l.text.items
