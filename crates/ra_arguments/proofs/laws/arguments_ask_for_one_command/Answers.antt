use Rattle.ra_arguments.proofs.OneCommand.{one_command}
use Rattle.ra_arguments.proofs.laws.arguments_ask_for_one_command.Goals as goal

pub returns : goal.returns
returns c = one_command
