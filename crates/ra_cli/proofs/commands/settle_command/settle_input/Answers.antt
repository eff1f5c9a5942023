use Rattle.ra_cli.proofs.commands.settle_command.settle_input.Goals as goal

pub returns-in-Ok : goal.returns-in-Ok
returns-in-Ok g c = c.show.ensures c.args.input.now c.in-Ok.ensures.settled

pub returns-in-Err : goal.returns-in-Err
returns-in-Err g c = c.contradict.ensures c.args.input.now c.in-Err.ensures.refused
