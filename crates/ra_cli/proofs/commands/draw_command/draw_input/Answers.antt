use Rattle.ra_cli.proofs.commands.draw_command.draw_input.Goals as goal

pub returns-in-Trace : goal.returns-in-Trace
returns-in-Trace g c = rw c.in-Trace.is c.draw_trace.ensures

pub returns-in-Marks : goal.returns-in-Marks
returns-in-Marks g c = rw c.in-Marks.is c.draw_log.ensures
