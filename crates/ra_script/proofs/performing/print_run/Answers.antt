use Rattle.ra_script.proofs.performing.print_run.Goals as goal

pub returns-in-Lines : goal.returns-in-Lines
returns-in-Lines c = rw c.in-Lines.is c.lines_of.ensures

pub returns-in-Trace : goal.returns-in-Trace
returns-in-Trace c = rw c.in-Trace.is c.trace_of.ensures

pub returns-in-Choices : goal.returns-in-Choices
returns-in-Choices c = rw c.in-Choices.is c.choices_of.ensures

pub returns-in-Shrunk : goal.returns-in-Shrunk
returns-in-Shrunk c = rw c.in-Shrunk.is c.shrunk_of.ensures

pub returns-in-State : goal.returns-in-State
returns-in-State c = rw c.in-State.is c.state_of.ensures
