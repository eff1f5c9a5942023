use Rattle.std.proofs.Common.{codes, refl}
use Rattle.clap.specs.Words.{found_of}
use Rattle.ra_arguments.proofs.Reading.{none_given, other_word, text_given}
use Rattle.ra_arguments.proofs.command_line.ending_of.Goals as goal

pub returns-in-Some-finished : goal.returns-in-Some-finished
returns-in-Some-finished c =
    rw (text_given (found_of c.args.sim.now) (codes "find") c.in-Some-finished.field-0.now c.in-Some-finished.ensures, c.in-Some-finished.is-finished) refl

pub returns-in-Some : goal.returns-in-Some
returns-in-Some c =
    rw (text_given (found_of c.args.sim.now) (codes "find") c.in-Some.field-0.now c.in-Some.ensures, other_word c.in-Some.field-0.now (codes "finished") c.in-Some.not-finished) refl

pub returns-in-None : goal.returns-in-None
returns-in-None c = rw (none_given (found_of c.args.sim.now) (codes "find") c.in-None.ensures) refl
