use Rattle.std.proofs.Common.{refl}
use Rattle.clap.specs.Words.{found_of}
use Rattle.ra_arguments.proofs.Reading.{none_given, text_given}
use Rattle.ra_arguments.proofs.command_line.option_values.has_flag.Goals as goal

pub returns-in-Some : goal.returns-in-Some
returns-in-Some c = rw (text_given (found_of c.args.given.now) c.args.option.now c.in-Some.text.now c.in-Some.ensures) c.eq.ensures

pub returns-in-None : goal.returns-in-None
returns-in-None c = rw (none_given (found_of c.args.given.now) c.args.option.now c.in-None.ensures) refl
