use Rattle.std.proofs.Common.{codes, refl}
use Rattle.clap.specs.Words.{found_of}
use Rattle.ra_arguments.proofs.Reading.{none_given, text_given}
use Rattle.ra_arguments.proofs.command_line.policy_name.Goals as goal

pub returns-in_err-get_str : goal.returns-in_err-get_str
returns-in_err-get_str c =
    let given = none_given (found_of c.args.sim.now) (codes "policy") c.in_err-get_str.ensures in
    rw (c.from_residual-in_err-get_str.ensures, ← c.in_ok-seed.ensures, ← c.in_ok-faults.ensures, given) refl

pub returns : goal.returns
returns c =
    let given = text_given (found_of c.args.sim.now) (codes "policy") c.in_ok-get_str.field-0.now c.in_ok-get_str.ensures in
    rw (← c.in_ok-seed.ensures, ← c.in_ok-faults.ensures, given) c.policy_named.ensures
