use Rattle.std.proofs.Common.{◌∙◌, refl, sym}
use Rattle.clap.specs.Words.{found_of}
use Rattle.ra_arguments.proofs.Reading.{no_number_of, none_given, number_of, text_given}
use Rattle.ra_arguments.proofs.command_line.option_values.plain_number.Goals as goal

pub returns-in-Ok : goal.returns-in-Ok
returns-in-Ok c =
    let given = text_given (found_of c.args.given.now) c.args.option.now c.in_ok-text.text.now c.in_ok-text.ensures in
    rw (given, number_of 16 c.in_ok-text.text.now c.parse.result c.parse.ensures.value.0 c.in-Ok.number c.in-Ok.is) refl

pub returns-in-Err : goal.returns-in-Err
returns-in-Err c =
    let given = text_given (found_of c.args.given.now) c.args.option.now c.in_ok-text.text.now c.in_ok-text.ensures in
    rw (given, no_number_of 16 c.in_ok-text.text.now c.parse.result c.parse.ensures.value.0 (λ n ok. let clash = sym ok ∙ c.in-Err.is in cc)) refl

pub returns-in_err-text : goal.returns-in_err-text
returns-in_err-text c = rw (c.from_residual.ensures, none_given (found_of c.args.given.now) c.args.option.now c.in_err-text.ensures) refl
