use Rattle.std.proofs.Common.{◌∙◌}
use Rattle.std.specs.Str.Parse.{ExplainsUnsignedError, HasUnsignedDigitsIfOk, ParsesUnsigned}
use Rattle.clap.specs.Words.{found_of, rows_of}
use Rattle.clap.specs.Walk.{one_of}
use Rattle.clap.proofs.WalkLemmas.{one_text-rows}
use Rattle.ra_arguments.proofs.Reading.{read_number}
use Rattle.ra_arguments.proofs.command_line.option_values.short_number.Goals as goal

pub returns : goal.returns
returns c =
    let found = found_of c.args.given.now in
    let same = one_text-rows found c.args.option.now in
    read_number 16 (λ text result. ParsesUnsigned 16 10 text result × ExplainsUnsignedError 10 text result × HasUnsignedDigitsIfOk text result) (λ text result gives. gives.0) (one_of c.args.option.now (rows_of found)) c.get_one.result (λ none. c.get_one.ensures.none (same ∙ none))
    (λ text is. c.get_one.ensures.value text (same ∙ is))
