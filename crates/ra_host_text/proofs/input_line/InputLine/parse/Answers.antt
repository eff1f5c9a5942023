use Rattle.std.proofs.Common.{◌≡◌, codes, rules}
use Rattle.ra_host_text.proofs.Inputs.{input_none, input_parts}
use Rattle.ra_host_text.proofs.input_line.InputLine.parse.Goals as goal

pub returns-in_err-word : goal.returns-in_err-word
returns-in_err-word c =
    let other : c.args.line.now ≡ codes "release" → ⊥ = search rules in
    rw c.from_residual.ensures (input_none c.args.line.now c.in_err-word.ensures other)

pub returns : goal.returns
returns c = input_parts c.args.line.now c.in_ok-word.word.now c.in_ok-word.rest.now c.worded_input_of.result c.in_ok-word.ensures c.worded_input_of.ensures
