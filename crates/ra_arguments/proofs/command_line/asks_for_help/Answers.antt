use Rattle.std.proofs.Common.{◌<◌, length, refl, sym, ap, ◌∙◌, arith, below_more, string_bytes, subst}
use Rattle.std.proofs.lemmas.Bool.{false≢true}
use Rattle.std.proofs.lemmas.List.{get_or_read}
use Rattle.ra_arguments.specs.Arguments.{IsHelpArgument}
use Rattle.ra_arguments.proofs.command_line.asks_for_help.Goals as goal

pub returns-then-is_help_argument : goal.returns-then-is_help_argument
returns-then-is_help_argument c =
    (λ true. (c.loop-argument.argument-index, c.argument-item.result, c.loop-argument-test.true, sym c.argument-item.is, subst IsHelpArgument c.as_str.ensures.value (c.is_help_argument.ensures.0 c.if-is_help_argument.true)), λ any. refl)

pub loop-argument-preserved : goal.loop-argument-preserved
loop-argument-preserved c =
    below_more _ _ c.loop-argument.invariant
    (λ other there help.
    let here = get_or_read c.args.arguments.now c.loop-argument.argument-index c.argument-item.result c.loop-argument-test.true c.argument-item.is other in
    false≢true (sym c.if-is_help_argument.false ∙ c.is_help_argument.ensures.1 (subst IsHelpArgument (sym (c.as_str.ensures.value ∙ ap string_bytes (here ∙ there))) help)))

pub returns : goal.returns
returns c =
    (λ is. absurd (false≢true is), λ any. absurd (c.loop-argument.invariant any.0 (let less : any.0 < length c.args.arguments.now = any.2 in omega arith) any.1 any.3 any.4))
