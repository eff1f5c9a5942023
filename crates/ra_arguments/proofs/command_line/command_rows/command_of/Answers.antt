use Rattle.clap.specs.Words.{app_of, rule_of}
use Rattle.ra_arguments.proofs.Commands.{all_options, one_option}
use Rattle.ra_arguments.proofs.command_line.command_rows.command_of.Goals as goal

pub loop-option-preserved : goal.loop-option-preserved
loop-option-preserved c =
    one_option c.args.row.now.name.now c.options_of-option-items.result.now c.loop-option.option-index _ (app_of c.loop-option.command) (app_of c.in_ok-command.command)
    (rule_of c.option_of.result) c.loop-option-test.true c.loop-option.invariant c.option_of.ensures.rule (c.in_ok-command.ensures.shape c.option_of.ensures.local)

pub returns : goal.returns
returns c =
    all_options c.args.row.now.name.now c.args.row.now.kind c.options_of-option-items.result.now c.loop-option.option-index (app_of c.loop-option.command)
    c.loop-option-test.false c.loop-option.invariant c.options_of-option-items.ensures
