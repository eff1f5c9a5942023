use Rattle.std.proofs.Common.{◌∙◌, map, string_bytes}
use Rattle.clap.specs.Words.{app_of}
use Rattle.ra_arguments.proofs.Asking.{parsed_by}
use Rattle.ra_arguments.proofs.Commands.{all_commands, at_end, not_global, one_row}
use Rattle.ra_arguments.proofs.command_line.command_rows.matches_of.Goals as goal

pub loop-row-preserved : goal.loop-row-preserved
loop-row-preserved c =
    one_row c.all_rows-row-items.result.now c.loop-row.row-index _ (app_of c.loop-row.program) (app_of c.in_ok-command.command) (app_of c.in_ok-program.program) c.loop-row-test.true
    c.loop-row.invariant c.in_ok-command.ensures (c.in_ok-program.ensures.shape (not_global c.in_ok-command.command _ c.in_ok-command.ensures.0 c.in_ok-command.ensures.2))

pub returns : goal.returns
returns c =
    let (commands, are, is) = c.loop-row.invariant in
    let (policies, endings, first, second, whole) =
    all_commands commands (at_end c.all_rows-row-items.result.now c.loop-row.row-index commands c.loop-row-test.false c.all_rows-row-items.ensures are) in
    parsed_by (app_of c.loop-row.program) policies endings first second (is ∙ whole) (map string_bytes c.args.arguments.now) c.try_get_matches_from.result
    c.try_get_matches_from.ensures.kinds c.try_get_matches_from.ensures.matches
