use Rattle.std.proofs.Common.{◌∙◌}
use Rattle.ra_cli.proofs.SettleRuns.{contradicted}
use Rattle.ra_cli.proofs.commands.settle_command.contradict.Goals as goal

pub returns-in-Ok : goal.returns-in-Ok
returns-in-Ok g c input unsettled =
    let before = g.W.Write.contents c.args.writer.now in
    let after = g.W.Write.contents c.print_text.new.writer in
    contradicted c.args.asked input c.as_bytes.result.now before after c.print_text.result.status
    (c.in-Invalid.line, c.in-Invalid.cause, rw c.in-Invalid.is at unsettled, c.as_bytes.ensures.value ∙ c.in-Ok.ensures) c.print_text.ensures

pub returns-in-Err : goal.returns-in-Err
returns-in-Err g c input unsettled = c.refuse_memory-in-Err.ensures c.args.asked input

pub returns-in_default : goal.returns-in_default
returns-in_default g c input unsettled = c.refuse_memory.ensures c.args.asked input
