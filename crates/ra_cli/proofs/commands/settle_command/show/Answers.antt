use Rattle.std.proofs.Common.{sym, subst}
use Rattle.ra_cli.specs.SettleRun.{Prints}
use Rattle.ra_cli.proofs.SettleRuns.{shown}
use Rattle.ra_cli.proofs.commands.settle_command.show.Goals as goal

pub returns-in-Ok : goal.returns-in-Ok
returns-in-Ok g c input is =
    let before = g.W.Write.contents c.args.writer.now in
    let after = g.W.Write.contents c.print_text.new.writer in
    let asked = c.args.asked in
    let text = c.args.text.now in
    shown asked input c.as_bytes.result.now before after c.print_text.result.status
    (text, is, subst (Prints asked.printed text) (sym c.as_bytes.ensures.value) c.in-Ok.ensures) c.print_text.ensures

pub returns-in-Err : goal.returns-in-Err
returns-in-Err g c input is = c.refuse_memory.ensures c.args.asked input
