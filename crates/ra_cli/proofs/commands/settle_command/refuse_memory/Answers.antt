use Rattle.ra_cli.specs.declared.error.SettleFault.TheVariants.{Memory}
use Rattle.ra_cli.proofs.SettleRuns.{no_memory, refuses}
use Rattle.ra_cli.proofs.commands.settle_command.refuse_memory.Goals as goal

pub returns : goal.returns
returns g c trace input =
    no_memory trace input _ _ c.refuse.result.status
    (refuses Memory _ _ _ c.refuse.result.status c.refuse.ensures)
