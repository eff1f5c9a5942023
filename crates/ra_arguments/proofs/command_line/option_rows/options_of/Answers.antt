use Rattle.std.proofs.Common.{refl}
use Rattle.ra_arguments.proofs.command_line.option_rows.options_of.Goals as goal

pub returns-in-Sim : goal.returns-in-Sim
returns-in-Sim c = rw c.in-Sim.is (_, _, refl, refl, refl)
