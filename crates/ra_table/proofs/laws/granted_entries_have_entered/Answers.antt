use Rattle.ra_table.proofs.History.{run_granted}
use Rattle.ra_table.proofs.laws.granted_entries_have_entered.Goals as goal

pub returns : goal.returns
returns c = run_granted
