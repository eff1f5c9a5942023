use Rattle.ra_table.proofs.History.{run_waits}
use Rattle.ra_table.proofs.laws.waiting_entries_were_requested_and_have_not_entered.Goals as goal

pub returns : goal.returns
returns c = run_waits
