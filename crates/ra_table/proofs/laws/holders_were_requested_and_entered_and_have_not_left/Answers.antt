use Rattle.ra_table.proofs.History.{run_holds}
use Rattle.ra_table.proofs.laws.holders_were_requested_and_entered_and_have_not_left.Goals as goal

pub returns : goal.returns
returns c = run_holds
