use Rattle.ra_stamp.proofs.StampLaws.{conflict_flips}
use Rattle.ra_table.proofs.Runs.{holders_do_not_conflict}
use Rattle.ra_table.proofs.laws.conflicting_entries_never_hold_at_once.Goals as goal

pub returns : goal.returns
returns c = holders_do_not_conflict conflict_flips
