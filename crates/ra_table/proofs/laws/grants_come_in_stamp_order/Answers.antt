use Rattle.ra_stamp.proofs.StampLaws.{conflict_flips, one_is_earlier}
use Rattle.ra_table.proofs.Runs.{grants_by_stamp}
use Rattle.ra_table.proofs.laws.grants_come_in_stamp_order.Goals as goal

pub returns : goal.returns
returns c = grants_by_stamp conflict_flips one_is_earlier
