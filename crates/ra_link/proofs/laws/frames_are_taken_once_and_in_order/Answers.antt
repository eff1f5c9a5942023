use Rattle.ra_link.proofs.Honest.{taken_in_order, kept_in_order}
use Rattle.ra_link.proofs.laws.frames_are_taken_once_and_in_order.Goals as goal

pub returns-clause-taken : goal.returns-clause-taken
returns-clause-taken c = taken_in_order

pub returns-clause-kept : goal.returns-clause-kept
returns-clause-kept c = kept_in_order
