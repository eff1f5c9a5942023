use Rattle.ra_stamp.proofs.StampLaws.{same_messages, same_entries, same_marks}
use Rattle.ra_stamp.proofs.laws.equal_is_same.Goals as goal

pub returns-clause-messages : goal.returns-clause-messages
returns-clause-messages c a b = same_messages a b

pub returns-clause-entries : goal.returns-clause-entries
returns-clause-entries c a b = same_entries a b

pub returns-clause-marks : goal.returns-clause-marks
returns-clause-marks c a b = same_marks a b
