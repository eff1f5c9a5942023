use Rattle.ra_link.proofs.Lasting.{taken_lasts, kept_lasts, acknowledged_lasts}
use Rattle.ra_link.proofs.laws.a_host_that_was_ready_lacks_nothing.Goals as goal

pub returns-clause-taken : goal.returns-clause-taken
returns-clause-taken c = taken_lasts

pub returns-clause-kept : goal.returns-clause-kept
returns-clause-kept c = kept_lasts

pub returns-clause-acknowledged : goal.returns-clause-acknowledged
returns-clause-acknowledged c = acknowledged_lasts
