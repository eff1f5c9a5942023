use Rattle.ra_link.proofs.Prefixes.{taken_is_there, acknowledged_is_there, nothing_is_missing}
use Rattle.ra_link.proofs.laws.a_ready_host_lacks_nothing.Goals as goal

pub returns-clause-taken : goal.returns-clause-taken
returns-clause-taken c = taken_is_there

pub returns-clause-acknowledged : goal.returns-clause-acknowledged
returns-clause-acknowledged c = acknowledged_is_there

pub returns-clause-settled : goal.returns-clause-settled
returns-clause-settled c = nothing_is_missing
