use Rattle.ra_cli.proofs.KnownStatuses.{at_most_3, refuses}
use Rattle.ra_cli.proofs.laws.statuses_are_known.Goals as goal

pub returns-clause-range : goal.returns-clause-range
returns-clause-range c = at_most_3

pub returns-clause-refused : goal.returns-clause-refused
returns-clause-refused c = refuses
