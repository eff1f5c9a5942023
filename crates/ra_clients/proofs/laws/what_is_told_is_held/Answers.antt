use Rattle.ra_clients.proofs.Granting.{granted}
use Rattle.ra_clients.proofs.Ending.{ends_by, held_over}
use Rattle.ra_clients.proofs.Holding.{lasts}
use Rattle.ra_clients.proofs.laws.what_is_told_is_held.Goals as goal

pub returns-clause-granted : goal.returns-clause-granted
returns-clause-granted c = λ l s e t connection name seq node is. granted connection name seq node l s e t is

pub returns-clause-lasts : goal.returns-clause-lasts
returns-clause-lasts c = lasts

pub returns-clause-runs : goal.returns-clause-runs
returns-clause-runs c = λ l old new turns k name. held_over l k name old new turns

pub returns-clause-ends : goal.returns-clause-ends
returns-clause-ends c = λ l s e t k name. ends_by k name l s e t
