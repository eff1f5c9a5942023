use Rattle.ra_node.proofs.Chains.{events_step}
use Rattle.ra_book.proofs.Histories.{goes_on}
use Rattle.ra_book.proofs.laws.histories_go_on.Goals as goal

pub returns-clause-event : goal.returns-clause-event
returns-clause-event c = goes_on events_step
