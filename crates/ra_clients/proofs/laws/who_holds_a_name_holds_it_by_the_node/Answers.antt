use Rattle.ra_clients.proofs.AtNode.{step_holds}
use Rattle.ra_clients.proofs.laws.who_holds_a_name_holds_it_by_the_node.Goals as goal

pub returns-clause-distinct : goal.returns-clause-distinct
returns-clause-distinct c = λ l old new before after e step once all. (step_holds l old new before after e step once all).0

pub returns-clause-held : goal.returns-clause-held
returns-clause-held c = λ l old new before after e step once all. (step_holds l old new before after e step once all).1
