use Rattle.ra_clients.proofs.Asking.{comes}
use Rattle.ra_clients.proofs.Unlocking.{unlocked}
use Rattle.ra_clients.proofs.laws.unlocked_is_the_last_answer.Goals as goal

pub returns-clause-unlocked : goal.returns-clause-unlocked
returns-clause-unlocked c = λ l s e t connection name is once. unlocked connection name l s e t is once

pub returns-clause-comes : goal.returns-clause-comes
returns-clause-comes c = λ l s e t k name. comes k name l s e t
