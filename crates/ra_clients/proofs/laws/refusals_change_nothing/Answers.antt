use Rattle.ra_clients.proofs.Refusing.{refused_nothing, taken_back}
use Rattle.ra_clients.proofs.laws.refusals_change_nothing.Goals as goal

pub returns-clause-told : goal.returns-clause-told
returns-clause-told c = λ l s e t connection name why is. refused_nothing connection name why l s e t is

pub returns-clause-taken_back : goal.returns-clause-taken_back
returns-clause-taken_back c = taken_back
