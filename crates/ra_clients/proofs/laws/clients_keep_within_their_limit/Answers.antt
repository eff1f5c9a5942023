use Rattle.ra_clients.proofs.Counted.{count_within, counted_after, starts_counted}
use Rattle.ra_clients.proofs.Limited.{within_after}
use Rattle.ra_clients.proofs.laws.clients_keep_within_their_limit.Goals as goal

pub returns-clause-names : goal.returns-clause-names
returns-clause-names c = λ l s e t k. within_after l k s e t

pub returns-clause-starts : goal.returns-clause-starts
returns-clause-starts c = starts_counted

pub returns-clause-counted : goal.returns-clause-counted
returns-clause-counted c = counted_after

pub returns-clause-clients : goal.returns-clause-clients
returns-clause-clients c = count_within
