use Rattle.std.proofs.Common.{refl}
use Rattle.ra_clients.proofs.Shown.{given_back_now}
use Rattle.ra_clients.proofs.clients.ClientTables.give_back.Goals as goal

pub returns-clause-ok : goal.returns-clause-ok
returns-clause-ok c =
    λ l s shows.
    let old = c.args.self.now in
    let first = c.in-Some.first in
    given_back_now old.time old.number_of old.closed old.roster c.end.new.self old.released s shows c.in-Some.number first.name l first refl c.in-Some.ensures c.in_ok-end.ensures.ok
