use Rattle.std.proofs.Common.{true, Some, Option, ℕ, sym, subst}
use Rattle.ra_clients.specs.Times.{Sets}
use Rattle.ra_clients.proofs.TimeOrder.{one_set}
use Rattle.ra_clients.proofs.times.add_end.Goals as goal

pub returns-clause-ok : goal.returns-clause-ok
returns-clause-ok c =
    subst (λ (o : Option ℕ). Sets c.args.ends.now c.args.number c.args.name.now o true c.insert.new.self) (sym c.in-Some.is)
    (one_set c.args.ends.now c.insert.new.self c.args.number c.in-Some.until c.args.name.now true c.in_ok-insert.ensures.updates)
