use Rattle.std.proofs.Common.{false, Some, Option, ℕ, sym, subst}
use Rattle.ra_clients.specs.Times.{Sets}
use Rattle.ra_clients.proofs.TimeOrder.{one_set}
use Rattle.ra_clients.proofs.times.drop_end.Goals as goal

pub returns : goal.returns
returns c =
    subst (λ (o : Option ℕ). Sets c.args.ends.now c.args.number c.args.name.now o false c.remove.new.self) (sym c.in-Some.is)
    (one_set c.args.ends.now c.remove.new.self c.args.number c.in-Some.until c.args.name.now false c.remove.ensures.updates)
