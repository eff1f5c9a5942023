use Rattle.std.proofs.Common.{◌<◌, ◌≤◌, ℕ, arith}
use Rattle.ra_clients.proofs.TimeOrder.{not_above}
use Rattle.ra_clients.proofs.times.first_due.Goals as goal

pub returns-then-until-now : goal.returns-then-until-now
returns-then-until-now c = (c.in_ok-until.field-0.now.0.0, c.if-until-now.true, c.in_ok-until.ensures.member)

pub returns-else-until-now : goal.returns-else-until-now
returns-else-until-now c =
    λ until number name has.
    let low = not_above c.in_ok-until.field-0.now ((until, number), name) (c.in_ok-until.ensures.least ((until, number), name) has) in
    omega (arith, low, c.if-until-now.false)
