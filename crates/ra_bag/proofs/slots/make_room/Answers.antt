use Rattle.std.proofs.Common.{refl}
use Rattle.std.proofs.lemmas.Result.{IfOk-from_err, MatchResult-from_err}
use Rattle.ra_bag.proofs.Calls.{within, no_room, has_room, enough}
use Rattle.ra_bag.proofs.slots.make_room.Goals as goal

pub overflow_sub-capacity : goal.overflow_sub-capacity
overflow_sub-capacity c = within _ _ _ _ c.len.ensures c.capacity.ensures c.args.slots.now.small.1

-- ---- There is no memory for it

pub returns-in_err-reserve_exact-clause-same : goal.returns-in_err-reserve_exact-clause-same
returns-in_err-reserve_exact-clause-same c = c.in_err-reserve_exact.ensures.items

pub returns-in_err-reserve_exact-clause-ok : goal.returns-in_err-reserve_exact-clause-ok
returns-in_err-reserve_exact-clause-ok c = IfOk-from_err c.from_residual.result _ c.from_residual.ensures.0

pub returns-in_err-reserve_exact-clause-enough : goal.returns-in_err-reserve_exact-clause-enough
returns-in_err-reserve_exact-clause-enough c = no_room _ _ _ _ _ c.len.ensures c.capacity.ensures c.if-capacity-len.true

pub returns-in_err-reserve_exact-clause-err : goal.returns-in_err-reserve_exact-clause-err
returns-in_err-reserve_exact-clause-err c =
    MatchResult-from_err c.from_residual.result _ _ c.from_residual.ensures.0 (λ _. c.in_err-reserve_exact.ensures.err)

pub returns-in_err-reserve_exact-clause-succeeds : goal.returns-in_err-reserve_exact-clause-succeeds
returns-in_err-reserve_exact-clause-succeeds c = no_room _ _ _ _ _ c.len.ensures c.capacity.ensures c.if-capacity-len.true

-- ---- Room is made

pub returns-in_ok-reserve_exact-clause-same : goal.returns-in_ok-reserve_exact-clause-same
returns-in_ok-reserve_exact-clause-same c = c.in_ok-reserve_exact.ensures.items

pub returns-in_ok-reserve_exact-clause-ok : goal.returns-in_ok-reserve_exact-clause-ok
returns-in_ok-reserve_exact-clause-ok c = enough _ _ _ _ _ _ refl c.max.ensures c.in_ok-reserve_exact.ensures.ok

pub returns-in_ok-reserve_exact-clause-enough : goal.returns-in_ok-reserve_exact-clause-enough
returns-in_ok-reserve_exact-clause-enough c = no_room _ _ _ _ _ c.len.ensures c.capacity.ensures c.if-capacity-len.true

pub returns-in_ok-reserve_exact-clause-succeeds : goal.returns-in_ok-reserve_exact-clause-succeeds
returns-in_ok-reserve_exact-clause-succeeds c = λ _. refl

-- ---- There is room

pub returns-else-capacity-len-clause-ok : goal.returns-else-capacity-len-clause-ok
returns-else-capacity-len-clause-ok c = has_room _ _ _ _ _ c.len.ensures c.capacity.ensures c.args.slots.now.small.1 c.if-capacity-len.false
