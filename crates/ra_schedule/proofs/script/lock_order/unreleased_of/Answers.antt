use Rattle.std.proofs.Common.{refl}
use Rattle.ra_schedule.specs.LockOrder.{EndsHolding, IsFirstNeverUnlocked}
use Rattle.ra_schedule.proofs.FirstLocks.{of_ops, ops_of, first_kept, none_kept}
use Rattle.ra_schedule.proofs.script.lock_order.unreleased_of.Goals as goal

pub returns-then-never_unlocks-clause-some : goal.returns-then-never_unlocks-clause-some
returns-then-never_unlocks-clause-some c =
    let ops = c.in_ok-ops.ops.now in
    let place = c.loop-place.place in (
      refl,
      of_ops (λ ops. IsFirstNeverUnlocked ops place) c.args.script.now c.args.client ops c.in_ok-ops.ensures
          (first_kept ops place c.loop-place.invariant (c.never_unlocks.ensures.0 c.if-never_unlocks.true)),
    )

pub returns-clause-none : goal.returns-clause-none
returns-clause-none c none h =
    let ops = c.in_ok-ops.ops.now in
    none_kept ops c.loop-place.place c.loop-place-test.false c.loop-place.invariant
    (ops_of EndsHolding c.args.script.now c.args.client ops c.in_ok-ops.ensures h)
