use Rattle.std.proofs.lemmas.Bool.{false≢true}
use Rattle.ra_schedule.specs.LockOrder.{NeverUnlocks}
use Rattle.ra_schedule.proofs.FirstLocks.{of_ops, ops_of, no_ops}
use Rattle.ra_schedule.proofs.script.lock_order.is_unreleased.Goals as goal

pub returns-in-Some : goal.returns-in-Some
returns-in-Some c = (
  λ is. of_ops (λ ops. NeverUnlocks ops c.args.place) c.args.script.now c.args.client c.in-Some.ops.now c.in-Some.ensures (c.never_unlocks.ensures.0 is),
  λ h. c.never_unlocks.ensures.1 (ops_of (λ ops. NeverUnlocks ops c.args.place) c.args.script.now c.args.client c.in-Some.ops.now c.in-Some.ensures h),
)

pub returns-in-None : goal.returns-in-None
returns-in-None c = (λ yes. absurd (false≢true yes), λ of. absurd (no_ops (λ ops. NeverUnlocks ops c.args.place) c.args.script.now c.args.client c.in-None.ensures of))
