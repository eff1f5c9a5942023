use Rattle.ra_schedule.specs.LockOrder.{LocksOutOfOrder}
use Rattle.ra_schedule.proofs.FirstLocks.{NoClient}
use Rattle.ra_schedule.proofs.script.lock_order.first_out_of_order.Given as goal

-- no client so far is one
abbrev pub invariant-loop-place : goal.invariant-loop-place
invariant-loop-place l = NoClient LocksOutOfOrder l.script l.place
