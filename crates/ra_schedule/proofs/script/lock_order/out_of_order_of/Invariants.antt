use Rattle.ra_schedule.proofs.FirstLocks.{FirstSoFar}
use Rattle.ra_schedule.proofs.script.lock_order.out_of_order_of.Given as goal

-- the first so far, and the end is its place
abbrev pub invariant-loop-since : goal.invariant-loop-since
invariant-loop-since l = FirstSoFar l.ops l.client l.since l.end l.first
