use Rattle.ra_schedule.proofs.LockPlaces.{AllPassed}
use Rattle.ra_schedule.proofs.script.lock_order.locks_below.Given as goal

-- the places so far neither unlock the name nor lock one that is not above it
abbrev pub invariant-loop-place : goal.invariant-loop-place
invariant-loop-place l = AllPassed l.ops l.held l.since l.place
