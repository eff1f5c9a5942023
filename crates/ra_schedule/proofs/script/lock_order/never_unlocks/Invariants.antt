use Rattle.ra_schedule.proofs.LockPlaces.{AllKept}
use Rattle.ra_schedule.proofs.script.lock_order.never_unlocks.Given as goal

-- the places so far do not unlock the name
abbrev pub invariant-loop-later : goal.invariant-loop-later
invariant-loop-later l = AllKept l.ops l.held l.place l.later
