use Rattle.std.proofs.Common.{◌≢◌, ℕ, ◌<◌, Some, get_or}
use Rattle.ra_bag.proofs.slots.slot_in.Given as goal

-- no slot so far has the message
abbrev pub invariant-loop-slot : goal.invariant-loop-slot
invariant-loop-slot l = (k : ℕ) → k < l.slot → get_or l.slots k (Some l.message) ≢ Some l.message
