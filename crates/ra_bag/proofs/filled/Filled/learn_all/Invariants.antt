use Rattle.std.proofs.Common.{take}
use Rattle.ra_bag.specs.Filled.{IsShown}
use Rattle.ra_bag.proofs.filled.Filled.learn_all.Given as goal

-- the bits of the slots so far are kept
abbrev pub invariant-loop-slot : goal.invariant-loop-slot
invariant-loop-slot l = IsShown l.self (take l.slot l.slots.items)
