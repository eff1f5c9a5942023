use Rattle.std.proofs.Common.{◌≡◌, ◌+◌, length, take}
use Rattle.ra_bag.specs.Bag.{messages_in}
use Rattle.ra_bag.proofs.slots.nth.Given as goal

-- this many messages are still before the one at the place
abbrev pub invariant-loop-slot : goal.invariant-loop-slot
invariant-loop-slot l =
    record {
      left : l.left + length (messages_in (take l.slot l.slots.items)) ≡ l.fn.more + length (messages_in (take l.fn.first l.slots.items));
    }
