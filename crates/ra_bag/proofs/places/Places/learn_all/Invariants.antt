use Rattle.std.proofs.Common.{◌≡◌, take}
use Rattle.ra_stamp.specs.contracts.message.MessagePartialEq.TheImpl.{eq-value}
use Rattle.ra_bag.specs.Places.{Tells}
use Rattle.ra_bag.proofs.places.Places.learn_all.Given as goal

-- the slots so far are known
abbrev pub invariant-loop-slot : goal.invariant-loop-slot
invariant-loop-slot l =
    record {
      first : l.self.first ≡ 0;
      told : Tells eq-value.it l.self (take l.slot l.slots.items);
    }
