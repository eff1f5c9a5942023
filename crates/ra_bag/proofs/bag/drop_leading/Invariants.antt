use Rattle.ra_stamp.specs.contracts.message.MessagePartialEq.TheImpl.{eq-value}
use Rattle.ra_bag.specs.Bag.{messages_in}
use Rattle.ra_bag.specs.Removing.{AreKept, AreLeft}
use Rattle.ra_bag.proofs.bag.drop_leading.Given as goal

-- the messages are those at first
abbrev pub invariant-loop : goal.invariant-loop
invariant-loop l =
    record {
      kept : AreKept eq-value.it l.slots.items l.empty l.places l.filled;
      left : AreLeft l.fn.slots l.slots (messages_in l.fn.slots.items);
    }
