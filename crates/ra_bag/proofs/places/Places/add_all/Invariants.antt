use Rattle.std.proofs.Common.{◌≡◌, ◌+◌, ◌++◌, List, Option, Some, map, take, length}
use Rattle.ra_stamp.specs.declared.message.Message.{Message}
use Rattle.ra_stamp.specs.contracts.message.MessagePartialEq.TheImpl.{eq-value}
use Rattle.ra_bag.specs.Places.{Tells}
use Rattle.ra_bag.proofs.places.Places.add_all.Given as goal

-- the messages so far are known
abbrev pub invariant-loop-message : goal.invariant-loop-message
invariant-loop-message l =
    record {
      first : l.self.first ≡ l.fn.self.first;
      number : l.number ≡ l.fn.self.first + (l.slot + l.message-index);
      told : (slots : List (Option Message)) → length slots ≡ l.slot → Tells eq-value.it l.fn.self slots
          → Tells eq-value.it l.self (slots ++ map Some (take l.message-index l.messages));
    }
