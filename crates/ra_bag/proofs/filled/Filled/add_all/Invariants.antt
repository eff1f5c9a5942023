use Rattle.std.proofs.Common.{◌≡◌, ◌+◌, ◌++◌, List, Option, Some, map, take, length}
use Rattle.ra_stamp.specs.declared.message.Message.{Message}
use Rattle.ra_bag.specs.Filled.{IsShown}
use Rattle.ra_bag.proofs.filled.Filled.add_all.Given as goal

-- the bits so far are kept
abbrev pub invariant-loop-message : goal.invariant-loop-message
invariant-loop-message l =
    record {
      next : l.next ≡ l.fn.slot + l.message-index;
      shown : (slots : List (Option Message)) → length slots ≡ l.fn.slot → IsShown l.fn.self slots
          → IsShown l.self (slots ++ map Some (take l.message-index l.messages));
    }
