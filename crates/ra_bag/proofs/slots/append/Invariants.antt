use Rattle.std.proofs.Common.{◌≡◌, ◌++◌, Some, map, take}
use Rattle.std.specs.VecDeque.{deque_capacity}
use Rattle.ra_bag.proofs.slots.append.Given as goal

-- the messages so far are at the end
abbrev pub invariant-loop-message : goal.invariant-loop-message
invariant-loop-message l =
    record {
      sent : l.slots.items ≡ l.initial.slots.items ++ map Some (take l.message-index l.messages);
      capacity : deque_capacity l.slots ≡ deque_capacity l.initial.slots;
    }
