use Rattle.std.proofs.Common.{◌≡◌}
use Rattle.std.specs.HashMap.{values}
use Rattle.ra_node.specs.View.{if_counted, greatest_of}
use Rattle.ra_node.proofs.numbers.common_number.Given as goal

-- the greatest so far, with the slots that are left, is the greatest of all
abbrev pub invariant-loop-slot : goal.invariant-loop-slot
invariant-loop-slot l =
    record {
      number : greatest_of l.number l.slot-iterator ≡ greatest_of (if_counted l.start) (values l.slots);
    }
