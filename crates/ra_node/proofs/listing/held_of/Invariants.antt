use Rattle.std.proofs.Common.{◌≡◌, ◌++◌}
use Rattle.std.specs.Prelude.{filter_map}
use Rattle.std.specs.HashMap.{values}
use Rattle.ra_node.specs.Resource.{holder_of}
use Rattle.ra_node.proofs.listing.held_of.Given as goal

-- the granted requests so far and those of the remaining slots are all of them
abbrev pub invariant-loop-slot : goal.invariant-loop-slot
invariant-loop-slot l =
    record {
      held : l.held.items ++ filter_map holder_of l.slot-iterator ≡ filter_map holder_of (values l.slots);
    }
