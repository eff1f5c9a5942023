use Rattle.std.proofs.Common.{◌≡◌, ◌+◌, ◌*◌, ℕ, List, Option, take}
use Rattle.ra_stamp.specs.declared.message.Message.{Message}
use Rattle.ra_bag.specs.Filled.{AreCounts, count_of}
use Rattle.ra_bag.proofs.filled.skip_in.Given as goal

-- the blocks so far are skipped
abbrev pub invariant-loop-block : goal.invariant-loop-block
invariant-loop-block l =
    record {
      next : l.next ≡ l.block;
      left : (size place : ℕ) (slots : List (Option Message)) → AreCounts size l.counts.items slots → l.fn.more + count_of (take (size * l.fn.first) slots) ≡ place
          → l.left + count_of (take (size * l.block) slots) ≡ place;
    }
