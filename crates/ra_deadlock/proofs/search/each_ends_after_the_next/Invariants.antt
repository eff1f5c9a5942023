use Rattle.std.specs.List.{AllAdjacentBelow}
use Rattle.ra_deadlock.specs.Deadlock.{EndsAfter}
use Rattle.ra_deadlock.proofs.search.each_ends_after_the_next.Given as goal

abbrev pub invariant-loop-place : goal.invariant-loop-place
invariant-loop-place l = AllAdjacentBelow EndsAfter l.circle l.place
