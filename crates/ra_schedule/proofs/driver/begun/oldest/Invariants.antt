use Rattle.std.proofs.Common.{ℕ, ◌<◌, ◌+◌}
use Rattle.ra_schedule.specs.Shrinking.{CanGoOn}
use Rattle.ra_schedule.proofs.driver.begun.oldest.Given as goal

-- none of the clients so far can go on
abbrev pub invariant-loop-place : goal.invariant-loop-place
invariant-loop-place l = (k : ℕ) → k < l.place → CanGoOn l.script l.world.moves (k + 1) → ⊥
