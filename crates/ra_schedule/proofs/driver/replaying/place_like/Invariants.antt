use Rattle.std.proofs.Common.{ℕ, ◌<◌}
use Rattle.ra_schedule.specs.Shrinking.{IsAlikeAt}
use Rattle.ra_schedule.proofs.driver.replaying.place_like.Given as goal

-- no message so far is alike
abbrev pub invariant-loop-place : goal.invariant-loop-place
invariant-loop-place l = (k : ℕ) → k < l.place → IsAlikeAt l.world.moves l.message k → ⊥
