use Rattle.std.proofs.Common.{ℕ, ◌<◌, ◌+◌}
use Rattle.ra_schedule.specs.Schedule.{IsEnabled}
use Rattle.ra_schedule.proofs.choice.picking.first_enabled.Given as goal

-- none of the clients so far is enabled
abbrev pub invariant-loop-place : goal.invariant-loop-place
invariant-loop-place l = (k : ℕ) → k < l.place → IsEnabled l.script l.world.moves (k + 1) → ⊥
