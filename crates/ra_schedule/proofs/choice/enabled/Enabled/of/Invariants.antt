use Rattle.std.proofs.Common.{◌+◌, ◌<◌, ℕ, Bool, List, slice_index_or}
use Rattle.ra_world.specs.Traffic.{Move}
use Rattle.ra_schedule.specs.declared.choice.enabled.Enabled.{Enabled}
use Rattle.ra_schedule.specs.Script.{ScriptState}
use Rattle.ra_schedule.specs.Enabled.{CountsFlags, IsFlag}
use Rattle.ra_schedule.proofs.choice.enabled.Enabled.of.Given as goal

-- the flags of the clients so far are right, and all flags are counted
pub record SoFar (script : ScriptState) (moves : List Move) (place : ℕ) (enabled : Enabled) : Type 0 where
  pub counted : CountsFlags script enabled
  pub each : (k : ℕ) (d : Bool) → k < place → IsFlag script moves (k + 1) (slice_index_or enabled.flags.items k d)

abbrev pub invariant-loop-place : goal.invariant-loop-place
invariant-loop-place l = SoFar l.script l.world.moves l.place l.enabled
