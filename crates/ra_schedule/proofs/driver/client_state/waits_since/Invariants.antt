use Rattle.std.proofs.Common.{◌≡◌, List, length}
use Rattle.ra_world.specs.Traffic.{Move}
use Rattle.ra_schedule.specs.Schedule.{steps_of, IsWaiting}
use Rattle.ra_schedule.proofs.SinceAsks.{IsLeft}
use Rattle.ra_schedule.proofs.driver.client_state.waits_since.Given as goal

-- a client that waits has waited since one of the steps that are left
abbrev pub invariant-loop-last : goal.invariant-loop-last
invariant-loop-last l = (moves : List Move) → l.steps ≡ steps_of moves → IsWaiting l.client moves → IsLeft l.client moves l.rest

abbrev pub decreases-loop-last : goal.decreases-loop-last
decreases-loop-last l = length l.rest
