use Rattle.std.proofs.Common.{◌≤◌, List, [], length, drop}
use Rattle.ra_world.specs.Traffic.{Move}
use Rattle.ra_schedule.specs.Shrinking.{Replays}
use Rattle.ra_schedule.specs.Replaying.{IsReplay}
use Rattle.ra_schedule.proofs.driver.replaying.redo_all.Given as goal

-- the steps so far are done again, and those that are left follow
abbrev pub invariant-loop-step : goal.invariant-loop-step
invariant-loop-step l = IsReplay l.script l.world l.driver × (length l.world.moves ≤ l.step-index)
    × ((after : List Move) → Replays l.script l.world.moves (drop l.step-index l.steps) after → Replays l.script [] l.steps after)
