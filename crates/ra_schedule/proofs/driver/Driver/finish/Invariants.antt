use Rattle.std.proofs.Common.{◌≡◌, ◌≤◌, ◌-◌, length}
use Rattle.ra_schedule.specs.Driving.{IsReady}
use Rattle.ra_schedule.proofs.driver.Driver.finish.Given as goal

-- this many turns were made, and no more than are allowed
abbrev pub invariant-loop-picked : goal.invariant-loop-picked
invariant-loop-picked l = IsReady l.script l.policy l.world l.self × (length l.world.moves ≡ l.turns) × (l.turns ≤ l.limit)
    × (l.self.records ≡ l.initial.self.records)

abbrev pub decreases-loop-picked : goal.decreases-loop-picked
decreases-loop-picked l = l.limit - l.turns
