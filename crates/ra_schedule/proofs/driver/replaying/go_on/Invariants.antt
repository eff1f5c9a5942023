use Rattle.std.proofs.Common.{◌≡◌, length}
use Rattle.ra_schedule.specs.Shrinking.{GoesOnOldest}
use Rattle.ra_schedule.specs.Replaying.{IsReplay}
use Rattle.ra_schedule.proofs.driver.replaying.go_on.Given as goal

-- it has gone on to this turn
abbrev pub invariant-loop-turn : goal.invariant-loop-turn
invariant-loop-turn l = IsReplay l.script l.world l.driver × GoesOnOldest l.script l.initial.world.moves l.world.moves × (length l.world.moves ≡ l._turn)
