use Rattle.ra_schedule.specs.Replaying.{AreInVain}
use Rattle.ra_schedule.proofs.driver.shrinking.shorter_between.Given as goal

-- no step so far can be left out
abbrev pub invariant-loop-place : goal.invariant-loop-place
invariant-loop-place l = AreInVain l.script l.steps l.from l.place
