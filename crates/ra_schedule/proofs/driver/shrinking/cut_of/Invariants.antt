use Rattle.std.proofs.Common.{◌≡◌, ◌++◌, take, drop}
use Rattle.ra_schedule.specs.Shrinking.{others, cut}
use Rattle.ra_schedule.proofs.ShrunkRuns.{step_there}
use Rattle.ra_schedule.proofs.driver.shrinking.cut_of.Given as goal

-- it has the steps so far, all before the place
abbrev pub invariant-loop-earlier : goal.invariant-loop-earlier
invariant-loop-earlier l = l.left.items ≡ take l.earlier l.steps

-- with the others of those that are left it is what it will be
abbrev pub invariant-loop-later : goal.invariant-loop-later
invariant-loop-later l = l.left.items ++ others (step_there l.steps l.place) (drop l.later l.steps) ≡ cut l.steps l.place
