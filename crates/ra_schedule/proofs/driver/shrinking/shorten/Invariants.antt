use Rattle.std.proofs.Common.{List, length}
use Rattle.ra_world.specs.Traffic.{Move}
use Rattle.ra_schedule.specs.Replaying.{IsStuckList}
use Rattle.ra_schedule.proofs.ShrunkRuns.{SoFar}
use Rattle.ra_schedule.proofs.driver.shrinking.shorten.Given as goal

-- the given run was shrunk to this list so far
abbrev pub invariant-loop-found : goal.invariant-loop-found
invariant-loop-found l = (moves : List Move) → IsStuckList l.script moves l.initial.list → SoFar l.script moves l.list

abbrev pub decreases-loop-found : goal.decreases-loop-found
decreases-loop-found l = length l.list.steps.items
