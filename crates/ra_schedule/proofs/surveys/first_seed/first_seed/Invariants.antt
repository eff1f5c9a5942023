use Rattle.std.proofs.Common.{◌≡◌, ◌<◌}
use Rattle.ra_schedule.specs.Finding.{NoneBefore}
use Rattle.ra_schedule.proofs.ToldSeeds.{ToldSoFar}
use Rattle.ra_schedule.proofs.surveys.first_seed.first_seed.Given as goal

-- the script does not come to that end with the seeds so far, and the observer has learned of them; a seed is past the
-- last one only if there are no seeds
abbrev pub invariant-loop-seed : goal.invariant-loop-seed
invariant-loop-seed g l = NoneBefore l.script l.chances.faults l.limit l.ending l.first l.seed
    × ToldSoFar l.script l.chances.faults l.limit l.first l.seed (g.O.Observer.told l.initial.observer) (g.O.Observer.told l.observer)
    × (l.last < l.seed → l.seed ≡ l.first)
