use Rattle.std.proofs.Common.{◌≡◌, ◌<◌}
use Rattle.ra_schedule.proofs.SurveySeeds.{SoFar}
use Rattle.ra_schedule.proofs.ToldSeeds.{ToldSoFar}
use Rattle.ra_schedule.proofs.surveys.survey.Given as goal

-- only if there are no seeds is one past the last
abbrev pub invariant-loop-seed : goal.invariant-loop-seed
invariant-loop-seed g l = SoFar l.script l.chances.faults l.limit l.first l.seed l.survey
    × ToldSoFar l.script l.chances.faults l.limit l.first l.seed (g.O.Observer.told l.initial.observer) (g.O.Observer.told l.observer)
    × (l.last < l.seed → l.seed ≡ l.first)
