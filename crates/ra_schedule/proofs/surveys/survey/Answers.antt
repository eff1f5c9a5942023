use Rattle.std.proofs.Common.{◌≡◌, ◌+◌, ◌-◌, refl, arith}
use Rattle.std.proofs.lemmas.Result.{err_from_is_err_and}
use Rattle.ra_schedule.proofs.SurveySeeds.{none_yet, one_more_seed, all_seeds}
use Rattle.ra_schedule.proofs.ToldSeeds.{told_none, told_more, tells_seeds, tells_some}
use Rattle.ra_schedule.proofs.SurveyEnds.{seeds_finish}
use Rattle.ra_schedule.proofs.ScheduleLaws.{endings_rest_on_runs, schedules_rest_on_runs}
use Rattle.ra_schedule.proofs.surveys.survey.Goals as goal

pub loop-seed-init : goal.loop-seed-init
loop-seed-init g c = (
  none_yet c.args.script.now c.args.chances.now.faults c.args.limit c.args.chances.now.seeds.first c.no_survey-survey.result (c.no_survey-survey.ensures c.args.chances.now.seeds.first),
  told_none c.args.script.now c.args.chances.now.faults c.args.limit c.args.chances.now.seeds.first (g.O.Observer.told c.args.observer.now),
  λ past. refl,
)

pub loop-seed-preserved : goal.loop-seed-preserved
loop-seed-preserved g c =
    let (so, told, at) = c.loop-seed.invariant in (
      one_more_seed c.args.script.now c.args.chances.now.faults c.args.limit c.args.chances.now.seeds.first c.loop-seed.seed c.loop-seed.survey c.with_outcome-survey.result c.in_ok-outcome.outcome so
          c.in_ok-outcome.ensures (c.with_outcome-survey.ensures c.args.chances.now.seeds.first so.outcomes so.tallies so.seeds),
      told_more c.args.script.now c.args.chances.now.faults c.args.limit c.args.chances.now.seeds.first c.loop-seed.seed _ _ _ c.in_ok-outcome.outcome told
          c.in_ok-outcome.ensures c.ended.ensures,
      λ past. absurd (omega (arith, past, c.if-seed-last.true)),
    )

pub returns-in_err-outcome-clause-err : goal.returns-in_err-outcome-clause-err
returns-in_err-outcome-clause-err g c =
    let p = err_from_is_err_and c.from_residual.result c.from_residual.ensures.1 in
    let (before, told, at) = c.loop-seed.invariant in
    rw p.1 (tells_some c.args.script.now c.args.chances.now.faults c.args.limit c.args.chances.now.seeds.first c.loop-seed.seed c.args.chances.now.seeds.last _ _ told (omega (arith, c.loop-seed-test.true)))

-- ---- There are no seeds

-- the last one is below the first
pub returns-clause-ok : goal.returns-clause-ok
returns-clause-ok g c =
    let (so, told, at) = c.loop-seed.invariant in
    let first = at (omega (arith, c.loop-seed-test.false)) in
    all_seeds c.args.script.now c.args.chances.now.faults c.args.limit c.args.chances.now.seeds.first c.args.chances.now.seeds.last c.loop-seed.seed c.loop-seed.survey
    (omega (arith, c.loop-seed-test.false, first)) so

pub returns-clause-told : goal.returns-clause-told
returns-clause-told g c =
    let (so, told, at) = c.loop-seed.invariant in
    let first = at (omega (arith, c.loop-seed-test.false)) in
    tells_seeds c.args.script.now c.args.chances.now.faults c.args.limit c.args.chances.now.seeds.first c.loop-seed.seed _ _ _ told (omega (arith, c.loop-seed-test.false, first))

pub returns-clause-waiting_ends : goal.returns-clause-waiting_ends
returns-clause-waiting_ends g c =
    seeds_finish endings_rest_on_runs schedules_rest_on_runs c.args.script.now c.limits_hold.ensures c.args.chances.now.faults c.args.limit
    c.args.chances.now.seeds.first c.args.chances.now.seeds.last c.loop-seed.survey (returns-clause-ok g c)

-- ---- After the last one

pub returns-in_ok-outcome-clause-ok : goal.returns-in_ok-outcome-clause-ok
returns-in_ok-outcome-clause-ok g c =
    let (so, told, at) = c.loop-seed.invariant in
    let is : c.loop-seed.seed ≡ c.args.chances.now.seeds.last = omega (arith, c.loop-seed-test.true, c.if-seed-last.false) in
    let result = c.with_outcome-survey.result in
    all_seeds c.args.script.now c.args.chances.now.faults c.args.limit c.args.chances.now.seeds.first c.args.chances.now.seeds.last (c.loop-seed.seed + 1) result (omega (arith, is, so.seeds))
    (one_more_seed c.args.script.now c.args.chances.now.faults c.args.limit c.args.chances.now.seeds.first c.loop-seed.seed c.loop-seed.survey result c.in_ok-outcome.outcome so
    c.in_ok-outcome.ensures (c.with_outcome-survey.ensures c.args.chances.now.seeds.first so.outcomes so.tallies so.seeds))

pub returns-in_ok-outcome-clause-told : goal.returns-in_ok-outcome-clause-told
returns-in_ok-outcome-clause-told g c =
    let (so, told, at) = c.loop-seed.invariant in
    let is : c.loop-seed.seed ≡ c.args.chances.now.seeds.last = omega (arith, c.loop-seed-test.true, c.if-seed-last.false) in
    let all : c.args.chances.now.seeds.first + (c.args.chances.now.seeds.last + 1 - c.args.chances.now.seeds.first) ≡ c.loop-seed.seed + 1 = omega (arith, is, told.seeds) in
    tells_seeds c.args.script.now c.args.chances.now.faults c.args.limit c.args.chances.now.seeds.first (c.loop-seed.seed + 1) _ _ _
    (told_more c.args.script.now c.args.chances.now.faults c.args.limit c.args.chances.now.seeds.first c.loop-seed.seed _ _ _ c.in_ok-outcome.outcome told
    c.in_ok-outcome.ensures c.ended.ensures) all

pub returns-in_ok-outcome-clause-waiting_ends : goal.returns-in_ok-outcome-clause-waiting_ends
returns-in_ok-outcome-clause-waiting_ends g c =
    seeds_finish endings_rest_on_runs schedules_rest_on_runs c.args.script.now c.limits_hold.ensures c.args.chances.now.faults c.args.limit
    c.args.chances.now.seeds.first c.args.chances.now.seeds.last c.with_outcome-survey.result (returns-in_ok-outcome-clause-ok g c)
