use Rattle.ra_schedule.proofs.Endings.{seed_finishes}
use Rattle.ra_schedule.proofs.SurveyEnds.{seeds_finish}
use Rattle.ra_schedule.proofs.ScheduleLaws.{endings_rest_on_runs, schedules_rest_on_runs}
use Rattle.ra_schedule.proofs.laws.finishing.seeds_finish_ordered_scripts.Goals as goal

pub returns : goal.returns
returns c =
    let laws = endings_rest_on_runs in
    let below = schedules_rest_on_runs in
    record {
      outcomes = λ script faults limit seed outcome fit. seed_finishes laws below script fit faults limit seed outcome;
      surveys = λ script faults limit first last survey fit. seeds_finish laws below script fit faults limit first last survey;
    }
