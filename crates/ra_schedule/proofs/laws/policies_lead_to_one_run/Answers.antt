use Rattle.ra_schedule.proofs.Following.{one_run}
use Rattle.ra_schedule.proofs.ScheduleLaws.{schedules_rest_on_runs}
use Rattle.ra_schedule.proofs.laws.policies_lead_to_one_run.Goals as goal

pub returns : goal.returns
returns c = one_run schedules_rest_on_runs
