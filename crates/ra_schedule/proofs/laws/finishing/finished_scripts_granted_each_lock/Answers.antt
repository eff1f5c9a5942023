use Rattle.ra_schedule.proofs.PlannedRuns.{meets_plan, nothing_held}
use Rattle.ra_schedule.proofs.ScheduleLaws.{endings_rest_on_nodes, endings_rest_on_runs}
use Rattle.ra_schedule.proofs.laws.finishing.finished_scripts_granted_each_lock.Goals as goal

pub returns : goal.returns
returns c =
    record {
      plan = λ script moves report fit performs. meets_plan endings_rest_on_nodes endings_rest_on_runs script fit moves performs report;
      none_holds = λ script moves report fit performs. nothing_held endings_rest_on_nodes endings_rest_on_runs script fit moves performs report;
    }
