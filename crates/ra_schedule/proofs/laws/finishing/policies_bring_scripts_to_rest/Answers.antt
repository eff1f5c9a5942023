use Rattle.ra_schedule.proofs.Endings.{policy_finishes}
use Rattle.ra_schedule.proofs.ThoroughPolicies.{follows_performs, turns_at_most, never_stops}
use Rattle.ra_schedule.proofs.ScheduleLaws.{endings_rest_on_nodes, endings_rest_on_runs, schedules_rest_on_runs}
use Rattle.ra_schedule.proofs.laws.finishing.policies_bring_scripts_to_rest.Goals as goal

pub returns : goal.returns
returns c =
    record {
      performs = follows_performs;
      finished = λ script policy moves report fit ordered released. policy_finishes endings_rest_on_nodes endings_rest_on_runs script fit ordered released moves report policy;
      turns = λ script policy moves fit unrepeated. turns_at_most endings_rest_on_runs schedules_rest_on_runs script fit policy unrepeated moves;
      in_time = λ script policy limit moves cause fit itself unrepeated enough follows. never_stops endings_rest_on_runs schedules_rest_on_runs script fit policy unrepeated itself limit enough moves cause follows;
    }
