use Rattle.ra_schedule.proofs.Endings.{at_rest_is_finished}
use Rattle.ra_schedule.proofs.ScheduleLaws.{endings_rest_on_nodes, endings_rest_on_runs}
use Rattle.ra_schedule.proofs.laws.finishing.ordered_scripts_finish.Goals as goal

pub returns : goal.returns
returns c script moves report fit ordered released =
    at_rest_is_finished endings_rest_on_nodes endings_rest_on_runs script fit ordered released moves report
