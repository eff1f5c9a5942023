use Rattle.ra_schedule.proofs.CarriedOn.{carried}
use Rattle.ra_schedule.proofs.TurnBound.{moves_bound, turns_bound}
use Rattle.ra_schedule.proofs.ScheduleLaws.{endings_rest_on_nodes, endings_rest_on_runs, schedules_rest_on_runs}
use Rattle.ra_schedule.proofs.laws.finishing.scripts_come_to_rest.Goals as goal

pub returns : goal.returns
returns c =
    record {
      turns = λ script moves fit. moves_bound endings_rest_on_runs script fit moves;
      most = turns_bound;
      carried_on = λ script moves fit. carried endings_rest_on_nodes endings_rest_on_runs schedules_rest_on_runs script fit moves;
    }
