use Rattle.ra_schedule.proofs.GoingOn.{someone_can_go_on, someone_holds_it}
use Rattle.ra_schedule.proofs.ScheduleLaws.{endings_rest_on_nodes, endings_rest_on_runs}
use Rattle.ra_schedule.proofs.laws.finishing.clients_in_order_never_deadlock.Goals as goal

pub returns : goal.returns
returns c =
    record { held = someone_holds_it endings_rest_on_nodes endings_rest_on_runs; goes_on = someone_can_go_on endings_rest_on_nodes endings_rest_on_runs }
