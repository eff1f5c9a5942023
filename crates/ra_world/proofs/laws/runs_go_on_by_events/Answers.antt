use Rattle.ra_world.proofs.GoingOn.{event_goes_on, loss_goes_on, copy_goes_on}
use Rattle.ra_node.proofs.Chains.{events_join}
use Rattle.ra_world.proofs.laws.runs_go_on_by_events.Goals as goal

pub returns : goal.returns
returns c =
    record {
      event = λ n start moves nodes i event move new count run ends low high. event_goes_on events_join n start moves nodes i event move new run ends;
      loss = loss_goes_on;
      copy = copy_goes_on;
    }
