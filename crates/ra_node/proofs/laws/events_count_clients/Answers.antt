use Rattle.ra_node.proofs.Counts.{opening_counts, ask_counts, leave_counts, cancel_counts, receive_counts, holder_counts, kept_waiting_counts}
use Rattle.ra_node.proofs.Forgetting.{forget_counts}
use Rattle.ra_node.proofs.laws.events_count_clients.Goals as goal

pub returns : goal.returns
returns c =
    record {
      opening = opening_counts;
      ask = ask_counts;
      leave = leave_counts;
      cancel = cancel_counts;
      receive = receive_counts;
      forget = forget_counts;
      holds = holder_counts;
      kept_waiting = kept_waiting_counts;
    }
