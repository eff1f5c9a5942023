use Rattle.ra_node.proofs.Chains.{history_kept, history_same_node, history_same_start}
use Rattle.ra_node.proofs.EventsKept.{node_kept}
use Rattle.ra_node.proofs.NodeLemmas.{opening_is_consistent}
use Rattle.ra_node.specs.Node.{opening_node}
use Rattle.ra_node.proofs.laws.histories_keep_a_node_consistent.Goals as goal

pub returns : goal.returns
returns c =
    let kept = history_kept node_kept in
    record {
      consistent = λ old new happened. kept happened old new;
      from_opening = λ me nodes start new happened count member. kept happened (opening_node me nodes start) new (opening_is_consistent me nodes start count member);
      node = λ old new happened. history_same_node happened old new;
      start = λ old new happened. history_same_start happened old new;
    }
