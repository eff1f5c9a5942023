use Rattle.ra_cluster.proofs.GoingOn.{GoingOnLaws, books_go_on, books_are_held}
use Rattle.ra_cluster.proofs.laws.clients_of_settled_books_never_deadlock.Goals as goal

pub returns : goal.returns
returns c =
    let below = c.clients_in_order_never_deadlock.ensures in
    let laws : GoingOnLaws = record { held = below.held; goes_on = below.goes_on; one_node = c.histories_are_determined.ensures.node } in
    record {
      held = λ books moves report cluster histories settled reports quiet ordered left. books_are_held laws books moves report cluster histories settled reports quiet ordered left;
      goes_on = λ books moves report cluster histories settled reports quiet ordered left. books_go_on laws books moves report cluster histories settled reports quiet ordered left;
    }
