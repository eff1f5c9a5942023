use Rattle.ra_clients.specs.AtHost.{entered_in}
use Rattle.ra_clients.specs.AtNode.{Step}
use Rattle.ra_clients.proofs.AtHost.{at_node}
use Rattle.ra_clients.proofs.laws.the_node_of_a_host_keeps_what_its_clients_hold.Goals as goal

pub returns-clause-node : goal.returns-clause-node
returns-clause-node c =
    λ h new kind does held after history event by old_held new_held.
    let laws = c.what_is_granted_is_held_until_its_client_leaves.ensures in
    at_node h new kind does held after by old_held new_held event.marks (λ entry has. laws.granted h new kind entry history event has)
    (λ entry stays holds. laws.lasts h new kind entry history event stays holds)

pub returns-clause-told : goal.returns-clause-told
returns-clause-told c =
    λ l old clients e t h new kind held after k name history event turns by lets_in old_held new_held distinct are_held holder.
    let laws = c.what_is_granted_is_held_until_its_client_leaves.ensures in
    let node = at_node h new kind t.does held after by old_held new_held event.marks (λ entry has. laws.granted h new kind entry history event has)
    (λ entry stays holds. laws.lasts h new kind entry history event stays holds) in
    let step : Step l old held e clients after = record { turn = t; turns = turns; entered = entered_in event.marks; node = node; lets_in = lets_in } in
    new_held.only k name (c.who_holds_a_name_holds_it_by_the_node.ensures.held l old clients held after e step distinct are_held k name holder)
