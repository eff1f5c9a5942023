use Rattle.std.proofs.Common.{◌≡◌, Some, map, sym, ◌∙◌}
use Rattle.std.proofs.lemmas.Result.{IfOk-from_err, err_from_is_err_and}
use Rattle.ra_script.specs.Document.{client_table}
use Rattle.ra_script.specs.ScriptText.{natural, is_up_to}
use Rattle.ra_script.proofs.Scripts.{some_up_to, placed_at, up_to_some, table_at, tables_lt, IsScriptTo-none, IsScriptTo-more, IsScriptTo-refused, IsScriptTo-all, room_for, at_a_node, all_clients}
use Rattle.ra_script.proofs.script_reading.script_with.Goals as goal

pub unwrap-node-requires : goal.unwrap-node-requires
unwrap-node-requires c =
    let there = table_at c.args.clients.now c.loop-client.client-index c.client-item.result c.loop-client-test.true c.client-item.is in
    let within = placed_at c.args.nodes (map client_table c.args.clients.now) c.loop-client.client-index (client_table c.client-item.result) c.requires.placed (tables_lt c.args.clients.now c.loop-client.client-index c.loop-client-test.true) there in
    let is : c.node_up_to.result ≡ Some (natural c.client-item.result.node) = some_up_to (is_up_to c.args.nodes c.client-item.result.node) c.node_up_to.result (natural c.client-item.result.node) c.node_up_to.ensures within in
    rw is

pub loop-client-preserved : goal.loop-client-preserved
loop-client-preserved c =
    let there = table_at c.args.clients.now c.loop-client.client-index c.client-item.result c.loop-client-test.true c.client-item.is in
    let number = up_to_some (is_up_to c.args.nodes c.client-item.result.node) c.unwrap-node.result (natural c.client-item.result.node) (sym c.unwrap-node.ensures ∙ c.node_up_to.ensures) in
    let step = rw c.deref.ensures.value at c.in_ok-add_client.ensures.ok in
    IsScriptTo-more c.args.nodes (map client_table c.args.clients.now) c.loop-client.client-index c.loop-client.script c.add_client.new.script (client_table c.client-item.result) c.unwrap-node.result
    (tables_lt c.args.clients.now c.loop-client.client-index c.loop-client-test.true) there number.1 step c.in_ok-add_client.ensures.script c.loop-client.invariant

pub returns-in_err-add_client-clause-err : goal.returns-in_err-add_client-clause-err
returns-in_err-add_client-clause-err c =
    let there = table_at c.args.clients.now c.loop-client.client-index c.client-item.result c.loop-client-test.true c.client-item.is in
    let refusal = rw c.deref.ensures.value at c.in_err-add_client.ensures.err in
    let p = err_from_is_err_and c.from_residual-in_err-add_client.result c.from_residual-in_err-add_client.ensures.1 in
    rw (p.1, p.2) (IsScriptTo-refused c.args.nodes (map client_table c.args.clients.now) c.loop-client.client-index c.loop-client.script (client_table c.client-item.result) _
    (tables_lt c.args.clients.now c.loop-client.client-index c.loop-client-test.true) there refusal c.loop-client.invariant)

pub loop-client-init : goal.loop-client-init
loop-client-init c =
    IsScriptTo-none c.args.nodes (map client_table c.args.clients.now) c.in_ok-script.script c.in_ok-script.ensures.ok c.in_ok-script.ensures.script

pub bounds-clients-client-index : goal.bounds-clients-client-index
bounds-clients-client-index c = c.loop-client-test.true

pub add_client-requires-clause-room : goal.add_client-requires-clause-room
add_client-requires-clause-room c = room_for c.args.nodes c.args.clients.now c.loop-client.client-index _ c.requires.placed c.loop-client-test.true c.loop-client.invariant.count

pub add_client-requires-clause-node : goal.add_client-requires-clause-node
add_client-requires-clause-node c =
    let number = up_to_some (is_up_to c.args.nodes c.client-item.result.node) c.unwrap-node.result (natural c.client-item.result.node) (sym c.unwrap-node.ensures ∙ c.node_up_to.ensures) in
    at_a_node c.args.nodes c.loop-client.script.nodes c.unwrap-node.result c.client-item.result.node number.0 number.1 c.loop-client.invariant.nodes_are

-- ---- There is no memory for the script

pub returns-in_err-script-clause-nodes : goal.returns-in_err-script-clause-nodes
returns-in_err-script-clause-nodes c = IfOk-from_err c.from_residual.result _ c.from_residual.ensures.0

pub returns-in_err-script-clause-clients : goal.returns-in_err-script-clause-clients
returns-in_err-script-clause-clients c = IfOk-from_err c.from_residual.result _ c.from_residual.ensures.0

pub returns-in_err-script-clause-script : goal.returns-in_err-script-clause-script
returns-in_err-script-clause-script c = IfOk-from_err c.from_residual.result _ c.from_residual.ensures.0

-- ---- All clients are added

pub returns-clause-nodes : goal.returns-clause-nodes
returns-clause-nodes c = c.loop-client.invariant.nodes_are

pub returns-clause-clients : goal.returns-clause-clients
returns-clause-clients c =
    IsScriptTo-all c.args.nodes (map client_table c.args.clients.now) c.loop-client.client-index c.loop-client.script
    (all_clients c.args.clients.now c.loop-client.client-index c.loop-client-test.false) c.loop-client.invariant

pub returns-clause-script : goal.returns-clause-script
returns-clause-script c = c.loop-client.invariant.valid
