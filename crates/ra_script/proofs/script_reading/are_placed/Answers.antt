use Rattle.std.proofs.Common.{◌≡◌, ◌≤◌, false, true, List, length, take_all, sym, ap, subst, ◌∙◌, arith}
use Rattle.std.specs.List.{list_all}
use Rattle.std.proofs.lemmas.Bool.{eqb-false}
use Rattle.std.proofs.lemmas.List.Folds.{list_all_at}
use Rattle.ra_script.specs.declared.script_reading.document.ClientRef.{ClientRef}
use Rattle.ra_script.specs.ScriptText.{natural, is_up_to}
use Rattle.ra_script.proofs.Scripts.{are_placed-few, up_to_none}
use Rattle.ra_script.proofs.script_reading.are_placed.Goals as goal

pub returns-in-None : goal.returns-in-None
returns-in-None c =
    let clients = c.args.clients.now in
    let nonempty = eqb-false (length clients) 0 (sym c.is_empty.ensures ∙ c.if-is_empty.false) in
    let some : 1 ≤ length clients = omega arith in
    let client = c.client-item.result in
    let not : is_up_to c.args.nodes client.node ≡ false = up_to_none (is_up_to c.args.nodes client.node) (natural client.node) (sym c.in-None.is ∙ c.node_up_to.ensures) in
    let each : list_all (λ (client : ClientRef). is_up_to c.args.nodes client.node) clients ≡ false =
    list_all_at (λ (client : ClientRef). is_up_to c.args.nodes client.node) clients c.loop-client.client-index client c.loop-client-test.true
    (ap (λ (client : ClientRef). is_up_to c.args.nodes client.node) (sym c.client-item.is) ∙ not) in
    sym (are_placed-few c.args.nodes clients some (omega arith) ∙ each)

pub returns : goal.returns
returns c =
    let clients = c.args.clients.now in
    let nonempty = eqb-false (length clients) 0 (sym c.is_empty.ensures ∙ c.if-is_empty.false) in
    let some : 1 ≤ length clients = omega arith in
    let each = subst (λ (cs : List ClientRef). list_all (λ (client : ClientRef). is_up_to c.args.nodes client.node) cs ≡ true)
    (take_all c.loop-client.client-index clients c.loop-client-test.false) c.loop-client.invariant in
    sym (are_placed-few c.args.nodes clients some (omega arith) ∙ each)
