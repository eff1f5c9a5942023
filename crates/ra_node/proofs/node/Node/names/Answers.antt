use Rattle.ra_node.proofs.Overview.{names_are}
use Rattle.ra_node.proofs.node.Node.names.Goals as goal

pub returns-clause-names : goal.returns-clause-names
returns-clause-names c =
    let n = c.self.inside in
    let call = c.names_of in
    names_are n.member.node n.member.nodes n.start n.slots c.args.self.now c.self.view_is call.ensures.distinct (λ v. v.items) call.result call.ensures.all call.ensures.sorted
