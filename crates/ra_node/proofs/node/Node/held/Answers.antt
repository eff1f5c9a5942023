use Rattle.ra_node.proofs.Overview.{held_are}
use Rattle.ra_node.proofs.node.Node.held.Goals as goal

pub returns-clause-held : goal.returns-clause-held
returns-clause-held c =
    let n = c.self.inside in
    let call = c.held_of in
    held_are n.member.node n.member.nodes n.start n.slots c.args.self.now c.self.view_is call.ensures.distinct c.self.invariant.consistent (λ v. v.items) call.result call.ensures.all call.ensures.sorted
