use Rattle.std.proofs.Common.{subst}
use Rattle.ra_node.specs.Node.{IsConsistentNode}
use Rattle.ra_node.proofs.NodeLemmas.{found_shown, missing_shown}
use Rattle.ra_node.proofs.node.Node.slot_of.Goals as goal

pub returns-clause-found : goal.returns-clause-found
returns-clause-found c =
    let n = c.self.inside in
    found_shown n.member.node n.member.nodes n.start n.slots.entries c.args.self.now c.self.view_is c.args.name.now c.get.result c.get.ensures.value

pub returns-clause-absent : goal.returns-clause-absent
returns-clause-absent c =
    let n = c.self.inside in
    missing_shown n.member.node n.member.nodes n.start n.slots.entries c.args.self.now c.self.view_is c.args.name.now c.get.result c.get.ensures.value

pub returns-clause-consistent : goal.returns-clause-consistent
returns-clause-consistent c = subst IsConsistentNode c.self.view_is c.self.invariant.consistent
