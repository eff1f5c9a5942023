use Rattle.std.proofs.Common.{ap, ◌∙◌}
use Rattle.std.specs.FinMap as finmap
use Rattle.ra_node.specs.Node.{NodeState}
use Rattle.ra_node.proofs.Named.{slots_are_names}
use Rattle.ra_node.proofs.node.Node.names_len.Goals as goal

pub returns-clause-value : goal.returns-clause-value
returns-clause-value c =
    let slots = c.self.inside.slots in
    c.len.ensures.len ∙ (slots_are_names slots.entries c.len.ensures.unique ∙ ap (λ (n : NodeState). finmap.len n.resources) c.self.view_is)
