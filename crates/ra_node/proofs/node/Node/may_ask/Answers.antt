use Rattle.std.proofs.Common.{rules, ◌<◌, refl, ap, sym, ◌∙◌, subst}
use Rattle.ra_automaton.specs.Steps.{greatest_number}
use Rattle.ra_node.specs.Calls.{AnswersMayAsk}
use Rattle.ra_node.specs.Resource.{Resource}
use Rattle.ra_node.specs.Node.{NodeState, resource_at}
use Rattle.ra_node.proofs.Refusals.{unmet_is_exhausted, unmet_is_free}
use Rattle.ra_node.proofs.node.Node.may_ask.Goals as goal

pub returns-in-Some-clause-told : goal.returns-in-Some-clause-told
returns-in-Some-clause-told c = subst (λ (r : Resource). AnswersMayAsk r c.args.client c.may_ask.result) c.in-Some.ensures.found c.may_ask.ensures

pub returns-in-None-clause-told : goal.returns-in-None-clause-told
returns-in-None-clause-told c =
    let now = c.args.self.now in
    unmet_is_exhausted (resource_at now c.args.name.now) now.me now.nodes c.args.name.now now.start c.args.client (c.in-None.ensures.absent refl) (sym (ap (λ (n : NodeState). n.start) c.self.view_is) ∙ c.if-self.true)

pub returns-in-None-2-clause-told : goal.returns-in-None-2-clause-told
returns-in-None-2-clause-told c =
    let now = c.args.self.now in
    let below : c.self.inside.start < greatest_number = search rules in
    unmet_is_free (resource_at now c.args.name.now) now.me now.nodes c.args.name.now now.start c.args.client (c.in-None.ensures.absent refl) (subst (λ (n : NodeState). n.start < greatest_number) c.self.view_is below)
