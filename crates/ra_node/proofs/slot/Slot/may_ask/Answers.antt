use Rattle.std.proofs.Common.{rules, ◌<◌, sym, ap, ◌∙◌, subst}
use Rattle.std.proofs.lemmas.Bool.{false≢true}
use Rattle.ra_automaton.specs.Steps.{greatest_number}
use Rattle.ra_node.specs.Resource.{Resource}
use Rattle.ra_node.proofs.Refusals.{busy_tells, exhausted_tells, allowed_tells}
use Rattle.ra_node.proofs.slot.Slot.may_ask.Goals as goal

pub returns-then-is_busy : goal.returns-then-is_busy
returns-then-is_busy c = busy_tells c.args.self.now c.args.client (c.is_busy.ensures.0 c.if-is_busy.true)

pub returns-then-highest : goal.returns-then-highest
returns-then-highest c =
    let highest = sym (ap (λ (r : Resource). r.state.highest) c.self.view_is) ∙ (sym c.highest.ensures.value ∙ c.if-highest.true) in
    exhausted_tells c.args.self.now c.args.client (λ busy. false≢true (sym c.if-is_busy.false ∙ c.is_busy.ensures.1 busy)) highest

pub returns : goal.returns
returns c =
    let below : c.self.inside.automaton.highest < greatest_number = search rules in
    allowed_tells c.args.self.now c.args.client (record {
      not_busy = λ busy. false≢true (sym c.if-is_busy.false ∙ c.is_busy.ensures.1 busy);
      number_left = subst (λ (r : Resource). r.state.highest < greatest_number) c.self.view_is below;
    })
