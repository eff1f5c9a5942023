use Rattle.std.proofs.Common.{rules, ◌≡◌, max, ap, ◌∙◌, ℕ}
use Rattle.ra_node.specs.declared.node.Node.TheInside.{Inside}
use Rattle.ra_node.specs.View.{forgotten}
use Rattle.ra_node.proofs.Forgot.{Forgot, retained, forgot}
use Rattle.ra_node.proofs.node.Node.forget.Goals as goal

abbrev after : (c : goal.After-retain) → Inside
after c = record c.self.inside { start = c.max-self-inside.result; slots = c.retain.new.self }

slots_are : (c : goal.After-retain) → c.retain.new.self.entries ≡ forgotten c.common_number-number.result c.self.inside.slots.entries
slots_are c = retained _ c.common_number-number.result _ (λ name old b new f' t. search rules) _ _ c.retain.ensures.filtered

forgot_all : (c : goal.After-retain) → Forgot (after c) c.args.self.now
forgot_all c =
    let n = c.self.inside in
    let number = c.common_number-number.ensures in
    let start = c.max-self-inside.ensures ∙ ap (max n.start) number in
    forgot n c.self.invariant c.retain.ensures.was_unique (after c) c.args.self.now c.self.view_is
    (λ i. record n { start = start i; slots = c.retain.new.self })
    (slots_are c ∙ ap (λ (k : ℕ). forgotten k n.slots.entries) number)

pub invariant_of-self : goal.invariant_of-self
invariant_of-self c = (forgot_all c).kept

pub returns-clause-forgotten : goal.returns-clause-forgotten
returns-clause-forgotten c = (forgot_all c).event

pub returns-clause-consistent : goal.returns-clause-consistent
returns-clause-consistent c = (forgot_all c).kept.consistent
