use Rattle.std.proofs.Common.{ℕ, Option, None, ◌∙◌, subst}
use Rattle.std.specs.Prelude.{IfSome}
use Rattle.indexmap.specs.IndexMap.{Updates}
use Rattle.ra_stamp.specs.declared.message.Message.{Message}
use Rattle.ra_stamp.specs.contracts.message.MessagePartialEq.TheImpl.{eq-value}
use Rattle.ra_bag.proofs.places.take_number.Goals as goal

pub returns-in-Some-clause-gone : goal.returns-in-Some-clause-gone
returns-in-Some-clause-gone c =
    (subst (λ (r : Option (Message × ℕ)). IfSome r (λ p. Updates eq-value.it c.args.numbers.now c.swap_remove_index.new.self p.0 None))
    (c.swap_remove_index.ensures.entry ∙ c.in-Some.ensures.at) c.swap_remove_index.ensures.updates).1

pub returns-in-Some-clause-others : goal.returns-in-Some-clause-others
returns-in-Some-clause-others c =
    (subst (λ (r : Option (Message × ℕ)). IfSome r (λ p. Updates eq-value.it c.args.numbers.now c.swap_remove_index.new.self p.0 None))
    (c.swap_remove_index.ensures.entry ∙ c.in-Some.ensures.at) c.swap_remove_index.ensures.updates).2
