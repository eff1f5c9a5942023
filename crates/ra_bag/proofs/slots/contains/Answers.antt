use Rattle.std.proofs.Common.{sym, ◌∙◌}
use Rattle.ra_bag.proofs.slots.contains.Goals as goal

pub returns-else-is_last : goal.returns-else-is_last
returns-else-is_last c = (λ yes. c.slot_of.ensures.some.0 (sym c.is_some.ensures ∙ yes), λ there. c.is_some.ensures ∙ c.slot_of.ensures.some.1 there)
