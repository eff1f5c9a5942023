use Rattle.std.proofs.Common.{refl}
use Rattle.ra_bag.proofs.bag.slot_with.Goals as goal

pub returns-then-has-clause-some : goal.returns-then-has-clause-some
returns-then-has-clause-some c = (λ _. c.if-has.ensures.there refl, λ _. refl)

pub returns-then-is_last-clause-some : goal.returns-then-is_last-clause-some
returns-then-is_last-clause-some c = (λ _. c.if-is_last.ensures refl, λ _. refl)

pub returns-then-has-clause-shown : goal.returns-then-has-clause-shown
returns-then-has-clause-shown c = c.want.ensures c.args.slots.now.items c.requires.shown
