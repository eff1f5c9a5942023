use Rattle.std.proofs.Common.{refl}
use Rattle.ra_bag.proofs.Emptied.{first_of_all, both_hold}
use Rattle.ra_bag.proofs.bag.first_of.Goals as goal

-- ---- In the first slot

pub returns-then-has-clause-told : goal.returns-then-has-clause-told
returns-then-has-clause-told c = c.requires.told

pub returns-then-has-clause-shown : goal.returns-then-has-clause-shown
returns-then-has-clause-shown c = c.requires.shown

pub returns-then-has-clause-some : goal.returns-then-has-clause-some
returns-then-has-clause-some c = (λ _. c.if-has.ensures.there refl, λ _. refl)

pub returns-then-has-clause-first : goal.returns-then-has-clause-first
returns-then-has-clause-first c = (c.if-has.ensures.value.0 refl, first_of_all c.args.slots.now.items c.args.message.now)

-- ---- As the places tell

pub find-requires : goal.find-requires
find-requires c = c.if-are_known.ensures.0 refl

pub returns-then-are_known-clause-told : goal.returns-then-are_known-clause-told
returns-then-are_known-clause-told c = c.find.ensures.told c.args.slots.now.items c.requires.told

pub returns-then-are_known-clause-shown : goal.returns-then-are_known-clause-shown
returns-then-are_known-clause-shown c = c.requires.shown

pub returns-then-are_known-clause-some : goal.returns-then-are_known-clause-some
returns-then-are_known-clause-some c = c.find.ensures.some c.args.slots.now.items c.requires.told

pub returns-then-are_known-clause-first : goal.returns-then-are_known-clause-first
returns-then-are_known-clause-first c = c.find.ensures.first c.args.slots.now.items c.requires.told

-- ---- As all slots are looked at

pub returns-clause-told : goal.returns-clause-told
returns-clause-told c = c.want.ensures c.args.slots.now.items c.requires.told

pub returns-clause-shown : goal.returns-clause-shown
returns-clause-shown c = c.want-2.ensures c.args.slots.now.items c.requires.shown

pub returns-clause-some : goal.returns-clause-some
returns-clause-some c = c.slot_of.ensures.some

pub returns-clause-first : goal.returns-clause-first
returns-clause-first c = both_hold _ _ c.slot_of.result c.slot_of.ensures.found c.slot_of.ensures.first
