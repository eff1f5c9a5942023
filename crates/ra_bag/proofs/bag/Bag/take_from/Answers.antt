use Rattle.std.proofs.Common.{◌≡◌, ◌≢◌, List, Some, refl, sym, ap, subst, true≢false}
use Rattle.std.specs.Prelude.{slice_get}
use Rattle.ra_stamp.specs.Sequence.{Listed}
use Rattle.ra_stamp.specs.declared.message.Message.{Message}
use Rattle.ra_bag.specs.Bag.{TakesOne, TakesAt, messages_in}
use Rattle.ra_bag.proofs.Emptied.{takes_one, takes_at, is_at_place, stands_at, more_spare, one_is_taken, first_is_taken}
use Rattle.ra_bag.proofs.bag.Bag.take_from.Goals as goal

pub returns-then-has-clause-taken : goal.returns-then-has-clause-taken
returns-then-has-clause-taken c =
    let slots = c.self.inside.slots.items in
    let message = c.args.message.now in
    let there = c.if-has.ensures.value.0 refl in
    subst (λ (old : List Message). TakesOne old message (messages_in c.remove.new.slots.items)) (ap (λ (b : Listed Message). b.items) c.self.view_is)
    (takes_one slots c.slot_found-slot.result message (messages_in c.remove.new.slots.items) there.0 there.1 c.remove.ensures.left.items)

pub returns-then-has-clause-at : goal.returns-then-has-clause-at
returns-then-has-clause-at c = λ place is _.
    let slots = c.self.inside.slots.items in
    let there = c.if-has.ensures.value.0 refl in
    subst (λ (old : List Message). TakesAt old place (messages_in c.remove.new.slots.items)) (ap (λ (b : Listed Message). b.items) c.self.view_is)
    (takes_at slots c.slot_found-slot.result c.args.message.now (messages_in c.remove.new.slots.items) place there.0 there.1 c.remove.ensures.left.items
    ((c.slot_found-slot.ensures place is).1 there.0))

pub returns-else-has-clause-taken : goal.returns-else-has-clause-taken
returns-else-has-clause-taken c =
    one_is_taken c.take.result c.args.self.now.items c.take.new.self.items c.args.message.now c.requires c.take.ensures.taken c.take.ensures.none.0

pub returns-then-has-clause-otherwise : goal.returns-then-has-clause-otherwise
returns-then-has-clause-otherwise c = λ place is other.
    let slots = c.self.inside.slots.items in
    let there = c.if-has.ensures.value.0 refl in
    absurd (subst (λ (old : List Message). slice_get old place ≢ Some c.args.message.now) (sym (ap (λ (b : Listed Message). b.items) c.self.view_is)) other
    (is_at_place slots c.slot_found-slot.result c.args.message.now place there.0 there.1 (c.slot_found-slot.ensures place is).0))

pub returns-else-has-clause-otherwise : goal.returns-else-has-clause-otherwise
returns-else-has-clause-otherwise c = λ place is other.
    first_is_taken c.take.result c.args.self.now.items c.take.new.self.items c.args.message.now c.requires c.take.ensures.taken c.take.ensures.none.0

pub returns-else-has-clause-at : goal.returns-else-has-clause-at
returns-else-has-clause-at c = λ place is at.
    let m = c.args.message.now in
    absurd (true≢false (sym (c.if-has.ensures.value.1
    (stands_at c.self.inside.slots.items c.slot_found-slot.result m place (c.slot_found-slot.ensures place is).0
    (subst (λ (old : List Message). slice_get old place ≡ Some m) (sym (ap (λ (b : Listed Message). b.items) c.self.view_is)) at)))))

pub returns-then-has-clause-spare : goal.returns-then-has-clause-spare
returns-then-has-clause-spare c = more_spare _ _ _ _ _ (ap (λ (b : Listed Message). b.spare) c.self.view_is) c.remove.ensures.left.capacity c.remove.ensures.left.len

pub returns-else-has-clause-spare : goal.returns-else-has-clause-spare
returns-else-has-clause-spare c = c.take.ensures.spare

-- ---- What is kept

pub slot_found-slot-requires-clause-count : goal.slot_found-slot-requires-clause-count
slot_found-slot-requires-clause-count c = c.self.invariant.0

pub slot_found-slot-requires-clause-shown : goal.slot_found-slot-requires-clause-shown
slot_found-slot-requires-clause-shown c = c.self.invariant.3

pub remove-requires-clause-kept : goal.remove-requires-clause-kept
remove-requires-clause-kept c = record { count = c.self.invariant.0; told = c.self.invariant.2; shown = c.self.invariant.3 }

pub remove-requires-clause-there : goal.remove-requires-clause-there
remove-requires-clause-there c = c.if-has.ensures.value.0 refl

pub invariant_of-self : goal.invariant_of-self
invariant_of-self c = (c.remove.ensures.kept.count, c.remove.ensures.few, c.remove.ensures.kept.told, c.remove.ensures.kept.shown)
