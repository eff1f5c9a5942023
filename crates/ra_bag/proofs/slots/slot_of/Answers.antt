use Rattle.std.proofs.Common.{List, Option, Contains, refl, subst}
use Rattle.ra_stamp.specs.declared.message.Message.{Message}
use Rattle.ra_bag.specs.Bag.{messages_in}
use Rattle.ra_bag.proofs.Emptied.{in_neither, in_front, in_back, stands_in_front, stands_in_back, first_in_front, first_in_back, of_none, none_is_some}
use Rattle.ra_bag.proofs.slots.slot_of.Goals as goal

-- ---- In the first part

pub returns-in-Some-clause-some : goal.returns-in-Some-clause-some
returns-in-Some-clause-some c =
    let front = c.as_slices.result.0.now in
    let back = c.as_slices.result.1.now in
    let m = c.args.message.now in
    let there : Contains (messages_in c.args.slots.now.items) m =
    subst (λ (slots : List (Option Message)). Contains (messages_in slots) m) c.as_slices.ensures.items
    (in_front front back m (c.in-Some.slot, c.in-Some.ensures.found.0, c.in-Some.ensures.found.1)) in
    (λ _. there, λ _. refl)

pub returns-in-Some-clause-found : goal.returns-in-Some-clause-found
returns-in-Some-clause-found c =
    stands_in_front c.as_slices.result.0.now c.as_slices.result.1.now c.args.slots.now.items c.args.message.now c.in-Some.slot c.as_slices.ensures.items c.in-Some.ensures.found

pub returns-in-Some-clause-first : goal.returns-in-Some-clause-first
returns-in-Some-clause-first c =
    first_in_front c.as_slices.result.0.now c.as_slices.result.1.now c.args.slots.now.items c.args.message.now c.in-Some.slot c.as_slices.ensures.items
    c.in-Some.ensures.found.0 c.in-Some.ensures.first

-- ---- In neither

pub returns-in_err-slot-clause-some : goal.returns-in_err-slot-clause-some
returns-in_err-slot-clause-some c =
    let front = c.as_slices.result.0.now in
    let back = c.as_slices.result.1.now in
    let m = c.args.message.now in
    none_is_some c.from_residual.result c.from_residual.ensures
    (subst (λ (slots : List (Option Message)). Contains (messages_in slots) m → ⊥) c.as_slices.ensures.items
    (in_neither front back m (c.in_default.ensures.absent.0 refl) (c.in_err-slot.ensures.absent.0 refl)))

pub returns-in_err-slot-clause-found : goal.returns-in_err-slot-clause-found
returns-in_err-slot-clause-found c = of_none _ c.from_residual.result c.from_residual.ensures

pub returns-in_err-slot-clause-first : goal.returns-in_err-slot-clause-first
returns-in_err-slot-clause-first c = of_none _ c.from_residual.result c.from_residual.ensures

-- ---- In the second part

pub returns-clause-some : goal.returns-clause-some
returns-clause-some c =
    let front = c.as_slices.result.0.now in
    let back = c.as_slices.result.1.now in
    let m = c.args.message.now in
    let there : Contains (messages_in c.args.slots.now.items) m =
    subst (λ (slots : List (Option Message)). Contains (messages_in slots) m) c.as_slices.ensures.items
    (in_back front back m (c.in_ok-slot.slot, c.in_ok-slot.ensures.found.0, c.in_ok-slot.ensures.found.1)) in
    (λ _. there, λ _. refl)

pub returns-clause-found : goal.returns-clause-found
returns-clause-found c =
    stands_in_back c.as_slices.result.0.now c.as_slices.result.1.now c.args.slots.now.items c.args.message.now c.in_ok-slot.slot c.as_slices.ensures.items c.in_ok-slot.ensures.found

pub returns-clause-first : goal.returns-clause-first
returns-clause-first c =
    first_in_back c.as_slices.result.0.now c.as_slices.result.1.now c.args.slots.now.items c.args.message.now c.in_ok-slot.slot c.as_slices.ensures.items
    (c.in_default.ensures.absent.0 refl) c.in_ok-slot.ensures.first
