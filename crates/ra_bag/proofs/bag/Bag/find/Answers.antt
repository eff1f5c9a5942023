use Rattle.std.proofs.Common.{◌≡◌, List, Some, Contains, refl, sym, ap, subst, true≢false}
use Rattle.std.specs.Prelude.{slice_get}
use Rattle.ra_stamp.specs.Sequence.{Listed}
use Rattle.ra_stamp.specs.declared.message.Message.{Message}
use Rattle.ra_bag.specs.declared.filled.Filled.{Filled}
use Rattle.ra_bag.specs.Filled.{KeepsShown}
use Rattle.ra_bag.proofs.Emptied.{is_at_place, stands_at, same_place, in_no_place, of_none, none_is_some}
use Rattle.ra_bag.proofs.bag.Bag.find.Goals as goal

-- ---- At the place `near`

pub returns-then-has-clause-same : goal.returns-then-has-clause-same
returns-then-has-clause-same c = c.self.view_is

pub returns-then-has-clause-found : goal.returns-then-has-clause-found
returns-then-has-clause-found c =
    let there : Contains c.args.self.now.items c.args.message.now =
    subst (λ (ms : List Message). Contains ms c.args.message.now) (ap (λ (b : Listed Message). b.items) c.self.view_is) (c.if-has.ensures.there refl) in
    (λ _. there, λ _. refl)

pub returns-then-has-clause-near : goal.returns-then-has-clause-near
returns-then-has-clause-near c = λ _. refl

pub returns-then-has-clause-at : goal.returns-then-has-clause-at
returns-then-has-clause-at c = λ place is.
    let m = c.args.message.now in
    let there = c.if-has.ensures.value.0 refl in
    subst (λ place. slice_get c.args.self.now.items place ≡ Some m) (same_place c.args.near place is)
    (subst (λ (ms : List Message). slice_get ms c.args.near ≡ Some m) (ap (λ (b : Listed Message). b.items) c.self.view_is)
    (is_at_place c.self.inside.slots.items c.slot_at-at_near.result m c.args.near there.0 there.1 c.slot_at-at_near.ensures.0))

-- ---- Nowhere

pub returns-in_err-slot-clause-same : goal.returns-in_err-slot-clause-same
returns-in_err-slot-clause-same c = c.self.view_is

pub returns-in_err-slot-clause-found : goal.returns-in_err-slot-clause-found
returns-in_err-slot-clause-found c =
    none_is_some c.from_residual.result c.from_residual.ensures
    (subst (λ (ms : List Message). Contains ms c.args.message.now → ⊥) (ap (λ (b : Listed Message). b.items) c.self.view_is)
    (λ there. true≢false (sym (c.in_err-slot.ensures.some.1 there))))

pub returns-in_err-slot-clause-near : goal.returns-in_err-slot-clause-near
returns-in_err-slot-clause-near c = λ is.
    absurd (true≢false (sym (c.if-has.ensures.value.1
    (stands_at c.self.inside.slots.items c.slot_at-at_near.result c.args.message.now c.args.near c.slot_at-at_near.ensures.0
    (subst (λ (ms : List Message). slice_get ms c.args.near ≡ Some c.args.message.now) (sym (ap (λ (b : Listed Message). b.items) c.self.view_is)) is)))))

pub returns-in_err-slot-clause-at : goal.returns-in_err-slot-clause-at
returns-in_err-slot-clause-at c = of_none _ c.from_residual.result c.from_residual.ensures

-- ---- In a slot

pub returns-clause-same : goal.returns-clause-same
returns-clause-same c = c.self.view_is

pub returns-clause-found : goal.returns-clause-found
returns-clause-found c =
    let there : Contains c.args.self.now.items c.args.message.now =
    subst (λ (ms : List Message). Contains ms c.args.message.now) (ap (λ (b : Listed Message). b.items) c.self.view_is) (c.in_ok-slot.ensures.some.0 refl) in
    (λ _. there, λ _. refl)

pub returns-clause-near : goal.returns-clause-near
returns-clause-near c = λ is.
    absurd (true≢false (sym (c.if-has.ensures.value.1
    (stands_at c.self.inside.slots.items c.slot_at-at_near.result c.args.message.now c.args.near c.slot_at-at_near.ensures.0
    (subst (λ (ms : List Message). slice_get ms c.args.near ≡ Some c.args.message.now) (sym (ap (λ (b : Listed Message). b.items) c.self.view_is)) is)))))

pub returns-clause-at : goal.returns-clause-at
returns-clause-at c = λ place is. absurd (in_no_place c.in_ok-slot.slot place is)

-- ---- What is kept

pub slot_at-at_near-requires-clause-count : goal.slot_at-at_near-requires-clause-count
slot_at-at_near-requires-clause-count c = c.self.invariant.0

pub slot_at-at_near-requires-clause-shown : goal.slot_at-at_near-requires-clause-shown
slot_at-at_near-requires-clause-shown c = c.self.invariant.3

pub slot_with-requires-clause-told : goal.slot_with-requires-clause-told
slot_with-requires-clause-told c = c.self.invariant.2

pub slot_with-requires-clause-shown : goal.slot_with-requires-clause-shown
slot_with-requires-clause-shown c = c.self.invariant.3

pub invariant_of-self : goal.invariant_of-self
invariant_of-self c =
    let slots = c.self.inside.slots.items in
    let there = c.if-has.ensures.value.0 refl in (
      c.self.invariant.0,
      c.self.invariant.1,
      c.self.invariant.2,
      subst (λ (filled : Filled). KeepsShown filled slots) (sym c.note.ensures) (λ kept.
          let old = c.self.invariant.3 kept in
          record { small = old.small; middle = old.middle; large = old.large; noted = c.slot_at-at_near.ensures.1 there.0 }),
    )

pub invariant_of-self-2 : goal.invariant_of-self-2
invariant_of-self-2 c = (c.self.invariant.0, c.self.invariant.1, c.slot_with.ensures.told, c.slot_with.ensures.shown)

pub invariant_of-self-in_err-slot : goal.invariant_of-self-in_err-slot
invariant_of-self-in_err-slot c = (c.self.invariant.0, c.self.invariant.1, c.slot_with.ensures.told, c.slot_with.ensures.shown)
