use Rattle.std.proofs.Common.{◌≢◌, Some, get_or, refl, sym, ◌∙◌, true≢false}
use Rattle.std.proofs.lemmas.Bool.{false≢true}
use borrow.Author.Count.{below_none, below_more}
use Rattle.std.proofs.lemmas.List.{get_or_default}
use Rattle.ra_bag.proofs.Calls.{is_in, nowhere}
use Rattle.ra_bag.proofs.slots.slot_in.Goals as goal

pub loop-slot-init : goal.loop-slot-init
loop-slot-init c = below_none (λ k. get_or c.args.slots.now k (Some c.args.message.now) ≢ Some c.args.message.now)

pub loop-slot-preserved : goal.loop-slot-preserved
loop-slot-preserved c =
    let slots = c.args.slots.now in
    let m = Some c.args.message.now in
    let kept = c.index-slots-slot.result in
    below_more (λ k. get_or slots k m ≢ m) c.loop-slot.slot c.loop-slot.invariant
    (λ is. false≢true (c.if-is_of.ensures.1 (c.index-slots-slot.is ∙ (sym (get_or_default slots c.loop-slot.slot m kept c.loop-slot-test.true) ∙ is))))

-- ---- It is this one

pub returns-then-is_of-clause-absent : goal.returns-then-is_of-clause-absent
returns-then-is_of-clause-absent c =
    let at = is_in c.args.slots.now c.loop-slot.slot c.index-slots-slot.result (Some c.args.message.now) c.index-slots-slot.is (c.if-is_of.ensures.0 refl) in
    (λ none. absurd (true≢false none), λ none. absurd (none (c.loop-slot.slot, c.loop-slot-test.true, at)))

pub returns-then-is_of-clause-found : goal.returns-then-is_of-clause-found
returns-then-is_of-clause-found c =
    (c.loop-slot-test.true, is_in c.args.slots.now c.loop-slot.slot c.index-slots-slot.result (Some c.args.message.now) c.index-slots-slot.is (c.if-is_of.ensures.0 refl))

pub returns-then-is_of-clause-first : goal.returns-then-is_of-clause-first
returns-then-is_of-clause-first c = c.loop-slot.invariant

-- ---- It is not one

pub returns-clause-absent : goal.returns-clause-absent
returns-clause-absent c = (λ _. nowhere c.args.slots.now c.loop-slot.slot (Some c.args.message.now) c.loop-slot-test.false c.loop-slot.invariant, λ _. refl)
