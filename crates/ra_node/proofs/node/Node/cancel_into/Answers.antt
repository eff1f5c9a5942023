use Rattle.std.proofs.Common.{◌≡◌, ℕ, ◌/◌, ◌^◌, List, length, refl, sym, ap, subst, arith}
use Rattle.std.specs.HashMap.{HashMap}
use Rattle.ra_node.specs.declared.error.CancelError.TheVariants.{NotWaiting, Memory}
use Rattle.ra_node.specs.Resource.{Resource, waiting_at}
use Rattle.ra_node.specs.View.{IsKept}
use Rattle.ra_node.proofs.After.{cancelled_at, nobody_kept, same_view}
use Rattle.ra_node.proofs.NodeLemmas.{found, slot_is_consistent, missing}
use Rattle.ra_node.specs.Node.{resource_at}
use Rattle.ra_node.specs.Room.{HasRoomToLeave, answer_with}
use Rattle.ra_node.proofs.Refusals.{CancelTells, cancelled_tells}
use Rattle.ra_node.proofs.Totals.{part, through, one_at_most, few_wait, few_queue}
use Rattle.ra_node.proofs.node.Node.cancel_into.Goals as goal

not_memory : NotWaiting ≡ Memory → ⊥
not_memory e = cc

pub returns-in_default-clause-cancelled : goal.returns-in_default-clause-cancelled
returns-in_default-clause-cancelled c =
    let n = c.self.inside in
    let none = missing n.member.node n.member.nodes n.start n.slots.entries c.args.self.now c.self.view_is c.args.name c.in_default.ensures.value in
    let nobody = nobody_kept _ n.member.node n.member.nodes c.args.name n.start none.0 c.args.client in
    record {
      ok = tt;
      not_waiting = (λ _. nobody, λ _. refl);
      allowed = (λ e. absurd (not_memory e), λ kept. absurd (nobody kept));
      err = same_view n.member.node n.member.nodes n.start n.slots.entries c.get_mut.follows.lender-at-none.entries c.args.self.now (ap (λ (m : HashMap (List ℕ) Resource _). m.entries) c.get_mut.follows.holds-at-none) c.self.view_is;
    }

pub cancel-given_up-requires-clause-once : goal.cancel-given_up-requires-clause-once
cancel-given_up-requires-clause-once c =
    let n = c.self.inside in
    (slot_is_consistent n.member.node n.member.nodes n.start n.slots.entries c.args.self.now c.self.view_is c.args.name c.in-Some.slot.now c.self.invariant.consistent c.in-Some.ensures.value).once

pub cancel-given_up-requires-clause-consistent : goal.cancel-given_up-requires-clause-consistent
cancel-given_up-requires-clause-consistent c =
    let n = c.self.inside in
    (slot_is_consistent n.member.node n.member.nodes n.start n.slots.entries c.args.self.now c.self.view_is c.args.name c.in-Some.slot.now c.self.invariant.consistent c.in-Some.ensures.value).state

pub overflow_sub-waiting : goal.overflow_sub-waiting
overflow_sub-waiting c =
    omega (arith, c.self.invariant.waiting, c.waiting.ensures, part waiting_at c.self.inside.slots.entries c.args.name c.in-Some.slot.now c.in-Some.ensures.value)

pub overflow_sub-queued : goal.overflow_sub-queued
overflow_sub-queued c =
    omega (arith, c.self.invariant.queued, c.queued.ensures, part (λ r. length r.queue) c.self.inside.slots.entries c.args.name c.in-Some.slot.now c.in-Some.ensures.value)

pub overflow_add-self : goal.overflow_add-self
overflow_add-self c =
    omega (arith, c.self.invariant.waiting, c.waiting-2.ensures, one_at_most c.cancel-given_up.new.self.state.phase, few_wait c.self.inside.slots.entries c.len.ensures.unique, c.len.ensures.len, c.len.ensures.small)

pub overflow_add-self-2 : goal.overflow_add-self-2
overflow_add-self-2 c =
    omega (arith, c.self.invariant.queued, c.queued-2.type_inv, few_queue c.self.inside.slots.entries c.len.ensures.unique c.self.invariant.counted, c.len.ensures.len, c.len.ensures.small)

-- no slot is of this name, and none has changed
pub invariant_of-self : goal.invariant_of-self
invariant_of-self c =
    let n = c.self.inside in
    subst (λ (m : HashMap (List ℕ) Resource _). IsKept (record n { slots = m })) (sym c.get_mut.follows.holds-at-none) c.self.invariant

pub returns-in_default-clause-consistent : goal.returns-in_default-clause-consistent
returns-in_default-clause-consistent c = (invariant_of-self c).consistent

pub invariant_of-self-2 : goal.invariant_of-self-2
invariant_of-self-2 c =
    let n = c.self.inside in
    let new = c.cancel-given_up.new.self in
    let slots = c.get_mut.follows.lender new in
    let moves = λ (f : Resource → ℕ). through f n.slots slots c.args.name c.in-Some.slot.now new c.in-Some.ensures.value (c.get_mut.follows.holds new) in
    let within = λ (f : Resource → ℕ). part f n.slots.entries c.args.name c.in-Some.slot.now c.in-Some.ensures.value in
    let kept = c.self.invariant in
    record {
      consistent = (cancelled_at n.member.node n.member.nodes n.start n.slots slots c.args.self.now c.self.view_is c.self.invariant.consistent c.in-Some.slot.now new (answer_with c.cancel-given_up.result c.cancel-given_up.new.outcome) _ c.args.client c.args.name c.cancel-given_up.ensures.cancelled c.in-Some.ensures.value (c.get_mut.follows.holds new)).consistent;
      waiting = omega (arith, kept.waiting, moves waiting_at, within waiting_at, c.waiting.ensures, c.waiting-2.ensures);
      queued = omega (arith, kept.queued, moves (λ r. length r.queue), within (λ r. length r.queue), c.queued.ensures, c.queued-2.ensures);
      counted = omega (arith, kept.counted, moves (λ r. length r.queue / 2 ^ 64), c.queued-2.ensures, c.queued-2.type_inv);
    }

pub returns-clause-consistent : goal.returns-clause-consistent
returns-clause-consistent c = (invariant_of-self-2 c).consistent

tells : (c : goal.After-self-3-1) → CancelTells (answer_with c.cancel-given_up.result c.cancel-given_up.new.outcome) (resource_at c.args.self.now c.args.name) c.args.client
tells c =
    let n = c.self.inside in
    let here = found n.member.node n.member.nodes n.start n.slots.entries c.args.self.now c.self.view_is c.args.name c.in-Some.slot.now c.in-Some.ensures.value in
    subst (λ (r : Resource). CancelTells (answer_with c.cancel-given_up.result c.cancel-given_up.new.outcome) r c.args.client) here (cancelled_tells (answer_with c.cancel-given_up.result c.cancel-given_up.new.outcome) c.in-Some.slot.now c.args.client c.cancel-given_up.new.self _ c.cancel-given_up.ensures.cancelled)

pub returns-clause-cancelled : goal.returns-clause-cancelled
returns-clause-cancelled c =
    let n = c.self.inside in
    let new = c.cancel-given_up.new.self in
    let after = cancelled_at n.member.node n.member.nodes n.start n.slots (c.get_mut.follows.lender new) c.args.self.now c.self.view_is c.self.invariant.consistent c.in-Some.slot.now new (answer_with c.cancel-given_up.result c.cancel-given_up.new.outcome) _ c.args.client c.args.name c.cancel-given_up.ensures.cancelled c.in-Some.ensures.value (c.get_mut.follows.holds new) in
    let told = tells c in
    record { ok = after.ok; not_waiting = told.not_waiting; allowed = told.allowed; err = after.err }

pub returns-clause-room : goal.returns-clause-room
returns-clause-room c room =
    let n = c.self.inside in
    let kept = slot_is_consistent n.member.node n.member.nodes n.start n.slots.entries c.args.self.now c.self.view_is c.args.name c.in-Some.slot.now c.self.invariant.consistent c.in-Some.ensures.value in
    c.cancel-given_up.ensures.room (subst (λ (k : ℕ). HasRoomToLeave k c.args.outcome.now) (sym kept.nodes_is) room)
