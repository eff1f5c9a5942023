use Rattle.std.proofs.Common.{◌≡◌, ℕ, ◌/◌, ◌^◌, List, length, IfOk, OnErr, refl, ap, subst, arith}
use Rattle.std.specs.HashMap.{HashMap}
use Rattle.ra_node.specs.declared.outcome.Outcome.{Outcome}
use Rattle.ra_node.specs.Resource.{Resource, waiting_at}
use Rattle.ra_node.specs.Node.{NodeState, resource_at}
use Rattle.ra_node.specs.Events.{AskEvent}
use Rattle.ra_node.proofs.After.{asked_at, kept_as, same_view, seen_from}
use Rattle.ra_node.proofs.NodeLemmas.{found, absent_in}
use Rattle.ra_node.proofs.Refusals.{AskTells, turn_tells, event_tells}
use Rattle.ra_node.proofs.Totals.{part, through, one_at_most, few_wait, few_queue}
use Rattle.ra_node.proofs.node.Node.ask.Goals as goal

-- ---- At a slot

pub overflow_sub-waiting : goal.overflow_sub-waiting
overflow_sub-waiting c =
    omega (arith, c.self.invariant.waiting, c.waiting.ensures, part waiting_at c.self.inside.slots.entries c.args.name c.in-Some.slot.now c.in-Some.ensures.value)

pub overflow_sub-queued : goal.overflow_sub-queued
overflow_sub-queued c =
    omega (arith, c.self.invariant.queued, c.queued.ensures, part (λ r. length r.queue) c.self.inside.slots.entries c.args.name c.in-Some.slot.now c.in-Some.ensures.value)

pub overflow_add-self : goal.overflow_add-self
overflow_add-self c =
    omega (arith, c.self.invariant.waiting, c.waiting-in-Some.ensures, one_at_most c.ask-outcome.new.self.state.phase, few_wait c.self.inside.slots.entries c.len.ensures.unique, c.len.ensures.len, c.len.ensures.small)

pub overflow_add-self-in-Some : goal.overflow_add-self-in-Some
overflow_add-self-in-Some c =
    omega (arith, c.self.invariant.queued, c.queued-in-Some.type_inv, few_queue c.self.inside.slots.entries c.len.ensures.unique c.self.invariant.counted, c.len.ensures.len, c.len.ensures.small)

pub invariant_of-self : goal.invariant_of-self
invariant_of-self c =
    let n = c.self.inside in
    let new = c.ask-outcome.new.self in
    let slots = c.get_mut.follows.lender new in
    let moves = λ (f : Resource → ℕ). through f n.slots slots c.args.name c.in-Some.slot.now new c.in-Some.ensures.value (c.get_mut.follows.holds new) in
    let within = λ (f : Resource → ℕ). part f n.slots.entries c.args.name c.in-Some.slot.now c.in-Some.ensures.value in
    let kept = c.self.invariant in
    record {
      consistent = (asked_at n.member.node n.member.nodes n.start n.slots slots c.args.self.now c.self.view_is kept.consistent c.in-Some.slot.now new c.ask-outcome.result _ c.args.client c.args.name c.args.mode c.ask-outcome.ensures c.in-Some.ensures.value (c.get_mut.follows.holds new)).consistent;
      waiting = omega (arith, kept.waiting, moves waiting_at, within waiting_at, c.waiting.ensures, c.waiting-in-Some.ensures);
      queued = omega (arith, kept.queued, moves (λ r. length r.queue), within (λ r. length r.queue), c.queued.ensures, c.queued-in-Some.ensures);
      counted = omega (arith, kept.counted, moves (λ r. length r.queue / 2 ^ 64), c.queued-in-Some.ensures, c.queued-in-Some.type_inv);
    }

pub returns-in-Some-clause-ok : goal.returns-in-Some-clause-ok
returns-in-Some-clause-ok c =
    let n = c.self.inside in
    let new = c.ask-outcome.new.self in
    let slots = c.get_mut.follows.lender new in
    (asked_at n.member.node n.member.nodes n.start n.slots slots c.args.self.now c.self.view_is c.self.invariant.consistent c.in-Some.slot.now new c.ask-outcome.result _ c.args.client c.args.name c.args.mode c.ask-outcome.ensures c.in-Some.ensures.value (c.get_mut.follows.holds new)).ok

pub returns-in-Some-clause-err : goal.returns-in-Some-clause-err
returns-in-Some-clause-err c =
    let n = c.self.inside in
    let new = c.ask-outcome.new.self in
    let slots = c.get_mut.follows.lender new in
    (asked_at n.member.node n.member.nodes n.start n.slots slots c.args.self.now c.self.view_is c.self.invariant.consistent c.in-Some.slot.now new c.ask-outcome.result _ c.args.client c.args.name c.args.mode c.ask-outcome.ensures c.in-Some.ensures.value (c.get_mut.follows.holds new)).err

pub returns-in-Some-clause-consistent : goal.returns-in-Some-clause-consistent
returns-in-Some-clause-consistent c = (invariant_of-self c).consistent

tells : (c : goal.After-self-in-Some-2-1) → AskTells c.ask-outcome.result (resource_at c.args.self.now c.args.name) c.args.client
tells c =
    let n = c.self.inside in
    let here = found n.member.node n.member.nodes n.start n.slots.entries c.args.self.now c.self.view_is c.args.name c.in-Some.slot.now c.in-Some.ensures.value in
    subst (λ (r : Resource). AskTells c.ask-outcome.result r c.args.client) here (turn_tells c.ask-outcome.result c.in-Some.slot.now c.args.client c.args.mode _ _ c.ask-outcome.ensures)

pub returns-in-Some-clause-busy : goal.returns-in-Some-clause-busy
returns-in-Some-clause-busy c = (tells c).busy

pub returns-in-Some-clause-exhausted : goal.returns-in-Some-clause-exhausted
returns-in-Some-clause-exhausted c = (tells c).exhausted

pub returns-in-Some-clause-allowed : goal.returns-in-Some-clause-allowed
returns-in-Some-clause-allowed c = (tells c).allowed

-- ---- At a name that nothing was about yet

pub invariant_of-self-in-None : goal.invariant_of-self-in-None
invariant_of-self-in-None c =
    let n = c.self.inside in
    let none = c.get_mut.follows.holds-at-none in
    kept_as n (record n { slots = c.get_mut.follows.lender-at-none }) refl (ap (λ (m : HashMap (List ℕ) Resource _). m.entries) none) c.self.invariant

pub ask_first-requires : goal.ask_first-requires
ask_first-requires c = absent_in c.self.inside.slots c.get_mut.follows.lender-at-none c.args.name c.get_mut.follows.holds-at-none c.in-None.ensures.value

first_seen : (c : goal.After-ask_first) → IfOk c.ask_first.result (λ o. AskEvent c.args.self.now c.args.client c.args.name c.args.mode o.sends.items o.marks.items c.ask_first.new.self) × OnErr c.ask_first.result (c.ask_first.new.self ≡ c.args.self.now)
first_seen c =
    let n = c.self.inside in
    let new = c.ask_first.new.self in
    let view = same_view n.member.node n.member.nodes n.start n.slots.entries c.get_mut.follows.lender-at-none.entries c.args.self.now (ap (λ (m : HashMap (List ℕ) Resource _). m.entries) c.get_mut.follows.holds-at-none) c.self.view_is in
    seen_from c.ask_first.result _ (λ (m : NodeState) (o : Outcome). AskEvent m c.args.client c.args.name c.args.mode o.sends.items o.marks.items new) _ c.args.self.now new view c.ask_first.ensures.asked

pub returns-in-None-clause-ok : goal.returns-in-None-clause-ok
returns-in-None-clause-ok c = (first_seen c).0

pub returns-in-None-clause-err : goal.returns-in-None-clause-err
returns-in-None-clause-err c = (first_seen c).1

first_tells : (c : goal.After-ask_first) → AskTells c.ask_first.result (resource_at c.args.self.now c.args.name) c.args.client
first_tells c =
    let n = c.self.inside in
    let view = same_view n.member.node n.member.nodes n.start n.slots.entries c.get_mut.follows.lender-at-none.entries c.args.self.now (ap (λ (m : HashMap (List ℕ) Resource _). m.entries) c.get_mut.follows.holds-at-none) c.self.view_is in
    event_tells c.ask_first.result _ c.args.self.now c.ask_first.new.self view c.args.name c.args.client c.args.mode _ c.ask_first.ensures.asked

pub returns-in-None-clause-busy : goal.returns-in-None-clause-busy
returns-in-None-clause-busy c = (first_tells c).busy

pub returns-in-None-clause-exhausted : goal.returns-in-None-clause-exhausted
returns-in-None-clause-exhausted c = (first_tells c).exhausted

pub returns-in-None-clause-allowed : goal.returns-in-None-clause-allowed
returns-in-None-clause-allowed c = (first_tells c).allowed

pub returns-in-None-clause-consistent : goal.returns-in-None-clause-consistent
returns-in-None-clause-consistent c = c.ask_first.ensures.consistent
