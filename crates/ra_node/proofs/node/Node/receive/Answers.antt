use Rattle.std.proofs.Common.{List, ℕ, ◌≡◌, IfOk, OnErr, refl, ◌/◌, ◌^◌, length, Some, None, sym, ap, ◌∙◌, subst, arith}
use Rattle.std.specs.Str.{bytes_eq}
use Rattle.std.specs.Map.{lookup}
use Rattle.std.specs.HashMap.{HashMap}
use Rattle.ra_stamp.specs.Message.{name_of}
use Rattle.ra_automaton.specs.State.{IsForNode}
use Rattle.ra_node.specs.declared.outcome.Outcome.{Outcome}
use Rattle.ra_node.specs.declared.queued_client.Queued.{Queued}
use Rattle.ra_node.specs.Resource.{Resource, waiting_at}
use Rattle.ra_node.specs.Node.{NodeState}
use Rattle.ra_automaton.proofs.Refusals.{ReceiveTells, received_tells}
use Rattle.ra_node.specs.Events.{ReceiveEvent}
use Rattle.ra_node.specs.Memory.{BringsNothing}
use Rattle.ra_node.proofs.After.{received_at, kept_as, same_view, seen_from}
use Rattle.ra_node.proofs.EventLemmas.{addressed}
use Rattle.ra_node.proofs.NodeLemmas.{slot_is_consistent, absent_in, found}
use Rattle.ra_node.proofs.Bringing.{of_node, refused_to_bring}
use Rattle.ra_node.proofs.Totals.{part, through, one_at_most, few_wait, queue_stays}
use Rattle.ra_node.proofs.node.Node.receive.Goals as goal

pub receive-outcome-requires-clause-name : goal.receive-outcome-requires-clause-name
receive-outcome-requires-clause-name c =
    let n = c.self.inside in
    sym ((slot_is_consistent n.member.node n.member.nodes n.start n.slots.entries c.args.self.now c.self.view_is c.name.result c.in-Some.slot.now c.self.invariant.consistent c.in-Some.ensures.value).name_is ∙ c.name.ensures)

pub receive-outcome-requires-clause-addressed : goal.receive-outcome-requires-clause-addressed
receive-outcome-requires-clause-addressed c =
    let n = c.self.inside in
    let at = slot_is_consistent n.member.node n.member.nodes n.start n.slots.entries c.args.self.now c.self.view_is c.name.result c.in-Some.slot.now c.self.invariant.consistent c.in-Some.ensures.value in
    let mine = subst (λ (m : NodeState). IsForNode m.me m.nodes c.args.message.now) c.self.view_is (c.in_ok-check_address.ensures.addressed.0 refl) in
    addressed c.args.self.now c.args.message.now c.in-Some.slot.now.state at.me_is at.nodes_is mine

pub receive-outcome-requires-clause-client : goal.receive-outcome-requires-clause-client
receive-outcome-requires-clause-client c =
    let n = c.self.inside in
    (slot_is_consistent n.member.node n.member.nodes n.start n.slots.entries c.args.self.now c.self.view_is c.name.result c.in-Some.slot.now c.self.invariant.consistent c.in-Some.ensures.value).client_fits

pub receive_first-requires-clause-first : goal.receive_first-requires-clause-first
receive_first-requires-clause-first c =
    absent_in c.self.inside.slots c.get_mut.follows.lender-at-none (name_of c.args.message.now) c.get_mut.follows.holds-at-none
    (subst (λ (q : List ℕ). None ≡ lookup (bytes_eq q) c.self.inside.slots.entries) c.name.ensures c.in-None.ensures.value)

pub receive_first-requires-clause-addressed : goal.receive_first-requires-clause-addressed
receive_first-requires-clause-addressed c = c.in_ok-check_address.ensures.addressed.0 refl

pub receive_first-requires-clause-consistent : goal.receive_first-requires-clause-consistent
receive_first-requires-clause-consistent c =
    let n = c.self.inside in
    (kept_as n (record n { slots = c.get_mut.follows.lender-at-none }) refl (ap (λ (m : HashMap (List ℕ) Resource _). m.entries) c.get_mut.follows.holds-at-none) c.self.invariant).consistent

pub overflow_sub-waiting : goal.overflow_sub-waiting
overflow_sub-waiting c =
    omega (arith, c.self.invariant.waiting, c.waiting.ensures, part waiting_at c.self.inside.slots.entries c.name.result c.in-Some.slot.now c.in-Some.ensures.value)

pub overflow_add-self : goal.overflow_add-self
overflow_add-self c =
    omega (arith, c.self.invariant.waiting, c.waiting-in-Some.ensures, one_at_most c.receive-outcome.new.self.state.phase, few_wait c.self.inside.slots.entries c.len.ensures.unique, c.len.ensures.len, c.len.ensures.small)

pub invariant_of-self : goal.invariant_of-self
invariant_of-self c =
    let n = c.self.inside in
    let new = c.receive-outcome.new.self in
    let slots = c.get_mut.follows.lender new in
    let old = c.in-Some.slot.now in
    let moves = λ (f : Resource → ℕ). through f n.slots slots c.name.result old new c.in-Some.ensures.value (c.get_mut.follows.holds new) in
    let queue = queue_stays c.receive-outcome.result _ old new c.args.message.now c.receive-outcome.ensures.received in
    let kept = c.self.invariant in
    record {
      consistent = (received_at n.member.node n.member.nodes n.start n.slots slots c.args.self.now c.self.view_is c.self.invariant.consistent c.in-Some.slot.now new c.receive-outcome.result _ c.args.message.now c.name.result c.name.ensures c.receive-outcome.ensures.received c.in-Some.ensures.value (c.get_mut.follows.holds new)).consistent;
      waiting = omega (arith, kept.waiting, moves waiting_at, part waiting_at n.slots.entries c.name.result old c.in-Some.ensures.value, c.waiting.ensures, c.waiting-in-Some.ensures);
      queued = omega (arith, kept.queued, moves (λ r. length r.queue), ap (λ (queue : List Queued). length queue) queue);
      counted = omega (arith, kept.counted, moves (λ r. length r.queue / 2 ^ 64), ap (λ (queue : List Queued). length queue / 2 ^ 64) queue);
    }

pub returns-in-Some-clause-ok : goal.returns-in-Some-clause-ok
returns-in-Some-clause-ok c =
    let n = c.self.inside in
    let new = c.receive-outcome.new.self in
    (received_at n.member.node n.member.nodes n.start n.slots (c.get_mut.follows.lender new) c.args.self.now c.self.view_is c.self.invariant.consistent c.in-Some.slot.now new c.receive-outcome.result _ c.args.message.now c.name.result c.name.ensures c.receive-outcome.ensures.received c.in-Some.ensures.value (c.get_mut.follows.holds new)).ok

pub returns-in-Some-clause-err : goal.returns-in-Some-clause-err
returns-in-Some-clause-err c =
    let n = c.self.inside in
    let new = c.receive-outcome.new.self in
    (received_at n.member.node n.member.nodes n.start n.slots (c.get_mut.follows.lender new) c.args.self.now c.self.view_is c.self.invariant.consistent c.in-Some.slot.now new c.receive-outcome.result _ c.args.message.now c.name.result c.name.ensures c.receive-outcome.ensures.received c.in-Some.ensures.value (c.get_mut.follows.holds new)).err

pub returns-in-Some-clause-consistent : goal.returns-in-Some-clause-consistent
returns-in-Some-clause-consistent c = (invariant_of-self c).consistent

-- ---- The message is taken

tells : (c : goal.After-self-in-Some-2-1) → ReceiveTells c.receive-outcome.result c.args.self.now.me c.args.self.now.nodes c.args.message.now
tells c =
    let mine = subst (λ (n : NodeState). IsForNode n.me n.nodes c.args.message.now) c.self.view_is (c.in_ok-check_address.ensures.addressed.0 refl) in
    received_tells c.args.self.now.me c.args.self.now.nodes c.args.message.now c.receive-outcome.result _ _ mine c.receive-outcome.ensures.received

pub returns-in-Some-clause-address : goal.returns-in-Some-clause-address
returns-in-Some-clause-address c = (tells c).address

pub returns-in-Some-clause-allowed : goal.returns-in-Some-clause-allowed
returns-in-Some-clause-allowed c = (tells c).allowed

pub invariant_of-self-in-None : goal.invariant_of-self-in-None
invariant_of-self-in-None c =
    let n = c.self.inside in
    kept_as n (record n { slots = c.get_mut.follows.lender-at-none }) refl (ap (λ (m : HashMap (List ℕ) Resource _). m.entries) c.get_mut.follows.holds-at-none) c.self.invariant

first_tells : (c : goal.After-receive_first) → ReceiveTells c.receive_first.result c.args.self.now.me c.args.self.now.nodes c.args.message.now
first_tells c =
    let mine = subst (λ (n : NodeState). IsForNode n.me n.nodes c.args.message.now) c.self.view_is (c.in_ok-check_address.ensures.addressed.0 refl) in
    received_tells c.args.self.now.me c.args.self.now.nodes c.args.message.now c.receive_first.result _ _ mine c.receive_first.ensures.received

pub returns-in-None-clause-address : goal.returns-in-None-clause-address
returns-in-None-clause-address c = (first_tells c).address

pub returns-in-None-clause-allowed : goal.returns-in-None-clause-allowed
returns-in-None-clause-allowed c = (first_tells c).allowed

first_seen : (c : goal.After-receive_first) → IfOk c.receive_first.result (λ o. ReceiveEvent c.args.self.now c.args.message.now o.sends.items o.marks.items c.receive_first.new.self) × OnErr c.receive_first.result (c.receive_first.new.self ≡ c.args.self.now)
first_seen c =
    let n = c.self.inside in
    let new = c.receive_first.new.self in
    let view = same_view n.member.node n.member.nodes n.start n.slots.entries c.get_mut.follows.lender-at-none.entries c.args.self.now (ap (λ (m : HashMap (List ℕ) Resource _). m.entries) c.get_mut.follows.holds-at-none) c.self.view_is in
    seen_from c.receive_first.result _ (λ (m : NodeState) (o : Outcome). ReceiveEvent m c.args.message.now o.sends.items o.marks.items new) _ c.args.self.now new view c.receive_first.ensures.received

pub returns-in-None-clause-ok : goal.returns-in-None-clause-ok
returns-in-None-clause-ok c = (first_seen c).0

pub returns-in-None-clause-err : goal.returns-in-None-clause-err
returns-in-None-clause-err c = (first_seen c).1

pub returns-in-None-clause-consistent : goal.returns-in-None-clause-consistent
returns-in-None-clause-consistent c = c.receive_first.ensures.consistent

-- ---- Memory

pub returns-in-Some-clause-memory_only_to_bring : goal.returns-in-Some-clause-memory_only_to_bring
returns-in-Some-clause-memory_only_to_bring c =
    let n = c.self.inside in
    let name = name_of c.args.message.now in
    let here = found n.member.node n.member.nodes n.start n.slots.entries c.args.self.now c.self.view_is name c.in-Some.slot.now
    (subst (λ (q : List ℕ). Some c.in-Some.slot.now ≡ lookup (bytes_eq q) n.slots.entries) c.name.ensures c.in-Some.ensures.value) in
    λ is brings. refused_to_bring c.receive-outcome.result _ is c.receive-outcome.ensures.brings (of_node c.args.self.now c.args.message.now c.in-Some.slot.now here brings)

pub returns-in-None-clause-memory_only_to_bring : goal.returns-in-None-clause-memory_only_to_bring
returns-in-None-clause-memory_only_to_bring c =
    let n = c.self.inside in
    let view = same_view n.member.node n.member.nodes n.start n.slots.entries c.get_mut.follows.lender-at-none.entries c.args.self.now (ap (λ (m : HashMap (List ℕ) Resource _). m.entries) c.get_mut.follows.holds-at-none) c.self.view_is in
    λ is brings. refused_to_bring c.receive_first.result _ is c.receive_first.ensures.brings (subst (λ (m : NodeState). BringsNothing m c.args.message.now) (sym view) brings)
