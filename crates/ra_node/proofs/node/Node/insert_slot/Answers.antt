use Rattle.std.proofs.Common.{ℕ, ◌/◌, ◌^◌, length, refl, subst, arith}
use Rattle.ra_node.specs.Resource.{Resource, waiting_at}
use Rattle.ra_node.specs.Node.{IsConsistentNode}
use Rattle.ra_node.proofs.After.{kept_as}
use Rattle.ra_node.proofs.NodeLemmas.{after_update}
use Rattle.ra_node.proofs.Totals.{come, one_at_most, few_wait, few_queue}
use Rattle.ra_node.proofs.node.Node.insert_slot.Goals as goal

pub overflow_add-waiting : goal.overflow_add-waiting
overflow_add-waiting c =
    omega (arith, c.self.invariant.waiting, c.waiting.ensures, one_at_most c.args.slot.state.phase, few_wait c.self.inside.slots.entries c.len.ensures.unique, c.len.ensures.len, c.len.ensures.small)

pub overflow_add-queued : goal.overflow_add-queued
overflow_add-queued c =
    omega (arith, c.self.invariant.queued, c.queued.type_inv, few_queue c.self.inside.slots.entries c.len.ensures.unique c.self.invariant.counted, c.len.ensures.len, c.len.ensures.small)

-- there was no memory
pub invariant_of-self : goal.invariant_of-self
invariant_of-self c =
    let n = c.self.inside in
    kept_as n (record n { slots = c.insert.new.self }) refl c.in_err-insert.ensures.err c.self.invariant

pub invariant_of-self-2 : goal.invariant_of-self-2
invariant_of-self-2 c =
    let n = c.self.inside in
    let was = c.self.invariant in
    let slots = c.insert.new.self.entries in
    let finds = c.in_ok-insert.ensures.updates.0 in
    let more = λ (f : Resource → ℕ). come f n.member.node n.member.nodes n.start n.slots.entries slots c.args.self.now c.args.name c.args.slot c.self.view_is c.requires.first finds in
    let after = after_update n.member.node n.member.nodes n.start n.slots.entries c.args.self.now c.self.view_is c.args.name c.args.slot slots (subst IsConsistentNode c.self.view_is was.consistent) finds c.requires.consistent in
    record {
      consistent = after.kept;
      waiting = omega (arith, was.waiting, more waiting_at, c.waiting.ensures);
      queued = omega (arith, was.queued, more (λ r. length r.queue), c.queued.ensures);
      counted = omega (arith, was.counted, more (λ r. length r.queue / 2 ^ 64), c.queued.ensures, c.queued.type_inv);
    }

pub returns-clause-inserted : goal.returns-clause-inserted
returns-clause-inserted c =
    let n = c.self.inside in
    (after_update n.member.node n.member.nodes n.start n.slots.entries c.args.self.now c.self.view_is c.args.name c.args.slot c.insert.new.self.entries (subst IsConsistentNode c.self.view_is c.self.invariant.consistent) c.in_ok-insert.ensures.updates.0 c.requires.consistent).view

pub returns-clause-consistent : goal.returns-clause-consistent
returns-clause-consistent c = (invariant_of-self-2 c).consistent
