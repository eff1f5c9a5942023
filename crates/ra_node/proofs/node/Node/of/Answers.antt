use Rattle.std.proofs.Common.{rules, ℕ, ◌/◌, ◌^◌, List, length, sym, subst}
use Rattle.ra_stamp.specs.Member.{IsMember}
use Rattle.ra_node.specs.Resource.{Resource, waiting_at}
use Rattle.ra_node.specs.Node.{IsConsistentNode}
use Rattle.ra_node.specs.View.{node_with}
use Rattle.ra_node.proofs.NodeLemmas.{opening_is_consistent}
use Rattle.ra_node.proofs.Totals.{nothing}
use Rattle.ra_node.proofs.node.Node.of.Goals as goal

pub invariant_of-result : goal.invariant_of-result
invariant_of-result c =
    let m = c.args.member in
    let slots = c.new.result.entries in
    let is : IsMember m.node m.nodes = search rules in
    record {
      consistent = subst (λ (es : List (List ℕ × Resource)). IsConsistentNode (node_with m.node m.nodes c.args.start es)) (sym c.new.ensures.empty)
          (opening_is_consistent m.node m.nodes c.args.start is.count (is.first, is.last));
      waiting = sym (nothing waiting_at slots c.new.ensures.empty);
      queued = sym (nothing (λ r. length r.queue) slots c.new.ensures.empty);
      counted = nothing (λ r. length r.queue / 2 ^ 64) slots c.new.ensures.empty;
    }

pub returns-clause-consistent : goal.returns-clause-consistent
returns-clause-consistent c = (invariant_of-result c).consistent
