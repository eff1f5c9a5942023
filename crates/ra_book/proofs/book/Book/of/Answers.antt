use Rattle.std.proofs.Common.{◌≡◌, ◌≤◌, refl, sym, ap, ◌∙◌, subst, arith}
use Rattle.ra_stamp.specs.Member.{IsMember}
use Rattle.ra_stamp.specs.NodeId.{IsNodeNumber}
use Rattle.ra_node.specs.Node.{clients_count, opening_node}
use Rattle.ra_node.proofs.Counts.{opening_counts}
use Rattle.ra_book.specs.Book.{TakenState, opening_book}
use Rattle.ra_book.specs.Keeping.{Keeps}
use Rattle.ra_book.proofs.Adding.{same_kept}
use Rattle.ra_book.proofs.Departing.{reserved_first}
use Rattle.ra_book.proofs.Kept.{history_of}
use Rattle.ra_book.proofs.KeptLaws.{kept_histories_go_on}
use Rattle.ra_book.proofs.book.Book.of.Goals as goal

pub invariant_of-result : goal.invariant_of-result
invariant_of-result c =
    let me = c.node-me.result in
    let nodes = c.nodes-nodes.result in
    let is : IsMember c.args.member.node c.args.member.nodes = c.node-me.ensures.valid in
    let count : IsNodeNumber nodes = subst IsNodeNumber (sym c.nodes-nodes.ensures.value) is.count in
    let member : (1 ≤ me) × (me ≤ nodes) = (omega (arith, c.node-me.ensures.value, is.first), omega (arith, c.node-me.ensures.value, c.nodes-nodes.ensures.value, is.last)) in
    let opened = opening_book me nodes c.args.start in
    let node_is : c.of-node.result ≡ opening_node me nodes c.args.start =
    c.of-node.ensures.value ∙ sym (λ i. opening_node (c.node-me.ensures.value i) (c.nodes-nodes.ensures.value i) c.args.start)
    in
    record {
      keeps = subst (λ (t : TakenState). Keeps (record opened { taken = t; events = c.new.result.items; sent = c.new-2.result.items }) c.of-node.result) (sym c.nothing.ensures)
          (same_kept opened _ _ c.new.result.items c.new-2.result.items
          (kept_histories_go_on.opened me nodes c.args.start count member) c.new.ensures c.new-2.ensures.items node_is);
      reserved = reserved_first nodes c.of-node.result _ _ _ c.new-3.result.items
          (ap clients_count node_is ∙ opening_counts me nodes c.args.start) c.new-3.ensures.items c.new-2.ensures.len;
    }

pub returns-clause-value : goal.returns-clause-value
returns-clause-value c = λ i.
    record (opening_book (c.node-me.ensures.value i) (c.nodes-nodes.ensures.value i) c.args.start) { taken = c.nothing.ensures i; events = c.new.ensures i; sent = c.new-2.ensures.items i }

pub returns-clause-history : goal.returns-clause-history
returns-clause-history c = history_of _ _ _ (invariant_of-result c).keeps refl
