use Rattle.std.proofs.Common.{sym, ◌∙◌}
use Rattle.std.proofs.lemmas.Bool.{eqb-true, iff_false}
use Rattle.ra_book.proofs.Truth.{no}
use Rattle.ra_cluster.proofs.settled_script.are_of.Goals as goal

pub returns-then-not-is_cluster : goal.returns-then-not-is_cluster
returns-then-not-is_cluster c = no (λ are. iff_false c.is_cluster.ensures c.if-not-is_cluster.true are.cluster)

pub returns-else-books-from : goal.returns-else-books-from
returns-else-books-from c = (
  λ same. absurd (c.if-books-from.false (eqb-true _ _ same)),
  λ are. absurd (c.if-books-from.false (are.count ∙ sym c.nodes.ensures.value ∙ sym c.from.ensures)),
)

pub returns-then-books-from : goal.returns-then-books-from
returns-then-books-from c = (
  λ begin. record {
    cluster = c.is_cluster.ensures.0 c.if-not-is_cluster.false;
    count = c.if-books-from.true ∙ c.from.ensures ∙ c.nodes.ensures.value;
    start = c.begin_at_0.ensures.0 begin;
  },
  λ are. c.begin_at_0.ensures.1 are.start,
)
