use Rattle.std.proofs.Common.{List, refl, sym, subst, ◌∙◌, rules}
use Rattle.std.specs.List.Sorted.{IsNonDecreasingBy, IsPermutation}
use Rattle.std.specs.Prelude.{All, MatchResult}
use Rattle.std.proofs.lemmas.Bool.{false≢true}
use Rattle.std.proofs.lemmas.List.Sorted.{IsNonDecreasingBy-from_sort_by_key}
use Rattle.ra_book.specs.Book.{BookState}
use Rattle.ra_book.specs.Settled.{IsCluster}
use Rattle.ra_book_text.specs.Texts.{IsRead}
use Rattle.ra_book_text.specs.Gathering.{HasAllCome, IsUnfit, books_of}
use Rattle.ra_book_text.specs.Verdicts.{IsSettledBy}
use Rattle.ra_book_text.proofs.OneCame.{all_came}
use Rattle.ra_book_text.proofs.Order.{none_missing}
use Rattle.ra_book_text.proofs.Outcome.{gathered_same, read_of, lacks, lacks_one, no_books_fault, no_memory_fault, result_of}
use Rattle.ra_book_text.proofs.text_settling.settle_books.Goals as goal

pub settle_ordered-requires : goal.settle_ordered-requires
settle_ordered-requires c =
    let (g, made, (lines, gathered)) = c.requires in
    let books = c.args.books.now.items in
    let ordered = c.sort_unstable_by_key.new.self.items in
    let same = c.sort_unstable_by_key.ensures.permutation in
    let slice = sym c.as_slice-ordered.ensures.value in
    record {
      cluster = c.is_cluster.ensures.0 c.if-not-is_cluster.false;
      each = subst (All IsRead) slice (read_of g books c.args.came.now made ordered same lines gathered);
      came =
          subst (λ (bs : List BookState). HasAllCome bs c.args.came.now) slice
          (subst (HasAllCome ordered) (sym (made.came_are ∙ gathered.came_is)) (all_came (books_of g) ordered (gathered_same g books c.args.came.now made ordered same)));
    }

-- a book is missing
pub returns-then-not-is_cluster-clause-missing : goal.returns-then-not-is_cluster-clause-missing
returns-then-not-is_cluster-clause-missing c =
    let (g, made, (lines, gathered)) = c.requires in
    let ordered = c.sort_unstable_by_key.new.self.items in
    let slice = sym c.as_slice-ordered.ensures.value in
    let sorted : IsNonDecreasingBy (λ book. book.me) ordered =
    IsNonDecreasingBy-from_sort_by_key (λ (book : BookState). book.me) ordered c.sort_unstable_by_key.ensures.sorted (λ a r f called. search rules)
    in
    let missing = lacks_one g c.args.books.now.items c.args.came.now made ordered c.sort_unstable_by_key.ensures.permutation lines gathered sorted
    (λ is. false≢true (sym c.if-not-is_cluster.true ∙ c.is_cluster.ensures.1 (subst IsCluster slice is)))
    in
    ((λ _. missing), (λ _. refl))

pub returns-then-not-is_cluster-clause-verdict : goal.returns-then-not-is_cluster-clause-verdict
returns-then-not-is_cluster-clause-verdict c text g made h =
    lacks g c.args.books.now.items c.args.came.now made text c.args.next h ((returns-then-not-is_cluster-clause-missing c).0 refl) c.args.repeats

-- none is
pub returns-clause-verdict : goal.returns-clause-verdict
returns-clause-verdict c text g made h =
    let ordered = c.sort_unstable_by_key.new.self.items in
    let slice = c.as_slice-ordered.ensures.value in
    result_of g c.args.books.now.items c.args.came.now made text c.args.next h ordered c.sort_unstable_by_key.ensures.permutation
    (subst IsCluster slice (c.is_cluster.ensures.0 c.if-not-is_cluster.false)) c.args.repeats c.settle_ordered.result
    (subst (λ (bs : List BookState). MatchResult c.settle_ordered.result (IsSettledBy c.args.repeats bs) (IsUnfit c.args.repeats bs c.args.came.now)) slice
    c.settle_ordered.ensures)

pub returns-clause-missing : goal.returns-clause-missing
returns-clause-missing c =
    let slice = c.as_slice-ordered.ensures.value in
    let cluster = subst IsCluster slice (c.is_cluster.ensures.0 c.if-not-is_cluster.false) in (
      (λ is. absurd (no_books_fault c.args.repeats c.as_slice-ordered.result.now c.args.came.now c.args.next c.settle_ordered.result c.settle_ordered.ensures is)),
      (λ missing. absurd (none_missing c.args.books.now.items c.sort_unstable_by_key.new.self.items c.sort_unstable_by_key.ensures.permutation cluster missing)),
    )

pub returns-clause-memory : goal.returns-clause-memory
returns-clause-memory c is = record {
  ordered = c.as_slice-ordered.result.now;
  same = subst (IsPermutation c.args.books.now.items) (sym c.as_slice-ordered.ensures.value) c.sort_unstable_by_key.ensures.permutation;
  cluster = c.is_cluster.ensures.0 c.if-not-is_cluster.false;
  sent = no_memory_fault c.args.repeats c.as_slice-ordered.result.now c.args.came.now c.settle_ordered.result c.settle_ordered.ensures is;
}
