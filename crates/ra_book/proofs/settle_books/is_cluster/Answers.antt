use Rattle.std.proofs.Common.{◌≡◌, length, Some, refl, sym, ◌∙◌, subst, arith}
use Rattle.std.specs.Prelude.{slice_get}
use Rattle.std.proofs.lemmas.Bool.{false≢true}
use Rattle.ra_book.specs.Book.{BookState}
use Rattle.ra_book.proofs.Clusters.{IsMember, no_cluster, cluster_of, member_of, members_more}
use Rattle.ra_book.proofs.settle_books.is_cluster.Goals as goal

pub returns-in_default : goal.returns-in_default
returns-in_default c = (λ is. absurd (false≢true is), λ cluster. absurd (no_cluster c.args.books.now c.in_default.ensures.value cluster))

pub returns-then-not-is_member : goal.returns-then-not-is_member
returns-then-not-is_member c = (
  λ is. absurd (false≢true is),
  λ cluster.
      let books = c.args.books.now in
      let place = c.loop-place.place in
      let book = c.index-books-place.result in
      let first : slice_get books 0 ≡ Some c.in-Some.first.now = sym c.in-Some.ensures.value in
      let member = member_of books c.in-Some.first.now first cluster place book c.loop-place-test.true in
      let here : IsMember book place (length books) c.in-Some.first.now.start = subst (λ (b : BookState). IsMember b place (length books) c.in-Some.first.now.start) (sym c.index-books-place.is) member in
      absurd (false≢true (sym c.if-not-is_member.true ∙ c.is_member.ensures.1 (here.0, here.1, here.2 ∙ sym c.start-start.ensures.value, here.3))),
)

pub loop-place-preserved : goal.loop-place-preserved
loop-place-preserved c = members_more c.args.books.now c.start-start.result c.loop-place.place c.index-books-place.result c.loop-place.invariant c.index-books-place.is (c.is_member.ensures.0 c.if-not-is_member.false) c.loop-place-test.true

pub returns : goal.returns
returns c = (
  λ _.
      let books = c.args.books.now in
      let first : slice_get books 0 ≡ Some c.in-Some.first.now = sym c.in-Some.ensures.value in
      let same : c.loop-place.place ≡ length books = omega arith in
      cluster_of books c.in-Some.first.now first c.start-start.result c.start-start.ensures.value c.loop-place.place same c.loop-place.invariant,
  λ _. refl,
)
