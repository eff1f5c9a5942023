use Rattle.ra_book.proofs.Clusters.{AreMembers}
use Rattle.ra_book.proofs.settle_books.is_cluster.Given as goal

-- the books so far belong to the first nodes
abbrev pub invariant-loop-place : goal.invariant-loop-place
invariant-loop-place l = AreMembers l.books l.start l.place
