-- Some of the sites are closed, and for each of the others there is room for a book.
use Rattle.std.proofs.Common.{◌≡◌, ◌≤◌, ◌+◌, length, vec_len, vec_capacity}
use Rattle.std.specs.Prelude.{All}
use Rattle.std.specs.Vec.Iter.{into_iter_items, into_iter_len}
use Rattle.ra_book.specs.Book.{HasHistory}
use Rattle.ra_site.proofs.cluster.Cluster.close_audited.Given as goal

abbrev pub invariant-loop-site : goal.invariant-loop-site
invariant-loop-site g l = record {
  histories : All HasHistory l.books.items;
  many : vec_len l.books + length (into_iter_items l.site-iterator) ≡ l.fn.self.nodes;
  counted : into_iter_len l.site-iterator ≡ length (into_iter_items l.site-iterator);
  room : vec_len l.books + length (into_iter_items l.site-iterator) ≤ vec_capacity l.books;
}
