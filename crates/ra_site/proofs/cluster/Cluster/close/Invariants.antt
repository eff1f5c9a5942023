-- Some of the sites are closed, and for each of the others there is room for a book.
use Rattle.std.proofs.Common.{◌≡◌, ◌≤◌, ◌+◌, length, vec_len, vec_capacity}
use Rattle.std.specs.Vec.Iter.{into_iter_items, into_iter_len}
use Rattle.ra_site.proofs.SiteNumbers.{Closes, nodes_at}
use Rattle.ra_site.proofs.cluster.Cluster.close.Given as goal

abbrev pub invariant-loop-site : goal.invariant-loop-site
invariant-loop-site g l = record {
  closes : Closes l.nodes l.start l.books.items (nodes_at (into_iter_items l.site-iterator));
  counted : into_iter_len l.site-iterator ≡ length (into_iter_items l.site-iterator);
  room : vec_len l.books + length (into_iter_items l.site-iterator) ≤ vec_capacity l.books;
}
