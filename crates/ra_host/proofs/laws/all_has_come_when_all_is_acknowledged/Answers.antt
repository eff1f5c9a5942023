use Rattle.ra_book.specs.Cut.{cut_books}
use Rattle.ra_host.proofs.Acknowledged.{still_linked, books_come, disks_come}
use Rattle.ra_host.proofs.laws.all_has_come_when_all_is_acknowledged.Goals as goal

pub returns : goal.returns
returns c =
    let one = c.round_trip.ensures.one_frame in
    let link = c.nothing_is_under_way_when_all_is_acknowledged.ensures in
    let first = c.books_can_be_cut.ensures in
    let cut = c.clusters_can_be_cut.ensures in
    record {
      linked = still_linked;
      books = books_come one link first.come first.sent;
      disks = λ kept books cluster histories are. disks_come one link first.come first.sent kept books are cluster histories;
      quiet = λ kept books moves cluster histories are settled.
          c.what_has_not_come_is_under_way.ensures.quiet (cut_books kept books) moves (cut.cluster kept books cluster) (cut.histories kept books cluster histories)
          (c.linked_books_fit.ensures.disks kept books cluster histories (still_linked kept books are)) settled (disks_come one link first.come first.sent kept books are cluster histories);
    }
