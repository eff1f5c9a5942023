use Rattle.ra_host.proofs.LinkedBooks.{books_fit, disks_fit}
use Rattle.ra_book.specs.Cut.{cut_books}
use Rattle.ra_host.proofs.laws.linked_books_fit.Goals as goal

pub returns : goal.returns
returns c =
    let one = c.round_trip.ensures.one_frame in
    let link = c.frames_are_taken_once_and_in_order.ensures in
    let come = c.books_can_be_cut.ensures.come in
    let cut = c.clusters_can_be_cut.ensures in
    let pairs = c.paired_books_fit.ensures in
    record {
      books = books_fit one link.taken link.kept come;
      disks = λ kept books cluster histories are. disks_fit one link.taken link.kept come kept books cluster histories are cut.pairs;
      books_fit = λ kept books cluster histories are. pairs.fit books cluster histories (books_fit one link.taken link.kept come kept books cluster histories are);
      disks_fit = λ kept books cluster histories are.
          pairs.fit (cut_books kept books) (cut.cluster kept books cluster) (cut.histories kept books cluster histories)
          (disks_fit one link.taken link.kept come kept books cluster histories are cut.pairs);
      run = λ kept books cluster histories are.
          pairs.run (cut_books kept books) (cut.cluster kept books cluster) (cut.histories kept books cluster histories)
          (disks_fit one link.taken link.kept come kept books cluster histories are cut.pairs);
    }
