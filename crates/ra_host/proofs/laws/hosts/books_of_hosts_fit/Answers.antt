use Rattle.ra_host.specs.Hosts.{books_of, disks_of}
use Rattle.ra_host.proofs.HostLaws.{books_in_cluster, disks_in_cluster, disk_pairs_fit, pairs_fit, whole_in_order}
use Rattle.ra_host.proofs.Sound.{BookLaws}
use Rattle.ra_host.proofs.laws.hosts.books_of_hosts_fit.Goals as goal

pub returns : goal.returns
returns c =
    let first = c.histories_go_on.ensures in
    let cut = c.books_can_be_cut.ensures in
    let laws : BookLaws =
    record { opening = first.opening; event = first.event; history = cut.history; whole = cut.whole; come = cut.come; sent = cut.sent; again = cut.again; all = cut.all } in
    let link = c.frames_are_taken_once_and_in_order.ensures in
    let parts = c.clusters_can_be_cut.ensures in
    let pairs = c.paired_books_fit.ensures in
    record {
      cluster = λ n start events s count reaches. books_in_cluster laws n start count events s reaches;
      disks_cluster = λ n start events s count reaches. disks_in_cluster laws n start count parts.cluster parts.histories events s reaches;
      books = λ n start events s count reaches whole.
          let are = books_in_cluster laws n start count events s reaches in
          pairs.fit (books_of n s) are.0 are.1 (pairs_fit laws n start count events s reaches (whole_in_order laws n start count link.taken link.kept events s whole reaches));
      disks = λ n start events s count reaches whole.
          let are = disks_in_cluster laws n start count parts.cluster parts.histories events s reaches in
          pairs.fit (disks_of n s) are.0 are.1 (disk_pairs_fit laws n start count parts.pairs events s reaches (whole_in_order laws n start count link.taken link.kept events s whole reaches));
      run = λ n start events s count reaches whole.
          let are = disks_in_cluster laws n start count parts.cluster parts.histories events s reaches in
          pairs.run (disks_of n s) are.0 are.1 (disk_pairs_fit laws n start count parts.pairs events s reaches (whole_in_order laws n start count link.taken link.kept events s whole reaches));
    }
