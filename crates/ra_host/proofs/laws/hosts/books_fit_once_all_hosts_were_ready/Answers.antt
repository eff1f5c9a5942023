use Rattle.std.proofs.Common.{◌++◌}
use Rattle.ra_host.specs.Hosts.{books_of, disks_of, new_hosts}
use Rattle.ra_host.proofs.HostLaws.{books_in_cluster, disks_in_cluster, disk_pairs_fit, later_in_order, leads_on, pairs_fit}
use Rattle.ra_host.proofs.Sound.{BookLaws}
use Rattle.ra_host.proofs.laws.hosts.books_fit_once_all_hosts_were_ready.Goals as goal

pub returns : goal.returns
returns c =
    let first = c.histories_go_on.ensures in
    let cut = c.books_can_be_cut.ensures in
    let laws : BookLaws =
    record { opening = first.opening; event = first.event; history = cut.history; whole = cut.whole; come = cut.come; sent = cut.sent; again = cut.again; all = cut.all } in
    let link = c.a_host_that_was_ready_lacks_nothing.ensures in
    let parts = c.clusters_can_be_cut.ensures in
    let pairs = c.paired_books_fit.ensures in
    record {
      books = λ n start before later ready s count reaches are_ready lead whole.
          let all = leads_on n before later (new_hosts n start) ready s reaches lead in
          let are = books_in_cluster laws n start count (before ++ later) s all in
          pairs.fit (books_of n s) are.0 are.1
          (pairs_fit laws n start count (before ++ later) s all (later_in_order laws n start count link.taken link.kept before later ready s reaches are_ready whole lead));
      disks = λ n start before later ready s count reaches are_ready lead whole.
          let all = leads_on n before later (new_hosts n start) ready s reaches lead in
          let are = disks_in_cluster laws n start count parts.cluster parts.histories (before ++ later) s all in
          pairs.fit (disks_of n s) are.0 are.1
          (disk_pairs_fit laws n start count parts.pairs (before ++ later) s all (later_in_order laws n start count link.taken link.kept before later ready s reaches are_ready whole lead));
      run = λ n start before later ready s count reaches are_ready lead whole.
          let all = leads_on n before later (new_hosts n start) ready s reaches lead in
          let are = disks_in_cluster laws n start count parts.cluster parts.histories (before ++ later) s all in
          pairs.run (disks_of n s) are.0 are.1
          (disk_pairs_fit laws n start count parts.pairs (before ++ later) s all (later_in_order laws n start count link.taken link.kept before later ready s reaches are_ready whole lead));
    }
