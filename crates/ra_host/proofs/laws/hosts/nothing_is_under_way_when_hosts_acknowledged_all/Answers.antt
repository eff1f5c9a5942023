use Rattle.std.proofs.Common.{◌≡◌, [], false, refl}
use Rattle.std.proofs.lemmas.List.Elements.{All-nil}
use Rattle.ra_host.specs.Hosts.{disks_of, is_put_back}
use Rattle.ra_host.proofs.HostLaws.{acknowledged_taken, disks_have_come, disks_in_cluster, disk_pairs_fit, later_in_order}
use Rattle.ra_host.proofs.Sound.{BookLaws}
use Rattle.ra_host.proofs.laws.hosts.nothing_is_under_way_when_hosts_acknowledged_all.Goals as goal

pub returns : goal.returns
returns c =
    let first = c.histories_go_on.ensures in
    let cut = c.books_can_be_cut.ensures in
    let laws : BookLaws =
    record { opening = first.opening; event = first.event; history = cut.history; whole = cut.whole; come = cut.come; sent = cut.sent; again = cut.again; all = cut.all } in
    let link = c.a_host_that_was_ready_lacks_nothing.ensures in
    let parts = c.clusters_can_be_cut.ensures in
    let settled = c.a_ready_host_lacks_nothing.ensures.settled in
    record {
      come = λ n start events s count reaches all. disks_have_come laws n start count events s reaches (acknowledged_taken laws n start count settled events s reaches all);
      quiet = λ n start events s moves count reaches all run.
          let are = disks_in_cluster laws n start count parts.cluster parts.histories events s reaches in
          let order = later_in_order laws n start count link.taken link.kept events [] s s reaches all.ready (All-nil (λ e. is_put_back e.1 ≡ false)) refl in
          c.what_has_not_come_is_under_way.ensures.quiet (disks_of n s) moves are.0 are.1 (disk_pairs_fit laws n start count parts.pairs events s reaches order) run
          (disks_have_come laws n start count events s reaches (acknowledged_taken laws n start count settled events s reaches all));
    }
