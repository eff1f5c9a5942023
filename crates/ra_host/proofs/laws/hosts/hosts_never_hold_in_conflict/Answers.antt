use Rattle.std.proofs.Common.{◌++◌}
use Rattle.ra_host.specs.Hosts.{new_hosts}
use Rattle.ra_host.proofs.HostLaws.{leads_on, never_conflict}
use Rattle.ra_host.proofs.Sound.{BookLaws}
use Rattle.ra_host.proofs.laws.hosts.hosts_never_hold_in_conflict.Goals as goal

pub returns : goal.returns
returns c =
    let first = c.histories_go_on.ensures in
    let cut = c.books_can_be_cut.ensures in
    let laws : BookLaws =
    record { opening = first.opening; event = first.event; history = cut.history; whole = cut.whole; come = cut.come; sent = cut.sent; again = cut.again; all = cut.all } in
    let law = c.fitting_books_never_hold_in_conflict.ensures in
    record {
      whole = λ n start events s i j left right name x y count reaches whole two.
          never_conflict laws n start count law events s reaches (c.books_of_hosts_fit.ensures.books n start events s count reaches whole) i j left right name x y two;
      ready = λ n start before later ready s i j left right name x y count reaches are_ready lead whole two.
          never_conflict laws n start count law (before ++ later) s (leads_on n before later (new_hosts n start) ready s reaches lead)
          (c.books_fit_once_all_hosts_were_ready.ensures.books n start before later ready s count reaches are_ready lead whole) i j left right name x y two;
    }
