use Rattle.std.proofs.Common.{true, false, refl}
use Rattle.std.proofs.lemmas.Bool.{false≢true}
use Rattle.ra_host.proofs.HostLaws.{reached_moves, whole_runs}
use Rattle.ra_host.proofs.Sound.{BookLaws}
use Rattle.ra_host.proofs.laws.hosts.each_two_hosts_are_a_pair.Goals as goal

pub returns : goal.returns
returns c =
    let first = c.histories_go_on.ensures in
    let cut = c.books_can_be_cut.ensures in
    let laws : BookLaws =
    record { opening = first.opening; event = first.event; history = cut.history; whole = cut.whole; come = cut.come; sent = cut.sent; again = cut.again; all = cut.all } in
    record {
      whole = λ text n start events s i j count reaches two whole.
          let r = whole_runs laws n start count text events s i j two whole reaches in
          (r.events, r.are);
      put_back = λ text n start events s i j count reaches two.
          let m = reached_moves laws n start count text events s i j two false (λ e. absurd (false≢true e)) reaches in
          (m.moves, m.are);
      own_is_whole = λ text n start events s i j count reaches two whole.
          let m = reached_moves laws n start count text events s i j two true (λ _. whole) reaches in
          (m.moves, m.are, m.keeps refl);
    }
