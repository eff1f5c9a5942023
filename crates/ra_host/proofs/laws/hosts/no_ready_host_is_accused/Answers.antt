use Rattle.ra_host.proofs.ReadyHosts.{ready_not_accused}
use Rattle.ra_host.proofs.Sound.{BookLaws}
use Rattle.ra_host.proofs.laws.hosts.no_ready_host_is_accused.Goals as goal

pub returns : goal.returns
returns c =
    let first = c.histories_go_on.ensures in
    let cut = c.books_can_be_cut.ensures in
    let laws : BookLaws =
    record { opening = first.opening; event = first.event; history = cut.history; whole = cut.whole; come = cut.come; sent = cut.sent; again = cut.again; all = cut.all } in
    λ n start events old new i j event count reaches two ready step.
    ready_not_accused laws n start count c.a_ready_host_is_not_accused.ensures events old new i j event reaches two ready step
