use Rattle.ra_host.proofs.HostLaws.{never_accused}
use Rattle.ra_host.proofs.Sound.{BookLaws}
use Rattle.ra_host.proofs.laws.hosts.hosts_with_whole_books_are_not_accused.Goals as goal

pub returns : goal.returns
returns c =
    let first = c.histories_go_on.ensures in
    let cut = c.books_can_be_cut.ensures in
    let laws : BookLaws =
    record { opening = first.opening; event = first.event; history = cut.history; whole = cut.whole; come = cut.come; sent = cut.sent; again = cut.again; all = cut.all } in
    λ n start events s i j count reaches two whole.
    never_accused laws n start count c.a_host_whose_own_book_is_whole_is_not_accused.ensures.accused events s reaches i j two whole
