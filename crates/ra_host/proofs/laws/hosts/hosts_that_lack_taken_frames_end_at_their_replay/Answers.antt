use Rattle.ra_host.proofs.Found.{ends_at_replay}
use Rattle.ra_host.proofs.Sound.{BookLaws}
use Rattle.ra_host.proofs.laws.hosts.hosts_that_lack_taken_frames_end_at_their_replay.Goals as goal

pub returns : goal.returns
returns c =
    let first = c.histories_go_on.ensures in
    let cut = c.books_can_be_cut.ensures in
    let laws : BookLaws =
    record { opening = first.opening; event = first.event; history = cut.history; whole = cut.whole; come = cut.come; sent = cut.sent; again = cut.again; all = cut.all } in
    λ n start events s i j new count reaches two up confirmed unready lacks is.
    ends_at_replay laws n start count c.a_book_that_lacks_taken_frames_is_found_out.ensures events s reaches i j two up confirmed unready lacks new is
