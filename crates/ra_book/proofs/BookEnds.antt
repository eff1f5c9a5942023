-- At the end of a settled run each node is as its book leaves it.
use Rattle.std.proofs.Common.{◌≡◌, ℕ, ◌<◌, List, length}
use Rattle.std.specs.Prelude.{All}
use Rattle.ra_node.specs.Node.{NodeState}
use Rattle.ra_world.specs.Traffic.{Move}
use Rattle.ra_world.specs.Run.{happened_at}
use Rattle.ra_book.specs.declared.book.event.BookEvent.{BookEvent}
use Rattle.ra_book.specs.declared.book.sent.Sent.{Sent}
use Rattle.ra_book.specs.History.{IsHistory}
use Rattle.ra_book.specs.Book.{BookState, LeadsTo, HasHistory}
use Rattle.ra_book.specs.Settled.{IsCluster, IsSettledRun}
use Rattle.ra_book.proofs.NodeMarks.{history_by}
use Rattle.ra_book.proofs.SettledNodes.{nobody, book_at, book_ends}
use Rattle.ra_book.proofs.Whole.{whole_history, whole_leads}

pub ends_as_its_book :
    ((me n start : ℕ) (events : List BookEvent) (sent sent' : List Sent) (a b : NodeState) → IsHistory me n start events sent a → IsHistory me n start events sent' b → a ≡ b)
    → (books : List BookState) (moves : List Move) (cluster : IsCluster books) (histories : All HasHistory books) (settled : IsSettledRun books moves)
    → (k : ℕ) → k < length books → (node : NodeState) → LeadsTo (book_at books k) node → settled.run.ends.0 (book_at books k).me ≡ node
ends_as_its_book one books moves cluster histories settled k low node leads =
    let b = book_at books k in
    let whole = cluster.whole k nobody low in
    let history = whole_history b whole (histories k nobody low) in
    let end = settled.run.ends.0 b.me in
    let by_run = history_by b history (happened_at b.me moves) end (settled.events k nobody low) (book_ends books cluster moves settled.run.ends.0 settled.run.ends.1 k low) in
    one b.me b.nodes b.start b.events _ b.sent end node by_run.0 (whole_leads b whole node leads)
