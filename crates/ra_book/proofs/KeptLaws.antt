-- The law on which everything in a book depends: what keeps a history goes on keeping it. A proof names it, and no code
-- calls it.
use Rattle.std.proofs.Common.{◌≡◌, ℕ, ◌≤◌, List}
use Rattle.ra_stamp.specs.declared.entry.Mark.{Mark}
use Rattle.ra_stamp.specs.declared.message.Message.{Message}
use Rattle.ra_stamp.specs.NodeId.{IsNodeNumber}
use Rattle.ra_node.specs.Node.{NodeState, opening_node, IsConsistentNode}
use Rattle.ra_node.specs.Events.{Event, Happening, NodeEvent, NodeEvents, IsForThisNode, AreForThisNode}
use Rattle.ra_node.proofs.NodeLemmas.{opening_is_consistent}
use Rattle.ra_node.proofs.EventsKept.{node_kept, event_sends, event_numbers, event_room}
use Rattle.ra_node.proofs.Chains.{events_step, history_kept, history_same_node}
use Rattle.ra_node.proofs.Determined.{event_one}
use Rattle.ra_book.specs.declared.book.event.BookEvent.{BookEvent}
use Rattle.ra_book.specs.declared.book.sent.Sent.{Sent}
use Rattle.ra_book.specs.History.{IsHistory}
use Rattle.ra_book.specs.Book.{BookState, whole_events, whole_sent}
use Rattle.ra_book.specs.Keeping.{Keeps, Ascends, KeptHistoriesGoOn}
use Rattle.ra_book.proofs.Ascending.{history_ascends, ascends_last}
use Rattle.ra_book.proofs.Histories.{opening, goes_on, flagged, determined}
use Rattle.ra_book.proofs.Kept as kept

-- ---- What a node keeps

-- each event of a node leads from a consistent node to a consistent one
pub stays_consistent : (old new : NodeState) (event : Event) (sends : List Message) (marks : List Mark)
    → IsConsistentNode old → IsForThisNode old event → NodeEvent old event sends marks new → IsConsistentNode new
stays_consistent = node_kept

is_consistent : (me nodes start : ℕ) (new : NodeState) (happened : List Happening)
    → IsNodeNumber nodes → (1 ≤ me) × (me ≤ nodes) → AreForThisNode (opening_node me nodes start) happened
    → NodeEvents (opening_node me nodes start) happened new → IsConsistentNode new
is_consistent me nodes start new happened count member =
    history_kept stays_consistent happened (opening_node me nodes start) new (opening_is_consistent me nodes start count member)

is_same_node : (old new : NodeState) (happened : List Happening) → NodeEvents old happened new
    → (new.me ≡ old.me) × (new.nodes ≡ old.nodes) × (old.start ≤ new.start)
is_same_node old new happened = history_same_node happened old new

-- ---- The law

one_node : (me n start : ℕ) (events : List BookEvent) (sent sent' : List Sent) (a b : NodeState)
    → IsHistory me n start events sent a → IsHistory me n start events sent' b → a ≡ b
one_node me n start events sent sent' a b left right = (determined event_one me n start events sent sent' a b left right).1

ascends : (book : BookState) (node : NodeState) → Keeps book node → Ascends book.sent
ascends book node keeps =
    ascends_last book.taken.sent book.sent (history_ascends book.me book.nodes book.start (whole_events book) (whole_sent book) node keeps.leads)

pub kept_histories_go_on : KeptHistoriesGoOn
kept_histories_go_on = record {
  opened = kept.opened opening;
  event = kept.goes_on is_same_node (goes_on events_step);
  flags = kept.flags flagged;
  few = kept.few is_same_node is_consistent event_room;
  fit = kept.fit is_same_node is_consistent event_sends event_numbers;
  node = kept.node_is is_same_node is_consistent;
  determined = kept.determined one_node;
  ascends = ascends;
}
