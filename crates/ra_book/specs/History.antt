-- The history of a node: its events with their clocks (L. Lamport, CACM 21(7), 1978), and the frames that it sent.
use Rattle.std.specs.Prelude.{◌≡◌, ℕ, ◌+◌, ◌≤◌, ◌^◌, List, [], ◌∷◌, ◌++◌, map, max}
use Rattle.ra_stamp.specs.declared.entry.Mark.{Mark}
use Rattle.ra_stamp.specs.declared.message.Message.{Message}
use Rattle.ra_frame.specs.declared.frame.Frame.{Frame}
use Rattle.ra_node.specs.Node.{NodeState, opening_node}
use Rattle.ra_node.specs.Events.{Event, Happening, NodeEvents, AreForThisNode}
use Rattle.ra_node.specs.Events.Event.{Ask, Leave, Cancel, Receive, Forget}
use Rattle.ra_book.specs.declared.book.event.BookKind.{BookKind}
use Rattle.ra_book.specs.declared.book.event.BookKind.TheVariants as kinds
use Rattle.ra_book.specs.declared.book.event.BookEvent.{BookEvent}
use Rattle.ra_book.specs.declared.book.sent.Sent.{Sent}

-- what happened, as an event of the node: of a frame only the message counts
abbrev pub node_event : BookKind → Event
node_event (kinds.Ask client name mode) = Ask client name mode
node_event (kinds.Leave client name) = Leave client name
node_event (kinds.Cancel client name) = Cancel client name
node_event (kinds.Receive frame) = Receive frame.message
node_event kinds.Forget = Forget

-- ---- The clock

-- the clock of an event that comes after this clock: this clock plus 1, and for a frame the greater of this clock and
-- the frame's, plus 1
abbrev pub clock_after : ℕ → BookKind → ℕ
clock_after clock (kinds.Ask client name mode) = clock + 1
clock_after clock (kinds.Leave client name) = clock + 1
clock_after clock (kinds.Cancel client name) = clock + 1
clock_after clock (kinds.Receive frame) = max clock frame.clock + 1
clock_after clock kinds.Forget = clock + 1

-- after this clock each event has the clock that follows the one before it, and no clock is above 2^62
abbrev pub AreClocked : ℕ → List BookEvent → Type 0
AreClocked clock [] = Unit {0}
AreClocked clock (event ∷ events) =
    (event.clock ≡ clock_after clock event.kind) × (event.clock ≤ 2 ^ 62) × AreClocked event.clock events

-- the clock after these events, which come after this clock
abbrev pub clock_from : ℕ → List BookEvent → ℕ
clock_from clock [] = clock
clock_from clock (event ∷ events) = clock_from event.clock events

-- the clock after the events of a node, which is 0 at first
abbrev pub clock_of : List BookEvent → ℕ
clock_of events = clock_from 0 events

-- ---- What is sent

-- an event with the messages that it sent and its marks
pub record Posting : Type 0 where
  pub event : BookEvent
  pub sends : List Message
  pub marks : List Mark

-- the same without its clock, as a happening at the node
abbrev pub happening_of : Posting → Happening
happening_of posting =
    record { event = node_event posting.event.kind; sends = posting.sends; marks = posting.marks }

-- the frames that carry messages sent at this clock
abbrev pub frames_at : ℕ → List Message → List Frame
frames_at clock messages = map (λ message. record { clock = clock; message = message }) messages

-- all frames that went out, in order
abbrev pub frames_of : List Posting → List Frame
frames_of [] = []
frames_of (posting ∷ postings) = frames_at posting.event.clock posting.sends ++ frames_of postings

-- ---- The history

-- Node me of n, whose numbers begin at start, has these events and has sent these frames, each kept or lost, and it is
-- now this node. The events lead to it from a node that has met nothing. What they sent are the frames, each with the
-- clock of its event.
pub record IsHistory (me n start : ℕ) (events : List BookEvent) (sent : List Sent)
    (node : NodeState) : Type 0 where
  pub clocked : AreClocked 0 events
  pub postings : List Posting
  pub events_are : map (λ p. p.event) postings ≡ events
  pub for_this_node : AreForThisNode (opening_node me n start) (map happening_of postings)
  pub leads : NodeEvents (opening_node me n start) (map happening_of postings) node
  pub sent_are : map (λ s. s.frame) sent ≡ frames_of postings
