-- A book as contracts see it, and what its calls make of it.
use Rattle.std.specs.Prelude.{◌≡◌, ◌≢◌, ℕ, ◌≤◌, ◌^◌, Bool, true, false, List, [], ◌∷◌, ◌++◌, map, All, Option, None}
use Rattle.ra_stamp.specs.declared.entry.Mark.{Mark}
use Rattle.ra_stamp.specs.declared.message.Message.{Message}
use Rattle.ra_stamp.specs.NodeId.{IsNodeNumber}
use Rattle.ra_frame.specs.declared.frame.Frame.{Frame}
use Rattle.ra_frame.specs.FrameText.{IsFrameText}
use Rattle.ra_node.specs.Node.{NodeState}
use Rattle.ra_node.specs.Events.{NodeEvent}
use Rattle.ra_book.specs.declared.book.event.BookKind.{BookKind}
use Rattle.ra_book.specs.declared.book.event.BookEvent.{BookEvent}
use Rattle.ra_book.specs.declared.book.sent.Sent.{Sent}
use Rattle.ra_book.specs.declared.book.stop.Stop.{Stop}
use Rattle.ra_book.specs.History.{IsHistory, node_event, clock_after, clock_of, frames_at}

-- What was taken from a book: whether its events were ever taken, even when there were none, and the events and frames.
-- The book does not keep these any more. An auditor has the events.
pub record TakenState : Type 0 where
  pub some : Bool
  pub events : List BookEvent
  pub sent : List Sent

abbrev pub nothing_taken : TakenState
nothing_taken = record { some = false; events = []; sent = [] }

-- the node's number, the number of nodes, the highest number with which each resource begins, what was taken from the
-- book, the events after that, the frames that they sent, and the fault, if there is one
pub record BookState : Type 0 where
  pub me : ℕ
  pub nodes : ℕ
  pub start : ℕ
  pub taken : TakenState
  pub events : List BookEvent
  pub sent : List Sent
  pub fault : Option Stop

-- a book before its first event
abbrev pub opening_book : ℕ → ℕ → ℕ → BookState
opening_book me nodes start =
    record { me = me; nodes = nodes; start = start; taken = nothing_taken; events = []; sent = []; fault = None }

-- all events of the node, and all frames that they sent, also those that were taken
abbrev pub whole_events : BookState → List BookEvent
whole_events book = book.taken.events ++ book.events

abbrev pub whole_sent : BookState → List Sent
whole_sent book = book.taken.sent ++ book.sent

-- nothing was taken from the book
abbrev pub IsWhole : BookState → Type 0
IsWhole book = book.taken ≡ nothing_taken

-- the events of the book lead to this node
abbrev pub LeadsTo : BookState → NodeState → Type 0
LeadsTo book node = IsHistory book.me book.nodes book.start (whole_events book) (whole_sent book) node

-- what holds of every book: it is the history of an existing node
pub record HasHistory (book : BookState) : Type 0 where
  pub count : IsNodeNumber book.nodes
  pub member : (1 ≤ book.me) × (book.me ≤ book.nodes)
  pub node : NodeState
  pub leads : LeadsTo book node

-- ---- An event

-- the clock of an event of this kind that comes next
abbrev pub next_clock : BookState → BookKind → ℕ
next_clock book kind = clock_after (clock_of (whole_events book)) kind

-- a clock is left for an event of this kind, since the next one is at most 2^62
abbrev pub HasClock : BookState → BookKind → Type 0
HasClock book kind = next_clock book kind ≤ 2 ^ 62

-- frames as they are sent, not yet lost
abbrev pub as_sent : List Frame → List Sent
as_sent frames = map (λ frame. record { frame = frame; lost = false }) frames

-- the book with another event, at this clock, that sent these frames
abbrev pub with_event : BookState → ℕ → BookKind → List Frame → BookState
with_event book clock kind frames = record book {
  events = book.events ++ record { clock = clock; kind = kind } ∷ [];
  sent = book.sent ++ as_sent frames;
}

-- The book has another event, and the node to which the old book leads posted these frames and marks in it. The frames
-- have the clock of the event.
pub record Adds (old : BookState) (kind : BookKind) (frames : List Frame) (marks : List Mark)
    (new : BookState) : Type 0 where
  pub before : NodeState
  pub leads : LeadsTo old before
  pub sends : List Message
  pub after : NodeState
  pub event : NodeEvent before (node_event kind) sends marks after
  pub frames_are : frames ≡ frames_at (next_clock old kind) sends
  pub new_is : new ≡ with_event old (next_clock old kind) kind frames

-- the book has no fault, and this holds of its node
pub record Runs (book : BookState) (P : NodeState → Type 0) : Type 0 where
  pub no_fault : book.fault ≡ None
  pub node : NodeState
  pub leads : LeadsTo book node
  pub holds : P node

-- the book has no fault, and the bytes are the text of a frame with this property
pub record ReadsFrame (book : BookState) (bytes : List ℕ) (P : Frame → Type 0) : Type 0 where
  pub no_fault : book.fault ≡ None
  pub frame : Frame
  pub text : IsFrameText bytes frame
  pub holds : P frame

-- ---- What is taken

-- the book after all its events and frames were taken
abbrev pub with_all_taken : BookState → BookState
with_all_taken book = record book {
  taken = record { some = true; events = whole_events book; sent = whole_sent book };
  events = [];
  sent = [];
}

-- ---- A loss

-- the first of the sent frames that is equal to this one has this flag
pub record IsFirst (sent : List Sent) (frame : Frame) (lost : Bool) : Type 0 where
  pub prefix : List Sent
  pub suffix : List Sent
  pub sent_is : sent ≡ prefix ++ record { frame = frame; lost = lost } ∷ suffix
  pub first : All (λ s. s.frame ≢ frame) prefix

-- the new list is the old one, except that the first frame that is equal to this one is now flagged as lost
pub record Loses (old : List Sent) (frame : Frame) (new : List Sent) : Type 0 where
  pub was : IsFirst old frame false
  pub new_is : new ≡ was.prefix ++ record { frame = frame; lost = true } ∷ was.suffix
