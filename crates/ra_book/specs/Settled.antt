-- How the books of all nodes settle into one run of the cluster.
use Rattle.std.specs.Prelude.{◌≡◌, ◌⊎◌, ℕ, ◌<◌, ◌≤◌, ◌==◌, false, List, [], ◌∷◌, ◌++◌, map, length, All, AllPairs, Contains, slice_index_or}
use Rattle.std.specs.List.{Any, filter, flat_map, range_with_len}
use Rattle.std.specs.List.Sorted.{IsPermutation}
use Rattle.ra_stamp.specs.declared.entry.Entry.{Entry}
use Rattle.ra_stamp.specs.declared.entry.Mark.{Mark}
use Rattle.ra_stamp.specs.declared.entry.Mark.TheVariants.{Entered}
use Rattle.ra_stamp.specs.declared.message.Message.{Message}
use Rattle.ra_stamp.specs.Message.{from_of}
use Rattle.ra_frame.specs.declared.frame.Frame.{Frame}
use Rattle.ra_node.specs.Node.{NodeState}
use Rattle.ra_world.specs.declared.step.Step.{Step}
use Rattle.ra_world.specs.declared.step.Step.TheVariants.{Ask, Leave, Cancel, Deliver, Lose, Forget}
use Rattle.ra_world.specs.Traffic.{Move, lost_by, repeated_by}
use Rattle.ra_world.specs.Run.{IsRun, happened_at}
use Rattle.ra_book.specs.declared.book.event.BookKind.{BookKind}
use Rattle.ra_book.specs.declared.book.event.BookKind.TheVariants as kinds
use Rattle.ra_book.specs.declared.book.event.BookEvent.{BookEvent}
use Rattle.ra_book.specs.declared.book.sent.Sent.{Sent}
use Rattle.ra_book.specs.History.{Posting, node_event}
use Rattle.ra_book.specs.Book.{BookState, LeadsTo, IsWhole}

-- ---- The cluster

-- the start of the first book
abbrev pub start_of : List BookState → ℕ
start_of [] = 0
start_of (book ∷ books) = book.start

-- the books of nodes 1 to n, in order, with one n and one start; nothing was taken from them, and there is at least one
pub record IsCluster (books : List BookState) : Type 0 where
  pub some : 1 ≤ length books
  pub numbers : map (λ b. b.me) books ≡ range_with_len 1 (length books)
  pub one_count : All (λ b. b.nodes ≡ length books) books
  pub one_start : All (λ b. b.start ≡ start_of books) books
  pub whole : All IsWhole books

-- ---- The settled order

-- an event and its node
pub record Placed : Type 0 where
  pub node : ℕ
  pub event : BookEvent

-- one event comes before the other: its clock is less, or the clocks are equal and its node is less
abbrev pub IsBefore : Placed → Placed → Type 0
IsBefore a b = (a.event.clock < b.event.clock) ⊎ ((a.event.clock ≡ b.event.clock) × (a.node < b.node))

-- the events of one node, in order
abbrev pub events_of : ℕ → List Placed → List BookEvent
events_of i placed = map (λ p. p.event) (filter (λ p. p.node == i) placed)

-- All events of all books in one list, and no others: the events of each node are its book's, in their order, and the
-- list is sorted by clock and then by node. As the clocks of each book rise, no two events are equal, and only one such
-- list exists.
pub record IsSettledOrder (books : List BookState) (placed : List Placed) : Type 0 where
  pub each : All (λ b. events_of b.me placed ≡ b.events) books
  pub no_others : All (λ p. (1 ≤ p.node) × (p.node ≤ length books)) placed
  pub sorted : AllPairs IsBefore placed

-- ---- The settled run

-- the step of the cluster that an event of a node is
abbrev pub step_at : ℕ → BookKind → Step
step_at node (kinds.Ask client name mode) = Ask node client name mode
step_at node (kinds.Leave client name) = Leave node client name
step_at node (kinds.Cancel client name) = Cancel node client name
step_at node (kinds.Receive frame) = Deliver frame.message
step_at node kinds.Forget = Forget node

-- the steps of the cluster that these events are, in order
abbrev pub steps_of : List Placed → List Step
steps_of placed = map (λ p. step_at p.node p.event.kind) placed

-- the messages of the frames that are flagged lost, in order of sending
abbrev pub lost_among : List Sent → List Message
lost_among sent = map (λ s. s.frame.message) (filter (λ s. s.lost) sent)

-- the lost messages of all books, by node and in order of sending
abbrev pub all_lost : List BookState → List Message
all_lost books = flat_map (λ b. lost_among b.sent) books

-- the steps of all events in the settled order, and then the losses of all lost messages
abbrev pub settled_steps : List BookState → List Placed → List Step
settled_steps books placed = steps_of placed ++ map (λ m. Lose m) (all_lost books)

-- A run of the cluster whose steps at each node are its book's events, in their order. Its losses are of the message of
-- each frame that is flagged lost, each once, and of no other. No step is a repeat.
pub record IsSettledRun (books : List BookState) (moves : List Move) : Type 0 where
  pub run : IsRun (length books) (start_of books) moves
  pub events : All (λ b. map (λ h. h.event) (happened_at b.me moves) ≡ map (λ e. node_event e.kind) b.events) books
  pub losses : IsPermutation (all_lost books) (lost_by moves)
  pub unrepeated : repeated_by moves ≡ []

-- ---- Grants

-- the marks of these events, in order
abbrev pub marks_in : List Posting → List Mark
marks_in postings = flat_map (λ p. p.marks) postings

-- an event of the book made this mark
abbrev pub HasMark : BookState → Mark → Type 0
HasMark book mark = (node : NodeState) × (leads : LeadsTo book node) × Contains (marks_in leads.postings) mark

-- the entry was granted: the book of its node has its Entered mark
abbrev pub IsGranted : List BookState → Entry → Type 0
IsGranted books entry = Any (λ b. (b.me ≡ entry.stamp.node) × HasMark b (Entered entry)) books

-- two items of a list, at different places, are equal
pub record Repeats {X : Type 0} (xs : List X) : Type 0 where
  pub first : ℕ
  pub second : ℕ
  pub item : X
  pub in_order : first < second
  pub within : second < length xs
  pub first_is : slice_index_or xs first item ≡ item
  pub second_is : slice_index_or xs second item ≡ item

-- ---- Why books do not settle

-- the frame that came, if one did
abbrev pub frames_in : BookKind → List Frame
frames_in (kinds.Ask client name mode) = []
frames_in (kinds.Leave client name) = []
frames_in (kinds.Cancel client name) = []
frames_in (kinds.Receive frame) = frame ∷ []
frames_in kinds.Forget = []

-- the frames that came in these events, in order
abbrev pub received_among : List BookEvent → List Frame
received_among events = flat_map (λ e. frames_in e.kind) events

-- the frames that came at all nodes, by node and in order
abbrev pub all_received : List BookState → List Frame
all_received books = flat_map (λ b. received_among b.events) books

-- the sender's book has this frame, with this clock and message, and it is not flagged lost
abbrev pub WasSent : List BookState → Frame → Type 0
WasSent books frame =
    Any (λ b. (b.me ≡ from_of frame.message) × Contains b.sent (record { frame = frame; lost = false })) books

-- a frame came that was not sent, or that is flagged lost
abbrev pub HasUnsent : List BookState → Type 0
HasUnsent books = Any (λ f. WasSent books f → ⊥) (all_received books)

-- a message came twice
abbrev pub HasTwice : List BookState → Type 0
HasTwice books = Repeats (map (λ f. f.message) (all_received books))

-- each frame that came was sent and is not flagged lost, and no message came twice
abbrev pub BooksFit : List BookState → Type 0
BooksFit books = (HasUnsent books → ⊥) × (HasTwice books → ⊥)
