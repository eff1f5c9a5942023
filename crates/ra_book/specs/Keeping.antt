-- How a book keeps its history: with the node to which the events lead. No public contract speaks of it.
use Rattle.std.specs.Prelude.{◌≡◌, ◌≢◌, ◌↔◌, ◌⊎◌, ◌*◌, ◌≤◌, ◌<◌, ◌^◌, ℕ, true, false, List, [], ◌∷◌, ◌++◌, length, map, slice_index_or, All, Some, None, IsSome, vec_len, vec_capacity, Result, Err, IsErrOf, IsOk, IsOkUnless, IfOk, IfErr, OnOk, OnErr}
use Rattle.std.specs.List.Sorted.{IsNonDecreasingBy}
use Rattle.ra_stamp.specs.NodeId.{IsNodeNumber}
use Rattle.ra_stamp.specs.declared.entry.Entry.{Entry}
use Rattle.ra_stamp.specs.declared.entry.Mark.{Mark}
use Rattle.ra_stamp.specs.declared.message.Message.{Message}
use Rattle.ra_stamp.specs.declared.message.Message.TheVariants.{Request, Reply}
use Rattle.ra_stamp.specs.declared.mode.Mode.{Mode}
use Rattle.ra_stamp.specs.Message.{from_of, to_of}
use Rattle.ra_frame.specs.declared.error.FrameError.{FrameError}
use Rattle.ra_frame.specs.declared.frame.Frame.{Frame}
use Rattle.ra_frame.specs.Faults.{first_fault}
use Rattle.ra_frame.specs.Fits.{Fits}
use Rattle.ra_frame.specs.FrameText.{IsFrameText}
use Rattle.ra_automaton.specs.State.{IsForNode}
use Rattle.ra_automaton.specs.Steps.{greatest_number}
use Rattle.ra_node.specs.Resource.{Holds, IsKeptWaiting, IsBusy}
use Rattle.ra_node.specs.Turns.{MayAsk}
use Rattle.ra_node.specs.Node.{NodeState, opening_node, resource_at, IsConsistentNode}
use Rattle.ra_node.specs.Events.{NodeEvent, IsForThisNode}
use Rattle.ra_book.specs.declared.book.Book.TheInside.{Inside}
use Rattle.ra_book.specs.declared.error.BookError.{BookError}
use Rattle.ra_book.specs.declared.error.BookError.TheVariants as error
use Rattle.ra_book.specs.declared.error.BookError.TheVariants.{Failed, Busy, Exhausted, NotHeld, NotWaiting, WrongNode, Stranger, ClockFull, Memory}
use Rattle.ra_book.specs.declared.error.MarkLostError.{MarkLostError}
use Rattle.ra_book.specs.declared.error.MarkLostError.TheVariants.{NotSent, AlreadyLost}
use Rattle.ra_book.specs.declared.book.event.BookEvent.{BookEvent}
use Rattle.ra_book.specs.declared.book.event.BookKind.{BookKind}
use Rattle.ra_book.specs.declared.book.event.BookKind.TheVariants.{Ask, Leave, Cancel, Receive, Forget}
use Rattle.ra_book.specs.declared.book.event_effect.Posted.{Posted}
use Rattle.ra_book.specs.declared.book.sent.Sent.{Sent}
use Rattle.ra_book.specs.History.{node_event, clock_after, frames_at}
use Rattle.ra_book.specs.Departures.{IsReserved}
use Rattle.ra_book.specs.Book.{BookState, opening_book, LeadsTo, HasHistory, HasClock, next_clock, with_event, as_sent, Runs, ReadsFrame, IsFirst, Loses}

-- ---- What is kept

-- the book is of one of 1 to 64 nodes, and its events lead to this node
pub record Keeps (book : BookState) (node : NodeState) : Type 0 where
  pub count : IsNodeNumber book.nodes
  pub member : (1 ≤ book.me) × (book.me ≤ book.nodes)
  pub leads : LeadsTo book node

-- the book that the fields represent
abbrev pub book_of : Inside → BookState
book_of b = record {
  me = b.me;
  nodes = b.nodes;
  start = b.start;
  taken = b.taken;
  events = b.events.items;
  sent = b.sent.items;
  fault = b.fault;
}

-- what holds of the fields: the events lead to the node that is kept with them, and there is room for what leaves need
pub record IsKept (b : Inside) : Type 0 where
  pub keeps : Keeps (book_of b) b.node
  pub reserved : IsReserved b.nodes b.node b.events.spare (vec_len b.sent) (vec_capacity b.sent) b.departures.items

-- ---- One more event

-- if a frame comes, it is for the book's node, and fits
abbrev pub IsForThisBook : BookState → BookKind → Type 0
IsForThisBook book (Ask client name mode) = Unit {0}
IsForThisBook book (Leave client name) = Unit {0}
IsForThisBook book (Cancel client name) = Unit {0}
IsForThisBook book (Receive frame) = IsForNode book.me book.nodes frame.message × Fits frame
IsForThisBook book Forget = Unit {0}

-- an event of this kind comes next at a book: a clock is left for it, and this is that clock
pub record ComesNext (book : BookState) (clock : ℕ) (kind : BookKind) : Type 0 where
  pub clock_is : clock ≡ next_clock book kind
  pub has_clock : HasClock book kind
  pub for_this_book : IsForThisBook book kind

-- how many messages a node sends at most when this message comes: one for a REQUEST, and 0 for a REPLY
abbrev pub answers_to : Message → ℕ
answers_to (Request from to name mode seq) = 1
answers_to (Reply from to name seq) = 0

-- how many messages a node sends at most when this happens, in a cluster of this many nodes
abbrev pub sends_by : ℕ → BookKind → ℕ
sends_by nodes (Ask client name mode) = nodes
sends_by nodes (Leave client name) = 2 * nodes
sends_by nodes (Cancel client name) = 2 * nodes
sends_by nodes (Receive frame) = answers_to frame.message
sends_by nodes Forget = 0

-- the event happened at the node, follows the events so far, and its frames follow those so far
pub record Happens (old new : NodeState) (events events' : List BookEvent) (sent sent' : List Sent) (event : BookEvent)
    (posted : Posted) : Type 0 where
  pub sends : List Message
  pub happens : NodeEvent old (node_event event.kind) sends posted.marks.items new
  pub events_are : events' ≡ events ++ event ∷ []
  pub sent_are : sent' ≡ sent ++ as_sent (frames_at event.clock sends)
  pub frames_are : posted.frames.items ≡ frames_at event.clock sends

-- A clock is left for an event of this kind at a book without a fault, and this is that clock.
pub record HasNextClock (book : BookState) (kind : BookKind) (clock : ℕ) : Type 0 where
  pub no_fault : book.fault ≡ None
  pub clock_is : clock ≡ next_clock book kind
  pub has_clock : HasClock book kind

-- what a check answers before an event: what holds of the next event, or a refusal other than `Memory`
pub record IsChecked {T : Type 0} (book : BookState) (Next : T → Type 0) (answer : Result T BookError) : Type 0 where
  pub history : HasHistory book
  pub next : IfOk answer Next
  pub memory : IfErr answer (λ e. e ≢ Memory)

-- ---- Refusals

-- an ask is answered as `Book::ask` says, with `Memory` as the only other error
pub record AnswersAsk {T : Type 0} (book : BookState) (client : ℕ) (name : List ℕ) (mode : Mode)
    (answer : Result T BookError) : Type 0 where
  pub failed : IsErrOf answer Failed ↔ IsSome book.fault
  pub busy : IsErrOf answer Busy ↔ Runs book (λ node. IsBusy (resource_at node name) client)
  pub exhausted : IsErrOf answer Exhausted
      ↔ Runs book (λ node. (IsBusy (resource_at node name) client → ⊥)
      × ((resource_at node name).state.highest ≡ greatest_number))
  pub clock_full : IsErrOf answer ClockFull
      ↔ Runs book (λ node. MayAsk (resource_at node name) client × (HasClock book (Ask client name mode) → ⊥))
  pub allowed : IsOkUnless answer Memory
      ↔ Runs book (λ node. MayAsk (resource_at node name) client × HasClock book (Ask client name mode))

-- an ask is refused for this cause, as `Book::ask` says, if memory may run out
abbrev pub RefusesAsk : BookState → ℕ → List ℕ → Mode → BookError → Type 0
RefusesAsk book client name mode refused = AnswersAsk {T = Posted} book client name mode (Err refused)

-- a leave is answered as `Book::leave` says
pub record AnswersLeave {T : Type 0} (book : BookState) (client : ℕ) (name : List ℕ) (answer : Result T BookError)
    : Type 0 where
  pub failed : IsErrOf answer Failed ↔ IsSome book.fault
  pub not_held : IsErrOf answer NotHeld
      ↔ Runs book (λ node. (entry : Entry) → Holds (resource_at node name) client entry → ⊥)
  pub clock_full : IsErrOf answer ClockFull
      ↔ Runs book (λ node. ((entry : Entry) × Holds (resource_at node name) client entry)
      × (HasClock book (Leave client name) → ⊥))
  pub allowed : IsOkUnless answer Memory
      ↔ Runs book (λ node. ((entry : Entry) × Holds (resource_at node name) client entry)
      × HasClock book (Leave client name))

-- a leave is refused for this cause, as `Book::leave` says
abbrev pub RefusesLeave : BookState → ℕ → List ℕ → BookError → Type 0
RefusesLeave book client name refused = AnswersLeave {T = Posted} book client name (Err refused)

-- a cancel is answered as `Book::cancel` says
pub record AnswersCancel {T : Type 0} (book : BookState) (client : ℕ) (name : List ℕ) (answer : Result T BookError)
    : Type 0 where
  pub failed : IsErrOf answer Failed ↔ IsSome book.fault
  pub not_waiting : IsErrOf answer NotWaiting
      ↔ Runs book (λ node. IsKeptWaiting (resource_at node name) client → ⊥)
  pub clock_full : IsErrOf answer ClockFull
      ↔ Runs book (λ node. IsKeptWaiting (resource_at node name) client × (HasClock book (Cancel client name) → ⊥))
  pub allowed : IsOkUnless answer Memory
      ↔ Runs book (λ node. IsKeptWaiting (resource_at node name) client × HasClock book (Cancel client name))

-- a cancel is refused for this cause, as `Book::cancel` says
abbrev pub RefusesCancel : BookState → ℕ → List ℕ → BookError → Type 0
RefusesCancel book client name refused = AnswersCancel {T = Posted} book client name (Err refused)

-- bytes that come are answered as `Book::receive` says
pub record AnswersReceive {T : Type 0} (book : BookState) (bytes : List ℕ) (answer : Result T BookError) : Type 0 where
  pub failed : IsErrOf answer Failed ↔ IsSome book.fault
  pub frame : (fault : FrameError) → IsErrOf answer (error.Frame fault)
      ↔ ((book.fault ≡ None) × (first_fault bytes ≡ Some fault))
  pub wrong_node : IsErrOf answer WrongNode ↔ ReadsFrame book bytes (λ f. to_of f.message ≢ book.me)
  pub stranger : IsErrOf answer Stranger
      ↔ ReadsFrame book bytes (λ f. (to_of f.message ≡ book.me)
      × ((from_of f.message ≡ book.me) ⊎ (book.nodes < from_of f.message)))
  pub clock_full : IsErrOf answer ClockFull
      ↔ ReadsFrame book bytes (λ f. IsForNode book.me book.nodes f.message × (HasClock book (Receive f) → ⊥))
  pub allowed : IsOkUnless answer Memory
      ↔ ReadsFrame book bytes (λ f. IsForNode book.me book.nodes f.message × HasClock book (Receive f))

-- bytes that come are refused for this cause, as `Book::receive` says
abbrev pub RefusesReceive : BookState → List ℕ → BookError → Type 0
RefusesReceive book bytes refused = AnswersReceive {T = Posted} book bytes (Err refused)

-- the bytes are the text of this frame alone, and it fits
pub record IsRead (bytes : List ℕ) (frame : Frame) : Type 0 where
  pub text : IsFrameText bytes frame
  pub only : (other : Frame) → IsFrameText bytes other → other ≡ frame
  pub no_fault : (fault : FrameError) → first_fault bytes ≡ Some fault → ⊥
  pub fits : Fits frame

-- the bytes are the text of this frame, which is for this one of this many nodes, and fits
pub record IsFrameFor (me nodes : ℕ) (bytes : List ℕ) (frame : Frame) : Type 0 where
  pub text : IsFrameText bytes frame
  pub for_it : IsForNode me nodes frame.message
  pub fits : Fits frame

-- why bytes are not accepted
abbrev pub NotAccepted : ℕ → ℕ → ℕ → List ℕ → BookError → Type 0
NotAccepted me nodes clock bytes (error.Frame fault) = first_fault bytes ≡ Some fault
NotAccepted me nodes clock bytes WrongNode = (f : Frame) × IsFrameText bytes f × (to_of f.message ≢ me)
NotAccepted me nodes clock bytes Stranger =
    (f : Frame) × IsFrameText bytes f × (to_of f.message ≡ me)
    × ((from_of f.message ≡ me) ⊎ (nodes < from_of f.message))
NotAccepted me nodes clock bytes ClockFull =
    (f : Frame) × IsFrameFor me nodes bytes f × (2 ^ 62 < clock_after clock (Receive f))
NotAccepted me nodes clock bytes Failed = ⊥
NotAccepted me nodes clock bytes Busy = ⊥
NotAccepted me nodes clock bytes Exhausted = ⊥
NotAccepted me nodes clock bytes NotHeld = ⊥
NotAccepted me nodes clock bytes NotWaiting = ⊥
NotAccepted me nodes clock bytes Memory = ⊥

-- bytes are accepted at this one of this many nodes, after this clock, as a frame for it with the clock after it; or
-- they are not accepted
pub record IsAccepted (me nodes clock : ℕ) (bytes : List ℕ) (answer : Result (Frame × ℕ) BookError) : Type 0 where
  pub accepted : IfOk answer
      (λ h. IsFrameFor me nodes bytes h.0 × (h.1 ≡ clock_after clock (Receive h.0)) × (h.1 ≤ 2 ^ 62))
  pub refused : IfErr answer (NotAccepted me nodes clock bytes)
  pub one_text : (a b : Frame) → IsFrameText bytes a → IsFrameText bytes b → a ≡ b
  pub no_fault : (f : Frame) (fault : FrameError) → IsFrameText bytes f → first_fault bytes ≡ Some fault → ⊥

-- ---- A loss

-- no frame has a greater clock than a later one
abbrev pub Ascends : List Sent → Type 0
Ascends sent = IsNonDecreasingBy (λ s. s.frame.clock) sent

-- the first of the sent frames that is equal to this one is at this place, counted from 0
pub record IsFirstAt (sent : List Sent) (frame : Frame) (place : ℕ) : Type 0 where
  pub within : place < length sent
  pub is : (d : Sent) → (slice_index_or sent place d).frame ≡ frame
  pub first : (k : ℕ) (d : Sent) → k < place → (slice_index_or sent k d).frame ≢ frame

-- how the first of the sent frames that is equal to this one is flagged
pub record IsFlagged (old : List Sent) (frame : Frame) (new : List Sent) (answer : Result (Unit {0}) MarkLostError)
    : Type 0 where
  pub ok : OnOk answer (Loses old frame new)
  pub not_sent : IsErrOf answer NotSent ↔ All (λ s. s.frame ≢ frame) old
  pub already_lost : IsErrOf answer AlreadyLost ↔ IsFirst old frame true
  pub allowed : IsOk answer ↔ IsFirst old frame false
  pub err : OnErr answer (new ≡ old)
  pub frames : map (λ s. s.frame) new ≡ map (λ s. s.frame) old

-- ---- The law

-- A book that keeps a history goes on keeping it at each event of its node. The event sends few frames, and they fit if
-- the frame that came does. The book's frames ascend by clock.
pub record KeptHistoriesGoOn : Type 0 where
  pub opened : (me n start : ℕ) → IsNodeNumber n → (1 ≤ me) × (me ≤ n)
      → Keeps (opening_book me n start) (opening_node me n start)
  pub event : (book : BookState) (old new : NodeState) (kind : BookKind) (sends : List Message) (marks : List Mark)
      → Keeps book old → IsForThisNode old (node_event kind) → NodeEvent old (node_event kind) sends marks new
      → HasClock book kind
      → Keeps (with_event book (next_clock book kind) kind (frames_at (next_clock book kind) sends)) new
  pub flags : (book : BookState) (sent : List Sent) (node : NodeState)
      → Keeps book node → map (λ s. s.frame) sent ≡ map (λ s. s.frame) book.sent
      → Keeps (record book { sent = sent }) node
  pub few : (book : BookState) (old new : NodeState) (kind : BookKind) (sends : List Message) (marks : List Mark)
      → Keeps book old → NodeEvent old (node_event kind) sends marks new
      → length sends ≤ sends_by book.nodes kind
  pub fit : (book : BookState) (old new : NodeState) (kind : BookKind) (sends : List Message) (marks : List Mark)
      → Keeps book old → IsForThisNode old (node_event kind) → NodeEvent old (node_event kind) sends marks new
      → HasClock book kind
      → ((frame : Frame) → kind ≡ Receive frame → Fits frame) → All Fits (frames_at (next_clock book kind) sends)
  pub node : (book : BookState) (node : NodeState) → Keeps book node
      → (node.me ≡ book.me) × (node.nodes ≡ book.nodes) × IsConsistentNode node
  pub determined : (book : BookState) (a b : NodeState) → Keeps book a → LeadsTo book b → b ≡ a
  pub ascends : (book : BookState) (node : NodeState) → Keeps book node → Ascends book.sent
