-- How an auditor keeps what it knows of a node, of frames that were lost, and of messages under way. No public contract
-- speaks of it.
use Rattle.std.specs.Prelude.{◌≡◌, ◌≢◌, ◌⊎◌, ◌↔◌, ℕ, ◌+◌, ◌-◌, ◌*◌, ◌<◌, ◌≤◌, ◌∷◌, ◌++◌, [], List, Option, Some, None, All, AllPairs, Contains, length, take, drop, slice_get, slice_index_or}
use Rattle.std.specs.List.{Any}
use Rattle.ra_audit.specs.declared.auditor.node_progress.NodeProgress.TheInside.{Inside}
use Rattle.ra_audit.specs.declared.auditor.noted_losses.Losses.TheInside.{Inside as LossesInside}
use Rattle.ra_stamp.specs.Message.{from_of, to_of}
use Rattle.ra_stamp.specs.declared.message.Message.{Message}
use Rattle.ra_stamp.specs.declared.message.Message.TheVariants.{Request, Reply}
use Rattle.ra_stamp.specs.contracts.message.MessagePartialEq.TheImpl.{eq-value}
use Rattle.std.specs.Map.{lookup}
use Rattle.ra_stamp.specs.NodeId.{IsNodeNumber}
use Rattle.ra_world.specs.Traffic.{Move, IsUnderWay, sent_by, taken_in, repeated_by}
use Rattle.ra_world.specs.Run.{IsRun, happened_at}
use Rattle.ra_world.specs.Fitting.{sent_in}
use Rattle.ra_frame.specs.declared.frame.Frame.{Frame}
use Rattle.ra_audit.specs.declared.audit_error.AuditFault.{AuditFault}
use Rattle.ra_book.specs.declared.book.event.BookKind.{BookKind}
use Rattle.ra_book.specs.declared.book.event.BookKind.TheVariants.{Receive}
use Rattle.ra_book.specs.declared.book.event.BookEvent.{BookEvent}
use Rattle.ra_book.specs.History.{clock_of}
use Rattle.ra_book.specs.Settled.{received_among}
use Rattle.ra_world.specs.World.{WorldState}
use Rattle.ra_audit.specs.Audit.{ProgressState, IsAudited, HasLost, AreNextAt, IsReached, NoneIsReached, NoneWaits, WasSentIn, taken_of}

-- what the fields represent
abbrev pub progress_of : Inside → ProgressState
progress_of p = record { node = p.node; settled = p.settled.items; waiting = p.waiting.items; kept = p.kept.items }

-- the events were taken one after the other, from the node's first one on, and the clocks are theirs
pub record IsKeptProgress (p : Inside) : Type 0 where
  pub next : AreNextAt p.node 0 (p.settled.items ++ p.waiting.items)
  pub latest : p.latest ≡ clock_of (p.settled.items ++ p.waiting.items)
  pub clock : p.clock ≡ clock_of p.settled.items

-- the event that waits first at its node, with the least clock of those that wait first at these nodes
pub record IsLeastWaiting (nodes : List ProgressState) (fault : AuditFault) : Type 0 where
  pub at_node : Any (λ p. (p.node ≡ fault.node) × (slice_get p.waiting 0 ≡ Some fault.event)) nodes
  pub least : All (λ p. (event : BookEvent) → slice_get p.waiting 0 ≡ Some event
      → fault.event.clock ≤ event.clock) nodes

-- the same, if one waits
abbrev pub IsLeastOf : List ProgressState → Option AuditFault → Type 0
IsLeastOf nodes None = NoneWaits nodes
IsLeastOf nodes (Some fault) = IsLeastWaiting nodes fault

-- the events of each of these nodes were taken one after the other
abbrev pub AreTaken : List ProgressState → Type 0
AreTaken nodes = All (λ p. AreNextAt p.node 0 (taken_of p)) nodes

-- none of the node's events has this clock, and they go past it, or no such event can still come
abbrev pub HasNone : ℕ → Type 0 → ProgressState → Type 0
HasNone clock NoneComes s = All (λ e. e.clock ≢ clock) (taken_of s) × ((clock < clock_of (taken_of s)) ⊎ NoneComes)

-- the event is a frame that came, and of its sender that holds
abbrev pub IsOfNone : List ProgressState → Type 0 → BookKind → Type 0
IsOfNone nodes NoneComes kind = (frame : Frame) × (kind ≡ Receive frame)
    × All (λ s. s.node ≡ from_of frame.message → HasNone frame.clock NoneComes s) nodes

-- ---- Losses

-- The frames that were noted as lost: those whose loss has yet to be put into the run, the last ones of them that are
-- not in turn yet, and those whose loss is in the run.
pub record LossState : Type 0 where
  pub losing : List Frame
  pub noted : List Frame
  pub lost : List Frame

-- what the fields represent
abbrev pub losses_of : LossesInside → LossState
losses_of l = record { losing = l.losing.items ++ l.noted.items; noted = l.noted.items; lost = l.lost.items }

-- the count is the number of losses in the run
abbrev pub IsKeptLosses : LossesInside → Type 0
IsKeptLosses l = l.count ≡ length l.lost.items

-- the first of the frames that are still to be lost is lost now
pub record LosesFirst (old new : LossState) : Type 0 where
  pub losing : new.losing ≡ drop 1 old.losing
  pub noted : new.noted ≡ old.noted
  pub lost : new.lost ≡ old.lost ++ take 1 old.losing

-- it is the last one now
pub record DefersFirst (old new : LossState) : Type 0 where
  pub losing : new.losing ≡ drop 1 old.losing ++ take 1 old.losing
  pub noted : new.noted ≡ old.noted
  pub lost : new.lost ≡ old.lost

-- the first one is lost if the run has come to it, and otherwise it is the last one now
abbrev pub LooksAtFirst : List ProgressState → LossState → LossState → Type 0
LooksAtFirst nodes old new = (LosesFirst old new × All (IsReached nodes) (take 1 old.losing))
    ⊎ (DefersFirst old new × NoneIsReached nodes (take 1 old.losing))

-- all of these frames but the first `left` ones were looked at, and the run has come to none of those
pub record AreLookedAt (nodes : List ProgressState) (left : ℕ) (losing : List Frame) : Type 0 where
  pub first : List Frame
  pub others : List Frame
  pub losing_is : losing ≡ first ++ others
  pub left_is : length first ≡ left
  pub none : NoneIsReached nodes others

-- ---- Frames under way

-- The clocks of the events that sent the messages under way: those that are noted, each with its message; and the
-- messages that are not noted yet, which one event sent at this clock. A message between two of this many nodes is
-- noted in its slot, or among the others.
pub record FlightState : Type 0 where
  pub nodes : ℕ
  pub slots : List (Option Frame)
  pub others : List (Message × ℕ)
  pub clock : ℕ
  pub last : List Message

-- which of the two slots of its sender and receiver the message takes
abbrev pub kind_of : Message → ℕ
kind_of (Request from to name mode seq) = 0
kind_of (Reply from to name seq) = 1

-- the slot of the message
abbrev pub slot_of : ℕ → Message → ℕ
slot_of nodes message = 2 * ((from_of message - 1) * nodes + (to_of message - 1)) + kind_of message

-- the slot of the message has it, with this clock
abbrev pub IsInSlot : ℕ → List (Option Frame) → Message → ℕ → Type 0
IsInSlot nodes slots message clock =
    slice_index_or slots (slot_of nodes message) None ≡ Some (record { clock = clock; message = message })

-- the clock that is noted for the message among the others
abbrev pub clock_among : List (Message × ℕ) → Message → Option ℕ
clock_among others message = lookup (eq-value.it message) others

-- no message is noted twice
abbrev pub AreApart : ℕ → List (Option Frame) → List (Message × ℕ) → Type 0
AreApart nodes slots others = (message : Message) (clock other : ℕ) → IsInSlot nodes slots message clock
    → clock_among others message ≡ Some other → ⊥

-- this clock is noted for the message
abbrev pub IsNotedIn : ℕ → List (Option Frame) → List (Message × ℕ) → Message → ℕ → Type 0
IsNotedIn nodes slots others message clock =
    IsInSlot nodes slots message clock ⊎ (clock_among others message ≡ Some clock)

abbrev pub IsNoted : FlightState → Message → ℕ → Type 0
IsNoted flights = IsNotedIn flights.nodes flights.slots flights.others

-- the message is under way, and an event with this clock sent it
abbrev pub HasClock : FlightState → Message → ℕ → Type 0
HasClock flights message clock =
    IsNoted flights message clock ⊎ (Contains flights.last message × (clock ≡ flights.clock))

-- the message is under way
abbrev pub IsFlying : FlightState → Message → Type 0
IsFlying flights message = (clock : ℕ) × HasClock flights message clock

-- nothing is under way
pub record NoneFlies (flights : FlightState) : Type 0 where
  pub slots : (slot : ℕ) → slice_index_or flights.slots slot None ≡ None
  pub others : flights.others ≡ []
  pub last : flights.last ≡ []

-- the same messages are under way, each with a clock that it had
pub record FliesOn (old new : FlightState) : Type 0 where
  pub had : (message : Message) (clock : ℕ) → HasClock new message clock → HasClock old message clock
  pub all : (message : Message) → IsFlying old message → IsFlying new message

-- each of these frames is noted, with its clock
abbrev pub AreNoted : FlightState → List Frame → Type 0
AreNoted flights frames = All (λ frame. IsNoted flights frame.message frame.clock) frames

-- these messages are noted no longer, the others are as before, and an event with this clock sent these messages
pub record FliesAfter (old : FlightState) (taken : List Message) (clock : ℕ) (sends : List Message)
    (new : FlightState) : Type 0 where
  pub only : (message : Message) (clock : ℕ) → IsNoted new message clock
      → IsNoted old message clock × (Contains taken message → ⊥)
  pub others : (message : Message) (clock : ℕ) → (Contains taken message → ⊥) → IsNoted old message clock
      → IsNoted new message clock
  pub clock_is : new.clock ≡ clock
  pub last_is : new.last ≡ sends

-- the message has a clock by this
abbrev pub IsIn : (Message → ℕ → Type 0) → Message → Type 0
IsIn noted message = (clock : ℕ) × noted message clock

-- some of these messages have this clock now, and what had a clock has one
pub record NotesSome (old : Message → ℕ → Type 0) (messages : List Message) (clock : ℕ)
    (new : Message → ℕ → Type 0) : Type 0 where
  pub had : (message : Message) (has : ℕ) → new message has
      → old message has ⊎ (Contains messages message × (has ≡ clock))
  pub all : (message : Message) → IsIn old message → IsIn new message

-- ---- What is known of the run

-- What is known about the messages of runs without repeats: all are different, what happened at a node sent messages of
-- that node, and after one more move a message is under way if it was before and was not taken, or if the move sent it.
pub record MessagesAreKnown : Type 0 where
  pub different : (n start : ℕ) (moves : List Move) → IsNodeNumber n → IsRun n start moves → repeated_by moves ≡ []
      → AllPairs (λ a b. a ≢ b) (sent_by moves)
  pub own : (n start : ℕ) (moves : List Move) (i : ℕ) → IsNodeNumber n → IsRun n start moves → 1 ≤ i → i ≤ n
      → All (λ message. from_of message ≡ i) (sent_in (happened_at i moves))
  pub go_on : (n start : ℕ) (moves : List Move) (move : Move) (message : Message) → IsNodeNumber n
      → IsRun n start (moves ++ move ∷ []) → repeated_by (moves ++ move ∷ []) ≡ []
      → IsUnderWay (moves ++ move ∷ []) message
      ↔ ((IsUnderWay moves message × (Contains (taken_in move.step) message → ⊥)) ⊎ Contains move.sends message)

-- The frames that came in the run were sent in it. The messages under way are known, each with a clock at which it was
-- sent.
pub record IsTracked (nodes : List ProgressState) (moves : List Move) (flights : FlightState) : Type 0 where
  pub came : All (λ p. All (WasSentIn nodes moves) (received_among p.settled)) nodes
  pub sent : (message : Message) (clock : ℕ) → HasClock flights message clock
      → WasSentIn nodes moves (record { clock = clock; message = message })
  pub under_way : (message : Message) → IsUnderWay moves message ↔ IsFlying flights message

-- The run of these nodes is audited, with the losses that are in it, and what is sent in it is tracked. Each frame
-- whose loss is in it was sent in it.
pub record HasInRun (world : WorldState) (nodes : List ProgressState) (flights : FlightState)
    (losses : LossState) : Type 0 where
  pub audited : IsAudited world nodes
  pub lost : HasLost world.moves losses.lost
  pub tracked : IsTracked nodes world.moves flights
  pub sent : All (WasSentIn nodes world.moves) losses.lost

-- what was sent in the run before was sent in it now
abbrev pub StaySent : List ProgressState → List Move → List ProgressState → List Move → Type 0
StaySent nodes moves nodes' moves' = (frame : Frame) → WasSentIn nodes moves frame → WasSentIn nodes' moves' frame
