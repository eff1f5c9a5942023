-- How the clients of a node take turns at one resource. A node has at most one request or hold on a resource; its
-- further clients queue, first in, first out. So two clients of one node never hold a resource together, whatever
-- their modes. Whatever a rule does not mention stays as it was.
use Rattle.std.specs.Prelude.{◌≡◌, ◌≢◌, ◌⊎◌, ℕ, ◌+◌, ◌<◌, ◌≤◌, Bool, true, false, List, [], ◌∷◌, ◌++◌, Any, Some, None}
use Rattle.ra_stamp.specs.declared.entry.Entry.{Entry}
use Rattle.ra_stamp.specs.declared.entry.Mark.{Mark}
use Rattle.ra_stamp.specs.declared.entry.Mark.TheVariants.{Requested, Entered, Left, Withdrawn}
use Rattle.ra_stamp.specs.declared.message.Message.{Message}
use Rattle.ra_stamp.specs.declared.message.Message.TheVariants.{Request, Reply}
use Rattle.ra_stamp.specs.declared.mode.Mode.{Mode}
use Rattle.ra_automaton.specs.declared.phase.Phase.TheVariants.{Idle}
use Rattle.ra_automaton.specs.Steps as automaton
use Rattle.ra_automaton.specs.Steps.{greatest_number}
use Rattle.ra_node.specs.declared.queued_client.Queued.{Queued}
use Rattle.ra_node.specs.Resource.{Resource, entry_of, holder_of, Holds, Waits, IsBusy}

-- the marks of a request that is made, and granted at once or not
abbrev pub request_marks : Bool → Entry → List Mark
request_marks false e = Requested e ∷ []
request_marks true e = Requested e ∷ Entered e ∷ []

-- the request that a client makes here: it takes the next number
abbrev pub next_entry : Resource → ℕ → Mode → Entry
next_entry r client mode = entry_of r.state.me r.state.name (r.state.highest + 1) client mode

-- ---- A client asks.

-- the client neither waits, nor is queued, nor holds here, and a number is left
pub record MayAsk (r : Resource) (client : ℕ) : Type 0 where
  pub not_busy : IsBusy r client → ⊥
  pub number_left : r.state.highest < greatest_number

-- if the node is idle, its request is made at once
pub record AsksAtOnce (old : Resource) (client : ℕ) (mode : Mode) (sends : List Message) (marks : List Mark)
    (new : Resource) : Type 0 where
  pub entered : Bool
  pub step : automaton.RequestStep old.state mode sends entered new.state
  pub marks_are : marks ≡ request_marks entered (next_entry old client mode)
  pub client_is : new.client ≡ Some client
  pub queue_is : new.queue ≡ old.queue

-- otherwise the client is queued after all others
pub record QueuesUp (old : Resource) (client : ℕ) (mode : Mode) (sends : List Message) (marks : List Mark)
    (new : Resource) : Type 0 where
  pub in_use : old.state.phase ≢ Idle
  pub sends_are : sends ≡ []
  pub marks_are : marks ≡ []
  pub new_is : new ≡ record old { queue = old.queue ++ record { client = client; mode = mode } ∷ [] }

-- a client that may ask makes its request at once if the node is idle, and otherwise is queued
abbrev pub AskTurn : Resource → ℕ → Mode → List Message → List Mark → Resource → Type 0
AskTurn old client mode sends marks new =
    MayAsk old client × (AsksAtOnce old client mode sends marks new
    ⊎ QueuesUp old client mode sends marks new)

-- ---- The client that holds leaves, or one that waits gives up.

-- the request of the client that holds is released, each deferred REPLY goes out, and no client uses the resource
pub record Leaves (old : Resource) (client : ℕ) (entry : Entry) (sends : List Message)
    (new : Resource) : Type 0 where
  pub holds : Holds old client entry
  pub step : automaton.LeaveStep old.state sends new.state
  pub client_is : new.client ≡ None
  pub queue_is : new.queue ≡ old.queue

-- the request of the client that waits is withdrawn, each deferred REPLY goes out, and no client uses the resource
pub record Withdraws (old : Resource) (client : ℕ) (entry : Entry) (sends : List Message)
    (new : Resource) : Type 0 where
  pub waits : Waits old client entry
  pub step : automaton.WithdrawStep old.state sends new.state
  pub client_is : new.client ≡ None
  pub queue_is : new.queue ≡ old.queue

-- the request ends, with this mark; if no client is queued, or no number is left, no client is next
pub record EndsToNobody (Ends : Entry → List Message → Resource → Type 0) (mark : Entry → Mark) (old : Resource)
    (sends : List Message) (marks : List Mark) (new : Resource) : Type 0 where
  pub entry : Entry
  pub ends : Ends entry sends new
  pub nobody : (old.queue ≡ []) ⊎ (greatest_number ≤ old.state.highest)
  pub marks_are : marks ≡ mark entry ∷ []

-- otherwise the first client of the queue leaves the queue and asks in the same event; the REPLYs go out before its
-- REQUESTs
pub record EndsToNext (Ends : Entry → List Message → Resource → Type 0) (mark : Entry → Mark) (old : Resource)
    (sends : List Message) (marks : List Mark) (new : Resource) : Type 0 where
  pub entry : Entry
  pub between : Resource
  pub replies : List Message
  pub ends : Ends entry replies between
  pub next : Queued
  pub rest : List Queued
  pub queue_was : old.queue ≡ next ∷ rest
  pub requests : List Message
  pub asked : List Mark
  pub may : MayAsk (record between { queue = rest }) next.client
  pub asks : AsksAtOnce (record between { queue = rest }) next.client next.mode requests asked new
  pub sends_are : sends ≡ replies ++ requests
  pub marks_are : marks ≡ mark entry ∷ asked

-- the request ends; if another client is queued and a number is left, the first of the queue asks in the same event
abbrev pub EndTurn : (Entry → List Message → Resource → Type 0) → (Entry → Mark) → Resource → List Message → List Mark
    → Resource → Type 0
EndTurn Ends mark old sends marks new =
    EndsToNobody Ends mark old sends marks new ⊎ EndsToNext Ends mark old sends marks new

-- the client that holds leaves
abbrev pub LeaveTurn : Resource → ℕ → List Message → List Mark → Resource → Type 0
LeaveTurn old client sends marks new = EndTurn (Leaves old client) Left old sends marks new

-- a client that is queued, and does not wait, leaves the queue, and the others keep their order; nothing is sent or
-- marked
pub record LeavesQueue (old : Resource) (client : ℕ) (sends : List Message) (marks : List Mark)
    (new : Resource) : Type 0 where
  pub before : List Queued
  pub gone : Queued
  pub after : List Queued
  pub client_is : gone.client ≡ client
  pub queue_was : old.queue ≡ before ++ gone ∷ after
  -- no client is here twice, so these two only say which way is taken
  pub not_before : Any (λ q. q.client ≡ client) before → ⊥
  pub waits_not : (entry : Entry) → Waits old client entry → ⊥
  pub sends_are : sends ≡ []
  pub marks_are : marks ≡ []
  pub new_is : new ≡ record old { queue = before ++ after }

-- a client gives up: it leaves the queue if it is queued, and withdraws its request if that waits
abbrev pub CancelTurn : Resource → ℕ → List Message → List Mark → Resource → Type 0
CancelTurn old client sends marks new =
    LeavesQueue old client sends marks new ⊎ EndTurn (Withdraws old client) Withdrawn old sends marks new

-- ---- A message comes.

-- the mark of the request that a message lets enter, or no mark
abbrev pub EntersBy : Bool → Resource → List Mark → Type 0
EntersBy false new marks = marks ≡ []
EntersBy true new marks = (entry : Entry) × (holder_of new ≡ Some entry) × (marks ≡ Entered entry ∷ [])

-- the message is a stray: a REPLY that the node does not await here
abbrev pub IsStrayAt : Resource → Message → Type 0
IsStrayAt r (Request from to name mode seq) = ⊥
IsStrayAt r (Reply from to name seq) = (mode : Mode) → automaton.Awaits r.state from seq mode → ⊥

-- the automaton takes the message, and the current client may enter; the current client and the queue stay
pub record ReceiveTurn (old : Resource) (message : Message) (sends : List Message) (marks : List Mark)
    (new : Resource) : Type 0 where
  pub entered : Bool
  pub step : automaton.ReceiveStep old.state message sends entered new.state
  pub enters : EntersBy entered new marks
  pub client_is : new.client ≡ old.client
  pub queue_is : new.queue ≡ old.queue
