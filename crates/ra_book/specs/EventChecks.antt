-- Which events a node takes after a clock, and why it does not take the others.
use Rattle.std.specs.Prelude.{◌≡◌, ◌≢◌, ◌⊎◌, ℕ, ◌<◌, ◌≤◌, ◌^◌}
use Rattle.ra_stamp.specs.declared.entry.Entry.{Entry}
use Rattle.ra_stamp.specs.Message.{from_of, to_of}
use Rattle.ra_automaton.specs.State.{IsForNode}
use Rattle.ra_automaton.specs.Steps.{greatest_number}
use Rattle.ra_node.specs.Resource.{Holds, IsKeptWaiting, IsBusy}
use Rattle.ra_node.specs.Turns.{MayAsk}
use Rattle.ra_node.specs.Node.{NodeState, resource_at}
use Rattle.ra_book.specs.declared.error.BookError.{BookError}
use Rattle.ra_book.specs.declared.error.BookError.TheVariants.{Busy, Exhausted, NotHeld, NotWaiting, WrongNode, Stranger, ClockFull, Memory}
use Rattle.ra_book.specs.declared.book.event.BookKind.{BookKind}
use Rattle.ra_book.specs.declared.book.event.BookKind.TheVariants.{Ask, Leave, Cancel, Receive, Forget}
use Rattle.ra_book.specs.History.{clock_after}

-- the node can take the event, given a clock and memory
abbrev pub MayTake : NodeState → BookKind → Type 0
MayTake node (Ask client name mode) = MayAsk (resource_at node name) client
MayTake node (Leave client name) = (entry : Entry) × Holds (resource_at node name) client entry
MayTake node (Cancel client name) = IsKeptWaiting (resource_at node name) client
MayTake node (Receive frame) = IsForNode node.me node.nodes frame.message
MayTake node Forget = Unit {0}

-- why the node does not take the event, whatever its clock
abbrev pub NodeRefuses : NodeState → BookKind → BookError → Type 0
NodeRefuses node (Ask client name mode) why =
    ((why ≡ Busy) × IsBusy (resource_at node name) client)
    ⊎ ((why ≡ Exhausted) × (IsBusy (resource_at node name) client → ⊥)
    × ((resource_at node name).state.highest ≡ greatest_number))
NodeRefuses node (Leave client name) why =
    (why ≡ NotHeld) × ((entry : Entry) → Holds (resource_at node name) client entry → ⊥)
NodeRefuses node (Cancel client name) why = (why ≡ NotWaiting) × (IsKeptWaiting (resource_at node name) client → ⊥)
NodeRefuses node (Receive frame) why =
    ((why ≡ WrongNode) × (to_of frame.message ≢ node.me))
    ⊎ ((why ≡ Stranger) × (to_of frame.message ≡ node.me)
    × ((from_of frame.message ≡ node.me) ⊎ (node.nodes < from_of frame.message)))
NodeRefuses node Forget why = ⊥

-- the event can happen after this clock, and then has the next one
pub record CanHappen (node : NodeState) (clock : ℕ) (kind : BookKind) (next : ℕ) : Type 0 where
  pub may : MayTake node kind
  pub next_is : next ≡ clock_after clock kind
  pub has_clock : next ≤ 2 ^ 62

-- why an event is refused if a clock is left for it: the node does not take it, or there is no memory
abbrev pub IsRefusedWithClock : NodeState → BookKind → BookError → Type 0
IsRefusedWithClock node kind why = NodeRefuses node kind why ⊎ ((why ≡ Memory) × MayTake node kind)

-- why an event is refused after this clock: the node does not take it, or there is no clock for it, or no memory
abbrev pub IsRefusedAfter : NodeState → ℕ → BookKind → BookError → Type 0
IsRefusedAfter node clock kind why =
    NodeRefuses node kind why
    ⊎ ((why ≡ ClockFull) × MayTake node kind × (2 ^ 62 < clock_after clock kind))
    ⊎ ((why ≡ Memory) × MayTake node kind × (clock_after clock kind ≤ 2 ^ 62))
