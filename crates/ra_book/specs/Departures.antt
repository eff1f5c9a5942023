-- What a book keeps so that no leave needs memory. No public contract speaks of it.
use Rattle.std.specs.Prelude.{◌≡◌, ℕ, ◌+◌, ◌*◌, ◌≤◌, List, [], length, All}
use Rattle.ra_stamp.specs.Sequence.{Listed}
use Rattle.ra_frame.specs.declared.frame.Frame.{Frame}
use Rattle.ra_node.specs.Node.{NodeState, clients_count}
use Rattle.ra_node.specs.Room.{IsNothing, HasRoomToLeave}
use Rattle.ra_book.specs.declared.book.departure.Departure.{Departure}

-- the outcome and the list of frames are empty, with room for what a leave sends and marks at one of this many nodes
pub record IsDeparture (nodes : ℕ) (departure : Departure) : Type 0 where
  pub nothing : IsNothing departure.outcome
  pub room : HasRoomToLeave nodes departure.outcome
  pub no_frames : departure.frames.items ≡ []
  pub frames : 2 * nodes ≤ departure.frames.spare

-- a list of events with this spare, and one of this many sent frames with this capacity, have room for this many leaves
pub record HasRoomFor (nodes leaves spare len capacity : ℕ) : Type 0 where
  pub events : leaves ≤ spare
  pub sent : len + leaves * (2 * nodes) ≤ capacity

-- there is a departure for each client that waits, is queued or holds, and room for the events and frames of their
-- leaves
pub record IsReserved (nodes : ℕ) (node : NodeState) (spare len capacity : ℕ) (departures : List Departure)
    : Type 0 where
  pub many : clients_count node ≤ length departures
  pub each : All (IsDeparture nodes) departures
  pub room : HasRoomFor nodes (length departures) spare len capacity

-- ---- One more event

-- A list of events with this spare, one of this many sent frames with this capacity, and an empty list of frames have
-- room for an event that sends at most this many messages, and then for this many leaves.
pub record HasRoomMade (nodes sends leaves spare len capacity : ℕ) (list : Listed Frame) : Type 0 where
  pub events : leaves + 1 ≤ spare
  pub sent : len + sends + leaves * (2 * nodes) ≤ capacity
  pub none : list.items ≡ []
  pub frames : sends ≤ list.spare

-- the lists have room for an event that sends this many messages
pub record HasEventRoom (sends spare len capacity : ℕ) (list : Listed Frame) : Type 0 where
  pub event : 1 ≤ spare
  pub sent : len + sends ≤ capacity
  pub none : list.items ≡ []
  pub frames : sends ≤ list.spare

-- an event that sent this many messages took its room
pub record UsesRoom (sends spare spare' len len' capacity capacity' : ℕ) : Type 0 where
  pub spare_is : spare' + 1 ≡ spare
  pub len_is : len' ≡ len + sends
  pub capacity_is : capacity' ≡ capacity

-- the lists have no less room than before
pub record HasGrown (spare spare' len len' capacity capacity' : ℕ) : Type 0 where
  pub events : spare ≤ spare'
  pub len_is : len' ≡ len
  pub sent : capacity ≤ capacity'
