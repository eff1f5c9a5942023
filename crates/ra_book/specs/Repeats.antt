-- How the books of all nodes settle into one run of the cluster if frames may come more than once: if a frame comes
-- again, a copy of it is put under way before it is taken.
use Rattle.std.specs.Prelude.{◌≡◌, ◌⊎◌, List, [], ◌∷◌, ◌++◌, map, length, All, Contains, flat_map}
use Rattle.ra_frame.specs.declared.frame.Frame.{Frame}
use Rattle.ra_world.specs.declared.step.Step.{Step}
use Rattle.ra_world.specs.declared.step.Step.TheVariants.{Repeat}
use Rattle.ra_world.specs.Traffic.{Move, lost_by}
use Rattle.ra_world.specs.Run.{IsRun, happened_at}
use Rattle.ra_book.specs.declared.book.event.BookKind.{BookKind}
use Rattle.ra_book.specs.declared.book.event.BookKind.TheVariants.{Receive}
use Rattle.ra_book.specs.History.{node_event}
use Rattle.ra_book.specs.Book.{BookState}
use Rattle.ra_book.specs.Settled.{IsSettledOrder, Placed, frames_in, start_of, step_at}

-- the frames that come by these events, in order
abbrev pub frames_by : List Placed → List Frame
frames_by placed = flat_map (λ p. frames_in p.event.kind) placed

-- the frame, this message with this clock, comes by one of these events
abbrev pub ComesBy : List Placed → Frame → Type 0
ComesBy placed frame = Contains (frames_by placed) frame

-- what comes directly before the step of an event of this kind: if a frame comes by it that comes by a later event
-- again, a repeat of its message, and otherwise nothing
abbrev pub AreCopiesBefore : (kind : BookKind) (later : List Placed) (copies : List Step) → Type 0
AreCopiesBefore kind later copies =
    (All (λ frame. ComesBy later frame → ⊥) (frames_in kind) × (copies ≡ []))
    ⊎ ((frame : Frame) × (kind ≡ Receive frame) × ComesBy later frame × (copies ≡ Repeat frame.message ∷ []))

-- the steps of these events in order, with their copies before each
abbrev pub AreWithCopies : (placed : List Placed) (steps : List Step) → Type 0
AreWithCopies [] steps = steps ≡ []
AreWithCopies (p ∷ later) steps =
    (copies : List Step) × (rest : List Step) × (steps ≡ copies ++ step_at p.node p.event.kind ∷ rest)
    × AreCopiesBefore p.event.kind later copies × AreWithCopies later rest

-- A run of the cluster whose steps at each node are its book's events, in their order, and that loses nothing. It has
-- the steps of all events in the settled order. If a frame comes by an event and comes again later, a repeat of its
-- message is directly before the event. So a frame that comes n times is repeated n - 1 times.
pub record IsSettledRunWithCopies (books : List BookState) (moves : List Move) : Type 0 where
  pub run : IsRun (length books) (start_of books) moves
  pub events : All (λ b. map (λ h. h.event) (happened_at b.me moves) ≡ map (λ e. node_event e.kind) b.events) books
  pub lossless : lost_by moves ≡ []
  pub placed : List Placed
  pub order : IsSettledOrder books placed
  pub steps : AreWithCopies placed (map (λ move. move.step) moves)
