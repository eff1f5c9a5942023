-- What settling books says, and each of its parts. No public contract speaks of it.
use Rattle.std.specs.Prelude.{◌≡◌, ◌≢◌, ◌↔◌, List, map, length, All, AllPairs, Contains}
use Rattle.std.specs.BTreeSet.{BTreeSet}
use Rattle.std.specs.List.{Any}
use Rattle.ra_stamp.specs.declared.entry.Entry.{Entry}
use Rattle.ra_stamp.specs.declared.entry.Mark.{Mark}
use Rattle.ra_stamp.specs.declared.entry.Mark.TheVariants.{Entered}
use Rattle.ra_stamp.specs.Message.{from_of}
use Rattle.ra_world.specs.declared.step.Step.{Step}
use Rattle.ra_world.specs.Traffic.{Move}
use Rattle.ra_world.specs.Run.{IsRun, WorldRun, marks_of}
use Rattle.ra_world.specs.World.{Reports}
use Rattle.ra_world.specs.MainTheorem.{MainTheorem}
use Rattle.ra_book.specs.declared.error.SettleError.{SettleError}
use Rattle.ra_book.specs.declared.error.SettleError.TheVariants.{NotSent, Twice, GrantMissing, GrantTwice, Memory}
use Rattle.ra_book.specs.Keys.{FrameKey, HasKeys, frame_key}
use Rattle.ra_book.specs.declared.book.grant.Grant.{Grant}
use Rattle.ra_book.specs.declared.settle_books.settled.Settled.{Settled}
use Rattle.ra_book.specs.Book.{BookState, HasHistory}
use Rattle.ra_book.specs.Settled.{IsCluster, IsSettledOrder, IsSettledRun, Placed, IsGranted, BooksFit, HasUnsent, HasTwice, Repeats, settled_steps, start_of}
use Rattle.ra_book.specs.Repeats.{AreWithCopies, IsSettledRunWithCopies, frames_by}

-- ---- The laws

-- each frame in a book is from the book's node
abbrev pub FramesAreFromTheirNodes : Type 0
FramesAreFromTheirNodes = (book : BookState) → HasHistory book → All (λ s. from_of s.frame.message ≡ book.me) book.sent

-- a run that has the steps of books in the settled order, and then their losses, is a settled run of these books
abbrev pub StepsMakeSettledRuns : Type 0
StepsMakeSettledRuns = (books : List BookState) (placed : List Placed) (moves : List Move)
    → IsCluster books → All HasHistory books → IsSettledOrder books placed
    → IsRun (length books) (start_of books) moves
    → map (λ move. move.step) moves ≡ settled_steps books placed → IsSettledRun books moves

-- the steps of books that fit together, in the settled order, and then their losses are a run
abbrev pub FittingBooksSettle : Type 0
FittingBooksSettle = (books : List BookState) (placed : List Placed)
    → IsCluster books → All HasHistory books → IsSettledOrder books placed
    → BooksFit books → WorldRun (length books) (start_of books) (settled_steps books placed)

-- If only frames came that were sent, the steps of the books, in the settled order and with copies, are a run. Each run
-- that has them is a settled run with copies.
pub record BooksSettleWithCopies : Type 0 where
  pub runs : (books : List BookState) (placed : List Placed) (all : List Step)
      → IsCluster books → All HasHistory books → IsSettledOrder books placed → (HasUnsent books → ⊥)
      → AreWithCopies placed all → WorldRun (length books) (start_of books) all
  pub settled : (books : List BookState) (placed : List Placed) (moves : List Move)
      → IsCluster books → All HasHistory books → IsSettledOrder books placed
      → IsRun (length books) (start_of books) moves → AreWithCopies placed (map (λ move. move.step) moves)
      → IsSettledRunWithCopies books moves

-- an entry has an Entered mark in a settled run of books exactly if the books say that it was granted
abbrev pub GrantsAreInTheBooks : Type 0
GrantsAreInTheBooks = (books : List BookState) (moves : List Move) (entry : Entry)
    → IsCluster books → All HasHistory books → IsSettledRun books moves
    → Contains (marks_of moves) (Entered entry) ↔ IsGranted books entry

-- ---- The parts of settling

-- why what came is refused
abbrev pub RefusesReceived : List BookState → SettleError → Type 0
RefusesReceived books NotSent = HasUnsent books
RefusesReceived books Twice = HasTwice books × (HasUnsent books → ⊥)
RefusesReceived books GrantMissing = ⊥
RefusesReceived books GrantTwice = ⊥
RefusesReceived books Memory = HasUnsent books → ⊥

-- why grants are refused, by the marks of a run
abbrev pub RefusesGrants : List Grant → List Mark → SettleError → Type 0
RefusesGrants grants marks NotSent = ⊥
RefusesGrants grants marks Twice = ⊥
RefusesGrants grants marks GrantMissing = Any (λ g. Contains marks (Entered g.entry) → ⊥) grants
RefusesGrants grants marks GrantTwice = Repeats grants × All (λ g. Contains marks (Entered g.entry)) grants
RefusesGrants grants marks Memory = Unit {0}

-- why grants are refused, as far as it depends on two of them being equal
abbrev pub RefusesRepeats : List Grant → SettleError → Type 0
RefusesRepeats grants NotSent = ⊥
RefusesRepeats grants Twice = ⊥
RefusesRepeats grants GrantMissing = ⊥
RefusesRepeats grants GrantTwice = Repeats grants
RefusesRepeats grants Memory = Unit {0}

-- these steps were run, with as many nodes as there are books, and this is the report
pub record HasRun (books : List BookState) (steps : List Step) (settled : Settled) : Type 0 where
  pub steps_are : settled.steps.items ≡ steps
  pub moves : List Move
  pub moves_are : map (λ move. move.step) moves ≡ steps
  pub run : IsRun (length books) (start_of books) moves
  pub reports : Reports (length books) (start_of books) moves settled.report
  pub main : MainTheorem (length books) settled.report

-- the books are settled: the steps are theirs in the settled order and then the losses, and the report is of a settled
-- run
pub record SettlesBooks (books : List BookState) (settled : Settled) : Type 0 where
  pub histories : All HasHistory books
  pub placed : List Placed
  pub order : IsSettledOrder books placed
  pub steps_are : settled.steps.items ≡ settled_steps books placed
  pub moves : List Move
  pub moves_are : map (λ move. move.step) moves ≡ settled.steps.items
  pub run : IsSettledRun books moves
  pub reports : Reports (length books) (start_of books) moves settled.report
  pub main : MainTheorem (length books) settled.report

-- the books are settled, with these grants
pub record Settles (books : List BookState) (grants : List Grant) (settled : Settled) : Type 0 where
  pub books_are : SettlesBooks books settled
  pub fit : BooksFit books
  pub granted : All (λ g. IsGranted books g.entry) grants
  pub once : AllPairs (λ a b. a ≢ b) grants

-- why books and grants do not settle
abbrev pub Refuses : List BookState → List Grant → SettleError → Type 0
Refuses books grants NotSent = HasUnsent books
Refuses books grants Twice = HasTwice books × (HasUnsent books → ⊥)
Refuses books grants GrantMissing = BooksFit books × Any (λ g. IsGranted books g.entry → ⊥) grants
Refuses books grants GrantTwice = BooksFit books × Repeats grants × All (λ g. IsGranted books g.entry) grants
Refuses books grants Memory = HasUnsent books → ⊥

-- ---- The parts of settling with copies

-- the set has the frames that come by these events
abbrev pub HasCome : BTreeSet FrameKey → List Placed → Type 0
HasCome set placed = HasKeys set (map (λ f. frame_key f) (frames_by placed))

-- the books are settled, with copies: the report is of a settled run with copies
pub record SettlesWithCopies (books : List BookState) (settled : Settled) : Type 0 where
  pub moves : List Move
  pub moves_are : map (λ move. move.step) moves ≡ settled.steps.items
  pub run : IsSettledRunWithCopies books moves
  pub reports : Reports (length books) (start_of books) moves settled.report
  pub main : MainTheorem (length books) settled.report
