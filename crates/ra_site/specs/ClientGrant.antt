-- What a client that waited is given.
use Rattle.std.specs.Prelude.{◌≡◌, ℕ, List, Contains}
use Rattle.ra_stamp.specs.declared.mode.Mode.{Mode}
use Rattle.ra_stamp.specs.declared.entry.Mark.{Mark}
use Rattle.ra_stamp.specs.declared.entry.Mark.TheVariants.{Entered}
use Rattle.ra_frame.specs.declared.frame.Frame.{Frame}
use Rattle.ra_book.specs.declared.book.event.BookKind.{BookKind}
use Rattle.ra_book.specs.declared.book.grant.Grant.{Grant}
use Rattle.ra_book.specs.Book.{BookState, HasHistory, Adds}

-- a grant of this name in this mode, to this client of this node
pub record IsGrantOf (node client : ℕ) (name : List ℕ) (mode : Mode) (grant : Grant) : Type 0 where
  pub node_is : grant.entry.stamp.node ≡ node
  pub client_is : grant.entry.client ≡ client
  pub name_is : grant.entry.name ≡ name
  pub mode_is : grant.entry.mode ≡ mode

-- the book has another event, which made the Entered mark of the grant
pub record Gives (old new : BookState) (grant : Grant) : Type 0 where
  pub kind : BookKind
  pub frames : List Frame
  pub marks : List Mark
  pub adds : Adds old kind frames marks new
  pub entered : Contains marks (Entered grant.entry)

-- a book, with its history, whose last event gave the grant
pub record Giver (grant : Grant) : Type 0 where
  pub before : BookState
  pub book : BookState
  pub gives : Gives before book grant
  pub history : HasHistory book

-- Some book gave the grant, which need not be the book of a site. No clause can name the book that is under the lock of
-- a site, since of what a lock guards only its type is known.
abbrev pub WasGiven : Grant → Type 0
WasGiven grant = ∥ Giver grant ∥₁
