-- What a book says of its last event.
use Rattle.std.specs.Prelude.{◌≡◌, ℕ, List}
use Rattle.ra_stamp.specs.declared.entry.Mark.{Mark}
use Rattle.ra_frame.specs.declared.frame.Frame.{Frame}
use Rattle.ra_book.specs.declared.book.event.BookKind.{BookKind}
use Rattle.ra_book.specs.Book.{BookState, HasHistory, Adds}

-- a book of this node, with its history, whose last event is of this kind
pub record Recorder (node : ℕ) (kind : BookKind) : Type 0 where
  pub before : BookState
  pub book : BookState
  pub frames : List Frame
  pub marks : List Mark
  pub adds : Adds before kind frames marks book
  pub history : HasHistory book
  pub me_is : book.me ≡ node
