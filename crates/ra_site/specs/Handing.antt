-- What a site hands over: the events of its node since the ones before, and the frames that were lost since then.
use Rattle.std.specs.Prelude.{◌≡◌, ℕ, true, false, List, [], Result, IsErrOf}
use Rattle.ra_frame.specs.declared.frame.Frame.{Frame}
use Rattle.ra_book.specs.declared.book.event.BookEvent.{BookEvent}
use Rattle.ra_book.specs.History.{clock_of}
use Rattle.ra_book.specs.Book.{BookState, HasHistory}
use Rattle.ra_site.specs.declared.site.take_error.TakeError.{TakeError}
use Rattle.ra_site.specs.declared.site.take_error.TakeError.TheVariants.{NoNode, NotNext}
use Rattle.ra_site.specs.Losses.{lost_frames}
use Rattle.ra_site.specs.Sites.{SiteState}

-- This is all that is left of a book of this node with its history, after all up to an event with this clock was taken:
-- the events after that one, and the frames that they sent and that are flagged lost.
pub record IsAllLeft (book : BookState) (node after : ℕ) (events : List BookEvent) (lost : List Frame) : Type 0 where
  pub me : book.me ≡ node
  pub history : HasHistory book
  pub clock : clock_of book.taken.events ≡ after
  pub events_are : events ≡ book.events
  pub lost_are : lost ≡ lost_frames book.sent

-- some book of the node has just this left after that clock
abbrev pub IsLeftOfBook : ℕ → ℕ → List BookEvent → List Frame → Type 0
IsLeftOfBook node after events lost = (book : BookState) × IsAllLeft book node after events lost

-- What a site hands over after that clock: all that a book of its node has left if it is audited, and otherwise
-- nothing.
pub record IsHandedOver (site : SiteState) (after : ℕ) (events : List BookEvent) (lost : List Frame) : Type 0 where
  pub audited : site.audited ≡ true → IsLeftOfBook site.node after events lost
  pub unaudited : site.audited ≡ false → (events ≡ []) × (lost ≡ [])

-- if nothing is handed over, the cause is `OutOfTurn` or `Memory`, and no other one
abbrev pub OnlyTurnOrMemory : {T : Type 0} → Result T TakeError → Type 0
OnlyTurnOrMemory answer = (IsErrOf answer NoNode → ⊥) × (IsErrOf answer NotNext → ⊥)
