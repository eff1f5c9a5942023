-- For which cause all nodes are stopped after a call of a site was refused.
use Rattle.std.specs.Prelude.{Option, Some, None}
use Rattle.ra_book.specs.declared.error.BookError.{BookError}
use Rattle.ra_book.specs.declared.error.BookError.TheVariants as book
use Rattle.ra_site.specs.declared.site.SiteError.{SiteError}
use Rattle.ra_site.specs.declared.site.SiteError.TheVariants.{Refused, Stopped, Cancelled}
use Rattle.ra_book.specs.declared.book.stop.Stop.{Stop}
use Rattle.ra_book.specs.declared.book.stop.Stop.TheVariants as stop

-- The cause to stop all nodes after a book's refusal, or None if the book has a fault already. A refusal
-- that no thread of a cluster should meet is Refused.
abbrev pub stop_after_refusal : BookError → Option Stop
stop_after_refusal book.Failed = None
stop_after_refusal (book.Frame fault) = Some stop.Frame
stop_after_refusal book.Busy = Some stop.Refused
stop_after_refusal book.Exhausted = Some stop.Exhausted
stop_after_refusal book.NotHeld = Some stop.Refused
stop_after_refusal book.NotWaiting = Some stop.Refused
stop_after_refusal book.WrongNode = Some stop.Refused
stop_after_refusal book.Stranger = Some stop.Refused
stop_after_refusal book.ClockFull = Some stop.Clock
stop_after_refusal book.Memory = Some stop.Memory

-- the cause to stop all nodes after this refusal, or None if the site's node was stopped before, or the client gave up
abbrev pub stop_of : SiteError → Option Stop
stop_of (Refused refusal) = stop_after_refusal refusal
stop_of (Stopped cause) = None
stop_of Cancelled = None
