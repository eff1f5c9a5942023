use Rattle.std.proofs.Common.{take}
use Rattle.std.specs.Prelude.{All}
use Rattle.ra_book_text.specs.declared.next_line.book_version.BookVersion.TheVariants.{One}
use Rattle.ra_book_text.specs.BookText.{AllowsKind}
use Rattle.ra_book_text.proofs.book_writing.version_of.Given as goal

-- a book of version 1 can have each event so far
abbrev pub invariant-loop-event : goal.invariant-loop-event
invariant-loop-event l = All (λ event. AllowsKind One event.kind) (take l.event-index l.events)
