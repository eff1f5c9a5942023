use Rattle.std.proofs.Common.{◌++◌, take, codes}
use Rattle.ra_book_text.specs.BookText.{first_text}
use Rattle.ra_book_text.specs.Written.{SaysEvents, version_for}
use Rattle.ra_book_text.proofs.book_writing.book_text.Given as goal

-- the draft is the first line, and the lines of the events so far
abbrev pub invariant-loop-event : goal.invariant-loop-event
invariant-loop-event l =
    SaysEvents l.text (first_text (version_for l.book.events) l.book.me l.book.nodes l.book.start ++ codes "\n") (take l.event-index l.book.events)
