use Rattle.std.proofs.Common.{take}
use Rattle.std.specs.Prelude.{All}
use Rattle.ra_book_text.specs.Texts.{IsBeside}
use Rattle.ra_book_text.proofs.text_settling.gathering.are_beside.Given as goal

-- the books so far are beside it
abbrev pub invariant-loop-book : goal.invariant-loop-book
invariant-loop-book l = All (IsBeside l.first.member.node l.first.member.nodes l.first.start) (take l.book-index l.books)
