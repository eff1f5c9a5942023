use Rattle.std.proofs.Common.{List}
use Rattle.ra_book.specs.Book.{BookState}
use Rattle.ra_book.specs.EventMerge.{IsHeadOfEarliest, AreNext, taken_of}
use Rattle.ra_book.proofs.settle_books.event_merge.first_head.Given as goal

-- the head of the earliest of the books so far
abbrev pub invariant-loop-place : goal.invariant-loop-place
invariant-loop-place l = (books : List BookState) → AreNext books l.nexts → IsHeadOfEarliest books (taken_of l.nexts) l.place l.first
