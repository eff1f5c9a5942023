use Rattle.ra_book.proofs.CopiesBack.{AreDone}
use Rattle.ra_book.proofs.settle_books.copies.steps_back.Given as goal

-- this many of the last events are done
abbrev pub invariant-loop-turn : goal.invariant-loop-turn
invariant-loop-turn l = AreDone l.events l.turn l.later l.back.items
