use Rattle.ra_book.proofs.FrameSearch.{IsOf, NoneBefore}
use Rattle.ra_book.proofs.book.frame_search.place_of.Given as goal

-- it is not one of those so far
abbrev pub invariant-loop-place : goal.invariant-loop-place
invariant-loop-place l = NoneBefore (IsOf l.frame) l.sent l.place
