use Rattle.ra_book.proofs.FrameSearch.{IsKeptOf, NoneBefore}
use Rattle.ra_book.proofs.book.frame_search.is_kept.Given as goal

-- it is not one of those so far
abbrev pub invariant-loop-place : goal.invariant-loop-place
invariant-loop-place l = NoneBefore (IsKeptOf l.frame) l.sent l.place
