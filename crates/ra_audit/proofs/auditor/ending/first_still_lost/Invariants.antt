-- None of the books so far has a frame that is flagged lost.
use Rattle.std.proofs.Common.{◌≡◌, [], take}
use Rattle.ra_audit.specs.Audit.{still_lost}
use Rattle.ra_audit.proofs.auditor.ending.first_still_lost.Given as goal

abbrev pub invariant-loop-book : goal.invariant-loop-book
invariant-loop-book l = still_lost (take l.book-index l.books) ≡ []
