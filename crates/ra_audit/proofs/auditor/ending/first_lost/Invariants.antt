-- None of the frames so far is flagged lost.
use Rattle.std.proofs.Common.{◌≡◌, [], take}
use Rattle.ra_site.specs.Losses.{lost_frames}
use Rattle.ra_audit.proofs.auditor.ending.first_lost.Given as goal

abbrev pub invariant-loop-place : goal.invariant-loop-place
invariant-loop-place l = lost_frames (take l.place l.book.sent) ≡ []
