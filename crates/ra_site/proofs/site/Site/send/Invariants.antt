-- All frames that are left fit, and there are fewer of them in each turn.
use Rattle.std.proofs.Common.{length}
use Rattle.std.specs.Prelude.{All}
use Rattle.ra_frame.specs.Fits.{Fits}
use Rattle.ra_site.proofs.site.Site.send.Given as goal

abbrev pub invariant-loop-refused : goal.invariant-loop-refused
invariant-loop-refused g l = All Fits l.left

abbrev pub decreases-loop-refused : goal.decreases-loop-refused
decreases-loop-refused g l = length l.left
