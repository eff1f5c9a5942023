use Rattle.std.proofs.Common.{◌≡◌, take}
use Rattle.ra_site.specs.Losses.{lost_frames}
use Rattle.ra_site.proofs.site.refused_frames.lost_of.Given as goal

-- the lost ones of the frames so far
abbrev pub invariant-loop-place : goal.invariant-loop-place
invariant-loop-place l = l.lost.items ≡ lost_frames (take l.place l.book.sent)
