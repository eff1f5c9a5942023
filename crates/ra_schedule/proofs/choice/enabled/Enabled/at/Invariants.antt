use Rattle.std.proofs.Common.{◌≡◌, ◌+◌, drop, slice_get}
use Rattle.ra_schedule.specs.Enabled.{numbers_from}
use Rattle.ra_schedule.proofs.choice.enabled.Enabled.at.Given as goal

-- the one that is looked for is in the rest, after this many others
abbrev pub invariant-loop-place : goal.invariant-loop-place
invariant-loop-place l = slice_get (numbers_from 1 l.self.flags.items) l.number ≡ slice_get (numbers_from (l.place + 1) (drop l.place l.self.flags.items)) l.left
