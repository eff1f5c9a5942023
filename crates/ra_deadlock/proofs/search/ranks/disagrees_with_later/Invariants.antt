use Rattle.std.proofs.Common.{ℕ, ◌<◌, get_or}
use Rattle.ra_deadlock.specs.declared.search.ranks.Ranked.{Ranked}
use Rattle.ra_deadlock.specs.Ranks.{Agree}
use Rattle.ra_deadlock.proofs.search.ranks.disagrees_with_later.Given as goal

-- it agrees with those so far
abbrev pub invariant-loop-later : goal.invariant-loop-later
invariant-loop-later l = (j : ℕ) (d : Ranked) → l.place < j → j < l.later → Agree (get_or l.ranked l.place d) (get_or l.ranked j d)
