use Rattle.std.proofs.Common.{◌≡◌, take}
use Rattle.std.specs.Prelude.{map}
use Rattle.ra_deadlock.proofs.search.ranks.ranked_of.Given as goal

abbrev pub invariant-loop-place : goal.invariant-loop-place
invariant-loop-place l = map (λ it. it.request) l.ranked.items ≡ take l.place l.requests
