use Rattle.std.specs.Prelude.{All, Contains}
use Rattle.ra_deadlock.proofs.search.requests_at.Given as goal

-- those that were found are requests of the list
abbrev pub invariant-loop-place : goal.invariant-loop-place
invariant-loop-place l = All (λ request. Contains l.requests request) l.found.items
