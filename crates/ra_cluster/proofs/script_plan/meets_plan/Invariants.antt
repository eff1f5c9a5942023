use Rattle.std.proofs.Common.{ℕ, ◌+◌, ◌<◌}
use Rattle.ra_cluster.specs.Plan.{IsFollowed}
use Rattle.ra_cluster.proofs.script_plan.meets_plan.Given as goal

-- the clients so far are followed
abbrev pub invariant-loop-place : goal.invariant-loop-place
invariant-loop-place l = (k : ℕ) → k < l.place → IsFollowed l.script (k + 1) l.marks
