use Rattle.std.proofs.Common.{ℕ, ◌<◌}
use Rattle.ra_schedule.specs.LockOrder.{NeverUnlocks}
use Rattle.ra_schedule.proofs.script.lock_order.unreleased_of.Given as goal

-- no place so far is one
abbrev pub invariant-loop-place : goal.invariant-loop-place
invariant-loop-place l = (k : ℕ) → k < l.place → NeverUnlocks l.ops k → ⊥
