use Rattle.std.proofs.Common.{◌≡◌, ◌≤◌, ◌*◌, ◌^◌, length, take}
use Rattle.std.specs.Prelude.{sum_by}
use Rattle.ra_audit.proofs.auditor.unsettled.waiting_at.Given as goal

-- how many wait at the nodes so far, at each fewer than 2^64
abbrev pub invariant-loop-progress : goal.invariant-loop-progress
invariant-loop-progress l = (l.waiting ≡ sum_by (λ p. length p.waiting) (take l.progress-index l.nodes)) × (l.waiting ≤ l.progress-index * 2 ^ 64)
