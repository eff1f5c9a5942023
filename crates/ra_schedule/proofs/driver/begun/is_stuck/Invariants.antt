use Rattle.std.proofs.Common.{ℕ, ◌<◌, slice_index_or}
use Rattle.std.specs.Prelude.{IsTrue}
use Rattle.ra_schedule.specs.declared.driver.client_progress.Progress.{Progress}
use Rattle.ra_schedule.proofs.driver.begun.is_stuck.Given as goal

-- none of those so far waits
abbrev pub invariant-loop-progress : goal.invariant-loop-progress
invariant-loop-progress l = (k : ℕ) (d : Progress) → k < l.progress-index → IsTrue (slice_index_or l.clients k d).waiting → ⊥
