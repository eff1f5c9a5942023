use Rattle.std.proofs.Common.{◌≡◌, ℕ, ◌<◌, ◌+◌, Some, length, slice_index_or}
use Rattle.std.specs.Prelude.{option_map}
use Rattle.ra_schedule.specs.declared.driver.client_progress.Progress.{Progress}
use Rattle.ra_schedule.specs.Script.{client_at}
use Rattle.ra_schedule.proofs.driver.drive_script.is_finished.Given as goal

-- the clients so far are done
abbrev pub invariant-loop-place : goal.invariant-loop-place
invariant-loop-place l = (k : ℕ) (d : Progress) → k < l.place
    → option_map (λ who. length who.ops) (client_at l.script (k + 1)) ≡ Some (slice_index_or l.clients k d).done
