use Rattle.std.proofs.Common.{◌≡◌, map}
use Rattle.std.specs.List.{range_with_len}
use Rattle.ra_audit.specs.Audit.{fresh_progress}
use Rattle.ra_audit.proofs.auditor.none_taken.Given as goal

abbrev pub invariant-loop-place : goal.invariant-loop-place
invariant-loop-place l = l.progress.items ≡ map fresh_progress (range_with_len 1 l.place)
