use Rattle.std.proofs.Common.{ℕ, ◌<◌}
use Rattle.ra_audit.specs.Audit.{IsAllInAt}
use Rattle.ra_audit.proofs.auditor.closing.first_not_all_in.Given as goal

-- all of the history of each book so far is in the run
abbrev pub invariant-loop-place : goal.invariant-loop-place
invariant-loop-place l = (i : ℕ) → i < l.place → IsAllInAt l.nodes l.books i
