use Rattle.std.proofs.Common.{◌≡◌, []}
use Rattle.std.specs.List.{AllWithin}
use Rattle.ra_audit.proofs.AuditRounds.{TakesUpTo}
use Rattle.ra_audit.proofs.auditor.audit_round.take_all.Given as goal

-- more was taken from the nodes so far, and nothing of it is kept
abbrev pub invariant-loop-place : goal.invariant-loop-place
invariant-loop-place g l = record {
  up_to : TakesUpTo l.fn.auditor l.place l.auditor;
  kept : AllWithin (λ p. p.kept ≡ []) l.auditor.nodes 0 l.place;
}
