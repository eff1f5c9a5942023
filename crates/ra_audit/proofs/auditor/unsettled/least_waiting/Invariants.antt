use Rattle.std.proofs.Common.{take}
use Rattle.ra_audit.specs.AuditKeeping.{AreTaken, IsLeastOf}
use Rattle.ra_audit.proofs.auditor.unsettled.least_waiting.Given as goal

-- of the nodes so far
abbrev pub invariant-loop-progress : goal.invariant-loop-progress
invariant-loop-progress l = record {
  least : IsLeastOf (take l.progress-index l.nodes) l.least;
  taken : AreTaken (take l.progress-index l.nodes);
}
