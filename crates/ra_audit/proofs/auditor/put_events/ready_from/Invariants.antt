use Rattle.std.specs.List.{AllWithin}
use Rattle.ra_audit.specs.Audit.{IsReady}
use Rattle.ra_audit.proofs.auditor.put_events.ready_from.Given as goal

-- none so far is ready
abbrev pub invariant-loop-place : goal.invariant-loop-place
invariant-loop-place l = AllWithin (λ p. IsReady l.nodes p → ⊥) l.nodes l.start l.place
