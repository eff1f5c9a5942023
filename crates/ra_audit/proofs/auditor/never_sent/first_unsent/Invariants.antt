use Rattle.std.specs.List.{AllWithin}
use Rattle.ra_audit.specs.Audit.{MayBePut}
use Rattle.ra_audit.proofs.auditor.never_sent.first_unsent.Given as goal

-- none so far was never sent
abbrev pub invariant-loop-place : goal.invariant-loop-place
invariant-loop-place l = AllWithin (MayBePut l.clocks l.nodes) l.nodes 0 l.place
