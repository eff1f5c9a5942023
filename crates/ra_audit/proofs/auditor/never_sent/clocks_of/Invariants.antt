use Rattle.std.proofs.Common.{◌≡◌, take}
use Rattle.ra_audit.specs.Audit.{clocks_taken}
use Rattle.ra_audit.proofs.auditor.never_sent.clocks_of.Given as goal

-- the clocks of the nodes so far
abbrev pub invariant-loop-progress : goal.invariant-loop-progress
invariant-loop-progress l = l.clocks.items ≡ clocks_taken (take l.progress-index l.nodes)
