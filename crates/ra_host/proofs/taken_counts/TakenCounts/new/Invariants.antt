use Rattle.std.proofs.Common.{◌≡◌, replicate}
use Rattle.ra_host.proofs.taken_counts.TakenCounts.new.Given as goal

-- a zero for each node so far
abbrev pub invariant-loop : goal.invariant-loop
invariant-loop l = l.counts.items ≡ replicate l.counter 0
