use Rattle.std.proofs.Common.{ℕ, List, Option, ◌+◌, ◌-◌, ◌≤◌}
use Rattle.ra_trace.specs.Along.{IsAlong}
use Rattle.ra_trace.proofs.checker.check_text.verdict_after.Given as goal

-- the lines so far are right, and there are no more of them than bytes
abbrev pub invariant-loop-next : goal.invariant-loop-next
invariant-loop-next g l = record {
  along : (old : Option (List ℕ)) → IsAlong l.fn.limit (l.fn.limit - l.fn.first) old (g.R.Read.remaining l.fn.reader) l.fn.checker 2
      → IsAlong l.fn.limit l.left old (g.R.Read.remaining l.reader) l.checker l.number;
  short : l.number + l.left ≤ l.fn.limit + 2;
}

abbrev pub decreases-loop-next : goal.decreases-loop-next
decreases-loop-next g l = l.left
