use Rattle.std.proofs.Common.{◌≤◌}
use Rattle.ra_schedule.specs.Script.{client_at}
use Rattle.ra_cluster.proofs.Planned.{SameLeft}
use Rattle.ra_cluster.proofs.script_plan.follows_ops.Given as goal

-- the marks so far are the marks of the operations before a place, which are no more than the marks
abbrev pub invariant-loop-mark : goal.invariant-loop-mark
invariant-loop-mark l = record {
  few : l.place ≤ l.mark-index;
  left : SameLeft l.node (client_at l.script l.client) l.client l.marks l.requested l.place l.mark-index;
}
