use Rattle.std.proofs.Common.{ℕ, ◌<◌, ◌≤◌, get_or}
use Rattle.ra_stamp.specs.declared.entry.Mark.{Mark}
use Rattle.ra_cluster.specs.Plan.{client_of_mark}
use Rattle.ra_cluster.proofs.script_plan.name_clients.Given as goal

-- each mark so far names one of the clients
abbrev pub invariant-loop-mark : goal.invariant-loop-mark
invariant-loop-mark l =
    (k : ℕ) (d : Mark) → k < l.mark-index → (1 ≤ client_of_mark (get_or l.marks k d)) × (client_of_mark (get_or l.marks k d) ≤ l.count)
