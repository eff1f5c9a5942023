use Rattle.std.proofs.Common.{◌≡◌, ◌+◌, ◌<◌, ℕ, Some}
use Rattle.std.specs.Prelude.{Contains}
use Rattle.ra_schedule.specs.Enabled.{node_of}
use Rattle.ra_schedule.proofs.script.node_clients.clients_of_node.Given as goal

-- the clients so far that are at the node
abbrev pub invariant-loop-place : goal.invariant-loop-place
invariant-loop-place l = (k : ℕ) → k < l.place → node_of l.script (k + 1) ≡ Some l.node → Contains l.members.items (k + 1)
