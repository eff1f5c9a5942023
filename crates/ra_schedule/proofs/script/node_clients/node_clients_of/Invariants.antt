use Rattle.std.proofs.Common.{◌≡◌, ◌+◌, ◌<◌, ℕ, List, Some, length, slice_index_or}
use Rattle.std.specs.Prelude.{Contains}
use Rattle.ra_schedule.specs.Script.{ScriptState}
use Rattle.ra_schedule.specs.Enabled.{node_of}
use Rattle.ra_schedule.proofs.script.node_clients.node_clients_of.Given as goal

-- the clients of the nodes so far
pub record SoFar (script : ScriptState) (place : ℕ) (node_clients : List (List ℕ)) : Type 0 where
  pub length_is : length node_clients ≡ place
  pub each : (client k : ℕ) (d : List ℕ) → k < place → node_of script client ≡ Some (k + 1) → Contains (slice_index_or node_clients k d) client

abbrev pub invariant-loop-place : goal.invariant-loop-place
invariant-loop-place l = SoFar l.script l.place l.node_clients.items
