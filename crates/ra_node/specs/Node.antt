-- A node: its resources by their names.
use Rattle.std.specs.Prelude.{ℕ, ◌≤◌, List, unwrap_or, length, sum_by, refl}
use Rattle.std.specs.Coded.{Coded, code_by, coded×, coded_ℕ, coded_list}
use Rattle.std.specs.Ordering.{nat_cmp}
use Rattle.std.specs.Cmp.Lexicographic.{slice_cmp}
use Rattle.std.specs.FinMap as map
use Rattle.ra_stamp.specs.NodeId.{IsNodeNumber}
use Rattle.ra_node.specs.Resource.{Resource, unmet, waiting_at, clients_of, IsConsistentResource}

-- the node's number, how many nodes there are, the highest number with which each resource starts, and the resources
-- that a client has asked for or a REQUEST has named
pub record NodeState : Type 0 where
  pub me : ℕ
  pub nodes : ℕ
  pub start : ℕ
  pub resources : map.FinMap (slice_cmp nat_cmp) Resource

-- a node that has met nothing yet
abbrev pub opening_node : ℕ → ℕ → ℕ → NodeState
opening_node me nodes start = record { me = me; nodes = nodes; start = start; resources = map.empty }

-- the resource of a name; one that is not in the map is idle, with the start value as its highest number, and has no
-- queue
abbrev pub resource_at : NodeState → List ℕ → Resource
resource_at n name = unwrap_or (map.get n.resources name) (unmet n.me n.nodes name n.start)

-- the node with this resource under this name
abbrev pub with_resource : NodeState → List ℕ → Resource → NodeState
with_resource n name r = record n { resources = map.insert n.resources name r }

-- how many requests wait for their REPLYs, over all names
abbrev pub waiting_count : NodeState → ℕ
waiting_count n = sum_by (λ e. waiting_at e.1) (map.entries n.resources)

-- how many clients are queued, over all names
abbrev pub queued_count : NodeState → ℕ
queued_count n = sum_by (λ e. length e.1.queue) (map.entries n.resources)

-- how many clients wait, are queued or hold, over all names
abbrev pub clients_count : NodeState → ℕ
clients_count n = sum_by (λ e. length (clients_of e.1)) (map.entries n.resources)

-- what holds of every node: there are 1 to 64 nodes, it is one of them, and each of its resources is consistent
pub record IsConsistentNode (n : NodeState) : Type 0 where
  pub count : IsNodeNumber n.nodes
  pub member : (1 ≤ n.me) × (n.me ≤ n.nodes)
  pub each : (name : List ℕ) → IsConsistentResource n.me n.nodes name n.start (resource_at n name)

-- a node is stored as its fields
abbrev pub node_code : Coded Resource → Coded NodeState
node_code resource =
    code_by
    (ℕ × (ℕ × (ℕ × map.FinMap (slice_cmp nat_cmp) Resource)))
    (coded× coded_ℕ (coded× coded_ℕ (coded× coded_ℕ (map.code (coded_list coded_ℕ) resource))))
    (λ n. (n.me, (n.nodes, (n.start, n.resources))))
    (λ p. record { me = p.0; nodes = p.1.0; start = p.1.1.0; resources = p.1.1.1 })
    (λ _. refl)
