-- The lock table of a run, seen from the nodes: which entries wait in it and which hold.
use Rattle.std.specs.Prelude.{◌≡◌, ◌↔◌, ℕ, ◌≤◌, List, All, Contains}
use Rattle.ra_stamp.specs.declared.entry.Entry.{Entry}
use Rattle.ra_node.specs.Resource.{use_of}
use Rattle.ra_node.specs.Resource.Use.{WaitsBy, HoldsBy}
use Rattle.ra_node.specs.Node.{NodeState, resource_at}
use Rattle.ra_table.specs.Table.{LockTable}

-- the entry is one of these, of this node and on this name
abbrev pub IsEntryAt : List Entry → ℕ → List ℕ → Entry → Type 0
IsEntryAt entries i name e = Contains entries e × (e.stamp.node ≡ i) × (e.name ≡ name)

-- the entry is of one of n nodes
abbrev pub IsOfNode : ℕ → Entry → Type 0
IsOfNode n e = (1 ≤ e.stamp.node) × (e.stamp.node ≤ n)

-- The table is what the nodes 1 to n say: no other node has an entry in it. On each name a node has at most one
-- request. If it waits, it is the node's waiting entry on this name, and if it is granted, it is the node's holding
-- one.
pub record IsTableOf (n : ℕ) (nodes : ℕ → NodeState) (table : LockTable) : Type 0 where
  pub waiting : (i : ℕ) (name : List ℕ) (e : Entry) → 1 ≤ i → i ≤ n
      → IsEntryAt table.waiting i name e ↔ (use_of (resource_at (nodes i) name) ≡ WaitsBy e)
  pub holding : (i : ℕ) (name : List ℕ) (e : Entry) → 1 ≤ i → i ≤ n
      → IsEntryAt table.holding i name e ↔ (use_of (resource_at (nodes i) name) ≡ HoldsBy e)
  pub waiting_nodes : All (IsOfNode n) table.waiting
  pub holding_nodes : All (IsOfNode n) table.holding
