-- Clients of any run that take names in ascending order. A client is known by its node and its number.
use Rattle.std.specs.Prelude.{◌≡◌, ◌⊎◌, ℕ, ◌≤◌, List, ◌∷◌, ◌++◌}
use Rattle.ra_stamp.specs.declared.entry.Entry.{Entry}
use Rattle.ra_stamp.specs.declared.mode.Mode.{Mode}
use Rattle.ra_node.specs.Resource.{Holds, IsBusy}
use Rattle.ra_node.specs.Node.{NodeState, resource_at}
use Rattle.ra_world.specs.declared.step.Step.TheVariants.{Ask}
use Rattle.ra_world.specs.Traffic.{Move}
use Rattle.ra_world.specs.Run.{EndsWith}
use Rattle.ra_schedule.specs.LockOrder.{IsBelow}

-- the client of this node holds the name
abbrev pub HoldsName : NodeState → ℕ → List ℕ → Type 0
HoldsName node client name = (entry : Entry) × Holds (resource_at node name) client entry

-- the client of this node waits for the name: it has asked for it, perhaps is only queued, and does not hold it
abbrev pub WaitsForName : NodeState → ℕ → List ℕ → Type 0
WaitsForName node client name = IsBusy (resource_at node name) client × (HoldsName node client name → ⊥)

-- the name is next in the order of this client: the client waits for nothing, and each name that it holds is below it
pub record IsInOrder (node : NodeState) (client : ℕ) (name : List ℕ) : Type 0 where
  pub free : (other : List ℕ) → WaitsForName node client other → ⊥
  pub ascends : (other : List ℕ) → HoldsName node client other → IsBelow other name

-- whenever a client asked for a name in these moves, the name was next in its order
abbrev pub TakeNamesInOrder : (n start : ℕ) → List Move → Type 0
TakeNamesInOrder n start moves =
    (before after : List Move) (ask : Move) (node client : ℕ) (name : List ℕ) (mode : Mode) (nodes : ℕ → NodeState)
    → moves ≡ before ++ ask ∷ after → ask.step ≡ Ask node client name mode → EndsWith n start before nodes
    → IsInOrder (nodes node) client name

-- some client can go on: it waits for nothing, and it holds this name or one above it
pub record SomeoneCanGoOn (n : ℕ) (nodes : ℕ → NodeState) (name : List ℕ) : Type 0 where
  pub node : ℕ
  pub within : (1 ≤ node) × (node ≤ n)
  pub client : ℕ
  pub held : List ℕ
  pub holds : HoldsName (nodes node) client held
  pub not_below : (held ≡ name) ⊎ IsBelow name held
  pub free : (other : List ℕ) → WaitsForName (nodes node) client other → ⊥

-- some client holds this name, and each client that holds it waits for nothing or for names above it
pub record IsHeldInOrder (n : ℕ) (nodes : ℕ → NodeState) (name : List ℕ) : Type 0 where
  pub node : ℕ
  pub within : (1 ≤ node) × (node ≤ n)
  pub client : ℕ
  pub holds : HoldsName (nodes node) client name
  pub ascends : (i holder : ℕ) (other : List ℕ) → (1 ≤ i) × (i ≤ n) → HoldsName (nodes i) holder name
      → WaitsForName (nodes i) holder other
      → IsBelow name other
