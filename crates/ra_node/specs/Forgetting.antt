-- How a node forgets names. It raises its highest numbers to one common number. A name that it keeps nothing of has
-- this number, too.
use Rattle.std.specs.Prelude.{◌≡◌, ◌⊎◌, ℕ, ◌<◌, ◌≤◌, max, List, []}
use Rattle.ra_automaton.specs.declared.phase.Phase.TheVariants.{Idle}
use Rattle.ra_automaton.specs.Steps.{greatest_number}
use Rattle.ra_node.specs.Resource.{Resource, clients_of}
use Rattle.ra_node.specs.Node.{NodeState, resource_at}

-- the resource after its highest number has risen to this one, if it was lower; the rest stays
abbrev pub raised : ℕ → Resource → Resource
raised number r = record r { state = record r.state { highest = max r.state.highest number } }

-- only the highest number of the resource need be kept: the node is idle, no client uses it or is queued, and a
-- number is left
pub record IsForgettable (r : Resource) : Type 0 where
  pub idle : r.state.phase ≡ Idle
  pub nobody : clients_of r ≡ []
  pub number_left : r.state.highest < greatest_number

-- The greatest of the node's start and its highest numbers, without those at 2^64-1. If all are at 2^64-1 it is 0, and
-- no number rises to it.
pub record IsCommonNumber (n : NodeState) (number : ℕ) : Type 0 where
  pub below : number < greatest_number
  pub start : n.start < greatest_number → n.start ≤ number
  pub each : (name : List ℕ) → (resource_at n name).state.highest < greatest_number
      → (resource_at n name).state.highest ≤ number
  pub is_one : (number ≡ 0) ⊎ ((n.start ≡ number) ⊎ ((name : List ℕ) × ((resource_at n name).state.highest ≡ number)))
