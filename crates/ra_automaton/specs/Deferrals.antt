-- The deferrals that a set and a list represent. No public contract speaks of the list.
use Rattle.std.specs.Prelude.{ℕ, ◌≤◌, IsTrue, length}
use Rattle.std.specs.FinSet as set
use Rattle.ra_automaton.specs.declared.deferrals.Deferrals.TheInside.{Inside}
use Rattle.ra_automaton.specs.NodeSet.{Deferred, map_of}

-- the deferred nodes have their numbers in the list, and there is room for as many nodes as there are numbers
abbrev pub deferred_of : Inside → Deferred
deferred_of d = record { numbers = map_of d.nodes d.numbers.items; room = length d.numbers.items }

-- each deferred node has a number in the list, which has at most 64
pub record IsKeptDeferred (d : Inside) : Type 0 where
  pub few : length d.numbers.items ≤ 64
  pub within : (node : ℕ) → IsTrue (set.contains d.nodes node) → (1 ≤ node) × (node ≤ length d.numbers.items)
