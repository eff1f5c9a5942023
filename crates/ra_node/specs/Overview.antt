-- The lists that a node gives of what it has, in ascending order of the names by their bytes.
use Rattle.std.specs.Prelude.{◌≡◌, ◌↔◌, ℕ, List, map, Some, Contains, IsSome}
use Rattle.std.specs.List.Sorted.{IsStrictlySortedBy}
use Rattle.std.specs.Ordering.{nat_cmp}
use Rattle.std.specs.Cmp.Lexicographic.{slice_cmp}
use Rattle.std.specs.FinMap as finmap
use Rattle.ra_stamp.specs.declared.entry.Entry.{Entry}
use Rattle.ra_node.specs.Resource.{holder_of}
use Rattle.ra_node.specs.Node.{NodeState, resource_at}

-- these are the names that the node has met, and each is below the next one
pub record AreNames (node : NodeState) (names : List (List ℕ)) : Type 0 where
  pub each : (name : List ℕ) → Contains names name ↔ IsSome (finmap.get node.resources name)
  pub in_order : IsStrictlySortedBy (slice_cmp nat_cmp) names

-- these are the requests that are granted at the node, and the name of each is below that of the next one
pub record AreHeld (node : NodeState) (entries : List Entry) : Type 0 where
  pub each : (entry : Entry) → Contains entries entry ↔ (holder_of (resource_at node entry.name) ≡ Some entry)
  pub in_order : IsStrictlySortedBy (slice_cmp nat_cmp) (map (λ entry. entry.name) entries)
