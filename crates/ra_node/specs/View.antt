-- The slots of a node, one for each name that it has met, as the map from names to resources. No public contract speaks
-- of slots.
use Rattle.std.specs.Prelude.{◌≡◌, ℕ, ◌/◌, ◌^◌, max, nat_lt, Bool, true, false, ◌&&◌, List, [], ◌∷◌, cond, Option, Some, None, length, sum_by}
use Rattle.std.specs.Str.{bytes_eq}
use Rattle.std.specs.Map.{lookup}
use Rattle.std.specs.FinMap as finmap
use Rattle.ra_automaton.specs.declared.phase.Phase.{Phase}
use Rattle.ra_automaton.specs.declared.phase.Phase.TheVariants as phase
use Rattle.ra_automaton.specs.Steps.{greatest_number}
use Rattle.ra_node.specs.declared.queued_client.Queued.{Queued}
use Rattle.ra_node.specs.Resource.{Resource}
use Rattle.ra_node.specs.Forgetting.{raised}
use Rattle.ra_node.specs.Node.{NodeState, waiting_count, queued_count, IsConsistentNode}
use Rattle.ra_node.specs.declared.node.Node.TheInside.{Inside}

-- the node with this number, count of nodes and start value, and with these slots as its resources
abbrev pub node_with : ℕ → ℕ → ℕ → List (List ℕ × Resource) → NodeState
node_with me nodes start slots = record { me = me; nodes = nodes; start = start; resources = finmap.from_entries slots }

-- the node that these fields represent
abbrev pub node_of : Inside → NodeState
node_of n = node_with n.member.node n.member.nodes n.start n.slots.entries

-- a look-up among the new slots finds the new resource at the name, and at all other names what it found before
abbrev pub Finds : List (List ℕ × Resource) → List (List ℕ × Resource) → List ℕ → Resource → Type 0
Finds slots slots' name new =
    (q : List ℕ) → lookup (bytes_eq q) slots' ≡ cond (bytes_eq name q) (Some new) (lookup (bytes_eq q) slots)

-- 0 exactly if each queue is shorter than 2^64, as each queue in memory is, so that their total has room in 128 bits.
-- It is a sum, as the two totals are, so that the same lemmas keep all three when a slot changes.
abbrev pub excess_of : NodeState → ℕ
excess_of n = sum_by (λ e. length e.1.queue / 2 ^ 64) (finmap.entries n.resources)

-- ---- Forgetting

-- the number, or 0 if it is 2^64-1, which does not count
abbrev pub if_counted : ℕ → ℕ
if_counted number = cond (nat_lt number greatest_number) number 0

-- the greatest of this number and of the highest numbers of these resources that count
abbrev pub greatest_of : ℕ → List Resource → ℕ
greatest_of number [] = number
greatest_of number (r ∷ rs) = greatest_of (max number (if_counted r.state.highest)) rs

abbrev pub is_idle : Phase → Bool
is_idle phase.Idle = true
is_idle (phase.Waiting seq mode) = false
is_idle (phase.Inside seq mode) = false

abbrev pub is_nobody : Option ℕ → Bool
is_nobody None = true
is_nobody (Some client) = false

abbrev pub is_nothing : List Queued → Bool
is_nothing [] = true
is_nothing (q ∷ qs) = false

-- whether only the highest number of the resource need be kept
abbrev pub is_forgettable : Resource → Bool
is_forgettable r =
    is_idle r.state.phase && (is_nobody r.client && (is_nothing r.queue && nat_lt r.state.highest greatest_number))

-- the slots of the names that are kept
abbrev pub forgotten : ℕ → List (List ℕ × Resource) → List (List ℕ × Resource)
forgotten number [] = []
forgotten number (e ∷ es) =
    cond (is_forgettable e.1) (forgotten number es) ((e.0, raised number e.1) ∷ forgotten number es)

-- what holds of the fields: the node is consistent, and the totals are the sums over all names
pub record IsKept (n : Inside) : Type 0 where
  pub consistent : IsConsistentNode (node_of n)
  pub waiting : n.waiting ≡ waiting_count (node_of n)
  pub queued : n.queued ≡ queued_count (node_of n)
  pub counted : excess_of (node_of n) ≡ 0
