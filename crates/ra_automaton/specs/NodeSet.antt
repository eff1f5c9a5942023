-- How words of 64 bits represent sets of nodes, and how a set and a list represent the deferred nodes and their
-- numbers. No public contract speaks of words.
use Rattle.std.specs.Prelude.{ℕ, ◌-◌, Bool, List, filter, length, map, ◌==◌, slice_index, refl}
use Rattle.std.specs.Coded.{Coded, code_by, coded×, coded_ℕ}
use Rattle.std.specs.Int.{bit_at}
use Rattle.std.specs.List.{range_with_len}
use Rattle.std.specs.Ordering.{nat_cmp}
use Rattle.std.specs.FinSet as set
use Rattle.std.specs.FinMap as finmap

-- the width of a word, which is unfolded only on demand, so that no proof goes through 64 cases
unfoldable pub bits_of_a_word : ℕ
bits_of_a_word = 64

-- whether the bit of a node is set: node i has bit i - 1
abbrev pub has_bit : ℕ → ℕ → Bool
has_bit word node = bit_at word (node - 1) == 1

-- the nodes whose bits are set, in ascending order
abbrev pub nodes_of : ℕ → List ℕ
nodes_of word = filter (has_bit word) (range_with_len 1 bits_of_a_word)

-- the nodes whose bits are set, as a set
abbrev pub set_of : ℕ → set.FinSet nat_cmp
set_of word = set.from_list (nodes_of word)

-- the nodes of a set, each with its number: the number of node i is at place i - 1 of the list
abbrev pub map_of : set.FinSet nat_cmp → List ℕ → finmap.FinMap nat_cmp ℕ
map_of nodes numbers =
    finmap.from_sorted (map (λ node. (node, slice_index numbers (node - 1)))
    (filter (λ node. set.contains nodes node) (range_with_len 1 (length numbers))))

-- the deferred nodes, each with the number of its request, and how many nodes there is room for
pub record Deferred : Type 0 where
  pub numbers : finmap.FinMap nat_cmp ℕ
  pub room : ℕ

-- nobody is deferred, and there is this much room
abbrev pub nobody_of : ℕ → Deferred
nobody_of room = record { numbers = finmap.empty; room = room }

-- they are stored as their fields
abbrev pub deferred_code : Coded Deferred
deferred_code =
    code_by
    (finmap.FinMap nat_cmp ℕ × ℕ)
    (coded× (finmap.code coded_ℕ coded_ℕ) coded_ℕ)
    (λ d. (d.numbers, d.room))
    (λ p. record { numbers = p.0; room = p.1 })
    (λ _. refl)
