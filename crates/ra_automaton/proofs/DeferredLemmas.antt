-- Sets of nodes with numbers as maps from nodes.
use Rattle.std.proofs.Common.{◌≡◌, ◌≢◌, ◌⊎◌, ℕ, ◌+◌, ◌-◌, ◌<◌, ◌≤◌, Bool, true, false, cond, ◌||◌, List, length, get_or, set, map, filter, Option, Some, None, refl, sym, ap, ◌∙◌, arith, inl, inr}
use Rattle.std.specs.List.{range_with_len}
use Rattle.std.specs.Ordering.{nat_cmp, eq_by_cmp}
use Rattle.std.specs.Cmp.{nat_cmp_total}
use Rattle.std.specs.FinSet as finset
use Rattle.std.specs.FinMap as finmap
use Rattle.std.specs.FinMap.{nat_cmp-IsAntisymmetric}
use Rattle.std.proofs.lemmas.Bool.{cases_lt}
use Rattle.std.proofs.lemmas.List.{get_or-set_same, get_or-set_other, length-set}
use Rattle.ra_automaton.specs.NodeSet.{map_of}
use Rattle.ra_automaton.proofs.Apart.{tied, untied, cases_same}
use Rattle.ra_automaton.proofs.Ranges.{found_inside, found_outside, sorted}

-- each node of a set has one of this many places
abbrev pub HavePlaces : finset.FinSet nat_cmp → ℕ → Type 0
HavePlaces nodes room = (q : ℕ) → finset.contains nodes q ≡ true → (1 ≤ q) × (q ≤ room)

cases_place : (room q : ℕ) → ((q < 1) ⊎ (1 + room ≤ q)) ⊎ ((1 ≤ q) × (q < 1 + room))
cases_place room q =
    elim (cases_lt q 1) [
      | inl zeroth ↦ inl (inl zeroth)
      | inr low ↦ elim (cases_lt q (1 + room)) [
        | inl high ↦ inr (low, high)
        | inr past ↦ inl (inr past)
      ]
    ]

-- what has no place is not in
absent : (nodes : finset.FinSet nat_cmp) (room q : ℕ) → HavePlaces nodes room → (q < 1) ⊎ (1 + room ≤ q) → finset.contains nodes q ≡ false
absent nodes room q within out = no_bit (finset.contains nodes q) (λ there. without (within q there))
  where
    no_bit : (b : Bool) → (b ≡ true → ⊥) → b ≡ false
    no_bit true h = absurd (h refl)
    no_bit false h = refl

    without : (1 ≤ q) × (q ≤ room) → ⊥
    without place = elim out [ inl before ↦ omega (arith, place.0) | inr past ↦ omega (arith, place.1) ]

-- a node that is in has the number at its place
pub get-map_of : (nodes : finset.FinSet nat_cmp) (numbers : List ℕ) (q : ℕ) → HavePlaces nodes (length numbers)
    → finmap.get (map_of nodes numbers) q ≡ cond (finset.contains nodes q) (Some (get_or numbers (q - 1) 0)) None
get-map_of nodes numbers q within =
    let p = λ (node : ℕ). finset.contains nodes node in
    let v = λ (node : ℕ). get_or numbers (node - 1) 0 in
    let room = length numbers in
    finmap.get-from_sorted nat_cmp (map (λ node. (node, v node)) (filter p (range_with_len 1 room))) q (sorted p v 1 room)
    ∙ elim (cases_place room q) [
      | inl out ↦ found_outside p v 1 room q out ∙ ap (λ b. cond b (Some (v q)) None) (sym (absent nodes room q within out))
      | inr inside ↦ found_inside p v 1 room q inside.0 inside.1
    ]

pub entries-map_of : (nodes : finset.FinSet nat_cmp) (numbers : List ℕ)
    → finmap.entries (map_of nodes numbers) ≡ map (λ node. (node, get_or numbers (node - 1) 0)) (filter (λ node. finset.contains nodes node) (range_with_len 1 (length numbers)))
entries-map_of nodes numbers =
    let p = λ (node : ℕ). finset.contains nodes node in
    let v = λ (node : ℕ). get_or numbers (node - 1) 0 in
    finmap.entries-from_sorted nat_cmp (map (λ node. (node, v node)) (filter p (range_with_len 1 (length numbers)))) (sorted p v 1 (length numbers))

-- nobody has a place
pub none_within : (nodes : finset.FinSet nat_cmp) (room : ℕ) → nodes ≡ finset.empty → HavePlaces nodes room
none_within nodes room none q there =
    absurd (false_true (sym (ap (λ (s : finset.FinSet nat_cmp). finset.contains s q) none ∙ finset.contains-empty nat_cmp q) ∙ there))
  where
    false_true : false ≡ true → ⊥
    false_true e = cc

pub map_of-empty : (nodes : finset.FinSet nat_cmp) (numbers : List ℕ) → nodes ≡ finset.empty → map_of nodes numbers ≡ finmap.empty
map_of-empty nodes numbers none =
    finmap.same_map nat_cmp_total nat_cmp-IsAntisymmetric _ _ (λ q.
    get-map_of nodes numbers q (none_within nodes (length numbers) none)
    ∙ (ap (λ b. cond b (Some (get_or numbers (q - 1) 0)) None) (ap (λ (s : finset.FinSet nat_cmp). finset.contains s q) none ∙ finset.contains-empty nat_cmp q)
    ∙ sym (finmap.get-empty nat_cmp q)))

-- a node that was put in has a place, if each other one has
pub insert_within : (nodes : finset.FinSet nat_cmp) (node room : ℕ) → 1 ≤ node → node ≤ room → HavePlaces nodes room → HavePlaces (finset.insert nodes node) room
insert_within nodes node room low high within q there =
    elim (cases_same q node) [
      | inl same ↦ (omega (arith, same, low), omega (arith, same, high))
      | inr apart ↦ within q (sym (finset.contains-insert nat_cmp_total nodes node q ∙ ap (λ b. b || finset.contains nodes q) (untied q node apart)) ∙ there)
    ]

-- to write a node's number and put the node in is to give it the number
pub map_of-insert : (nodes : finset.FinSet nat_cmp) (numbers : List ℕ) (node number : ℕ) → 1 ≤ node → node ≤ length numbers → HavePlaces nodes (length numbers)
    → map_of (finset.insert nodes node) (set numbers (node - 1) number) ≡ finmap.insert (map_of nodes numbers) node number
map_of-insert nodes numbers node number low high within =
    finmap.same_map nat_cmp_total nat_cmp-IsAntisymmetric _ _ (λ q.
    get-map_of (finset.insert nodes node) (set numbers (node - 1) number) q (rw (length-set numbers (node - 1) number) (insert_within nodes node (length numbers) low high within))
    ∙ (ap (λ b. cond b (Some (get_or (set numbers (node - 1) number) (q - 1) 0)) None) (finset.contains-insert nat_cmp_total nodes node q)
    ∙ (filled q
    ∙ sym (finmap.get-insert nat_cmp_total (map_of nodes numbers) node number q ∙ ap (λ (o : Option ℕ). cond (eq_by_cmp nat_cmp q node) (Some number) o) (get-map_of nodes numbers q within)))))
  where
    kept : (q : ℕ) → q ≢ node → cond (finset.contains nodes q) (Some (get_or (set numbers (node - 1) number) (q - 1) 0)) None ≡ cond (finset.contains nodes q) (Some (get_or numbers (q - 1) 0)) None
    kept q apart =
        elim (cases_lt q 1) [
          | inl zeroth ↦ rw (absent nodes (length numbers) q within (inl zeroth)) refl
          | inr from ↦
              let other : q - 1 ≢ node - 1 = λ e. apart (omega arith) in
              ap (λ (n : ℕ). cond (finset.contains nodes q) (Some n) None) (get_or-set_other numbers (node - 1) (q - 1) number 0 other)
        ]

    filled : (q : ℕ) → cond (eq_by_cmp nat_cmp q node || finset.contains nodes q) (Some (get_or (set numbers (node - 1) number) (q - 1) 0)) None
        ≡ cond (eq_by_cmp nat_cmp q node) (Some number) (cond (finset.contains nodes q) (Some (get_or numbers (q - 1) 0)) None)
    filled q =
        elim (cases_same q node) [
          | inl same ↦ rw (tied q node same) (ap (λ (i : ℕ). Some (get_or (set numbers (node - 1) number) (i - 1) 0)) same ∙ ap (λ (n : ℕ). Some n) (get_or-set_same numbers (node - 1) number 0 (omega arith)))
          | inr apart ↦ rw (untied q node apart) (kept q apart)
        ]
