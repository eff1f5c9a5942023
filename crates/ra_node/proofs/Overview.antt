-- The names and the granted requests of a node's slots are the node's, in the order of the names.
use Rattle.std.proofs.Common.{◌≡◌, ◌↔◌, ◌⊎◌, ℕ, ◌+◌, true, false, List, [], ◌∷◌, map, Option, Some, None, Result, Ok, Err, IfOk, IsSome, refl, sym, ap, ◌∙◌, subst, arith, inl, inr}
use Rattle.std.specs.Prelude.{Contains, filter_map, get_or, unwrap_or, IsPermutation, IsSorted, IsSortedByKey}
use Rattle.std.specs.List.{cons_option, AllByRecursion, IsDistinct}
use Rattle.std.specs.List.Sorted.{IsStrictlySortedBy}
use Rattle.std.specs.Str.{bytes_eq}
use Rattle.std.specs.Map.{lookup, keys_of, values_of}
use Rattle.std.specs.HashMap.{HashMap, keys, values}
use Rattle.std.specs.declared.cmp.Ordering.TheVariants.{Less, Equal, Greater}
use Rattle.std.specs.Ordering.{nat_cmp, is_eq, is_lt, ordering_reverse}
use Rattle.std.specs.Cmp.Lexicographic.{slice_cmp, nat_list_cmp_total}
use Rattle.std.specs.FinMap as finmap
use Rattle.std.proofs.lemmas.Cmp.{nat_list_eq_equiv}
use Rattle.std.proofs.lemmas.Bool.{false≢true}
use Rattle.std.proofs.lemmas.List.{get_or-map, length-map}
use Rattle.std.proofs.lemmas.List.Elements.{Contains-append_left, Contains-append_right, Contains-append_cases, Contains-push, Contains-push_cases}
use Rattle.std.proofs.lemmas.List.Sorted.{IsPermutation-sym, IsPermutation-map, Contains-permutation}
use Rattle.std.proofs.lemmas.Map.Keys.{IsDistinct-IsPermutation, apart_from_distinct, sorted_from_all_adjacent}
use Rattle.std.proofs.lemmas.Map.Views.{lookup-from_Contains, Contains-from_lookup, Contains-keys_from_lookup, IsSome-lookup_from_Contains}
use Rattle.std.proofs.lemmas.Map.Made.{Contains-from_values_of, Contains-values_of}
use Rattle.std.proofs.lemmas.Map.Text.{is_eq-slice_cmp}
use Rattle.std.proofs.lemmas.Option.{none-some}
use Rattle.std.proofs.lemmas.Slice.Eq.{bytes_eq-Decides}
use Rattle.ra_stamp.specs.declared.entry.Entry.{Entry}
use Rattle.ra_stamp.specs.declared.mode.Mode.TheVariants.{Shared}
use Rattle.ra_automaton.specs.State.{State}
use Rattle.ra_automaton.specs.declared.phase.Phase.{Phase}
use Rattle.ra_automaton.specs.declared.phase.Phase.TheVariants.{Idle, Waiting, Inside}
use Rattle.ra_node.specs.Resource.{Resource, unmet, use_in, held_entry, holder_of}
use Rattle.ra_node.specs.Node.{NodeState, resource_at, IsConsistentNode}
use Rattle.ra_node.specs.View.{node_with}
use Rattle.ra_node.specs.Overview.{AreNames, AreHeld}
use Rattle.ra_node.proofs.Named.{get_slot}
use Rattle.ra_node.proofs.NodeLemmas.{found, slot_is_consistent}
use Rattle.ra_node.proofs.Uses.{some_is}

-- ---- Order

-- of two names that differ, the one that does not come later comes first
less : (a b : List ℕ) → is_lt (slice_cmp nat_cmp b a) ≡ false → bytes_eq a b ≡ false → slice_cmp nat_cmp a b ≡ Less
less a b later differ =
    elim (slice_cmp nat_cmp a b) as (λ r. slice_cmp nat_cmp a b ≡ r → r ≡ Less) [
      | Less ↦ λ _. refl
      | Equal ↦ λ is. absurd (false≢true (sym differ ∙ (sym (is_eq-slice_cmp a b) ∙ ap is_eq is)))
      | Greater ↦ λ is. absurd (false≢true (sym later ∙ ap is_lt (nat_list_cmp_total.antisymm b a ∙ ap ordering_reverse is)))
    ] refl

-- names that were sorted rise if no two are equal
rising : (names : List (List ℕ)) → IsSorted (slice_cmp nat_cmp) names → IsDistinct bytes_eq names → IsStrictlySortedBy (slice_cmp nat_cmp) names
rising names up distinct =
    sorted_from_all_adjacent nat_list_cmp_total names [] (λ k within.
    less (get_or names k []) (get_or names (k + 1) []) (up k [] (omega arith) within) (apart_from_distinct bytes_eq names k (k + 1) [] distinct (omega arith) within))

-- ---- The granted requests of resources

cons_cases : {X : Type 0} (x : X) (xs : List X) (y : X) → Contains (x ∷ xs) y → (x ≡ y) ⊎ Contains xs y
cons_cases x xs y c =
    elim (Contains-append_cases (x ∷ []) xs y c) [
      | inl here ↦ elim (Contains-push_cases [] x y here) [ inl none ↦ absurd (omega (arith, none.1)) | inr same ↦ inl same ]
      | inr there ↦ inr there
    ]

here_first : {X : Type 0} (x : X) (xs : List X) → Contains (x ∷ xs) x
here_first x xs = Contains-append_left (x ∷ []) xs x (Contains-push [] x)

later : {X : Type 0} (x : X) (xs : List X) (y : X) → Contains xs y → Contains (x ∷ xs) y
later x xs y c = Contains-append_right (x ∷ []) xs y c

-- one of them has this request
abbrev IsOfOne : List Resource → Entry → Type 0
IsOfOne rs e = (r : Resource) × Contains rs r × (holder_of r ≡ Some e)

from_granted : (rs : List Resource) (e : Entry) → Contains (filter_map holder_of rs) e → IsOfOne rs e
from_granted [] e c = absurd (omega (arith, c.1))
from_granted (r ∷ rs) e c = at (holder_of r) refl c (from_granted rs e)
  where
    goes_on : IsOfOne rs e → IsOfOne (r ∷ rs) e
    goes_on (q, among, is) = (q, later r rs q among, is)

    at : (o : Option Entry) → holder_of r ≡ o → Contains (cons_option o (filter_map holder_of rs)) e → (Contains (filter_map holder_of rs) e → IsOfOne rs e) → IsOfOne (r ∷ rs) e
    at None is c rest = goes_on (rest c)
    at (Some x) is c rest =
        elim (cons_cases x (filter_map holder_of rs) e c) [
          | inl same ↦ (r, here_first r rs, is ∙ ap (λ (y : Entry). Some y) same)
          | inr among ↦ goes_on (rest among)
        ]

after_one : (o : Option Entry) (es : List Entry) (e : Entry) → Contains es e → Contains (cons_option o es) e
after_one None es e c = c
after_one (Some x) es e c = later x es e c

to_granted : (rs : List Resource) (r : Resource) (e : Entry) → Contains rs r → holder_of r ≡ Some e → Contains (filter_map holder_of rs) e
to_granted [] r e c is = absurd (omega (arith, c.1))
to_granted (q ∷ rs) r e c is =
    elim (cons_cases q rs r c) [
      | inl same ↦ subst (λ (o : Option Entry). Contains (cons_option o (filter_map holder_of rs)) e) (sym (ap holder_of same ∙ is)) (here_first e (filter_map holder_of rs))
      | inr among ↦ after_one (holder_of q) (filter_map holder_of rs) e (to_granted rs r e among is)
    ]

-- a request that is granted is for the name of its resource
granted_name : (s : State) (phase : Phase) (client : Option ℕ) (e : Entry) → held_entry (use_in s phase client) ≡ Some e → e.name ≡ s.name
granted_name s Idle None e is = absurd (none-some e is)
granted_name s Idle (Some client) e is = absurd (none-some e is)
granted_name s (Waiting seq mode) None e is = absurd (none-some e is)
granted_name s (Waiting seq mode) (Some client) e is = absurd (none-some e is)
granted_name s (Inside seq mode) None e is = absurd (none-some e is)
granted_name s (Inside seq mode) (Some client) e is = sym (ap (λ (x : Entry). x.name) (some_is _ e is))

-- ---- The granted requests of slots

-- each slot's granted request is for the slot's name
abbrev AreNamed : List (List ℕ × Resource) → Type 0
AreNamed slots = (slot : List ℕ × Resource) → Contains slots slot → (e : Entry) → holder_of slot.1 ≡ Some e → e.name ≡ slot.0

abbrev names_granted : List Resource → List (List ℕ)
names_granted rs = map (λ (e : Entry). e.name) (filter_map holder_of rs)

abbrev Differ : List ℕ → List (List ℕ) → Type 0
Differ name names = AllByRecursion (λ (other : List ℕ). bytes_eq name other ≡ false) names

granted_differ : (name : List ℕ) (slots : List (List ℕ × Resource)) → AreNamed slots → Differ name (keys_of slots) → Differ name (names_granted (values_of slots))
granted_differ name [] named apart = tt
granted_differ name (slot ∷ slots) named apart =
    at (holder_of slot.1) refl (granted_differ name slots (λ other c. named other (later slot slots other c)) apart.1)
  where
    at : (o : Option Entry) → holder_of slot.1 ≡ o → Differ name (names_granted (values_of slots)) → Differ name (map (λ (e : Entry). e.name) (cons_option o (filter_map holder_of (values_of slots))))
    at None is rest = rest
    at (Some e) is rest = (ap (bytes_eq name) (named slot (here_first slot slots) e is) ∙ apart.0, rest)

granted_distinct : (slots : List (List ℕ × Resource)) → AreNamed slots → IsDistinct bytes_eq (keys_of slots) → IsDistinct bytes_eq (names_granted (values_of slots))
unfolding IsDistinct
granted_distinct [] named distinct = tt
granted_distinct (slot ∷ slots) named distinct =
    let named' : AreNamed slots = λ other c. named other (later slot slots other c) in
    at (holder_of slot.1) refl (granted_distinct slots named' distinct.1) (granted_differ slot.0 slots named' distinct.0)
  where
    at : (o : Option Entry) → holder_of slot.1 ≡ o → IsDistinct bytes_eq (names_granted (values_of slots)) → Differ slot.0 (names_granted (values_of slots))
        → IsDistinct bytes_eq (map (λ (e : Entry). e.name) (cons_option o (filter_map holder_of (values_of slots))))
    at None is rest differ = rest
    at (Some e) is rest differ = (subst (λ (name : List ℕ). Differ name (names_granted (values_of slots))) (sym (named slot (here_first slot slots) e is)) differ, rest)

-- requests that were sorted by their names have their names sorted
names_sorted : (entries : List Entry) → IsSortedByKey (λ (e : Entry). e.name) (slice_cmp nat_cmp) entries → IsSorted (slice_cmp nat_cmp) (map (λ (e : Entry). e.name) entries)
names_sorted entries up k d low within =
    let any : Entry = record { name = []; stamp = record { seq = 0; node = 0 }; client = 0; mode = Shared } in
    let count = length-map entries (λ (e : Entry). e.name) in
    let first = get_or-map (λ (e : Entry). e.name) entries k any d (omega (arith, within, count)) in
    let second = get_or-map (λ (e : Entry). e.name) entries (k + 1) any d (omega (arith, within, count)) in
    subst (λ (a : List ℕ). is_lt (slice_cmp nat_cmp a (get_or (map (λ (e : Entry). e.name) entries) k d)) ≡ false) (sym second)
    (subst (λ (b : List ℕ). is_lt (slice_cmp nat_cmp (get_or entries (k + 1) any).name b) ≡ false) (sym first) (up k any low (omega (arith, within, count))))

-- ---- Those of a node

module _ {S : Type 0} (me nodes start : ℕ) (slots : HashMap (List ℕ) Resource S) (now : NodeState) (is : node_with me nodes start slots.entries ≡ now) (unique : IsDistinct bytes_eq (keys slots)) where
  same : (a b : List ℕ) → bytes_eq a b ≡ true → a ≡ b
  same a b equal = (bytes_eq-Decides a b).0 equal

  slot_at : (name : List ℕ) → finmap.get now.resources name ≡ lookup (bytes_eq name) slots.entries
  slot_at name = sym (ap (λ (n : NodeState). finmap.get n.resources name) is) ∙ get_slot slots.entries name

  -- a slot is of this name exactly if the node has met it
  has_met : (name : List ℕ) → Contains (keys slots) name ↔ IsSome (finmap.get now.resources name)
  has_met name = (
    λ c. subst IsSome (sym (slot_at name)) (IsSome-lookup_from_Contains nat_list_eq_equiv name slots.entries c),
    λ met. Contains-keys_from_lookup same name slots.entries (subst IsSome (slot_at name) met),
  )

  pub names_are : {V E : Type 0} (items : V → List (List ℕ)) (result : Result V E) → IfOk result (λ v. IsPermutation (keys slots) (items v)) → IfOk result (λ v. IsSorted (slice_cmp nat_cmp) (items v)) → IfOk result (λ v. AreNames now (items v))
  names_are items (Ok v) all up =
      record {
        each = λ name. (
          λ c. (has_met name).0 (Contains-permutation (items v) (keys slots) name (IsPermutation-sym (keys slots) (items v) all) c),
          λ met. Contains-permutation (keys slots) (items v) name all ((has_met name).1 met),
        );
        in_order = rising (items v) up (IsDistinct-IsPermutation bytes_eq (λ a b. nat_list_eq_equiv.symm a b) (keys slots) (items v) all unique);
      }
  names_are items (Err e) all up = tt

  module _ (kept : IsConsistentNode (node_with me nodes start slots.entries)) where
    found_at : (slot : List ℕ × Resource) → Contains slots.entries slot → Some slot.1 ≡ lookup (bytes_eq slot.0) slots.entries
    found_at slot c = sym (lookup-from_Contains nat_list_eq_equiv slot.0 slot.1 slots.entries unique c)

    named : AreNamed slots.entries
    named slot c e granted =
        granted_name slot.1.state slot.1.state.phase slot.1.client e granted ∙ (slot_is_consistent me nodes start slots.entries now is slot.0 slot.1 kept (found_at slot c)).name_is

    -- a slot has this request as its granted one exactly if it is granted at the node
    granted_at : (e : Entry) → Contains (filter_map holder_of (values slots)) e ↔ (holder_of (resource_at now e.name) ≡ Some e)
    granted_at e = (there, back)
      where
        there : Contains (filter_map holder_of (values slots)) e → holder_of (resource_at now e.name) ≡ Some e
        there c =
            let one = from_granted (values slots) e c in
            let key = Contains-from_values_of slots.entries one.0 one.1 in
            let slot : List ℕ × Resource = (key.0, one.0) in
            let here = found me nodes start slots.entries now is key.0 one.0 (found_at slot key.1) in
            ap (λ (name : List ℕ). holder_of (resource_at now name)) (named slot key.1 e one.2) ∙ (sym (ap holder_of here) ∙ one.2)

        at : (o : Option Resource) → finmap.get now.resources e.name ≡ o → holder_of (unwrap_or o (unmet now.me now.nodes e.name now.start)) ≡ Some e → Contains (filter_map holder_of (values slots)) e
        at None got granted = absurd (none-some e granted)
        at (Some r) got granted =
            to_granted (values slots) r e (Contains-values_of slots.entries e.name r (Contains-from_lookup same e.name r slots.entries (sym (slot_at e.name) ∙ got))) granted

        back : holder_of (resource_at now e.name) ≡ Some e → Contains (filter_map holder_of (values slots)) e
        back granted = at (finmap.get now.resources e.name) refl granted

    pub held_are : {V E : Type 0} (items : V → List Entry) (result : Result V E) → IfOk result (λ v. IsPermutation (filter_map holder_of (values slots)) (items v)) → IfOk result (λ v. IsSortedByKey (λ (e : Entry). e.name) (slice_cmp nat_cmp) (items v))
        → IfOk result (λ v. AreHeld now (items v))
    held_are items (Ok v) all up =
        let granted = filter_map holder_of (values slots) in
        record {
          each = λ e. (
            λ c. (granted_at e).0 (Contains-permutation (items v) granted e (IsPermutation-sym granted (items v) all) c),
            λ here. Contains-permutation granted (items v) e all ((granted_at e).1 here),
          );
          in_order = rising (map (λ (x : Entry). x.name) (items v)) (names_sorted (items v) up)
              (IsDistinct-IsPermutation bytes_eq (λ a b. nat_list_eq_equiv.symm a b) (names_granted (values slots)) (map (λ (x : Entry). x.name) (items v)) (IsPermutation-map (λ (x : Entry). x.name) granted (items v) all) (granted_distinct slots.entries named unique));
        }
    held_are items (Err e) all up = tt
