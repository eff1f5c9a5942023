-- What the slots of a node are as a map from names to resources.
use Rattle.std.proofs.Common.{◌≡◌, ℕ, ◌+◌, false, cond, List, [], ◌∷◌, length, Some, None, refl, sym, ap, ◌∙◌, arith}
use Rattle.std.specs.Prelude.{sum_by}
use Rattle.std.specs.Str.{bytes_eq}
use Rattle.std.specs.List.{AllByRecursion, IsDistinct}
use Rattle.std.specs.Map.{lookup, keys_of}
use Rattle.std.specs.declared.cmp.Ordering.{Ordering}
use Rattle.std.specs.declared.cmp.Ordering.TheVariants.{Less, Equal, Greater}
use Rattle.std.specs.Ordering.{nat_cmp, is_eq}
use Rattle.std.specs.Cmp.Lexicographic.{slice_cmp, nat_list_cmp_total}
use Rattle.std.specs.FinMap as finmap
use Rattle.std.specs.FinMap.Entries.{by_order, put, find}
use Rattle.std.proofs.lemmas.Cmp.{nat_list_eq_equiv}
use Rattle.std.proofs.lemmas.Map.Text.{is_eq-slice_cmp}
use Rattle.std.proofs.lemmas.Option.{none-some}
use Rattle.std.proofs.lemmas.List.Sums.{sum_by-cons}
use Rattle.ra_node.specs.Resource.{Resource}

abbrev cmp : List ℕ → List ℕ → Ordering
cmp = slice_cmp nat_cmp

pub same_names : finmap.IsAntisymmetric cmp
same_names = finmap.slice_cmp-IsAntisymmetric finmap.nat_cmp-IsAntisymmetric

-- ---- Looking a name up

found_alike : (slots : List (List ℕ × Resource)) (name : List ℕ) → find cmp name slots ≡ lookup (bytes_eq name) slots
found_alike [] name = refl
found_alike (e ∷ es) name = λ i. cond (is_eq-slice_cmp name e.0 i) (Some e.1) (found_alike es name i)

-- the map has at a name what a look-up among the slots finds
pub get_slot : (slots : List (List ℕ × Resource)) (name : List ℕ) → finmap.get (finmap.from_entries {R = cmp} slots) name ≡ lookup (bytes_eq name) slots
get_slot slots name = finmap.get-from_entries nat_list_cmp_total slots name ∙ found_alike slots name

-- ---- Another slot for a name

-- slots in which a look-up finds this resource at a name, and at all others what it found before
pub updated : (slots slots' : List (List ℕ × Resource)) (name : List ℕ) (new : Resource) → ((q : List ℕ) → lookup (bytes_eq q) slots' ≡ cond (bytes_eq name q) (Some new) (lookup (bytes_eq q) slots))
    → finmap.from_entries {R = cmp} slots' ≡ finmap.insert (finmap.from_entries slots) name new
updated slots slots' name new finds =
    finmap.same_map nat_list_cmp_total same_names _ _ (λ q.
    get_slot slots' q
    ∙ finds q
    ∙ sym (finmap.get-insert nat_list_cmp_total (finmap.from_entries slots) name new q
    ∙ (λ i. cond ((is_eq-slice_cmp q name ∙ nat_list_eq_equiv.symm q name) i) (Some new) (get_slot slots q i))))

-- ---- Sums over all names

sum_by-put : (f : List ℕ × Resource → ℕ) (alike : (a b : List ℕ) (r : Resource) → f (a, r) ≡ f (b, r)) (k : List ℕ) (v : Resource) (es : List (List ℕ × Resource)) → find cmp k es ≡ None
    → sum_by f (put cmp k v es) ≡ f (k, v) + sum_by f es
sum_by-put f alike k v [] none = sum_by-cons f (k, v) []
sum_by-put f alike k v (e ∷ es) none =
    elim (cmp k e.0) as (λ r. cond (is_eq r) (Some e.1) (find cmp k es) ≡ None → sum_by f (by_order r ((k, v) ∷ e ∷ es) ((e.0, v) ∷ es) (e ∷ put cmp k v es)) ≡ f (k, v) + sum_by f (e ∷ es)) [
      | Less ↦ λ _. sum_by-cons f (k, v) (e ∷ es)
      | Equal ↦ λ n. absurd (none-some e.1 (sym n))
      | Greater ↦ λ n.
          let rest = sum_by-put f alike k v es n in
          omega (arith, rest, sum_by-cons f e (put cmp k v es), sum_by-cons f e es)
    ] none

-- a resource of a new name adds what it is
pub sum_of_insert : (f : Resource → ℕ) (m : finmap.FinMap cmp Resource) (name : List ℕ) (r : Resource) → finmap.get m name ≡ None → sum_by (λ e. f e.1) (finmap.entries (finmap.insert m name r)) ≡ f r + sum_by (λ e. f e.1) (finmap.entries m)
sum_of_insert f m name r none =
    let g = λ (x : List ℕ × Resource). f x.1 in
    ap (sum_by g) (finmap.entries-insert nat_list_cmp_total m name r) ∙ sum_by-put g (λ a b r. refl) name r (finmap.entries m) (sym (finmap.get-entries m name) ∙ none)

no_items : {X : Type 0} (xs : List X) → length xs ≡ 0 → xs ≡ []
no_items [] e = refl
no_items (x ∷ xs) e = absurd (omega (arith, e))

absent : (name : List ℕ) (slots : List (List ℕ × Resource)) → AllByRecursion (λ q. bytes_eq name q ≡ false) (keys_of slots) → lookup (bytes_eq name) slots ≡ None
absent name [] apart = refl
absent name (e ∷ es) apart = ap (λ b. cond b (Some e.1) (lookup (bytes_eq name) es)) apart.0 ∙ absent name es apart.1

-- no name adds nothing
pub sum_of_none : (f : Resource → ℕ) → sum_by (λ e. f e.1) (finmap.entries (finmap.empty {X = Resource} {R = cmp})) ≡ 0
sum_of_none f =
    let m = finmap.empty {X = Resource} {R = cmp} in
    ap (sum_by (λ e. f e.1)) (no_items (finmap.entries m) (sym (finmap.len-entries m) ∙ finmap.len-empty cmp Resource))

-- a sum over the slots, if no name has two, is one over all names
pub sum_of_slots : (f : Resource → ℕ) (slots : List (List ℕ × Resource)) → IsDistinct bytes_eq (keys_of slots)
    → sum_by (λ e. f e.1) slots ≡ sum_by (λ e. f e.1) (finmap.entries (finmap.from_entries {R = cmp} slots))
unfolding IsDistinct
sum_of_slots f [] distinct = sym (sum_of_none f)
sum_of_slots f (e ∷ es) distinct =
    let g = λ (x : List ℕ × Resource). f x.1 in
    let m = finmap.from_entries {R = cmp} es in
    sum_by-cons g e es
    ∙ ap (λ n. f e.1 + n) (sum_of_slots f es distinct.1)
    ∙ sym (sum_of_insert f m e.0 e.1 (get_slot es e.0 ∙ absent e.0 es distinct.0))

ones : {X : Type 0} (xs : List X) → sum_by (λ _. 1) xs ≡ length xs
ones [] = refl
ones (x ∷ xs) = omega (arith, sum_by-cons (λ _. 1) x xs, ones xs)

-- there are as many slots as names, if no name has two
pub slots_are_names : (slots : List (List ℕ × Resource)) → IsDistinct bytes_eq (keys_of slots) → length slots ≡ finmap.len (finmap.from_entries {R = cmp} slots)
slots_are_names slots distinct =
    let m = finmap.from_entries {R = cmp} slots in
    sym (ones slots) ∙ (sum_of_slots (λ _. 1) slots distinct ∙ (ones (finmap.entries m) ∙ sym (finmap.len-entries m)))
