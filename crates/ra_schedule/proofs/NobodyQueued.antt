-- If no client is at any name, none is queued; and if none is queued, every queue is empty.
use Rattle.std.proofs.Common.{◌≡◌, ℕ, zero, suc, ◌+◌, ◌<◌, ◌≤◌, true, false, cond, ◌&&◌, T, List, [], ◌∷◌, ◌++◌, length, map, Option, Some, None, Contains, refl, sym, ap, ◌∙◌, subst, arith, inl, inr}
use Rattle.std.specs.Prelude.{sum_by, option_to_list, unwrap_or}
use Rattle.std.specs.List.{range_with_len}
use Rattle.std.specs.Ordering.{nat_cmp, is_eq, is_lt}
use Rattle.std.specs.declared.cmp.Ordering.{Ordering}
use Rattle.std.specs.declared.cmp.Ordering.TheVariants.{Less, Equal, Greater}
use Rattle.std.specs.Cmp.Lexicographic.{slice_cmp, nat_list_cmp_total}
use Rattle.std.specs.FinMap as finmap
use Rattle.std.specs.FinMap.Entries.{find, find_tied, is_sorted, below_all}
use Rattle.std.proofs.lemmas.Bool.{cases_eq}
use Rattle.std.proofs.lemmas.Cmp.{tied_itself}
use Rattle.std.proofs.lemmas.List.Elements.{Contains-append_right}
use Rattle.std.proofs.lemmas.List.Sums.{sum_by-cons}
use Rattle.ra_node.specs.declared.queued_client.Queued.{Queued}
use Rattle.ra_node.specs.Resource.{Resource, IsBusy, unmet}
use Rattle.ra_node.specs.Node.{NodeState, resource_at, queued_count}
use Rattle.ra_world.specs.Run.{queued_at_all}
use Rattle.ra_node.proofs.Lookups.{true_of}
use Rattle.ra_schedule.proofs.MovedNodes.{IsNode}

abbrev cmp : List ℕ → List ℕ → Ordering
cmp = slice_cmp nat_cmp

is_less : (o : Ordering) → T (is_lt o) → o ≡ Less
is_less Less t = refl
is_less Equal t = absurd t
is_less Greater t = absurd t

below_lower : (a b : List ℕ) (es : List (List ℕ × Resource)) → cmp a b ≡ Less → T (below_all cmp b es) → T (below_all cmp a es)
below_lower a b [] less t = tt
below_lower a b (e ∷ es) less t =
    let both = true_of (is_lt (cmp b e.0)) (below_all cmp b es) t in
    let here : cmp a e.0 ≡ Less = nat_list_cmp_total.trans a b e.0 less (is_less (cmp b e.0) both.0) in
    subst (λ (o : Ordering). T (is_lt o && below_all cmp a es)) (sym here) (below_lower a b es less both.1)

not_found : (k : List ℕ) (es : List (List ℕ × Resource)) → T (below_all cmp k es) → find cmp k es ≡ None
not_found k [] t = refl
not_found k (e ∷ es) t =
    let both = true_of (is_lt (cmp k e.0)) (below_all cmp k es) t in
    ap (λ (o : Ordering). cond (is_eq o) (Some e.1) (find cmp k es)) (is_less (cmp k e.0) both.0) ∙ not_found k es both.1

-- what is found among the later entries is found among all
found_later : (k : List ℕ) (v : Resource) (e : List ℕ × Resource) (es : List (List ℕ × Resource)) → T (below_all cmp e.0 es)
    → find cmp k es ≡ Some v → find cmp k (e ∷ es) ≡ Some v
found_later k v e es below is =
    elim (cmp k e.0) as (λ o. cmp k e.0 ≡ o → cond (is_eq o) (Some e.1) (find cmp k es) ≡ Some v) [
      | Less ↦ λ _. is
      | Greater ↦ λ _. is
      | Equal ↦ λ tied.
          let none : find cmp k es ≡ None = sym (find_tied cmp nat_list_cmp_total k e.0 tied es) ∙ not_found e.0 es below in
          absurd cc
    ] refl

none_counted : (f : Resource → ℕ) (es : List (List ℕ × Resource)) → T (is_sorted cmp es) → ((k : List ℕ) (v : Resource) → find cmp k es ≡ Some v → f v ≡ 0)
    → sum_by (λ e. f e.1) es ≡ 0
none_counted f [] sorted zero_at = refl
none_counted f (e ∷ es) sorted zero_at =
    let both = true_of (below_all cmp e.0 es) (is_sorted cmp es) sorted in
    let here : f e.1 ≡ 0 = zero_at e.0 e.1 (ap (λ (o : Ordering). cond (is_eq o) (Some e.1) (find cmp e.0 es)) (tied_itself nat_list_cmp_total e.0)) in
    let rest = none_counted f es both.1 (λ k v is. zero_at k v (found_later k v e es both.0 is)) in
    omega (arith, here, rest, sum_by-cons (λ (x : List ℕ × Resource). f x.1) e es)

no_queue : (client : Option ℕ) (queue : List Queued) → ((c : ℕ) → Contains (option_to_list client ++ map (λ q. q.client) queue) c → ⊥) → length queue ≡ 0
no_queue client [] nobody = refl
no_queue client (q ∷ queue) nobody =
    absurd (nobody q.client (Contains-append_right (option_to_list client) (q.client ∷ map (λ (x : Queued). x.client) queue) q.client (0, omega arith, refl)))

nobody_at : (node : NodeState) → ((name : List ℕ) (client : ℕ) → IsBusy (resource_at node name) client → ⊥) → queued_count node ≡ 0
nobody_at node nobody =
    none_counted (λ r. length r.queue) (finmap.entries node.resources) (finmap.entries_sorted node.resources) (λ name r is.
    let there : resource_at node name ≡ r = ap (λ (o : Option Resource). unwrap_or o (unmet node.me node.nodes name node.start)) (finmap.get-entries node.resources name ∙ is) in
    no_queue r.client r.queue (λ client busy. nobody name client (subst (λ (x : Resource). IsBusy x client) (sym there) busy)))

over_nodes : (f : ℕ → ℕ) (first n : ℕ) → ((i : ℕ) → first ≤ i → i < first + n → f i ≡ 0) → sum_by f (range_with_len first n) ≡ 0
over_nodes f first zero none = refl
over_nodes f first (suc n) none =
    let rest = over_nodes f (first + 1) n (λ i low high. none i (omega (arith, low)) (omega (arith, high))) in
    omega (arith, none first (omega arith) (omega arith), rest, sum_by-cons f first (range_with_len (first + 1) n))

pub nobody_queued : (n : ℕ) (nodes : ℕ → NodeState) → ((i : ℕ) (name : List ℕ) (client : ℕ) → IsNode n i → IsBusy (resource_at (nodes i) name) client → ⊥)
    → queued_at_all n nodes ≡ 0
nobody_queued n nodes nobody =
    over_nodes (λ i. queued_count (nodes i)) 1 n (λ i low high. nobody_at (nodes i) (λ name client. nobody i name client (low, omega (arith, high))))

-- ---- If no client is queued, all queues are empty

none_found : (k : List ℕ) (v : Resource) (es : List (List ℕ × Resource)) → sum_by (λ e. length e.1.queue) es ≡ 0 → find cmp k es ≡ Some v → length v.queue ≡ 0
none_found k v [] none is = absurd cc
none_found k v (e ∷ es) none is =
    let sum = sum_by-cons (λ (x : List ℕ × Resource). length x.1.queue) e es in
    elim (is_eq (cmp k e.0)) as (λ b. cond b (Some e.1) (find cmp k es) ≡ Some v → length v.queue ≡ 0) [
      | true ↦ λ here. let same : e.1 ≡ v = cc in omega (arith, none, sum, ap (λ (r : Resource). length r.queue) same)
      | false ↦ λ later. none_found k v es (omega (arith, none, sum)) later
    ] is

by_get : (node : NodeState) (name : List ℕ) (o : Option Resource) → finmap.get node.resources name ≡ o → queued_count node ≡ 0
    → length (unwrap_or o (unmet node.me node.nodes name node.start)).queue ≡ 0
by_get node name None is none = refl
by_get node name (Some v) is none = none_found name v (finmap.entries node.resources) none (sym (finmap.get-entries node.resources name) ∙ is)

at_each : (f : ℕ → ℕ) (first n i : ℕ) → sum_by f (range_with_len first n) ≡ 0 → first ≤ i → i < first + n → f i ≡ 0
at_each f first zero i none low high = absurd (omega (arith, low, high))
at_each f first (suc n) i none low high =
    let sum = sum_by-cons f first (range_with_len (first + 1) n) in
    elim (cases_eq first i) [
      | inl same ↦ subst (λ (k : ℕ). f k ≡ 0) same (omega (arith, none, sum))
      | inr apart ↦ at_each f (first + 1) n i (omega (arith, none, sum)) (omega (arith, low, apart)) (omega (arith, high))
    ]

pub empty_queues : (n : ℕ) (nodes : ℕ → NodeState) → queued_at_all n nodes ≡ 0 → (i : ℕ) (name : List ℕ) → IsNode n i → length (resource_at (nodes i) name).queue ≡ 0
empty_queues n nodes none i name at =
    by_get (nodes i) name (finmap.get (nodes i).resources name) refl (at_each (λ k. queued_count (nodes k)) 1 n i none at.0 (omega (arith, at.1)))
