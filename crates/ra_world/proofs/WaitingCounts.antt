-- How many requests wait: as many in the lock table as at the nodes.
use Rattle.std.proofs.Common.{◌≡◌, ◌≢◌, ℕ, zero, suc, ◌+◌, ◌<◌, ◌≤◌, cond, ◌&&◌, T, List, [], ◌∷◌, length, Option, Some, None, refl, sym, ap, ◌∙◌, subst, arith, inl, inr}
use Rattle.std.specs.Prelude.{sum_by, unwrap_or}
use Rattle.std.specs.List.{range_with_len}
use Rattle.std.specs.Ordering.{nat_cmp, is_eq, is_lt}
use Rattle.std.specs.declared.cmp.Ordering.{Ordering}
use Rattle.std.specs.declared.cmp.Ordering.TheVariants.{Less, Equal, Greater}
use Rattle.std.specs.Cmp.Lexicographic.{slice_cmp, nat_list_cmp_total}
use Rattle.std.specs.FinMap as finmap
use Rattle.std.specs.FinMap.Entries.{by_order, put, find, is_sorted, below_all}
use Rattle.std.proofs.lemmas.List.{length-append}
use Rattle.std.proofs.lemmas.List.Sums.{sum_by-cons}
use Rattle.std.proofs.lemmas.Bool.{false≢true}
use Rattle.ra_stamp.specs.declared.entry.Entry.{Entry}
use Rattle.ra_stamp.specs.declared.entry.Mark.{Mark}
use Rattle.ra_stamp.specs.declared.entry.Mark.TheVariants.{Requested, Entered, Left, Withdrawn}
use Rattle.ra_automaton.specs.declared.phase.Phase.{Phase}
use Rattle.ra_automaton.specs.declared.phase.Phase.TheVariants.{Idle, Waiting, Inside}
use Rattle.ra_automaton.specs.State.{State}
use Rattle.ra_node.specs.Resource.{Resource, Use, use_in, use_of, waiting_in, waiting_at, ClientFits, unmet}
use Rattle.ra_node.specs.Resource.Use.{Nobody, WaitsBy, HoldsBy}
use Rattle.ra_node.specs.Node.{NodeState, resource_at, with_resource}
use Rattle.ra_node.specs.Carried.{MarksLead}
use Rattle.ra_table.specs.Table.{LockTable, Gains, TableSteps}
use Rattle.ra_node.proofs.Lookups.{true_of}
use Rattle.ra_node.proofs.Updates.{IsUpdate}
use Rattle.ra_automaton.proofs.Apart.{cases_same}

-- ---- One resource of a node changes

abbrev pub cmp : List ℕ → List ℕ → Ordering
cmp = slice_cmp nat_cmp

is_less : (o : Ordering) → T (is_lt o) → o ≡ Less
is_less Less t = refl
is_less Equal t = absurd t
is_less Greater t = absurd t

below_lower : (a b : List ℕ) (es : List (List ℕ × Resource)) → cmp a b ≡ Less → T (below_all cmp b es) → T (below_all cmp a es)
below_lower a b [] less t = tt
below_lower a b (e ∷ es) less t =
    let both = true_of (is_lt (cmp b e.0)) (below_all cmp b es) t in
    let here : cmp a e.0 ≡ Less = nat_list_cmp_total.trans a b e.0 less (is_less (cmp b e.0) both.0) in
    subst (λ (o : Ordering). T (is_lt o && below_all cmp a es)) (sym here) (below_lower a b es less both.1)

pub not_found : (k : List ℕ) (es : List (List ℕ × Resource)) → T (below_all cmp k es) → find cmp k es ≡ None
not_found k [] t = refl
not_found k (e ∷ es) t =
    let both = true_of (is_lt (cmp k e.0)) (below_all cmp k es) t in
    ap (λ (o : Ordering). cond (is_eq o) (Some e.1) (find cmp k es)) (is_less (cmp k e.0) both.0) ∙ not_found k es both.1

abbrev pub value_or : (Resource → ℕ) → Option Resource → ℕ
value_or f None = 0
value_or f (Some r) = f r

sum_put : (f : Resource → ℕ) (k : List ℕ) (v : Resource) (es : List (List ℕ × Resource)) → T (is_sorted cmp es)
    → sum_by (λ e. f e.1) (put cmp k v es) + value_or f (find cmp k es) ≡ sum_by (λ e. f e.1) es + f v
sum_put f k v [] t = omega (arith, sum_by-cons (λ (e : List ℕ × Resource). f e.1) (k, v) [])
sum_put f k v (e ∷ es) t =
    let both = true_of (below_all cmp e.0 es) (is_sorted cmp es) t in
    elim (cmp k e.0) as (λ o. cmp k e.0 ≡ o
    → sum_by (λ x. f x.1) (by_order o ((k, v) ∷ e ∷ es) ((e.0, v) ∷ es) (e ∷ put cmp k v es)) + value_or f (cond (is_eq o) (Some e.1) (find cmp k es)) ≡ sum_by (λ x. f x.1) (e ∷ es) + f v) [
      | Less ↦ λ less.
          let none : value_or f (find cmp k es) ≡ 0 = ap (value_or f) (not_found k es (below_lower k e.0 es less both.0)) in
          omega (arith, none, sum_by-cons (λ (x : List ℕ × Resource). f x.1) (k, v) (e ∷ es))
      | Equal ↦ λ _. omega (arith, sum_by-cons (λ (x : List ℕ × Resource). f x.1) (e.0, v) es, sum_by-cons (λ (x : List ℕ × Resource). f x.1) e es)
      | Greater ↦ λ _.
          omega (arith, sum_put f k v es both.1, sum_by-cons (λ (x : List ℕ × Resource). f x.1) e (put cmp k v es), sum_by-cons (λ (x : List ℕ × Resource). f x.1) e es)
    ] refl

-- what is counted at each resource of a node, and nothing at one that nothing was about yet
abbrev pub total : (Resource → ℕ) → NodeState → ℕ
total f node = sum_by (λ e. f e.1) (finmap.entries node.resources)

-- and at each node
abbrev pub over : (Resource → ℕ) → (ℕ → NodeState) → ℕ → ℕ → ℕ
over f nodes first n = sum_by (λ i. total f (nodes i)) (range_with_len first n)

module _ (f : Resource → ℕ) (zero_at : (me nodes : ℕ) (name : List ℕ) (start : ℕ) → f (unmet me nodes name start) ≡ 0) where
  pub found_value : (node : NodeState) (r : List ℕ) (o : Option Resource) → f (unwrap_or o (unmet node.me node.nodes r node.start)) ≡ value_or f o
  found_value node r None = zero_at node.me node.nodes r node.start
  found_value node r (Some x) = refl

  one_resource : (node : NodeState) (r : List ℕ) (x : Resource) → total f (with_resource node r x) + f (resource_at node r) ≡ total f node + f x
  one_resource node r x =
      let es = finmap.entries node.resources in
      let put' : total f (with_resource node r x) ≡ sum_by (λ e. f e.1) (put cmp r x es) = ap (sum_by (λ (e : List ℕ × Resource). f e.1)) (finmap.entries-insert nat_list_cmp_total node.resources r x) in
      let was : f (resource_at node r) ≡ value_or f (find cmp r es) = found_value node r (finmap.get node.resources r) ∙ ap (value_or f) (finmap.get-entries node.resources r) in
      omega (arith, put', was, sum_put f r x es (finmap.entries_sorted node.resources))

  pub one_update : (old new : NodeState) (r : List ℕ) (x : Resource) → IsUpdate old r x new → total f new + f (resource_at old r) ≡ total f old + f x
  one_update old new r x update =
      elim update [
        | inl same ↦ omega (arith, ap (total f) same.1, ap f same.0)
        | inr is ↦ omega (arith, ap (total f) is, one_resource old r x)
      ]

  -- ---- One node changes

  beyond : (nodes nodes' : ℕ → NodeState) (p first n : ℕ) → p < first → ((k : ℕ) → k ≢ p → nodes' k ≡ nodes k) → over f nodes' first n ≡ over f nodes first n
  beyond nodes nodes' p first zero low same = refl
  beyond nodes nodes' p first (suc n) low same =
      let here : total f (nodes' first) ≡ total f (nodes first) = ap (total f) (same first (λ e. absurd (omega (arith, e, low)))) in
      omega (arith, here, beyond nodes nodes' p (first + 1) n (omega (arith, low)) same, sum_by-cons (λ (i : ℕ). total f (nodes' i)) first (range_with_len (first + 1) n), sum_by-cons (λ (i : ℕ). total f (nodes i)) first (range_with_len (first + 1) n))

  pub one_node : (nodes nodes' : ℕ → NodeState) (p first n : ℕ) → first ≤ p → p < first + n → ((k : ℕ) → k ≢ p → nodes' k ≡ nodes k)
      → over f nodes' first n + total f (nodes p) ≡ over f nodes first n + total f (nodes' p)
  one_node nodes nodes' p first zero low high same = absurd (omega (arith, low, high))
  one_node nodes nodes' p first (suc n) low high same =
      let split' = sum_by-cons (λ (i : ℕ). total f (nodes' i)) first (range_with_len (first + 1) n) in
      let split = sum_by-cons (λ (i : ℕ). total f (nodes i)) first (range_with_len (first + 1) n) in
      elim (cases_same first p) [
        | inl is ↦
            let rest = beyond nodes nodes' p (first + 1) n (omega (arith, is)) same in
            let here : total f (nodes first) ≡ total f (nodes p) = ap (λ (k : ℕ). total f (nodes k)) is in
            let here' : total f (nodes' first) ≡ total f (nodes' p) = ap (λ (k : ℕ). total f (nodes' k)) is in
            omega (arith, rest, here, here', split, split')
        | inr apart ↦
            let here : total f (nodes' first) ≡ total f (nodes first) = ap (total f) (same first apart) in
            omega (arith, one_node nodes nodes' p (first + 1) n (omega (arith, low, apart)) (omega (arith, high)) same, here, split, split')
      ]

  sum_none : (es : List (List ℕ × Resource)) → length es ≡ 0 → sum_by (λ e. f e.1) es ≡ 0
  sum_none [] e = refl
  sum_none (x ∷ es) e = absurd (omega (arith, e))

  -- at the start nothing is counted
  pub none_counted : (nodes : ℕ → NodeState) (first n : ℕ) → ((i : ℕ) → (nodes i).resources ≡ finmap.empty) → over f nodes first n ≡ 0
  none_counted nodes first zero h = refl
  none_counted nodes first (suc n) h =
      let none : length (finmap.entries (nodes first).resources) ≡ 0 = sym (finmap.len-entries (nodes first).resources) ∙ ap finmap.len (h first) ∙ finmap.len-empty cmp Resource in
      let here : total f (nodes first) ≡ 0 = sum_none (finmap.entries (nodes first).resources) none in
      omega (arith, here, none_counted nodes (first + 1) n h, sum_by-cons (λ (i : ℕ). total f (nodes i)) first (range_with_len (first + 1) n))

  pub same_over : (nodes nodes' : ℕ → NodeState) (first n : ℕ) → ((i : ℕ) → first ≤ i → i < first + n → nodes i ≡ nodes' i) → over f nodes first n ≡ over f nodes' first n
  same_over nodes nodes' first zero h = refl
  same_over nodes nodes' first (suc n) h =
      let here : total f (nodes first) ≡ total f (nodes' first) = ap (total f) (h first (omega arith) (omega arith)) in
      let rest = same_over nodes nodes' (first + 1) n (λ i low high. h i (omega (arith, low)) (omega (arith, high))) in
      omega (arith, here, rest, sum_by-cons (λ (i : ℕ). total f (nodes i)) first (range_with_len (first + 1) n), sum_by-cons (λ (i : ℕ). total f (nodes' i)) first (range_with_len (first + 1) n))

-- ---- The table

abbrev pub waits_as : Use → ℕ
waits_as Nobody = 0
waits_as (WaitsBy e) = 1
waits_as (HoldsBy e) = 0

gains_one : (es new : List Entry) (e : Entry) → Gains es e new → length new ≡ length es + 1
gains_one es new e gains =
    let after = ap length gains.3 ∙ length-append gains.0 (e ∷ gains.1) in
    let before = ap length gains.2 ∙ length-append gains.0 gains.1 in
    omega (arith, after, before)

pub marks_count : (marks : List Mark) (t t' : LockTable) (w w' : Use) → TableSteps t marks t' → MarksLead w marks w' → length t'.waiting + waits_as w ≡ length t.waiting + waits_as w'
marks_count [] t t' w w' steps leads = omega (arith, ap (λ (x : LockTable). length x.waiting) steps, ap waits_as leads)
marks_count (Requested e ∷ marks) t t' w w' steps leads =
    let rest = marks_count marks steps.0 t' (WaitsBy e) w' steps.2 leads.1 in
    omega (arith, rest, gains_one t.waiting steps.0.waiting e steps.1.1, ap waits_as leads.0)
marks_count (Entered e ∷ marks) t t' w w' steps leads =
    let rest = marks_count marks steps.0 t' (HoldsBy e) w' steps.2 leads.1 in
    omega (arith, rest, gains_one steps.0.waiting t.waiting e steps.1.1, ap waits_as leads.0)
marks_count (Left e ∷ marks) t t' w w' steps leads =
    let rest = marks_count marks steps.0 t' Nobody w' steps.2 leads.1 in
    omega (arith, rest, ap length steps.1.1, ap waits_as leads.0)
marks_count (Withdrawn e ∷ marks) t t' w w' steps leads =
    let rest = marks_count marks steps.0 t' Nobody w' steps.2 leads.1 in
    omega (arith, rest, gains_one steps.0.waiting t.waiting e steps.1.1, ap waits_as leads.0)

fits_count : (s : State) (phase : Phase) (client : Option ℕ) → ClientFits phase client → waiting_in phase ≡ waits_as (use_in s phase client)
fits_count s Idle None fits = refl
fits_count s Idle (Some c) fits = refl
fits_count s (Waiting seq mode) None fits = absurd (false≢true fits)
fits_count s (Waiting seq mode) (Some c) fits = refl
fits_count s (Inside seq mode) None fits = refl
fits_count s (Inside seq mode) (Some c) fits = refl

pub use_count : (r : Resource) → ClientFits r.state.phase r.client → waiting_at r ≡ waits_as (use_of r)
use_count r fits = fits_count r.state r.state.phase r.client fits
