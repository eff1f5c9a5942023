-- How the slots of a node, and the node, change when it forgets names.
use Rattle.std.proofs.Common.{◌≡◌, ◌⊎◌, ◌↔◌, ℕ, zero, suc, ◌/◌, ◌^◌, ◌<◌, ◌≤◌, max, Bool, true, false, ◌&&◌, T, cond, List, [], ◌∷◌, ◌++◌, All, length, get_or, map, Option, Some, None, IsSome, refl, sym, ap, ◌∙◌, subst, arith, inl, inr}
use Rattle.std.specs.Prelude.{nat_lt, sum_by, unwrap_or, option_to_list}
use Rattle.std.specs.Str.{bytes_eq}
use Rattle.std.specs.List.{AllByRecursion, IsDistinct}
use Rattle.std.specs.Map.{lookup, keys_of}
use Rattle.std.specs.declared.cmp.Ordering.{Ordering}
use Rattle.std.specs.declared.cmp.Ordering.TheVariants.{Less, Equal, Greater}
use Rattle.std.specs.Ordering.{nat_cmp, is_eq, is_lt}
use Rattle.std.specs.FinMap.Entries.{is_sorted, below_all}
use Rattle.std.proofs.lemmas.Map.Text.{is_eq-slice_cmp}
use Rattle.std.specs.Cmp.Lexicographic.{slice_cmp, nat_list_cmp_total}
use Rattle.std.specs.FinMap as finmap
use Rattle.std.proofs.lemmas.Bool.{false≢true, and_parts, ltb-true, lt-ltb, cases_lt}
use Rattle.std.proofs.lemmas.Option.{none-some}
use Rattle.std.proofs.lemmas.List.Sums.{sum_by-cons}
use Rattle.std.proofs.lemmas.List.Elements.{All-head, All-tail}
use Rattle.std.proofs.lemmas.Slice.Eq.{bytes_eq-Decides}
use Rattle.ra_stamp.specs.NodeId.{IsNodeNumber}
use Rattle.ra_stamp.specs.declared.message.Message.{Message}
use Rattle.ra_stamp.specs.declared.entry.Mark.{Mark}
use Rattle.ra_automaton.specs.declared.phase.Phase.{Phase}
use Rattle.ra_automaton.specs.declared.phase.Phase.TheVariants.{Idle, Waiting, Inside}
use Rattle.ra_automaton.specs.State.{State, IsWaitingPhase, IsConsistent}
use Rattle.ra_automaton.specs.Steps.{greatest_number}
use Rattle.ra_automaton.proofs.Consistent.{consistent_meet}
use Rattle.ra_node.specs.declared.queued_client.Queued.{Queued}
use Rattle.ra_node.specs.Resource.{Resource, unmet, use_in, use_of, waiting_at, waiting_in, clients_of, IsConsistentResource}
use Rattle.ra_node.specs.Node.{NodeState, resource_at, clients_count, IsConsistentNode}
use Rattle.ra_node.specs.Forgetting.{raised, IsForgettable, IsCommonNumber}
use Rattle.ra_node.specs.Events.{ForgetEvent, AllowsEvent}
use Rattle.ra_node.specs.Events.Event.{Forget}
use Rattle.ra_node.specs.View.{node_with, if_counted, greatest_of, is_idle, is_nobody, is_nothing, is_forgettable, forgotten}
use Rattle.ra_node.proofs.Lookups.{true_of}
use Rattle.ra_node.proofs.Named.{same_names, get_slot, sum_of_slots}

-- ---- Which resources are forgotten

idle_is : (phase : Phase) → is_idle phase ≡ true → phase ≡ Idle
idle_is Idle e = refl
idle_is (Waiting seq mode) e = absurd (false≢true e)
idle_is (Inside seq mode) e = absurd (false≢true e)

is_so_idle : (phase : Phase) → phase ≡ Idle → is_idle phase ≡ true
is_so_idle phase e = ap is_idle e

unused_is : (client : Option ℕ) (queue : List Queued) → is_nobody client ≡ true → is_nothing queue ≡ true → (client ≡ None) × (queue ≡ [])
unused_is None [] a b = (refl, refl)
unused_is None (q ∷ qs) a b = absurd (false≢true b)
unused_is (Some c) queue a b = absurd (false≢true a)

not_empty : {X : Type 0} (x : X) (xs : List X) → x ∷ xs ≡ [] → ⊥
not_empty x xs e = cc

nobody_there : (client : Option ℕ) (queue : List Queued) → option_to_list client ++ map (λ q. q.client) queue ≡ [] → (client ≡ None) × (queue ≡ [])
nobody_there None [] e = (refl, refl)
nobody_there None (q ∷ qs) e = absurd (not_empty q.client (map (λ x. x.client) qs) e)
nobody_there (Some c) queue e = absurd (not_empty c (map (λ x. x.client) queue) e)

all_four : (a b c d : Bool) → a ≡ true → b ≡ true → c ≡ true → d ≡ true → (a && (b && (c && d))) ≡ true
all_four a b c d p q r t = rw (p, q, r, t) refl

pub tells_forgettable : (r : Resource) → is_forgettable r ≡ true → IsForgettable r
tells_forgettable r e =
    let first = and_parts (is_idle r.state.phase) (is_nobody r.client && (is_nothing r.queue && nat_lt r.state.highest greatest_number)) e in
    let second = and_parts (is_nobody r.client) (is_nothing r.queue && nat_lt r.state.highest greatest_number) first.1 in
    let third = and_parts (is_nothing r.queue) (nat_lt r.state.highest greatest_number) second.1 in
    let unused = unused_is r.client r.queue second.0 third.0 in
    record {
      idle = idle_is r.state.phase first.0;
      nobody = λ i. option_to_list (unused.0 i) ++ map (λ q. q.client) (unused.1 i);
      number_left = ltb-true r.state.highest greatest_number third.1;
    }

pub forgettable_tells : (r : Resource) → IsForgettable r → is_forgettable r ≡ true
forgettable_tells r h =
    let none = nobody_there r.client r.queue h.nobody in
    all_four (is_idle r.state.phase) (is_nobody r.client) (is_nothing r.queue) (nat_lt r.state.highest greatest_number)
    (is_so_idle r.state.phase h.idle) (ap is_nobody none.0) (ap is_nothing none.1) (lt-ltb r.state.highest greatest_number h.number_left)

pub not_forgettable : (r : Resource) → (IsForgettable r → ⊥) → is_forgettable r ≡ false
not_forgettable r h = of_test (is_forgettable r) refl
  where
    of_test : (b : Bool) → is_forgettable r ≡ b → b ≡ false
    of_test false e = refl
    of_test true e = absurd (h (tells_forgettable r e))

pub is_not_forgettable : (r : Resource) → is_forgettable r ≡ false → IsForgettable r → ⊥
is_not_forgettable r e h = false≢true (sym e ∙ forgettable_tells r h)

-- ---- What is found among the slots that are kept

abbrev kept_of : ℕ → Option Resource → Option Resource
kept_of number None = None
kept_of number (Some r) = cond (is_forgettable r) None (Some (raised number r))

absent : (name : List ℕ) (slots : List (List ℕ × Resource)) → AllByRecursion (λ q. bytes_eq name q ≡ false) (keys_of slots) → lookup (bytes_eq name) slots ≡ None
absent name [] apart = refl
absent name (e ∷ es) apart = ap (λ b. cond b (Some e.1) (lookup (bytes_eq name) es)) apart.0 ∙ absent name es apart.1

pub forgotten_finds : (number : ℕ) (es : List (List ℕ × Resource)) (q : List ℕ) → IsDistinct bytes_eq (keys_of es) → lookup (bytes_eq q) (forgotten number es) ≡ kept_of number (lookup (bytes_eq q) es)
unfolding IsDistinct
forgotten_finds number [] q distinct = refl
forgotten_finds number (e ∷ es) q distinct = by_tests (forgotten_finds number es q distinct.1) (bytes_eq q e.0) (is_forgettable e.1) refl refl
  where
    gone : bytes_eq q e.0 ≡ true → lookup (bytes_eq q) es ≡ None
    gone same = subst (λ (x : List ℕ). lookup (bytes_eq x) es ≡ None) (sym ((bytes_eq-Decides q e.0).0 same)) (absent e.0 es distinct.0)

    by_tests : lookup (bytes_eq q) (forgotten number es) ≡ kept_of number (lookup (bytes_eq q) es) → (b f : Bool) → bytes_eq q e.0 ≡ b → is_forgettable e.1 ≡ f
        → lookup (bytes_eq q) (cond f (forgotten number es) ((e.0, raised number e.1) ∷ forgotten number es)) ≡ kept_of number (cond b (Some e.1) (lookup (bytes_eq q) es))
    by_tests rest true true same idle = rest ∙ ap (kept_of number) (gone same) ∙ sym (ap (λ c. cond c None (Some (raised number e.1))) idle)
    by_tests rest true false same busy =
        ap (λ c. cond c (Some (raised number e.1)) (lookup (bytes_eq q) (forgotten number es))) same ∙ sym (ap (λ c. cond c None (Some (raised number e.1))) busy)
    by_tests rest false true apart idle = rest
    by_tests rest false false apart busy = ap (λ c. cond c (Some (raised number e.1)) (lookup (bytes_eq q) (forgotten number es))) apart ∙ rest

still_apart : (P : List ℕ → Type 0) (number : ℕ) (es : List (List ℕ × Resource)) → AllByRecursion P (keys_of es) → AllByRecursion P (keys_of (forgotten number es))
still_apart P number [] all = tt
still_apart P number (e ∷ es) all =
    elim (is_forgettable e.1) as (λ f. AllByRecursion P (keys_of (cond f (forgotten number es) ((e.0, raised number e.1) ∷ forgotten number es)))) [
      | true ↦ still_apart P number es all.1
      | false ↦ (all.0, still_apart P number es all.1)
    ]

pub still_distinct : (number : ℕ) (es : List (List ℕ × Resource)) → IsDistinct bytes_eq (keys_of es) → IsDistinct bytes_eq (keys_of (forgotten number es))
unfolding IsDistinct
still_distinct number [] distinct = tt
still_distinct number (e ∷ es) distinct =
    elim (is_forgettable e.1) as (λ f. IsDistinct bytes_eq (keys_of (cond f (forgotten number es) ((e.0, raised number e.1) ∷ forgotten number es)))) [
      | true ↦ still_distinct number es distinct.1
      | false ↦ (still_apart (λ q. bytes_eq e.0 q ≡ false) number es distinct.0, still_distinct number es distinct.1)
    ]

-- a sum over the slots stays if it does not look at highest numbers, and nothing that is forgotten adds to it, if this holds of each
pub record Unmoved (P : Resource → Type 0) (f : Resource → ℕ) : Type 0 where
  pub still : (number : ℕ) (r : Resource) → f (raised number r) ≡ f r
  pub nothing : (r : Resource) → P r → IsForgettable r → f r ≡ 0

-- this holds of each resource
abbrev pub AreAll : (Resource → Type 0) → List (List ℕ × Resource) → Type 0
AreAll P es = All (λ e. P e.1) es

-- nothing need hold
abbrev pub NothingElse : Resource → Type 0
NothingElse r = Unit {0}

pub forgotten_sums : (P : Resource → Type 0) (f : Resource → ℕ) → Unmoved P f → (number : ℕ) (es : List (List ℕ × Resource)) → AreAll P es → sum_by (λ e. f e.1) (forgotten number es) ≡ sum_by (λ e. f e.1) es
forgotten_sums P f unmoved number [] all = refl
forgotten_sums P f unmoved number (e ∷ es) all = by_test (forgotten_sums P f unmoved number es (All-tail (λ x. P x.1) e es all)) (is_forgettable e.1) refl
  where
    by_test : sum_by (λ x. f x.1) (forgotten number es) ≡ sum_by (λ x. f x.1) es → (b : Bool) → is_forgettable e.1 ≡ b
        → sum_by (λ x. f x.1) (cond b (forgotten number es) ((e.0, raised number e.1) ∷ forgotten number es)) ≡ sum_by (λ x. f x.1) (e ∷ es)
    by_test rest true idle = omega (arith, rest, sum_by-cons (λ (x : List ℕ × Resource). f x.1) e es, unmoved.nothing e.1 (All-head (λ x. P x.1) e es all) (tells_forgettable e.1 idle))
    by_test rest false busy =
        omega (arith, rest, sum_by-cons (λ (x : List ℕ × Resource). f x.1) e es, sum_by-cons (λ (x : List ℕ × Resource). f x.1) (e.0, raised number e.1) (forgotten number es), unmoved.still number e.1)

pub clients_unmoved : Unmoved NothingElse (λ r. length (clients_of r))
clients_unmoved = record { still = λ number r. refl; nothing = λ r _ h. ap length h.nobody }

pub waiting_unmoved : Unmoved NothingElse waiting_at
waiting_unmoved = record { still = λ number r. refl; nothing = λ r _ h. ap waiting_in h.idle }

pub queue_unmoved : Unmoved NothingElse (λ r. length r.queue)
queue_unmoved = record { still = λ number r. refl; nothing = λ r _ h. ap length (nobody_there r.client r.queue h.nobody).1 }

-- no queue is too long to be counted
pub excess_unmoved : Unmoved NothingElse (λ r. length r.queue / 2 ^ 64)
excess_unmoved = record { still = λ number r. refl; nothing = λ r _ h. ap (λ (queue : List Queued). length queue / 2 ^ 64) (nobody_there r.client r.queue h.nobody).1 }

-- no deferral goes either, at a consistent node
pub deferrals_unmoved : Unmoved (λ r. IsConsistent r.state) (λ r. finmap.len r.state.deferred)
deferrals_unmoved = record { still = λ number r. refl; nothing = λ r consistent h. ap finmap.len (consistent.defers_only h.idle) ∙ finmap.len-empty nat_cmp ℕ }

pub any_ones : (es : List (List ℕ × Resource)) → AreAll NothingElse es
any_ones es k d lt = tt

-- over all names of the slots
pub same_sum : (P : Resource → Type 0) (f : Resource → ℕ) → Unmoved P f → (number : ℕ) (es : List (List ℕ × Resource)) → AreAll P es → IsDistinct bytes_eq (keys_of es)
    → sum_by (λ e. f e.1) (finmap.entries (finmap.from_entries {R = slice_cmp nat_cmp} (forgotten number es))) ≡ sum_by (λ e. f e.1) (finmap.entries (finmap.from_entries {R = slice_cmp nat_cmp} es))
same_sum P f unmoved number es all distinct =
    sym (sum_of_slots f (forgotten number es) (still_distinct number es distinct)) ∙ forgotten_sums P f unmoved number es all ∙ sum_of_slots f es distinct

-- ---- The common number

counted_below : (number : ℕ) → if_counted number < greatest_number
counted_below number = of_test (nat_lt number greatest_number) refl
  where
    of_test : (b : Bool) → nat_lt number greatest_number ≡ b → cond b number 0 < greatest_number
    of_test true e = ltb-true number greatest_number e
    of_test false e = omega arith

counts : (number : ℕ) → number < greatest_number → if_counted number ≡ number
counts number below = ap (λ b. cond b number 0) (lt-ltb number greatest_number below)

counts_or_not : (number : ℕ) → (if_counted number ≡ number) ⊎ (if_counted number ≡ 0)
counts_or_not number = elim (nat_lt number greatest_number) as (λ b. (cond b number 0 ≡ number) ⊎ (cond b number 0 ≡ 0)) [
  | true ↦ inl refl
  | false ↦ inr refl
]

abbrev resources_in : List (List ℕ × Resource) → List Resource
resources_in es = map (λ e. e.1) es

no_less : (number : ℕ) (rs : List Resource) → number ≤ greatest_of number rs
no_less number [] = omega arith
no_less number (r ∷ rs) = omega (arith, no_less (max number (if_counted r.state.highest)) rs)

greatest_below : (number : ℕ) (rs : List Resource) → number < greatest_number → greatest_of number rs < greatest_number
greatest_below number [] below = below
greatest_below number (r ∷ rs) below = greatest_below (max number (if_counted r.state.highest)) rs (omega (arith, below, counted_below r.state.highest))

reaches : (number : ℕ) (es : List (List ℕ × Resource)) (q : List ℕ) (r : Resource) → lookup (bytes_eq q) es ≡ Some r → if_counted r.state.highest ≤ greatest_of number (resources_in es)
reaches number [] q r at = absurd (none-some r at)
reaches number (e ∷ es) q r at =
    elim (bytes_eq q e.0) as (λ b. cond b (Some e.1) (lookup (bytes_eq q) es) ≡ Some r → if_counted r.state.highest ≤ greatest_of (max number (if_counted e.1.state.highest)) (resources_in es)) [
      | true ↦ λ is.
          let same : e.1.state.highest ≡ r.state.highest = ap (λ (o : Option Resource). (unwrap_or o e.1).state.highest) is in
          omega (arith, no_less (max number (if_counted e.1.state.highest)) (resources_in es), ap if_counted same)
      | false ↦ λ is. reaches (max number (if_counted e.1.state.highest)) es q r is
    ] at

-- the greatest number is the first one, or the number of a slot
record OfSlot (es : List (List ℕ × Resource)) (number : ℕ) : Type 0 where
  name : List ℕ
  slot : Resource
  at : lookup (bytes_eq name) es ≡ Some slot
  counted_is : if_counted slot.state.highest ≡ number

later_slot : (e : List ℕ × Resource) (es : List (List ℕ × Resource)) (number : ℕ) → AllByRecursion (λ q. bytes_eq e.0 q ≡ false) (keys_of es) → OfSlot es number → OfSlot (e ∷ es) number
later_slot e es number apart of = record {
  name = of.name;
  slot = of.slot;
  at = elim (bytes_eq of.name e.0) as (λ b. bytes_eq of.name e.0 ≡ b → cond b (Some e.1) (lookup (bytes_eq of.name) es) ≡ Some of.slot) [
    | true ↦ λ same. absurd (none-some of.slot (sym (subst (λ (x : List ℕ). lookup (bytes_eq x) es ≡ None) (sym ((bytes_eq-Decides of.name e.0).0 same)) (absent e.0 es apart)) ∙ of.at))
    | false ↦ λ _. of.at
  ] refl;
  counted_is = of.counted_is;
}

first_slot : (e : List ℕ × Resource) (es : List (List ℕ × Resource)) (number : ℕ) → if_counted e.1.state.highest ≡ number → OfSlot (e ∷ es) number
first_slot e es number is = record { name = e.0; slot = e.1; at = ap (λ b. cond b (Some e.1) (lookup (bytes_eq e.0) es)) ((bytes_eq-Decides e.0 e.0).1 refl); counted_is = is }

greater_of : (a b : ℕ) → (max a b ≡ a) ⊎ (max a b ≡ b)
greater_of a b = elim (cases_lt a b) [ inl below ↦ inr (omega (arith, below)) | inr above ↦ inl (omega (arith, above)) ]

from_slots : (number : ℕ) (es : List (List ℕ × Resource)) → IsDistinct bytes_eq (keys_of es) → (greatest_of number (resources_in es) ≡ number) ⊎ OfSlot es (greatest_of number (resources_in es))
unfolding IsDistinct
from_slots number [] distinct = inl refl
from_slots number (e ∷ es) distinct =
    let next = max number (if_counted e.1.state.highest) in
    elim (from_slots next es distinct.1) [
      | inr of ↦ inr (later_slot e es (greatest_of next (resources_in es)) distinct.0 of)
      | inl is ↦ elim (greater_of number (if_counted e.1.state.highest)) [
        | inl same ↦ inl (is ∙ same)
        | inr here ↦ inr (first_slot e es (greatest_of next (resources_in es)) (sym here ∙ sym is))
      ]
    ]

module _ (me nodes start : ℕ) (slots : List (List ℕ × Resource)) (distinct : IsDistinct bytes_eq (keys_of slots)) where
  abbrev pub now : NodeState
  now = node_with me nodes start slots

  abbrev pub number : ℕ
  number = greatest_of (if_counted start) (resources_in slots)

  -- the resource of a name, by the slot that is found
  found_as : (name : List ℕ) (o : Option Resource) → lookup (bytes_eq name) slots ≡ o → resource_at now name ≡ unwrap_or o (unmet me nodes name start)
  found_as name o is = ap (λ (x : Option Resource). unwrap_or x (unmet me nodes name start)) (get_slot slots name ∙ is)

  reaches_each : (name : List ℕ) (o : Option Resource) → lookup (bytes_eq name) slots ≡ o → (resource_at now name).state.highest < greatest_number → (resource_at now name).state.highest ≤ number
  reaches_each name None is below =
      let same = ap (λ (r : Resource). r.state.highest) (found_as name None is) in
      omega (arith, same, no_less (if_counted start) (resources_in slots), counts start (omega (arith, same, below)))
  reaches_each name (Some r) is below =
      let same = ap (λ (x : Resource). x.state.highest) (found_as name (Some r) is) in
      omega (arith, same, reaches (if_counted start) slots name r is, counts r.state.highest (omega (arith, same, below)))

  pub is_common : IsCommonNumber now number
  is_common =
      record {
        below = greatest_below (if_counted start) (resources_in slots) (counted_below start);
        start = λ below. omega (arith, no_less (if_counted start) (resources_in slots), counts start below);
        each = λ name. reaches_each name (lookup (bytes_eq name) slots) refl;
        is_one = elim (from_slots (if_counted start) slots distinct) [
          | inl is ↦ elim (counts_or_not start) [
            | inl same ↦ inr (inl (sym (is ∙ same)))
            | inr none ↦ inl (is ∙ none)
          ]
          | inr of ↦ elim (counts_or_not of.slot.state.highest) [
            | inl same ↦ inr (inr (of.name, ap (λ (r : Resource). r.state.highest) (found_as of.name (Some of.slot) of.at) ∙ sym same ∙ of.counted_is))
            | inr none ↦ inl (sym of.counted_is ∙ none)
          ]
        ];
      }

  -- ---- The node afterwards

  abbrev pub after : NodeState
  after = node_with me nodes (max start number) (forgotten number slots)

  -- a resource that is forgotten is as one that was not met
  as_unmet : (name : List ℕ) (r : Resource) → IsConsistentResource me nodes name start r → IsForgettable r → r.state.highest ≤ number → raised number r ≡ unmet me nodes name (max start number)
  as_unmet name r h forgettable low =
      let none = nobody_there r.client r.queue forgettable.nobody in
      let highest : max r.state.highest number ≡ max start number = omega (arith, low, h.from_start) in
      let awaited = h.state.awaits_only (λ waits. idle_waits_not r.state.phase forgettable.idle waits) in
      let deferred = h.state.defers_only forgettable.idle in
      λ i. record {
        state = record { me = h.me_is i; nodes = h.nodes_is i; name = h.name_is i; highest = highest i; phase = forgettable.idle i; awaited = awaited i; deferred = deferred i };
        client = none.0 i;
        queue = none.1 i;
      }
    where
      idle_waits_not : (phase : Phase) → phase ≡ Idle → IsWaitingPhase phase → ⊥
      idle_waits_not phase idle waits = subst IsWaitingPhase idle waits

  after_as : (name : List ℕ) (o : Option Resource) → lookup (bytes_eq name) slots ≡ o → resource_at after name ≡ unwrap_or (kept_of number o) (unmet me nodes name (max start number))
  after_as name o is =
      ap (λ (x : Option Resource). unwrap_or x (unmet me nodes name (max start number)))
      (get_slot (forgotten number slots) name ∙ forgotten_finds number slots name distinct ∙ ap (kept_of number) is)

  if_forgettable : (name : List ℕ) (r : Resource) → IsConsistentResource me nodes name start r → (IsForgettable r → r.state.highest ≤ number) → (b : Bool) → is_forgettable r ≡ b
      → unwrap_or (cond b None (Some (raised number r))) (unmet me nodes name (max start number)) ≡ raised number r
  if_forgettable name r kept low true e = let f = tells_forgettable r e in sym (as_unmet name r kept f (low f))
  if_forgettable name r kept low false e = refl

  rises : IsConsistentNode now → (name : List ℕ) (o : Option Resource) → lookup (bytes_eq name) slots ≡ o → resource_at after name ≡ raised number (resource_at now name)
  rises h name None is = after_as name None is ∙ sym (ap (raised number) (found_as name None is))
  rises h name (Some r) is =
      let here = found_as name (Some r) is in
      let kept = subst (λ (x : Resource). IsConsistentResource me nodes name start x) here (h.each name) in
      let low : r.state.highest < greatest_number → r.state.highest ≤ number = subst (λ (x : Resource). x.state.highest < greatest_number → x.state.highest ≤ number) here (is_common.each name) in
      after_as name (Some r) is ∙ if_forgettable name r kept (λ f. low f.number_left) (is_forgettable r) refl ∙ sym (ap (raised number) here)

  -- which names are kept
  kept_so : (name : List ℕ) (o : Option Resource) → lookup (bytes_eq name) slots ≡ o
      → IsSome (finmap.get after.resources name) ↔ (IsSome (finmap.get now.resources name) × (IsForgettable (resource_at now name) → ⊥))
  kept_so name None is =
      let after_it = get_slot (forgotten number slots) name ∙ forgotten_finds number slots name distinct ∙ ap (kept_of number) is in
      let was = get_slot slots name ∙ is in
      (λ some. absurd (false≢true (subst IsSome after_it some)), λ both. absurd (false≢true (subst IsSome was both.0)))
  kept_so name (Some r) is =
      let after_it = get_slot (forgotten number slots) name ∙ forgotten_finds number slots name distinct ∙ ap (kept_of number) is in
      let was = get_slot slots name ∙ is in
      let here = found_as name (Some r) is in
      let some_so : (b : Bool) → is_forgettable r ≡ b → IsSome (cond b None (Some (raised number r))) → IsForgettable r → ⊥ = λ b. elim b as (λ b. is_forgettable r ≡ b → IsSome (cond b None (Some (raised number r))) → IsForgettable r → ⊥) [
        | true ↦ λ _ some _. false≢true some
        | false ↦ λ e _. is_not_forgettable r e
      ] in (
        λ some. (
          subst IsSome (sym was) refl,
          subst (λ (x : Resource). IsForgettable x → ⊥) (sym here) (some_so (is_forgettable r) refl (subst IsSome after_it some)),
        ),
        λ both. subst IsSome (sym (after_it ∙ ap (λ b. cond b None (Some (raised number r))) (not_forgettable r (subst (λ (x : Resource). IsForgettable x → ⊥) here both.1)))) refl,
      )

  pub forgets : IsConsistentNode now → ForgetEvent now [] [] after
  forgets h =
      record {
        number = number;
        common = is_common;
        resources = λ name. rises h name (lookup (bytes_eq name) slots) refl;
        kept = λ name. kept_so name (lookup (bytes_eq name) slots) refl;
        me_is = refl;
        nodes_is = refl;
        start_is = refl;
        sends_are = refl;
        marks_are = refl;
      }

-- ---- What an event of forgetting keeps

raised_is_consistent : (me nodes : ℕ) (name : List ℕ) (start number : ℕ) (r : Resource) → IsConsistentResource me nodes name start r → IsConsistentResource me nodes name (max start number) (raised number r)
raised_is_consistent me nodes name start number r h =
    record {
      state = consistent_meet r.state number h.state;
      me_is = h.me_is;
      nodes_is = h.nodes_is;
      name_is = h.name_is;
      from_start = omega (arith, h.from_start);
      client_fits = h.client_fits;
      once = h.once;
      queue_stays = λ idle some. let high = h.queue_stays idle some in omega (arith, high);
    }

pub forget_kept : (old new : NodeState) (sends : List Message) (marks : List Mark) → IsConsistentNode old → ForgetEvent old sends marks new → IsConsistentNode new
forget_kept old new sends marks h event =
    record {
      count = subst (λ (k : ℕ). IsNodeNumber k) (sym event.nodes_is) h.count;
      member = (subst (λ (k : ℕ). 1 ≤ k) (sym event.me_is) h.member.0, omega (arith, event.me_is, event.nodes_is, h.member.1));
      each = λ name.
          subst (λ (k : ℕ). IsConsistentResource k new.nodes name new.start (resource_at new name)) (sym event.me_is)
          (subst (λ (k : ℕ). IsConsistentResource old.me k name new.start (resource_at new name)) (sym event.nodes_is)
          (subst (λ (k : ℕ). IsConsistentResource old.me old.nodes name k (resource_at new name)) (sym event.start_is)
          (subst (λ (r : Resource). IsConsistentResource old.me old.nodes name (max old.start event.number) r) (sym (event.resources name))
          (raised_is_consistent old.me old.nodes name old.start event.number (resource_at old name) (h.each name)))));
    }

-- the use of each name stays
pub forget_uses : (old new : NodeState) (sends : List Message) (marks : List Mark) → ForgetEvent old sends marks new → (name : List ℕ) → use_of (resource_at new name) ≡ use_of (resource_at old name)
forget_uses old new sends marks event name = ap use_of (event.resources name) ∙ raised_use (resource_at old name).state (resource_at old name).state.phase (resource_at old name).client event.number
  where
    raised_use : (s : State) (phase : Phase) (client : Option ℕ) (k : ℕ) → use_in (record s { highest = max s.highest k }) phase client ≡ use_in s phase client
    raised_use s phase None k = refl
    raised_use s Idle (Some c) k = refl
    raised_use s (Waiting seq mode) (Some c) k = refl
    raised_use s (Inside seq mode) (Some c) k = refl

-- ---- There is one common number

zero_or_less : (n : NodeState) (a b : ℕ) → IsCommonNumber n a → IsCommonNumber n b → a ≤ b
zero_or_less n a b p q = elim p.is_one [
  | inl none ↦ omega (arith, none)
  | inr is ↦ elim is [
    | inl start ↦ omega (arith, start, q.start (omega (arith, start, p.below)))
    | inr at ↦ omega (arith, at.1, q.each at.0 (omega (arith, at.1, p.below)))
  ]
]

pub one_number : (n : NodeState) (a b : ℕ) → IsCommonNumber n a → IsCommonNumber n b → a ≡ b
one_number n a b p q = omega (arith, zero_or_less n a b p q, zero_or_less n b a q p)

-- ---- What the map of resources is afterwards

some_there : (o : Option Resource) → IsSome o → (r : Resource) × (o ≡ Some r)
some_there None some = absurd (false≢true some)
some_there (Some r) some = (r, refl)

module _ (old new : NodeState) (sends : List Message) (marks : List Mark) (event : ForgetEvent old sends marks new) where
  now_as : (name : List ℕ) (o : Option Resource) → finmap.get old.resources name ≡ o → resource_at old name ≡ unwrap_or o (unmet old.me old.nodes name old.start)
  now_as name o is = ap (λ (x : Option Resource). unwrap_or x (unmet old.me old.nodes name old.start)) is

  entry_as : (name : List ℕ) (o o' : Option Resource) → finmap.get old.resources name ≡ o → finmap.get new.resources name ≡ o' → o' ≡ kept_of event.number o
  entry_as name None None was is = refl
  entry_as name None (Some r') was is = absurd (false≢true (subst IsSome was ((event.kept name).0 (subst IsSome (sym is) refl)).0))
  entry_as name (Some r) None was is = sym (ap (λ b. cond b None (Some (raised event.number r))) (forgettable_if (is_forgettable r) refl))
    where
      forgettable_if : (b : Bool) → is_forgettable r ≡ b → is_forgettable r ≡ true
      forgettable_if true e = e
      forgettable_if false e =
          absurd (false≢true (subst IsSome is ((event.kept name).1 (subst IsSome (sym was) refl, subst (λ (x : Resource). IsForgettable x → ⊥) (sym (now_as name (Some r) was)) (is_not_forgettable r e)))))
  entry_as name (Some r) (Some r') was is =
      let busy = not_forgettable r (subst (λ (x : Resource). IsForgettable x → ⊥) (now_as name (Some r) was) ((event.kept name).0 (subst IsSome (sym is) refl)).1) in
      let after_it : r' ≡ raised event.number r =
      sym (ap (λ (x : Option Resource). unwrap_or x (unmet new.me new.nodes name new.start)) is) ∙ event.resources name ∙ ap (raised event.number) (now_as name (Some r) was)
      in
      ap (λ (x : Resource). Some x) after_it ∙ sym (ap (λ b. cond b None (Some (raised event.number r))) busy)

  pub entry_after : (name : List ℕ) → finmap.get new.resources name ≡ kept_of event.number (finmap.get old.resources name)
  entry_after name = entry_as name (finmap.get old.resources name) (finmap.get new.resources name) refl refl

-- a node and the event decide what it is afterwards
pub forget_one : (old a b : NodeState) (ms ns : List Message) (xs ys : List Mark) → ForgetEvent old ms xs a → ForgetEvent old ns ys b → (ms ≡ ns) × (xs ≡ ys) × (a ≡ b)
forget_one old a b ms ns xs ys p q =
    let number : p.number ≡ q.number = one_number old p.number q.number p.common q.common in
    let maps : a.resources ≡ b.resources =
    finmap.same_map nat_list_cmp_total same_names _ _ (λ name.
    entry_after old a ms xs p name ∙ ap (λ (k : ℕ). kept_of k (finmap.get old.resources name)) number ∙ sym (entry_after old b ns ys q name))
    in
    let start : a.start ≡ b.start = p.start_is ∙ ap (max old.start) number ∙ sym q.start_is in (
      p.sends_are ∙ sym q.sends_are,
      p.marks_are ∙ sym q.marks_are,
      λ i. record { me = (p.me_is ∙ sym q.me_is) i; nodes = (p.nodes_is ∙ sym q.nodes_is) i; start = start i; resources = maps i },
    )

-- ---- The slots of a node are its entries

abbrev pub slots_of : NodeState → List (List ℕ × Resource)
slots_of n = finmap.entries n.resources

pub entries_again : (n : NodeState) → node_with n.me n.nodes n.start (slots_of n) ≡ n
entries_again n =
    let same : finmap.from_entries {R = slice_cmp nat_cmp} (slots_of n) ≡ n.resources =
    finmap.same_map nat_list_cmp_total same_names _ _ (λ q. finmap.get-from_entries nat_list_cmp_total (slots_of n) q ∙ sym (finmap.get-entries n.resources q))
    in
    λ i. record { me = n.me; nodes = n.nodes; start = n.start; resources = same i }

-- no name has two entries
above_all : (q : List ℕ) (es : List (List ℕ × Resource)) → T (below_all (slice_cmp nat_cmp) q es) → AllByRecursion (λ x. bytes_eq q x ≡ false) (keys_of es)
above_all q [] t = tt
above_all q (e ∷ es) t =
    let both = true_of (is_lt (slice_cmp nat_cmp q e.0)) (below_all (slice_cmp nat_cmp) q es) t in
    (sym (is_eq-slice_cmp q e.0) ∙ less_is_apart (slice_cmp nat_cmp q e.0) both.0, above_all q es both.1)
  where
    less_is_apart : (o : Ordering) → T (is_lt o) → is_eq o ≡ false
    less_is_apart Less t = refl
    less_is_apart Equal t = absurd t
    less_is_apart Greater t = refl

sorted_is_distinct : (es : List (List ℕ × Resource)) → T (is_sorted (slice_cmp nat_cmp) es) → IsDistinct bytes_eq (keys_of es)
unfolding IsDistinct
sorted_is_distinct [] t = tt
sorted_is_distinct (e ∷ es) t =
    let both = true_of (below_all (slice_cmp nat_cmp) e.0 es) (is_sorted (slice_cmp nat_cmp) es) t in
    (above_all e.0 es both.0, sorted_is_distinct es both.1)

pub distinct_entries : (n : NodeState) → IsDistinct bytes_eq (keys_of (slots_of n))
distinct_entries n = sorted_is_distinct (slots_of n) (finmap.entries_sorted n.resources)

-- each resource of a consistent node is consistent
entry_found : (es : List (List ℕ × Resource)) → IsDistinct bytes_eq (keys_of es) → (k : ℕ) (d : List ℕ × Resource) → k < length es → lookup (bytes_eq (get_or es k d).0) es ≡ Some (get_or es k d).1
unfolding IsDistinct
entry_found [] distinct k d lt = absurd (omega (arith, lt))
entry_found (e ∷ es) distinct zero d lt = ap (λ b. cond b (Some e.1) (lookup (bytes_eq e.0) es)) ((bytes_eq-Decides e.0 e.0).1 refl)
entry_found (e ∷ es) distinct (suc k) d lt =
    let x = get_or es k d in
    let later = entry_found es distinct.1 k d (omega (arith, lt)) in
    elim (bytes_eq x.0 e.0) as (λ b. bytes_eq x.0 e.0 ≡ b → cond b (Some e.1) (lookup (bytes_eq x.0) es) ≡ Some x.1) [
      | true ↦ λ same. absurd (none-some x.1 (sym (subst (λ (q : List ℕ). lookup (bytes_eq q) es ≡ None) (sym ((bytes_eq-Decides x.0 e.0).0 same)) (absent e.0 es distinct.0)) ∙ later))
      | false ↦ λ _. later
    ] refl

pub all_consistent : (n : NodeState) → IsConsistentNode n → AreAll (λ r. IsConsistent r.state) (slots_of n)
all_consistent n h k d lt =
    let e = get_or (slots_of n) k d in
    let found = entry_found (slots_of n) (distinct_entries n) k d lt in
    let is : resource_at n e.0 ≡ e.1 =
    sym (ap (λ (m : NodeState). resource_at m e.0) (entries_again n)) ∙ ap (λ (o : Option Resource). unwrap_or o (unmet n.me n.nodes e.0 n.start)) (get_slot (slots_of n) e.0 ∙ found)
    in
    subst (λ (r : Resource). IsConsistent r.state) is (h.each e.0).state

-- ---- Each node may forget

pub forget_is_possible : (old : NodeState) → IsConsistentNode old → AllowsEvent old Forget
forget_is_possible old h =
    let again = entries_again old in
    let slots = slots_of old in
    let distinct = distinct_entries old in
    let event = forgets old.me old.nodes old.start slots distinct (subst IsConsistentNode (sym again) h) in
    let new = after old.me old.nodes old.start slots distinct in
    ([], [], new, subst (λ (n : NodeState). ForgetEvent n [] [] new) again event)

-- ---- No client goes

pub total_stays : (P : Resource → Type 0) (f : Resource → ℕ) → Unmoved P f → (old new : NodeState) (sends : List Message) (marks : List Mark) → ForgetEvent old sends marks new → AreAll P (slots_of old)
    → sum_by (λ e. f e.1) (finmap.entries new.resources) ≡ sum_by (λ e. f e.1) (finmap.entries old.resources)
total_stays P f unmoved old new sends marks event every =
    let slots = slots_of old in
    let distinct = distinct_entries old in
    let again = entries_again old in
    let maps : new.resources ≡ finmap.from_entries (forgotten event.number slots) =
    finmap.same_map nat_list_cmp_total same_names _ _ (λ q.
    entry_after old new sends marks event q
    ∙ ap (kept_of event.number) (sym (ap (λ (n : NodeState). finmap.get n.resources q) again) ∙ get_slot slots q)
    ∙ sym (forgotten_finds event.number slots q distinct)
    ∙ sym (get_slot (forgotten event.number slots) q))
    in
    ap (λ (m : finmap.FinMap (slice_cmp nat_cmp) Resource). sum_by (λ e. f e.1) (finmap.entries m)) maps
    ∙ same_sum P f unmoved event.number slots every distinct
    ∙ ap (λ (n : NodeState). sum_by (λ e. f e.1) (finmap.entries n.resources)) again

pub forget_counts : (old new : NodeState) (sends : List Message) (marks : List Mark) → ForgetEvent old sends marks new → clients_count new ≡ clients_count old
forget_counts old new sends marks event = total_stays NothingElse (λ r. length (clients_of r)) clients_unmoved old new sends marks event (any_ones (slots_of old))
