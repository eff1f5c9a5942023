-- Sums over all names, and how they change if the resource of one name changes.
use Rattle.std.proofs.Common.{◌≡◌, ℕ, ◌+◌, ◌*◌, ◌/◌, ◌^◌, ◌≤◌, Bool, true, false, cond, List, [], ◌∷◌, length, Option, Some, None, Result, Ok, Err, MatchResult, refl, sym, ap, ◌∙◌, subst, arith}
use Rattle.std.specs.Prelude.{sum_by, unwrap_or}
use Rattle.std.specs.Str.{bytes_eq}
use Rattle.std.specs.List.{IsDistinct}
use Rattle.std.specs.Map.{lookup, keys_of}
use Rattle.std.specs.Ordering.{nat_cmp, eq_by_cmp}
use Rattle.std.specs.Cmp.Lexicographic.{slice_cmp, nat_list_cmp_total}
use Rattle.std.specs.FinMap as finmap
use Rattle.std.proofs.lemmas.List.Sums.{sum_by-cons}
use Rattle.std.specs.HashMap.{HashMap, WritesThrough}
use Rattle.ra_stamp.specs.declared.message.Message.{Message}
use Rattle.ra_automaton.specs.State.{IsConsistent}
use Rattle.ra_node.specs.declared.outcome.Outcome.{Outcome}
use Rattle.ra_node.specs.Resource.{Resource, waiting_in, waiting_at}
use Rattle.ra_node.specs.Turns.{ReceiveTurn}
use Rattle.ra_automaton.specs.declared.phase.Phase.{Phase}
use Rattle.ra_automaton.specs.declared.phase.Phase.TheVariants.{Idle, Waiting, Inside}
use Rattle.ra_node.specs.Node.{NodeState}
use Rattle.ra_node.specs.View.{node_with, Finds}
use Rattle.ra_node.proofs.After.{written_through}
use Rattle.ra_node.proofs.Lookups.{names-Decides, same_name}
use Rattle.ra_node.proofs.Named.{same_names, get_slot, updated, sum_of_slots, sum_of_insert, sum_of_none}

abbrev Names : Type 0
Names = finmap.FinMap (slice_cmp nat_cmp) Resource

abbrev sum_over : (Resource → ℕ) → Names → ℕ
sum_over f m = sum_by (λ e. f e.1) (finmap.entries m)

-- ---- One name

-- to put a resource where another one was taken out is to replace that one
put_over : (m : Names) (name : List ℕ) (r : Resource) → finmap.insert (finmap.remove m name) name r ≡ finmap.insert m name r
put_over m name r =
    finmap.same_map nat_list_cmp_total same_names _ _ (λ q.
    finmap.get-insert nat_list_cmp_total (finmap.remove m name) name r q
    ∙ (ap (λ (o : Option Resource). cond (eq_by_cmp (slice_cmp nat_cmp) q name) (Some r) o) (finmap.get-remove nat_list_cmp_total m name q)
    ∙ (twice (eq_by_cmp (slice_cmp nat_cmp) q name) (finmap.get m q)
    ∙ sym (finmap.get-insert nat_list_cmp_total m name r q))))
  where
    twice : (b : Bool) (o : Option Resource) → cond b (Some r) (cond b None o) ≡ cond b (Some r) o
    twice true o = refl
    twice false o = refl

-- to put a resource at its own place changes nothing
put_same : (m : Names) (name : List ℕ) (r : Resource) → finmap.get m name ≡ Some r → finmap.insert m name r ≡ m
put_same m name r is =
    finmap.same_map nat_list_cmp_total same_names _ _ (λ q.
    finmap.get-insert nat_list_cmp_total m name r q
    ∙ elim (eq_by_cmp (slice_cmp nat_cmp) q name) as (λ b. eq_by_cmp (slice_cmp nat_cmp) q name ≡ b → cond b (Some r) (finmap.get m q) ≡ finmap.get m q) [
      | true ↦ λ e. sym (ap (finmap.get m) ((names-Decides q name).0 e) ∙ is)
      | false ↦ λ _. refl
    ] refl)

taken : (m : Names) (name : List ℕ) → finmap.get (finmap.remove m name) name ≡ None
taken m name =
    finmap.get-remove nat_list_cmp_total m name name
    ∙ ap (λ b. cond b None (finmap.get m name)) (same_name name name refl)

sum_is : (f : Resource → ℕ) (m : Names) (name : List ℕ) (old : Resource) → finmap.get m name ≡ Some old → sum_over f m ≡ f old + sum_over f (finmap.remove m name)
sum_is f m name old is =
    let rest = finmap.remove m name in
    sym (ap (sum_over f) (put_same m name old is)) ∙ (sym (ap (sum_over f) (put_over m name old)) ∙ sum_of_insert f rest name old (taken m name))

-- the sum loses what the old resource was in it, and gains what the new one is
sum_moves : (f : Resource → ℕ) (m : Names) (name : List ℕ) (old new : Resource) → finmap.get m name ≡ Some old → sum_over f (finmap.insert m name new) + f old ≡ sum_over f m + f new
sum_moves f m name old new is =
    let rest = finmap.remove m name in
    let now : sum_over f (finmap.insert m name new) ≡ f new + sum_over f rest = sym (ap (sum_over f) (put_over m name new)) ∙ sum_of_insert f rest name new (taken m name) in
    omega (arith, sum_is f m name old is, now)

-- a resource that comes under a name, in place of what is found there; a name that is not there adds nothing
pub sum_put : (f : Resource → ℕ) (m : Names) (name : List ℕ) (absent new : Resource) → f absent ≡ 0 → sum_over f (finmap.insert m name new) + f (unwrap_or (finmap.get m name) absent) ≡ sum_over f m + f new
sum_put f m name absent new zero = of_entry (finmap.get m name) refl
  where
    of_entry : (o : Option Resource) → finmap.get m name ≡ o → sum_over f (finmap.insert m name new) + f (unwrap_or o absent) ≡ sum_over f m + f new
    of_entry None none = omega (arith, sum_of_insert f m name new none, zero)
    of_entry (Some old) is = sum_moves f m name old new is

-- what is found under a name is a part of the sum
pub sum_part : (f : Resource → ℕ) (m : Names) (name : List ℕ) (absent : Resource) → f absent ≡ 0 → f (unwrap_or (finmap.get m name) absent) ≤ sum_over f m
sum_part f m name absent zero = of_entry (finmap.get m name) refl
  where
    of_entry : (o : Option Resource) → finmap.get m name ≡ o → f (unwrap_or o absent) ≤ sum_over f m
    of_entry None none = omega (arith, zero)
    of_entry (Some old) is = omega (arith, sum_is f m name old is)

abbrev pub sum_at : (Resource → ℕ) → List (List ℕ × Resource) → ℕ
sum_at f slots = sum_over f (finmap.from_entries slots)

-- the slot of a name changes
pub moved : (f : Resource → ℕ) (slots slots' : List (List ℕ × Resource)) (name : List ℕ) (old new : Resource) → Some old ≡ lookup (bytes_eq name) slots → Finds slots slots' name new → sum_at f slots' + f old ≡ sum_at f slots + f new
moved f slots slots' name old new was finds =
    let m = finmap.from_entries {R = slice_cmp nat_cmp} slots in
    subst (λ (m' : Names). sum_over f m' + f old ≡ sum_over f m + f new) (sym (updated slots slots' name new finds))
    (sum_moves f m name old new (get_slot slots name ∙ sym was))

-- what a resource adds is a part of the sum
pub part : (f : Resource → ℕ) (slots : List (List ℕ × Resource)) (name : List ℕ) (old : Resource) → Some old ≡ lookup (bytes_eq name) slots → f old ≤ sum_at f slots
part f slots name old was = omega (arith, sum_is f (finmap.from_entries {R = slice_cmp nat_cmp} slots) name old (get_slot slots name ∙ sym was))

-- a write goes through a look-up
pub through : {S : Type 0} (f : Resource → ℕ) (slots slots' : HashMap (List ℕ) Resource S) (name : List ℕ) (old new : Resource) → Some old ≡ lookup (bytes_eq name) slots.entries → WritesThrough bytes_eq (bytes_eq name) slots new slots'
    → sum_at f slots'.entries + f old ≡ sum_at f slots.entries + f new
through f slots slots' name old new was writes = moved f slots.entries slots'.entries name old new was (written_through slots slots' name old new was writes).finds

-- the slot of a name comes
pub come : (f : Resource → ℕ) (me nodes start : ℕ) (slots slots' : List (List ℕ × Resource)) (now : NodeState) (name : List ℕ) (new : Resource) → node_with me nodes start slots ≡ now → finmap.get now.resources name ≡ None
    → Finds slots slots' name new → sum_at f slots' ≡ f new + sum_at f slots
come f me nodes start slots slots' now name new is none finds =
    let nowhere : finmap.get (finmap.from_entries {R = slice_cmp nat_cmp} slots) name ≡ None = ap (λ (m : NodeState). finmap.get m.resources name) is ∙ none in
    ap (sum_over f) (updated slots slots' name new finds) ∙ sum_of_insert f (finmap.from_entries slots) name new nowhere

-- ---- Bounds

pub one_at_most : (phase : Phase) → waiting_in phase ≤ 1
one_at_most Idle = omega arith
one_at_most (Waiting seq mode) = omega arith
one_at_most (Inside seq mode) = omega arith

waiting_room : (slots : List (List ℕ × Resource)) → sum_by (λ e. waiting_at e.1) slots ≤ length slots
waiting_room [] = omega arith
waiting_room (e ∷ es) = omega (arith, sum_by-cons (λ (x : List ℕ × Resource). waiting_at x.1) e es, one_at_most e.1.state.phase, waiting_room es)

-- no name adds nothing
pub nothing : (f : Resource → ℕ) (slots : List (List ℕ × Resource)) → slots ≡ [] → sum_at f slots ≡ 0
nothing f slots none = ap (sum_at f) none ∙ sum_of_none f

-- at most one request waits on a name
pub few_wait : (slots : List (List ℕ × Resource)) → IsDistinct bytes_eq (keys_of slots) → sum_at waiting_at slots ≤ length slots
few_wait slots distinct = omega (arith, sym (sum_of_slots waiting_at slots distinct), waiting_room slots)

queued_room : (slots : List (List ℕ × Resource)) → sum_by (λ e. length e.1.queue / 2 ^ 64) slots ≡ 0 → sum_by (λ e. length e.1.queue) slots ≤ length slots * 2 ^ 64
queued_room [] none = omega arith
queued_room (e ∷ es) none =
    let short = sum_by-cons (λ (x : List ℕ × Resource). length x.1.queue / 2 ^ 64) e es in
    let rest = queued_room es (omega (arith, none, short)) in
    omega (arith, none, short, rest, sum_by-cons (λ (x : List ℕ × Resource). length x.1.queue) e es)

-- and each queue is shorter than 2^64
pub few_queue : (slots : List (List ℕ × Resource)) → IsDistinct bytes_eq (keys_of slots) → sum_at (λ r. length r.queue / 2 ^ 64) slots ≡ 0 → sum_at (λ r. length r.queue) slots ≤ length slots * 2 ^ 64
few_queue slots distinct short =
    omega (arith, sym (sum_of_slots (λ r. length r.queue) slots distinct), queued_room slots (sum_of_slots (λ r. length r.queue / 2 ^ 64) slots distinct ∙ short))

-- ---- A message

-- a message changes no queue
pub queue_stays : {E : Type 0} (result : Result Outcome E) (Refused : E → Type 0) (old new : Resource) (message : Message) → MatchResult result (λ o. ReceiveTurn old message o.sends.items o.marks.items new × IsConsistent new.state) (λ fault. Refused fault × (new ≡ old)) → new.queue ≡ old.queue
queue_stays (Ok outcome) Refused old new message ended = ended.0.queue_is
queue_stays (Err fault) Refused old new message ended = ap (λ (r : Resource). r.queue) ended.1
