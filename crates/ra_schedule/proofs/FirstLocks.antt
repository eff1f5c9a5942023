-- How loops over the operations of a client, and over clients, find the first lock that is out of order or never unlocked.
use Rattle.std.proofs.Common.{◌≡◌, ◌⊎◌, ℕ, zero, suc, ◌+◌, ◌<◌, ◌≤◌, List, length, Option, Some, None, refl, sym, ap, ◌∙◌, subst, arith, inl, inr}
use Rattle.std.specs.Prelude.{⊤, option_map, IfSome, IsNone}
use Rattle.std.proofs.lemmas.Bool.{cases_lt}
use Rattle.std.proofs.lemmas.Option.{slice_get_within, same_Some, none-some}
use Rattle.ra_schedule.specs.declared.script.Op.{Op}
use Rattle.ra_schedule.specs.declared.script.Op.TheVariants.{Lock}
use Rattle.ra_schedule.specs.declared.script.lock_order.OutOfOrder.{OutOfOrder}
use Rattle.ra_schedule.specs.Script.{ScriptClient, ScriptState, client_at}
use Rattle.ra_schedule.specs.LockOrder.{IsOf, LocksBelow, IsFirstBelow, NeverUnlocks, IsFirstNeverUnlocked, EndsHolding}
use Rattle.ra_schedule.specs.LockSearch.{NoneBelow}
use Rattle.ra_schedule.proofs.LockPlaces.{held_kept}

-- ---- In the operations of a client

-- the end of the places that are left, if this was found first
abbrev end_of : List Op → Option OutOfOrder → ℕ
end_of ops None = length ops
end_of ops (Some found) = found.place

-- what was found is out of order, at a place before this one
abbrev IsFound : List Op → (client since : ℕ) → Option OutOfOrder → Type 0
IsFound ops client since None = ⊤
IsFound ops client since (Some found) = (found.client ≡ client) × (found.since < since) × LocksBelow ops found.since found.place

-- it comes before these places, or it is at them
abbrev IsBefore : Option OutOfOrder → (since place : ℕ) → Type 0
IsBefore None since place = ⊥
IsBefore (Some found) since place = (found.place < place) ⊎ ((found.place ≡ place) × (found.since ≤ since))

-- the first found among the names that were locked before the place `since`
pub record FirstSoFar (ops : List Op) (client since end : ℕ) (first : Option OutOfOrder) : Type 0 where
  pub end_is : end ≡ end_of ops first
  pub found : IsFound ops client since first
  pub before : (earlier other : ℕ) → earlier < since → LocksBelow ops earlier other → IsBefore first earlier other

-- both places are places of operations
within : (ops : List Op) (since place : ℕ) → LocksBelow ops since place → place < length ops
within ops since place b = slice_get_within ops place (Lock b.name b.locks.0) b.locks.1

still_found : (ops : List Op) (client since : ℕ) (first : Option OutOfOrder) → IsFound ops client since first → IsFound ops client (since + 1) first
still_found ops client since None found = tt
still_found ops client since (Some f) found = (found.0, omega (arith, found.1), found.2)

at_the_place : (ops : List Op) (client since end : ℕ) (first : Option OutOfOrder) → end ≡ end_of ops first → IsFound ops client since first
    → (other : ℕ) → end ≤ other → LocksBelow ops since other → IsBefore first since other
at_the_place ops client since end None is found other past b = let low = within ops since other b in omega arith
at_the_place ops client since end (Some f) is found other past b =
    elim (cases_lt f.place other) [
      | inl less ↦ inl less
      | inr more ↦ let early = found.1 in inr (omega arith, omega arith)
    ]

-- the places that are left are places of operations
pub end_within : (ops : List Op) (client since end : ℕ) (first : Option OutOfOrder) → FirstSoFar ops client since end first → end ≤ length ops
end_within ops client since end None so_far = let is = so_far.end_is in omega (arith, is)
end_within ops client since end (Some f) so_far =
    let is = so_far.end_is in let low = within ops f.since f.place so_far.found.2 in omega (arith, is, low)

-- the name that is locked at the place, if there is one, is no sooner out of order
pub none_here : (ops : List Op) (client since end : ℕ) (first : Option OutOfOrder) → FirstSoFar ops client since end first → NoneBelow ops since end
    → FirstSoFar ops client (since + 1) end first
none_here ops client since end first so_far none = record {
  end_is = so_far.end_is;
  found = still_found ops client since first so_far.found;
  before = λ earlier other less b. elim (cases_lt earlier since) [
    | inl low ↦ so_far.before earlier other low b
    | inr high ↦
        let at : earlier ≡ since = omega arith in
        let here : LocksBelow ops since other = subst (λ (n : ℕ). LocksBelow ops n other) at b in
        let past : end ≤ other = elim (cases_lt other end) [ inl under ↦ absurd (none other under here) | inr over ↦ over ] in
        subst (λ (n : ℕ). IsBefore first n other) (sym at) (at_the_place ops client since end first so_far.end_is so_far.found other past here)
  ];
}

after_new : (ops : List Op) (client since end place : ℕ) (first : Option OutOfOrder) → end ≡ end_of ops first → place < end
    → (earlier other : ℕ) → IsBefore first earlier other → place < other
after_new ops client since end place None is less earlier other before = absurd before
after_new ops client since end place (Some f) is less earlier other before =
    elim before [ inl later ↦ omega arith | inr same ↦ let e = same.0 in omega arith ]

-- it is sooner out of order
pub some_here : (ops : List Op) (client since end place : ℕ) (first : Option OutOfOrder) → FirstSoFar ops client since end first → place < end
    → LocksBelow ops since place → NoneBelow ops since place
    → FirstSoFar ops client (since + 1) place (Some (record { client = client; place = place; since = since }))
some_here ops client since end place first so_far sooner here none = record {
  end_is = refl;
  found = (refl, omega arith, here);
  before = λ earlier other less b. elim (cases_lt earlier since) [
    | inl low ↦ inl (after_new ops client since end place first so_far.end_is sooner earlier other (so_far.before earlier other low b))
    | inr high ↦
        let at : earlier ≡ since = omega arith in
        elim (cases_lt place other) [
          | inl later ↦ inl later
          | inr more ↦ elim (cases_lt other place) [
            | inl under ↦ absurd (none other under (subst (λ (n : ℕ). LocksBelow ops n other) at b))
            | inr over ↦ inr (omega arith, omega arith)
          ]
        ]
  ];
}

-- at the end it is the first of all
pub first_of_all : (ops : List Op) (client since end : ℕ) (first : Option OutOfOrder) → FirstSoFar ops client since end first → length ops ≤ since
    → IfSome first (λ found. (found.client ≡ client) × IsFirstBelow ops found.since found.place)
first_of_all ops client since end None so_far all = tt
first_of_all ops client since end (Some f) so_far all = (
  so_far.found.0,
  record {
    is = so_far.found.2;
    first = λ earlier other b.
        let low = within ops earlier other b in
        let early = b.later in
        so_far.before earlier other (omega arith) b;
  },
)

pub none_of_all : (ops : List Op) (client since end : ℕ) (first : Option OutOfOrder) → FirstSoFar ops client since end first → length ops ≤ since
    → IsNone first → (earlier other : ℕ) → LocksBelow ops earlier other → ⊥
none_of_all ops client since end None so_far all none earlier other b =
    let low = within ops earlier other b in
    let early = b.later in
    so_far.before earlier other (omega arith) b
none_of_all ops client since end (Some f) so_far all none earlier other b = absurd cc

-- ---- Of a client

pub has_ops : (o : Option ScriptClient) (ops : List Op) → Some ops ≡ option_map (λ (c : ScriptClient). c.ops) o → (c : ScriptClient) × (o ≡ Some c) × (ops ≡ c.ops)
has_ops None ops is = absurd (none-some ops (sym is))
has_ops (Some c) ops is = (c, refl, same_Some ops c.ops is)

pub of_ops : (P : List Op → Type 0) (script : ScriptState) (client : ℕ) (ops : List Op)
    → Some ops ≡ option_map (λ (c : ScriptClient). c.ops) (client_at script client) → P ops → IsOf P script client
of_ops P script client ops is holds =
    let (c, at, same) = has_ops (client_at script client) ops is in
    (c, at, subst P same holds)

pub ops_of : (P : List Op → Type 0) (script : ScriptState) (client : ℕ) (ops : List Op)
    → Some ops ≡ option_map (λ (c : ScriptClient). c.ops) (client_at script client) → IsOf P script client → P ops
ops_of P script client ops is h =
    let same : Some ops ≡ Some h.0.ops = is ∙ ap (λ (o : Option ScriptClient). option_map (λ (c : ScriptClient). c.ops) o) h.1 in
    subst P (sym (same_Some ops h.0.ops same)) h.2

pub no_ops : (P : List Op → Type 0) (script : ScriptState) (client : ℕ)
    → None ≡ option_map (λ (c : ScriptClient). c.ops) (client_at script client) → IsOf P script client → ⊥
no_ops P script client is h = none-some h.0.ops (is ∙ ap (λ (o : Option ScriptClient). option_map (λ (c : ScriptClient). c.ops) o) h.1)

-- what is true of some operations is true of those that have it too
pub weaker : (P Q : List Op → Type 0) (script : ScriptState) (client : ℕ) → ((ops : List Op) → P ops → Q ops) → IsOf P script client → IsOf Q script client
weaker P Q script client f h = (h.0, h.1, f h.0.ops h.2)

pub below_of_client : (o : Option OutOfOrder) (script : ScriptState) (client : ℕ) (ops : List Op)
    → Some ops ≡ option_map (λ (c : ScriptClient). c.ops) (client_at script client)
    → IfSome o (λ found. (found.client ≡ client) × IsFirstBelow ops found.since found.place)
    → IfSome o (λ found. (found.client ≡ client) × IsOf (λ ops. IsFirstBelow ops found.since found.place) script client)
below_of_client None script client ops is found = tt
below_of_client (Some f) script client ops is found = (found.0, of_ops (λ ops. IsFirstBelow ops f.since f.place) script client ops is found.1)

-- the first place at which a name is locked that is never unlocked
pub first_kept : (ops : List Op) (place : ℕ) → ((k : ℕ) → k < place → NeverUnlocks ops k → ⊥) → NeverUnlocks ops place → IsFirstNeverUnlocked ops place
first_kept ops place before here = record {
  is = here;
  first = λ other b. elim (cases_lt other place) [
    | inl less ↦ absurd (before other less b)
    | inr more ↦ more
  ];
}

-- there is no such place
pub none_kept : (ops : List Op) (count : ℕ) → length ops ≤ count → ((k : ℕ) → k < count → NeverUnlocks ops k → ⊥) → EndsHolding ops → ⊥
none_kept ops count all none h =
    let b = held_kept ops h in
    let low = slice_get_within ops b.0 (Lock b.1.name b.1.locks.0) b.1.locks.1 in
    none b.0 (omega arith) b.1

-- ---- Over all clients

-- no client so far was found
abbrev pub NoClient : (List Op → Type 0) → ScriptState → ℕ → Type 0
NoClient P script place = (k : ℕ) → k < place → IsOf P script (k + 1) → ⊥

pub not_before : (P : List Op → Type 0) (script : ScriptState) (place : ℕ) → NoClient P script place → (client : ℕ) → IsOf P script client → place < client
not_before P script place none zero h = absurd (none-some h.0 h.1)
not_before P script place none (suc k) h =
    elim (cases_lt k place) [
      | inl less ↦ let same : suc k ≡ k + 1 = omega arith in absurd (none k less (subst (λ (n : ℕ). IsOf P script n) same h))
      | inr more ↦ omega arith
    ]

pub no_client : (P : List Op → Type 0) (script : ScriptState) (count : ℕ) → count ≡ length script.clients → NoClient P script count
    → ((client : ℕ) × IsOf P script client) → ⊥
no_client P script count is none (zero, h) = none-some h.0 h.1
no_client P script count is none (suc k, h) =
    let less = slice_get_within script.clients k h.0 h.1 in
    let past = not_before P script count none (suc k) h in
    omega arith
