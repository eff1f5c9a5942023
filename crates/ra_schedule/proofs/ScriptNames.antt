-- The names of a script, put into a set one by one.
use Rattle.std.proofs.Common.{◌≡◌, ◌⊎◌, ◌↔◌, ℕ, zero, suc, ◌+◌, ◌<◌, ◌≤◌, Bool, true, false, cond, List, [], ◌∷◌, length, Contains, Option, Some, None, BTreeSet, refl, sym, ap, ◌∙◌, subst, arith, inl, inr}
use Rattle.std.specs.Prelude.{IsTrue, slice_get, option_map, option_and_then}
use Rattle.std.specs.BTreeSet as sorted
use Rattle.std.specs.Ordering.{nat_cmp, eq_by_cmp}
use Rattle.std.specs.Cmp.Lexicographic.{slice_cmp, nat_list_cmp_total}
use Rattle.std.proofs.lemmas.Bool.{cases_eq}
use Rattle.std.proofs.lemmas.Map.Lookups.{exact_bytes}
use Rattle.std.proofs.lemmas.Map.Views.{btree_set_contains_iff, tells_apart}
use Rattle.ra_schedule.specs.declared.script.Op.{Op}
use Rattle.ra_schedule.specs.Script.{ScriptClient, ScriptState, client_at, op_at}
use Rattle.std.specs.List.Sorted.{IsStrictlySortedBy}
use Rattle.ra_schedule.specs.StateText.{name_of, AreNamesOf, IsNameAt, IsNameOf}

-- an operation of the client before this place is about the name
abbrev pub IsNameBefore : ScriptState → ℕ → ℕ → List ℕ → Type 0
IsNameBefore script client bound name = (place : ℕ) × (op : Op) × (place < bound) × (op_at script client place ≡ Some op) × (name_of op ≡ name)

-- the new set has the old names, and the names in the client's operations before this place
abbrev pub HasNames : ScriptState → ℕ → ℕ → List (List ℕ) → List (List ℕ) → Type 0
HasNames script client bound old new = (name : List ℕ) → Contains new name ↔ (Contains old name ⊎ IsNameBefore script client bound name)

pub no_names : (script : ScriptState) (client : ℕ) (old : List (List ℕ)) → HasNames script client 0 old old
no_names script client old name = (
  λ is. inl is,
  λ either. elim either [
    | inl is ↦ is
    | inr (place, op, less, at, about) ↦ absurd (omega (arith, less))
  ],
)

-- a set with another name
one_more : (old new : BTreeSet (List ℕ)) (key q : List ℕ) → sorted.Updates (slice_cmp nat_cmp) old new key true
    → Contains new.keys q ↔ (Contains old.keys q ⊎ (key ≡ q))
one_more old new key q updated = (
  λ is. by_cases (eq_by_cmp (slice_cmp nat_cmp) key q) refl ((btree_set_contains_iff nat_list_cmp_total exact_bytes new q).1 is),
  λ either. elim either [
    | inl before ↦
        let was = (btree_set_contains_iff nat_list_cmp_total exact_bytes old q).1 before in
        (btree_set_contains_iff nat_list_cmp_total exact_bytes new q).0
        (updated.0 q ∙ ap (cond (eq_by_cmp (slice_cmp nat_cmp) key q) true) was ∙ both (eq_by_cmp (slice_cmp nat_cmp) key q))
    | inr same ↦ subst (λ (k : List ℕ). Contains new.keys k) same ((btree_set_contains_iff nat_list_cmp_total exact_bytes new key).0 updated.1)
  ],
)
  where
    both : (b : Bool) → cond b true true ≡ true
    both true = refl
    both false = refl

    by_cases : (b : Bool) → eq_by_cmp (slice_cmp nat_cmp) key q ≡ b → IsTrue (sorted.contains (slice_cmp nat_cmp) new q) → Contains old.keys q ⊎ (key ≡ q)
    by_cases true e is = inr (tells_apart exact_bytes key q e)
    by_cases false e is =
        let was = sym (updated.0 q ∙ ap (λ b. cond b true (sorted.contains (slice_cmp nat_cmp) old q)) e) ∙ is in
        inl ((btree_set_contains_iff nat_list_cmp_total exact_bytes old q).0 was)

-- two operations at one place are one
one_op : (a b : Op) (o : Option Op) → o ≡ Some a → o ≡ Some b → a ≡ b
one_op a b o at also = cc

-- the name of the next operation is put in
pub name_put : (script : ScriptState) (client place : ℕ) (op : Op) (key : List ℕ) (old : List (List ℕ)) (mid new : BTreeSet (List ℕ))
    → HasNames script client place old mid.keys → op_at script client place ≡ Some op → key ≡ name_of op
    → sorted.Updates (slice_cmp nat_cmp) mid new key true → HasNames script client (place + 1) old new.keys
name_put script client place op key old mid new has at is updated name = (
  λ in_new. elim ((one_more mid new key name updated).0 in_new) [
    | inl in_mid ↦ elim ((has name).0 in_mid) [
      | inl before ↦ inl before
      | inr (k, o, less, there, about) ↦ inr (k, o, omega (arith, less), there, about)
    ]
    | inr same ↦ inr (place, op, omega arith, at, sym is ∙ same)
  ],
  λ either. (one_more mid new key name updated).1 (elim either [
    | inl before ↦ inl ((has name).1 (inl before))
    | inr (k, o, less, there, about) ↦ by_place k o less there about
  ]),
)
  where
    by_place : (k : ℕ) (o : Op) → k < place + 1 → op_at script client k ≡ Some o → name_of o ≡ name → Contains mid.keys name ⊎ (key ≡ name)
    by_place k o less there about = elim (cases_eq k place) [
      | inl same ↦
          let this : o ≡ op = one_op o op (op_at script client place) (subst (λ (j : ℕ). op_at script client j ≡ Some o) same there) at in
          inr (is ∙ ap name_of (sym this) ∙ about)
      | inr apart ↦ inl ((has name).1 (inr (k, o, omega (arith, less, apart), there, about)))
    ]

-- ---- All operations of a client

-- an operation is at a place before the end
before_end : (script : ScriptState) (client place count : ℕ) (op : Op) → option_map (λ c. length c.ops) (client_at script client) ≡ Some count
    → op_at script client place ≡ Some op → place < count
before_end script client place count op counted at = by (client_at script client) counted at
  where
    no_count : (n : ℕ) → None ≡ Some n → ⊥
    no_count n e = absurd cc

    within : (ops : List Op) (k : ℕ) (o : Op) → slice_get ops k ≡ Some o → k < length ops
    within [] k o e = absurd cc
    within (x ∷ ops) zero o e = omega arith
    within (x ∷ ops) (suc k) o e = let h = within ops k o e in omega (arith, h)

    by : (who : Option ScriptClient) → option_map (λ c. length c.ops) who ≡ Some count → option_and_then (λ c. slice_get c.ops place) who ≡ Some op → place < count
    by None e f = absurd (no_count count e)
    by (Some who) e f = let same : length who.ops ≡ count = cc in let h = within who.ops place op f in omega (arith, h, same)

-- at each place before the end there is an operation
pub is_there : (script : ScriptState) (client place count : ℕ) → option_map (λ c. length c.ops) (client_at script client) ≡ Some count → place < count
    → None ≡ op_at script client place → ⊥
is_there script client place count counted within none = by (client_at script client) counted none
  where
    some_at : (ops : List Op) (k : ℕ) → k < length ops → None ≡ slice_get ops k → ⊥
    some_at [] k less e = absurd (omega (arith, less))
    some_at (x ∷ ops) zero less e = absurd cc
    some_at (x ∷ ops) (suc k) less e = some_at ops k (omega (arith, less)) e

    by : (who : Option ScriptClient) → option_map (λ c. length c.ops) who ≡ Some count → None ≡ option_and_then (λ c. slice_get c.ops place) who → ⊥
    by None e f = absurd cc
    by (Some who) e f = let same : length who.ops ≡ count = cc in some_at who.ops place (omega (arith, within, same)) f

-- after the last place the names are all the client's names
pub all_put : (script : ScriptState) (client count bound : ℕ) (old new : List (List ℕ)) → option_map (λ c. length c.ops) (client_at script client) ≡ Some count → count ≤ bound
    → HasNames script client bound old new → (name : List ℕ) → Contains new name ↔ (Contains old name ⊎ IsNameAt script client name)
all_put script client count bound old new counted past has name = (
  λ is. elim ((has name).0 is) [
    | inl before ↦ inl before
    | inr (k, o, less, there, about) ↦ inr (k, o, there, about)
  ],
  λ either. (has name).1 (elim either [
    | inl before ↦ inl before
    | inr (k, o, there, about) ↦ let less = before_end script client k count o counted there in inr (k, o, omega (arith, less, past), there, about)
  ]),
)

-- a client that there is not has no names
pub none_put : (script : ScriptState) (client : ℕ) (old : List (List ℕ)) → option_map (λ c. length c.ops) (client_at script client) ≡ None
    → (name : List ℕ) → Contains old name ↔ (Contains old name ⊎ IsNameAt script client name)
none_put script client old none name = (
  λ is. inl is,
  λ either. elim either [
    | inl before ↦ before
    | inr (k, o, there, about) ↦ absurd (by (client_at script client) none k o there)
  ],
)
  where
    by : (who : Option ScriptClient) → option_map (λ c. length c.ops) who ≡ None → (k : ℕ) (o : Op) → option_and_then (λ c. slice_get c.ops k) who ≡ Some o → ⊥
    by None e k o f = absurd cc
    by (Some who) e k o f = absurd cc

-- ---- All clients

-- the set has the names of the clients up to this one
abbrev pub HasNamesUpTo : ScriptState → ℕ → List (List ℕ) → Type 0
HasNamesUpTo script bound names = (name : List ℕ) → Contains names name ↔ ((client : ℕ) × (client ≤ bound) × IsNameAt script client name)

-- there is no client 0
pub nobody_yet : (script : ScriptState) (names : List (List ℕ)) → names ≡ [] → HasNamesUpTo script 0 names
nobody_yet script names none name = (
  λ is. absurd (empty (subst (λ (ns : List (List ℕ)). Contains ns name) none is)),
  λ (client, within, there). absurd (no_client client (omega (arith, within)) there.0 there.1 there.2),
)
  where
    empty : Contains [] name → ⊥
    empty is = absurd (omega (arith, is.1))

    no_client : (client : ℕ) → client ≡ 0 → (place : ℕ) (op : Op) → op_at script client place ≡ Some op → ⊥
    no_client zero e place op at = absurd cc
    no_client (suc k) e place op at = absurd (omega (arith, e))

-- the names of the next client
pub next_client : (script : ScriptState) (bound client : ℕ) (old new : List (List ℕ)) → client ≡ bound + 1 → HasNamesUpTo script bound old
    → ((name : List ℕ) → Contains new name ↔ (Contains old name ⊎ IsNameAt script client name)) → HasNamesUpTo script (bound + 1) new
next_client script bound client old new is has more name = (
  λ in_new. elim ((more name).0 in_new) [
    | inl before ↦ let (c, within, at) = (has name).0 before in (c, omega (arith, within), at)
    | inr at ↦ (client, omega (arith, is), at)
  ],
  λ (c, within, at). (more name).1 (by_client c within at),
)
  where
    by_client : (c : ℕ) → c ≤ bound + 1 → IsNameAt script c name → Contains old name ⊎ IsNameAt script client name
    by_client c within at = elim (cases_eq c client) [
      | inl same ↦ inr (subst (λ (k : ℕ). IsNameAt script k name) same at)
      | inr apart ↦ inl ((has name).1 (c, omega (arith, within, apart, is), at))
    ]

-- the clients are all
all_clients : (script : ScriptState) (count : ℕ) (names : List (List ℕ)) → length script.clients ≤ count → HasNamesUpTo script count names
    → (name : List ℕ) → Contains names name ↔ IsNameOf script name
all_clients script count names is has name = (
  λ in_names. let (client, within, at) = (has name).0 in_names in (client, at),
  λ (client, at). (has name).1 (client, up_to client at, at),
)
  where
    within : (cs : List ScriptClient) (k : ℕ) (who : ScriptClient) → slice_get cs k ≡ Some who → k < length cs
    within [] k who e = absurd cc
    within (x ∷ cs) zero who e = omega arith
    within (x ∷ cs) (suc k) who e = let h = within cs k who e in omega (arith, h)

    by : (k : ℕ) (o : Option ScriptClient) → slice_get script.clients k ≡ o → (place : ℕ) (op : Op) → option_and_then (λ c. slice_get c.ops place) o ≡ Some op → suc k ≤ count
    by k None e place op at = absurd cc
    by k (Some who) e place op at = let h = within script.clients k who e in omega (arith, h, is)

    up_to : (client : ℕ) → IsNameAt script client name → client ≤ count
    up_to zero (place, op, at, about) = omega arith
    up_to (suc k) (place, op, at, about) = by k (slice_get script.clients k) refl place op at

-- a list of them in order has the names of the script
pub are_names : (script : ScriptState) (count : ℕ) (keys list : List (List ℕ)) → length script.clients ≤ count → HasNamesUpTo script count keys
    → IsStrictlySortedBy (slice_cmp nat_cmp) keys → list ≡ keys → AreNamesOf script list
are_names script count keys list all has sorted is =
    subst (AreNamesOf script) (sym is) (record { each = all_clients script count keys all has; in_order = sorted })
