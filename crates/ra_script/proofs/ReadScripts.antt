-- What is read as a script is one.
use Rattle.std.proofs.Common.{◌≡◌, ◌⊎◌, ℕ, ◌+◌, ◌≤◌, Bool, true, false, not, Result, Ok, Err, List, [], ◌∷◌, ◌++◌, All, length, nat_lt, if◌then◌else◌, refl, sym, ap, subst, arith, inl, inr}
use Rattle.std.specs.Prelude.{ok_or}
use Rattle.std.specs.List.{list_all}
use Rattle.std.proofs.lemmas.Bool.{cases_Bool, and_parts}
use Rattle.std.proofs.lemmas.Bool.Decides.{nat_tests}
use Rattle.std.proofs.lemmas.List.{length-append}
use Rattle.std.proofs.lemmas.List.Elements.{All-nil, All-push}
use Rattle.ra_schedule.specs.declared.script.Op.{Op}
use Rattle.ra_schedule.specs.declared.script.Op.TheVariants.{Lock, Unlock}
use Rattle.ra_schedule.specs.Script.{ScriptClient, ScriptState, IsScriptClient, IsScript, Fits, IsPlan}
use Rattle.ra_script.specs.declared.error.ScriptError.{ScriptError}
use Rattle.ra_script.specs.declared.error.ScriptError.TheVariants as fault
use Rattle.ra_script.specs.Document.{ClientTable, Document, document_of}
use Rattle.ra_script.specs.Operation.{op_of}
use Rattle.ra_script.specs.ScriptText.{result_and_then, natural, is_up_to, is_held_after, fitting, next_op, ops_after, script_ops, script_client, clients_after, are_placed, script_in, tree_of, script_of}
use Rattle.ra_script.proofs.Held.{held_after, is_held_after-false}
use Rattle.ra_script.proofs.Scripts.{placed_few, up_to_parts}

pub ok_same : {X : Type 0} {x y : X} → ◌≡◌ {A = Result X ScriptError} (Ok x) (Ok y) → x ≡ y
ok_same e = cc

err_ok : {X : Type 0} {y : X} {why : ScriptError} → ◌≡◌ {A = Result X ScriptError} (Err why) (Ok y) → ⊥
err_ok e = cc

-- a check after another one is passed if both are
and_then_ok : {A B : Type 0} (next : A → Result B ScriptError) (first : Result A ScriptError) (b : B) → result_and_then next first ≡ Ok b
    → (a : A) × (first ≡ Ok a) × (next a ≡ Ok b)
and_then_ok next (Ok a) b is = (a, refl, is)
and_then_ok next (Err why) b is = absurd (err_ok is)

-- ---- The operations of a client

split_last : {X : Type 0} (xs : List X) (x : X) (before after : List X) (y : X) → xs ++ x ∷ [] ≡ before ++ y ∷ after
    → ((before ≡ xs) × (y ≡ x)) ⊎ ((rest : List X) × (xs ≡ before ++ y ∷ rest))
split_last [] x [] after y e = inl (refl, cc)
split_last [] x (z ∷ []) after y e = absurd cc
split_last [] x (z ∷ w ∷ before) after y e = absurd cc
split_last (w ∷ xs) x [] after y e = inr (xs, cc)
split_last (w ∷ xs) x (z ∷ before) after y e =
    let head : w ≡ z = cc in
    let tail : xs ++ x ∷ [] ≡ before ++ y ∷ after = cc in
    elim (split_last xs x before after y tail) [
      | inl h ↦ let same = h.0 in inl (cc, h.1)
      | inr h ↦ let same = h.1 in inr (h.0, cc)
    ]

plan_pushed : (ops : List Op) (op : Op) → IsPlan ops → Fits ops op → IsPlan (ops ++ op ∷ [])
plan_pushed ops op plan fits before after x e = elim (split_last ops op before after x e) [
  | inl h ↦ subst (λ (o : Op). Fits before o) (sym h.1) (subst (λ (xs : List Op). Fits xs op) (sym h.0) fits)
  | inr h ↦ plan before h.0 x h.1
]

fitting_ok : (done : List Op) (op next : Op) → fitting done op ≡ Ok next → (op ≡ next) × Fits done op
fitting_ok done (Lock name mode) next is = elim (cases_Bool (is_held_after done name)) [
  | inl held ↦ absurd (err_ok (subst (λ (b : Bool). (if b then Err fault.AlreadyHeld else Ok (Lock name mode)) ≡ Ok next) held is))
  | inr free ↦ (ok_same (subst (λ (b : Bool). (if b then Err fault.AlreadyHeld else Ok (Lock name mode)) ≡ Ok next) free is), is_held_after-false done name free)
]
fitting_ok done (Unlock name) next is = elim (cases_Bool (is_held_after done name)) [
  | inl held ↦ (ok_same (subst (λ (b : Bool). (if b then Ok (Unlock name) else Err fault.NotHeld) ≡ Ok next) held is), held_after done name held)
  | inr free ↦ absurd (err_ok (subst (λ (b : Bool). (if b then Ok (Unlock name) else Err fault.NotHeld) ≡ Ok next) free is))
]

next_ok : (done : List Op) (string : List ℕ) (next : Op) → next_op done string ≡ Ok next → Fits done next
next_ok done string next is =
    let (op, got, fits) = and_then_ok (fitting done) (ok_or (op_of string) fault.Op) next is in
    let both = fitting_ok done op next fits in
    subst (Fits done) both.0 both.1

ops_ok : (strings : List (List ℕ)) (done ops : List Op) → IsPlan done → ops_after done strings ≡ Ok ops → IsPlan ops × (length ops ≡ length done + length strings)
ops_ok [] done ops plan is = let same : done ≡ ops = ok_same is in (subst IsPlan same plan, omega (arith, ap length same))
ops_ok (string ∷ strings) done ops plan is =
    let (op, next, rest) = and_then_ok (λ op. ops_after (done ++ op ∷ []) strings) (next_op done string) ops is in
    let more = ops_ok strings (done ++ op ∷ []) ops (plan_pushed done op plan (next_ok done string op next)) rest in
    (more.0, omega (arith, more.1, length-append done (op ∷ [])))

no_plan : IsPlan []
no_plan [] after op e = absurd cc
no_plan (x ∷ before) after op e = absurd cc

few : (n : ℕ) → nat_lt 1024 n ≡ false → n ≤ 1024
few n is = grind (arith, nat_tests)

script_ops_ok : (strings : List (List ℕ)) (ops : List Op) → script_ops strings ≡ Ok ops → IsPlan ops × (length ops ≤ 1024)
script_ops_ok strings ops is = elim (cases_Bool (nat_lt 1024 (length strings))) [
  | inl many ↦ absurd (err_ok (subst (λ (b : Bool). (if b then Err fault.Limit else ops_after [] strings) ≡ Ok ops) many is))
  | inr low ↦
      let both = ops_ok strings [] ops no_plan (subst (λ (b : Bool). (if b then Err fault.Limit else ops_after [] strings) ≡ Ok ops) low is) in
      (both.0, omega (arith, both.1, few (length strings) low))
]

-- ---- The clients

client_ok : (nodes : ℕ) (table : ClientTable) (client : ScriptClient) → is_up_to nodes table.node ≡ true → script_client table ≡ Ok client → IsScriptClient nodes client
client_ok nodes table client placed is =
    let (ops, got, made) = and_then_ok (λ ops. Ok (record { node = natural table.node; ops = ops })) (script_ops table.ops) client is in
    let both = script_ops_ok table.ops ops got in
    let at = up_to_parts nodes table.node placed in
    let made_is : record { node = natural table.node; ops = ops } ≡ client = ok_same made in
    subst (IsScriptClient nodes) made_is (record { first = at.0; last = at.1; at_most = both.1; plan = both.0 })

clients_ok : (nodes : ℕ) (tables : List ClientTable) (done clients : List ScriptClient) → All (IsScriptClient nodes) done
    → list_all (λ t. is_up_to nodes t.node) tables ≡ true → clients_after done tables ≡ Ok clients
    → All (IsScriptClient nodes) clients × (length clients ≡ length done + length tables)
clients_ok nodes [] done clients all placed is =
    let same : done ≡ clients = ok_same is in (subst (All (IsScriptClient nodes)) same all, omega (arith, ap length same))
clients_ok nodes (table ∷ tables) done clients all placed is =
    let both = and_parts (is_up_to nodes table.node) (list_all (λ (t : ClientTable). is_up_to nodes t.node) tables) placed in
    let (client, got, rest) = and_then_ok (λ c. clients_after (done ++ c ∷ []) tables) (script_client table) clients is in
    let more = clients_ok nodes tables (done ++ client ∷ []) clients
    (All-push (IsScriptClient nodes) done client all (client_ok nodes table client both.0 got)) both.1 rest in
    (more.0, omega (arith, more.1, length-append done (client ∷ [])))

-- ---- The script

in_parts : (document : Document) (script : ScriptState) (a b : Bool)
    → (if not a then Err fault.Nodes else if not b then Err fault.Clients
    else result_and_then (λ clients. Ok (record { nodes = natural document.nodes; clients = clients })) (clients_after [] document.clients)) ≡ Ok script
    → (a ≡ true) × (b ≡ true) × (result_and_then (λ clients. Ok (record { nodes = natural document.nodes; clients = clients })) (clients_after [] document.clients) ≡ Ok script)
in_parts document script true true is = (refl, refl, is)
in_parts document script true false is = absurd (err_ok is)
in_parts document script false b is = absurd (err_ok is)

document_ok : (document : Document) (script : ScriptState) → script_in document ≡ Ok script → IsScript script
document_ok document script is =
    let nodes = natural document.nodes in
    let parts = in_parts document script (is_up_to 64 document.nodes) (are_placed nodes document.clients) is in
    let (clients, got, made) = and_then_ok (λ clients. Ok (record { nodes = natural document.nodes; clients = clients })) (clients_after [] document.clients) script parts.2 in
    let each = (and_parts _ (list_all (λ (t : ClientTable). is_up_to nodes t.node) document.clients) parts.1).1 in
    let both = clients_ok nodes document.clients [] clients (All-nil (IsScriptClient nodes)) each got in
    let made_is : record { nodes = nodes; clients = clients } ≡ script = ok_same made in
    subst IsScript made_is (record {
      count = up_to_parts 64 document.nodes parts.0;
      at_most = omega (arith, both.1, placed_few nodes document.clients parts.1);
      each = both.0;
    })

pub read_scripts : (input : List ℕ) (script : ScriptState) → script_of input ≡ Ok script → IsScript script
read_scripts input script is =
    let (document, got, made) = and_then_ok script_in (result_and_then (λ tree. ok_or (document_of tree) fault.Shape) (tree_of input)) script is in
    document_ok document script made
