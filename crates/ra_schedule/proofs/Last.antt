-- The last client of a script.
use Rattle.std.proofs.Common.{◌≡◌, refl, true, false, ◌-◌, ◌<◌, ℕ, suc, List, [], ◌∷◌, ◌++◌, length, get_or, set, take, sym, ap, ◌∙◌, subst, length-set, arith}
use Rattle.std.proofs.lemmas.Bool.{false≢true}
use Rattle.std.proofs.lemmas.List.{same_from_push, drop_all, set_split, set-get_or}
use Rattle.std.proofs.lemmas.List.Elements.{All-set}
use Rattle.ra_stamp.proofs.Places.{split_at}
use Rattle.ra_schedule.specs.declared.script.Op.{Op}
use Rattle.ra_schedule.specs.Script.{ScriptClient, ScriptState, IsScriptClient, IsScript, AddsOp, LastHas}

-- it is at the end
pub ends_with : (clients : List ScriptClient) (n : ℕ) (last : ScriptClient) → n ≡ length clients → 0 < n → last ≡ get_or clients (n - 1) last
    → clients ≡ take (n - 1) clients ++ last ∷ []
ends_with clients n last len some is =
    split_at clients (n - 1) last (omega arith) (sym is) ∙ ap (λ rest. take (n - 1) clients ++ last ∷ rest) (drop_all (suc (n - 1)) clients (omega arith))

-- another one in its place is at the end
pub set_last : (clients : List ScriptClient) (n : ℕ) (new : ScriptClient) → n ≡ length clients → 0 < n
    → set clients (n - 1) new ≡ take (n - 1) clients ++ new ∷ []
set_last clients n new len some =
    set_split clients (n - 1) new (omega arith) ∙ ap (λ rest. take (n - 1) clients ++ new ∷ rest) (drop_all (suc (n - 1)) clients (omega arith))

-- a script stays one if its last client is replaced by a client of such a script
pub with_last : (nodes : ℕ) (clients : List ScriptClient) (n : ℕ) (last new : ScriptClient) → n ≡ length clients → 0 < n → last ≡ get_or clients (n - 1) last
    → (IsScriptClient nodes last → IsScriptClient nodes new) → IsScript (record { nodes = nodes; clients = clients })
    → IsScript (record { nodes = nodes; clients = set clients (n - 1) new })
with_last nodes clients n last new len some is kept old =
    let P = IsScriptClient nodes in
    record {
      count = old.count;
      at_most = omega (arith, length-set clients (n - 1) new, old.at_most);
      each = All-set P clients (n - 1) new (kept (subst P (sym is) (old.each (n - 1) last (omega arith)))) old.each;
    }

-- its operations are its own
pub same_ops : (script : ScriptState) (before : List ScriptClient) (last : ScriptClient) (ops : List Op) → script.clients ≡ before ++ last ∷ [] → LastHas script ops → ops ≡ last.ops
same_ops script before last ops is has = sym has.3 ∙ ap (λ (c : ScriptClient). c.ops) (same_from_push has.0 before has.1 last (sym has.2 ∙ is)).1

-- a script with a last client has clients
pub no_last : (script : ScriptState) (before : List ScriptClient) (last : ScriptClient) → script.clients ≡ before ++ last ∷ [] → script.clients ≡ [] → ⊥
no_last script [] last is none = cc
no_last script (x ∷ before) last is none = cc

-- if no last client is found, there are no clients
pub none_there : (clients : List ScriptClient) (n : ℕ) → n ≡ length clients → (0 < n → false ≡ true) → clients ≡ []
none_there [] n len none = refl
none_there (x ∷ xs) n len none = absurd (false≢true (none (omega (arith, len))))

-- a script without clients has no last one
pub no_last_has : (script : ScriptState) (ops : List Op) → script.clients ≡ [] → LastHas script ops → ⊥
no_last_has script ops none has = no_last script has.0 has.1 has.2 none

-- a script with another operation of its last client
pub adds_op : (old : ScriptState) (nodes : ℕ) (clients : List ScriptClient) (n : ℕ) (last new : ScriptClient) (op : Op) → n ≡ length clients → 0 < n → last ≡ get_or clients (n - 1) last
    → record { nodes = nodes; clients = clients } ≡ old → new ≡ record last { ops = last.ops ++ op ∷ [] }
    → AddsOp old op (record { nodes = nodes; clients = set clients (n - 1) new })
adds_op old nodes clients n last new op len some is was new-is =
    let before = take (n - 1) clients in
    let after = before ++ record last { ops = last.ops ++ op ∷ [] } ∷ [] in
    let after-is : set clients (n - 1) new ≡ after = set_last clients n new len some ∙ ap (λ (x : ScriptClient). before ++ x ∷ []) new-is in (
      before,
      last,
      ap (λ (s : ScriptState). s.clients) (sym was) ∙ ends_with clients n last len some is,
      ap (λ (xs : List ScriptClient). record { nodes = nodes; clients = xs }) after-is ∙ ap (λ (s : ScriptState). record s { clients = after }) was,
    )

-- a script with its last client put at its own place
pub last_kept : (nodes : ℕ) (clients : List ScriptClient) (n : ℕ) (last new : ScriptClient) (old : ScriptState) → last ≡ get_or clients (n - 1) last
    → record { nodes = nodes; clients = clients } ≡ old → new ≡ last → ◌≡◌ {A = ScriptState} (record { nodes = nodes; clients = set clients (n - 1) new }) old
last_kept nodes clients n last new old at is same =
    let clients_are : set clients (n - 1) new ≡ clients = ap (set clients (n - 1)) (same ∙ at) ∙ set-get_or clients (n - 1) last in
    (λ k. record { nodes = nodes; clients = clients_are k }) ∙ is
