-- Operations that fit one after the other.
use Rattle.std.proofs.Common.{◌≡◌, ◌<◌, ◌≤◌, ℕ, All, List, [], ◌∷◌, ◌++◌, sym, ap, ◌∙◌, subst, inl, inr, length, length-append, arith}
use Rattle.std.proofs.lemmas.List.{same_from_push}
use Rattle.std.proofs.lemmas.List.Elements.{All-push}
use Rattle.ra_schedule.specs.declared.script.Op.{Op}
use Rattle.ra_schedule.specs.Script.{ScriptClient, ScriptState, Fits, IsPlan, IsScriptClient, IsScript}
use Rattle.ra_schedule.proofs.Held.{ends, before_last}

-- an operation that fits after a plan makes a plan
pub plan_pushed : (ops : List Op) (op : Op) → IsPlan ops → Fits ops op → IsPlan (ops ++ op ∷ [])
plan_pushed ops op plan fits before after x e =
    elim (ends after) [
      | inl empty ↦
          let is = same_from_push ops before op x (e ∙ ap (λ xs. before ++ x ∷ xs) empty) in
          subst (λ (o : Op). Fits before o) is.1 (subst (λ (xs : List Op). Fits xs op) is.0 fits)
      | inr w ↦ plan before w.0 x (before_last ops before w.0 op x w.1 (e ∙ ap (λ xs. before ++ x ∷ xs) w.2)).0
    ]

-- a client with another operation, which fits
pub op_pushed : (node : ℕ) (ops new : List Op) (old : ScriptClient) (op : Op) → record { node = node; ops = ops } ≡ old → new ≡ ops ++ op ∷ []
    → ◌≡◌ {A = ScriptClient} (record { node = node; ops = new }) (record old { ops = old.ops ++ op ∷ [] })
op_pushed node ops new old op is more = (λ k. record { node = node; ops = more k }) ∙ ap (λ (c : ScriptClient). record c { ops = c.ops ++ op ∷ [] }) is

pub client_pushed : (nodes : ℕ) (old new : ScriptClient) (op : Op) → length old.ops < 1024 → Fits old.ops op → new.node ≡ old.node → new.ops ≡ old.ops ++ op ∷ []
    → IsScriptClient nodes old → IsScriptClient nodes new
client_pushed nodes old new op room fits node-is ops-is client =
    record {
      first = omega (arith, client.first, node-is);
      last = omega (arith, client.last, node-is);
      at_most = omega (arith, ap length ops-is, length-append old.ops (op ∷ []), room);
      plan = subst IsPlan (sym ops-is) (plan_pushed old.ops op client.plan fits);
    }

-- to do nothing is a plan
nothing_to_do : IsPlan []
nothing_to_do [] after op e = absurd cc
nothing_to_do (x ∷ before) after op e = absurd cc

-- a script with room for another client stays a script with it, as long as that client has nothing to do
pub script_pushed : (script old : ScriptState) (clients : List ScriptClient) (node member : ℕ) (ops : List Op) → script ≡ old → IsScript script
    → (length old.clients < 64) × (1 ≤ node) × (node ≤ old.nodes) → member ≡ node → ops ≡ [] → clients ≡ script.clients ++ record { node = member; ops = ops } ∷ []
    → IsScript (record { nodes = script.nodes; clients = clients })
script_pushed script old clients node member ops was is-script room same empty is =
    let P = IsScriptClient script.nodes in
    let new : ScriptClient = record { node = member; ops = ops } in
    let client : P new = record {
      first = omega (arith, same, room.1);
      last = omega (arith, same, room.2, ap (λ (s : ScriptState). s.nodes) was);
      at_most = omega (arith, ap length empty);
      plan = subst IsPlan (sym empty) nothing_to_do;
    } in
    record {
      count = is-script.count;
      at_most = omega (arith, ap length is, length-append script.clients (new ∷ []), ap (λ (s : ScriptState). length s.clients) was, room.0);
      each = subst (All P) (sym is) (All-push P script.clients new is-script.each client);
    }
