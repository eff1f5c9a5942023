-- The script of a document.
use Rattle.std.proofs.Common.{zero, suc, ◌&&◌, ◌≡◌, ◌<◌, ◌≤◌, ◌+◌, ℕ, ℤ, Bool, true, false, List, [], ◌∷◌, ◌++◌, map, length, get_or, drop, nat_le, Option, Some, None, Result, Ok, Err, if◌then◌else◌, refl, sym, ap, ◌∙◌, inl, inr, arith}
use Rattle.std.proofs.lemmas.Bool.{le-leb, leb-true, and_parts}
use Rattle.std.proofs.lemmas.List.{at_drop_more, drop_all, length_push, length-map}
use Rattle.std.proofs.lemmas.List.Folds.{list_all-map}
use Rattle.std.proofs.lemmas.List.Sums.{AllPass-from_list_all}
use Rattle.std.specs.List.{list_all}
use Rattle.ra_schedule.specs.declared.script.Op.{Op}
use Rattle.ra_schedule.specs.Script.{ScriptClient, ScriptState, IsScript}
use Rattle.ra_script.specs.declared.script_reading.document.ClientRef.{ClientRef}
use Rattle.ra_script.specs.declared.error.ScriptError.{ScriptError}
use Rattle.ra_script.specs.Document.{ClientTable, client_table}
use Rattle.ra_script.specs.Faults.{IsRefusal}
use Rattle.ra_script.specs.ScriptText.{with_last, result_and_then, natural, is_up_to, are_placed, script_ops, script_client, clients_after}

-- a number that was looked at
pub up_to_some : (b : Bool) (m n : ℕ) → Some m ≡ (if b then Some n else None) → (b ≡ true) × (m ≡ n)
up_to_some true m n e = let same : m ≡ n = cc in (refl, same)
up_to_some false m n e = absurd cc

pub up_to_none : (b : Bool) (n : ℕ) → None ≡ (if b then Some n else None) → b ≡ false
up_to_none true n e = absurd cc
up_to_none false n e = refl

-- clients are placed if there are at most as many as may be, and each is at a node
pub are_placed-few : (nodes : ℕ) (clients : List ClientRef) → 1 ≤ length clients → length clients ≤ 64 → are_placed nodes (map client_table clients) ≡ list_all (λ client. is_up_to nodes client.node) clients
are_placed-few nodes clients some few =
    rw (length-map, le-leb 1 (length clients) some, le-leb (length clients) 64 few) (list_all-map (λ (table : ClientTable). is_up_to nodes table.node) client_table clients)

-- there are at most 64 of them
pub placed_few : (nodes : ℕ) (tables : List ClientTable) → are_placed nodes tables ≡ true → length tables ≤ 64
placed_few nodes tables placed =
    let (counts, each) = and_parts (nat_le 1 (length tables) && nat_le (length tables) 64) (list_all (λ (t : ClientTable). is_up_to nodes t.node) tables) placed in
    let (some, few) = and_parts (nat_le 1 (length tables)) (nat_le (length tables) 64) counts in
    leb-true (length tables) 64 few

-- each of them is at a node
pub placed_at : (nodes : ℕ) (tables : List ClientTable) (place : ℕ) (table : ClientTable) → are_placed nodes tables ≡ true → place < length tables → table ≡ get_or tables place table → is_up_to nodes table.node ≡ true
placed_at nodes tables place table placed lt at =
    let (counts, each) = and_parts (nat_le 1 (length tables) && nat_le (length tables) 64) (list_all (λ (t : ClientTable). is_up_to nodes t.node) tables) placed in
    let here : is_up_to nodes (get_or tables place table).node ≡ true = AllPass-from_list_all (λ (t : ClientTable). is_up_to nodes t.node) tables each place table lt in
    ap (λ (t : ClientTable). is_up_to nodes t.node) at ∙ here

-- a number that is at a node
pub up_to_parts : (most : ℕ) (number : ℤ) → is_up_to most number ≡ true → (1 ≤ natural number) × (natural number ≤ most)
up_to_parts most number within =
    let (first, last) = and_parts (nat_le 1 (natural number)) (nat_le (natural number) most) within in
    (leb-true 1 (natural number) first, leb-true (natural number) most last)

pub some_up_to : (b : Bool) (o : Option ℕ) (n : ℕ) → o ≡ (if b then Some n else None) → b ≡ true → o ≡ Some n
some_up_to true o n e within = e
some_up_to false o n e within = absurd cc

-- the tables up to a place were added as clients
pub record IsScriptTo (nodes : ℕ) (tables : List ClientTable) (place : ℕ) (script : ScriptState) : Type 0 where
  pub nodes_are : script.nodes ≡ nodes
  pub count : length script.clients ≡ place
  pub same : clients_after [] tables ≡ clients_after script.clients (drop place tables)
  pub valid : IsScript script

pub IsScriptTo-none : (nodes : ℕ) (tables : List ClientTable) (script : ScriptState) → script ≡ record { nodes = nodes; clients = [] } → IsScript script → IsScriptTo nodes tables 0 script
IsScriptTo-none nodes tables script is valid = record {
  nodes_are = ap (λ (s : ScriptState). s.nodes) is;
  count = ap (λ (s : ScriptState). length s.clients) is;
  same = ap (λ (s : ScriptState). clients_after s.clients tables) (sym is);
  valid = valid;
}

script_client-ops : (table : ClientTable) (node : ℕ) (ops : List Op) → node ≡ natural table.node → script_ops table.ops ≡ Ok ops → script_client table ≡ Ok (record { node = node; ops = ops })
script_client-ops table node ops same read = rw (read, same)

pub IsScriptTo-more : (nodes : ℕ) (tables : List ClientTable) (place : ℕ) (script new : ScriptState) (table : ClientTable) (node : ℕ) → place < length tables → table ≡ get_or tables place table → node ≡ natural table.node
    → (ops : List Op) × (script_ops table.ops ≡ Ok ops) × (new ≡ with_last script (record { node = node; ops = ops })) → IsScript new
    → IsScriptTo nodes tables place script → IsScriptTo nodes tables (place + 1) new
IsScriptTo-more nodes tables place script new table node lt at same step valid h =
    let client : ScriptClient = record { node = node; ops = step.0 } in
    let drop_is = at_drop_more (clients_after script.clients) tables place table lt in
    let clients : new.clients ≡ script.clients ++ client ∷ [] = ap (λ (s : ScriptState). s.clients) step.2 in
    record {
      nodes_are = ap (λ (s : ScriptState). s.nodes) step.2 ∙ h.nodes_are;
      count = ap length clients ∙ (length_push script.clients client ∙ ap (λ n. n + 1) h.count);
      same = h.same ∙ (drop_is ∙ rw (sym at, script_client-ops table node step.0 same step.1, clients));
      valid = valid;
    }

refused_client : (o : Result (List Op) ScriptError) (why : ScriptError) (node : ℕ) → o ≡ Err why → result_and_then {A = List Op} {B = ScriptClient} (λ ops. Ok (record { node = node; ops = ops })) o ≡ Err why
refused_client o why node e = rw e

pub IsScriptTo-refused : (nodes : ℕ) (tables : List ClientTable) (place : ℕ) (script : ScriptState) (table : ClientTable) (why : ScriptError) → place < length tables → table ≡ get_or tables place table
    → IsRefusal (script_ops table.ops) why → IsScriptTo nodes tables place script → IsRefusal (clients_after [] tables) why
IsScriptTo-refused nodes tables place script table why lt at refusal h =
    let drop_is = at_drop_more (clients_after script.clients) tables place table lt in
    elim refusal [
      | inl because ↦
          let no_client : script_client table ≡ Err why = refused_client (script_ops table.ops) why (natural table.node) because in
          inl (h.same ∙ (drop_is ∙ rw (sym at, no_client)))
      | inr memory ↦ inr memory
    ]

pub IsScriptTo-all : (nodes : ℕ) (tables : List ClientTable) (place : ℕ) (script : ScriptState) → length tables ≤ place → IsScriptTo nodes tables place script → clients_after [] tables ≡ Ok script.clients
IsScriptTo-all nodes tables place script past h = h.same ∙ rw (drop_all place tables past)

-- the client at a place, as its table
pub table_at : (clients : List ClientRef) (place : ℕ) (client : ClientRef) → place < length clients → client ≡ get_or clients place client → client_table client ≡ get_or (map client_table clients) place (client_table client)
table_at [] place client lt at = absurd (omega arith)
table_at (c ∷ clients) zero client lt at = ap client_table at
table_at (c ∷ clients) (suc place) client lt at = table_at clients place client (omega arith) at

pub tables_lt : (clients : List ClientRef) (place : ℕ) → place < length clients → place < length (map client_table clients)
tables_lt clients place lt = rw (length-map clients client_table) lt

-- ---- Each client is added

-- there is room for the next one
pub room_for : (nodes : ℕ) (clients : List ClientRef) (place count : ℕ) → are_placed nodes (map client_table clients) ≡ true → place < length clients → count ≡ place → count < 64
room_for nodes clients place count placed lt is = omega (arith, placed_few nodes (map client_table clients) placed, length-map clients client_table, lt, is)

pub at_a_node : (nodes script_nodes node : ℕ) (number : ℤ) → is_up_to nodes number ≡ true → node ≡ natural number → script_nodes ≡ nodes → (1 ≤ node) × (node ≤ script_nodes)
at_a_node nodes script_nodes node number within is nodes_are =
    let parts = up_to_parts nodes number within in (omega (arith, parts.0, is), omega (arith, parts.1, is, nodes_are))

pub all_clients : (clients : List ClientRef) (place : ℕ) → length clients ≤ place → length (map client_table clients) ≤ place
all_clients clients place past = omega (arith, past, length-map clients client_table)
