-- A text is read as a script exactly if it is a document of that script.
use Rattle.std.proofs.Common.{◌≡◌, ◌≤◌, ℕ, ℤ, pos, negsuc, true, false, ◌&&◌, List, [], ◌∷◌, ◌++◌, map, length, nat_le, nat_lt, All, Option, Some, None, Result, Ok, Err, ok_or, refl, sym, ap, subst, ◌∙◌, inl, inr, arith, append_assoc}
use Rattle.std.specs.Prelude.{MatchResult, IfOk, IfErr}
use Rattle.std.proofs.lemmas.Bool.{cases_Bool, and_parts, false≢true, le-leb, leb-true}
use Rattle.std.proofs.lemmas.Bool.Decides.{nat_tests}
use Rattle.std.proofs.lemmas.List.{append-nil, length-map}
use Rattle.std.proofs.lemmas.List.Elements.{All-nil, All-cons, All-head, All-tail}
use Rattle.std.proofs.lemmas.List.Folds.{list_all-map}
use Rattle.std.proofs.lemmas.List.Sums.{list_all-from_AllPass}
use Rattle.std.proofs.lemmas.Str.{IsUtf8-from_is_utf8}
use Rattle.std.specs.List.{list_all}
use Rattle.std.specs.Str.{IsUtf8, is_utf8}
use Rattle.toml.specs.Data.{Members}
use Rattle.toml.specs.Parse.{parse_document}
use Rattle.ra_stamp.specs.Name.{IsName}
use Rattle.ra_schedule.specs.declared.script.Op.{Op}
use Rattle.ra_schedule.specs.declared.script.Op.TheVariants.{Lock, Unlock}
use Rattle.ra_schedule.specs.Script.{ScriptClient, ScriptState, IsScript, IsScriptClient, Fits}
use Rattle.ra_script.specs.declared.error.ScriptError.{ScriptError}
use Rattle.ra_script.specs.declared.error.ScriptError.TheVariants as fault
use Rattle.ra_script.specs.Document.{ClientTable, Document, document_of}
use Rattle.ra_script.specs.Faults.{IsRefusal}
use Rattle.ra_script.specs.Meaning.{written_client, written, IsNamed, Means}
use Rattle.ra_script.specs.Operation.{op_of, spelling, name_in}
use Rattle.ra_script.specs.ScriptText.{result_and_then, natural, is_up_to, is_held_after, fitting, next_op, ops_after, script_ops, script_client, are_placed, clients_after, script_in, tree_of, script_of}
use Rattle.ra_script.proofs.Names.{spelled_from, op_of-spelling}
use Rattle.ra_script.proofs.Adding.{fitting-fits, script_ops-few}
use Rattle.ra_script.proofs.Texts.{tree_of-text}

-- checks that passed
passed : {A B : Type 0} (next : A → Result B ScriptError) (r : Result A ScriptError) (y : B) → result_and_then next r ≡ Ok y → (x : A) × (r ≡ Ok x) × (next x ≡ Ok y)
passed next (Ok x) y e = (x, refl, e)
passed next (Err why) y e = absurd cc

some_from_ok : {A : Type 0} (o : Option A) (why : ScriptError) (x : A) → ok_or o why ≡ Ok x → o ≡ Some x
some_from_ok None why x e = absurd cc
some_from_ok (Some y) why x e = let same : y ≡ x = cc in ap Some same

-- an operation is taken as it is
fitting_same : (done : List Op) (op taken : Op) → fitting done op ≡ Ok taken → op ≡ taken
fitting_same done (Lock name mode) taken e =
    elim (cases_Bool (is_held_after done name)) [
      | inl held ↦ absurd (let clash : Err fault.AlreadyHeld ≡ Ok taken = rw held at e in cc)
      | inr free ↦ let same : Ok (Lock name mode) ≡ Ok taken = rw free at e in cc
    ]
fitting_same done (Unlock name) taken e =
    elim (cases_Bool (is_held_after done name)) [
      | inl held ↦ let same : Ok (Unlock name) ≡ Ok taken = rw held at e in cc
      | inr free ↦ absurd (let clash : Err fault.NotHeld ≡ Ok taken = rw free at e in cc)
    ]

next_op_spelled : (done : List Op) (string : List ℕ) (op : Op) → next_op done string ≡ Ok op → (string ≡ spelling op) × IsName (name_in op)
next_op_spelled done string op e =
    let w = passed (fitting done) (ok_or (op_of string) fault.Op) op e in
    let read = some_from_ok (op_of string) fault.Op w.0 w.1 in
    let same = fitting_same done w.0 op w.2 in
    spelled_from string op (read ∙ ap Some same)

-- the operations of strings are written as those strings
pub record AreWritten (done : List Op) (strings : List (List ℕ)) (ops : List Op) : Type 0 where
  pub new : List Op
  pub is : ops ≡ done ++ new
  pub strings_are : strings ≡ map spelling new
  pub named : All (λ op. IsName (name_in op)) new

ops_written : (done : List Op) (strings : List (List ℕ)) (ops : List Op) → ops_after done strings ≡ Ok ops → AreWritten done strings ops
ops_written done [] ops e =
    let same : done ≡ ops = cc in
    record { new = []; is = sym same ∙ sym (append-nil done); strings_are = refl; named = All-nil (λ op. IsName (name_in op)) }
ops_written done (string ∷ strings) ops e =
    let w = passed (λ op. ops_after (done ++ op ∷ []) strings) (next_op done string) ops e in
    let spelled = next_op_spelled done string w.0 w.1 in
    let rest = ops_written (done ++ w.0 ∷ []) strings ops w.2 in
    record {
      new = w.0 ∷ rest.new;
      is = rest.is ∙ append_assoc done (w.0 ∷ []) rest.new;
      strings_are = ap (λ (first : List ℕ). first ∷ strings) spelled.0 ∙ ap (λ (others : List (List ℕ)). spelling w.0 ∷ others) rest.strings_are;
      named = All-cons (λ op. IsName (name_in op)) w.0 rest.new spelled.1 rest.named;
    }

limited : (strings : List (List ℕ)) (ops : List Op) → script_ops strings ≡ Ok ops → ops_after [] strings ≡ Ok ops
limited strings ops e =
    elim (cases_Bool (nat_lt 1024 (length strings))) [
      | inl many ↦ absurd (let clash : Err fault.Limit ≡ Ok ops = rw many at e in cc)
      | inr few ↦ rw few at e
    ]

-- a number from 1 up is written as it is
pub pos-natural : (most : ℕ) (number : ℤ) → is_up_to most number ≡ true → number ≡ pos (natural number)
pos-natural most (pos n) within = refl
pos-natural most (negsuc n) within = absurd (false≢true within)

client_written : (nodes : ℕ) (table : ClientTable) (client : ScriptClient) → is_up_to nodes table.node ≡ true → script_client table ≡ Ok client → (table ≡ written_client client) × IsNamed client
client_written nodes table client within e =
    let w = passed (λ ops. Ok (record { node = natural table.node; ops = ops })) (script_ops table.ops) client e in
    let made : ScriptClient = record { node = natural table.node; ops = w.0 } in
    let same : made ≡ client = cc in
    let ops = ops_written [] table.ops w.0 (limited table.ops w.0 w.1) in
    let new : w.0 ≡ ops.new = ops.is in
    let strings : table.ops ≡ map spelling w.0 = ops.strings_are ∙ ap (map spelling) (sym new) in
    let named : IsNamed made = rw new ops.named in
    (rw (← same, ← strings, ← pos-natural nodes table.node within) refl, rw (← same) named)

-- the clients of tables are written as those tables
pub record AreTables (done : List ScriptClient) (tables : List ClientTable) (clients : List ScriptClient) : Type 0 where
  pub new : List ScriptClient
  pub is : clients ≡ done ++ new
  pub tables_are : tables ≡ map written_client new
  pub named : All IsNamed new

clients_written : (nodes : ℕ) (done : List ScriptClient) (tables : List ClientTable) (clients : List ScriptClient) → list_all (λ (t : ClientTable). is_up_to nodes t.node) tables ≡ true
    → clients_after done tables ≡ Ok clients → AreTables done tables clients
clients_written nodes done [] clients placed e =
    let same : done ≡ clients = cc in
    record { new = []; is = sym same ∙ sym (append-nil done); tables_are = refl; named = All-nil IsNamed }
clients_written nodes done (table ∷ tables) clients placed e =
    let (here, others) = and_parts (is_up_to nodes table.node) (list_all (λ (t : ClientTable). is_up_to nodes t.node) tables) placed in
    let w = passed (λ c. clients_after (done ++ c ∷ []) tables) (script_client table) clients e in
    let first = client_written nodes table w.0 here w.1 in
    let rest = clients_written nodes (done ++ w.0 ∷ []) tables clients others w.2 in
    record {
      new = w.0 ∷ rest.new;
      is = rest.is ∙ append_assoc done (w.0 ∷ []) rest.new;
      tables_are = ap (λ (t : ClientTable). t ∷ tables) first.0 ∙ ap (λ (others : List ClientTable). written_client w.0 ∷ others) rest.tables_are;
      named = All-cons IsNamed w.0 rest.new first.1 rest.named;
    }

-- a document that is taken is the script's
pub record IsWritten (document : Document) (script : ScriptState) : Type 0 where
  pub is : document ≡ written script
  pub some : 1 ≤ length script.clients
  pub named : All IsNamed script.clients

taken : (document : Document) (script : ScriptState) (clients : List ScriptClient) → is_up_to 64 document.nodes ≡ true → are_placed (natural document.nodes) document.clients ≡ true
    → clients_after [] document.clients ≡ Ok clients → record { nodes = natural document.nodes; clients = clients } ≡ script → IsWritten document script
taken document script clients within placed read same =
    let (counts, each) = and_parts (nat_le 1 (length document.clients) && nat_le (length document.clients) 64) (list_all (λ (t : ClientTable). is_up_to (natural document.nodes) t.node) document.clients) placed in
    let (some, few) = and_parts (nat_le 1 (length document.clients)) (nat_le (length document.clients) 64) counts in
    let h = clients_written (natural document.nodes) [] document.clients clients each read in
    let new : clients ≡ h.new = h.is in
    let tables : document.clients ≡ map written_client clients = h.tables_are ∙ ap (map written_client) (sym new) in
    let many : 1 ≤ length clients = omega (arith, leb-true 1 (length document.clients) some, ap length tables, length-map clients written_client) in
    let named : All IsNamed clients = rw new h.named in
    let nodes = pos-natural 64 document.nodes within in
    let both : document ≡ record { nodes = pos (natural document.nodes); clients = map written_client clients } =
    ap (λ (n : ℤ). record document { nodes = n }) nodes ∙ ap (λ (ts : List ClientTable). record { nodes = pos (natural document.nodes); clients = ts }) tables in
    record {
      is = both ∙ ap written same;
      some = subst (λ (s : ScriptState). 1 ≤ length s.clients) same many;
      named = subst (λ (s : ScriptState). All IsNamed s.clients) same named;
    }

document_written : (document : Document) (script : ScriptState) → script_in document ≡ Ok script → IsWritten document script
document_written document script e =
    elim (cases_Bool (is_up_to 64 document.nodes)) [
      | inr bad ↦ absurd (let clash : Err fault.Nodes ≡ Ok script = rw bad at e in cc)
      | inl within ↦
          elim (cases_Bool (are_placed (natural document.nodes) document.clients)) [
            | inr bad ↦ absurd (let clash : Err fault.Clients ≡ Ok script = rw (within, bad) at e in cc)
            | inl placed ↦
                let made : List ScriptClient → Result ScriptState ScriptError = λ clients. Ok (record { nodes = natural document.nodes; clients = clients }) in
                let w = passed made (clients_after [] document.clients) script (rw (within, placed) at e) in
                let state : ScriptState = record { nodes = natural document.nodes; clients = w.0 } in
                let is-ok : Ok state ≡ Ok script = w.2 in
                let same : state ≡ script = cc in
                taken document script w.0 within placed w.1 same
          ]
    ]

tree_parts : (text : List ℕ) (tree : Members) → tree_of text ≡ Ok tree → (length text ≤ 65536) × IsUtf8 text × (parse_document text ≡ Some tree)
tree_parts text tree e =
    elim (cases_Bool (nat_lt 65536 (length text))) [
      | inl long ↦ absurd (let clash : Err fault.Limit ≡ Ok tree = rw long at e in cc)
      | inr short ↦
          elim (cases_Bool (is_utf8 text)) [
            | inr bad ↦ absurd (let clash : Err fault.Toml ≡ Ok tree = rw (short, bad) at e in cc)
            | inl good ↦ (at_most (length text) short, IsUtf8-from_is_utf8 text good, some_from_ok (parse_document text) fault.Toml tree (rw (short, good) at e))
          ]
    ]
  where
    at_most : (n : ℕ) → nat_lt 65536 n ≡ false → n ≤ 65536
    at_most n h = grind (arith, nat_tests)

-- a text that is read as a script is a document of it
pub means : (text : List ℕ) (script : ScriptState) → script_of text ≡ Ok script → IsScript script → Means text script
means text script e valid =
    let outer = passed script_in (result_and_then (λ tree. ok_or (document_of tree) fault.Shape) (tree_of text)) script e in
    let inner = passed (λ (tree : Members). ok_or (document_of tree) fault.Shape) (tree_of text) outer.0 outer.1 in
    let parts = tree_parts text inner.0 inner.1 in
    let h = document_written outer.0 script outer.2 in
    record {
      tree = inner.0;
      short = parts.0;
      utf8 = parts.1;
      parsed = parts.2;
      shape = some_from_ok (document_of inner.0) fault.Shape outer.0 inner.2 ∙ ap Some h.is;
      some = h.some;
      named = h.named;
      valid = valid;
    }

-- the operations that are written are read
ops_read : (done rest : List Op) → ((before after : List Op) (op : Op) → rest ≡ before ++ op ∷ after → Fits (done ++ before) op) → All (λ op. IsName (name_in op)) rest → ops_after done (map spelling rest) ≡ Ok (done ++ rest)
ops_read done [] fits named = ap Ok (sym (append-nil done))
ops_read done (op ∷ rest) fits named =
    let here : Fits done op = rw append-nil at (fits [] rest op refl) in
    let next : next_op done (spelling op) ≡ Ok op = rw (op_of-spelling (spelling op) op refl (All-head (λ o. IsName (name_in o)) op rest named)) (fitting-fits done op here) in
    let others = ops_read (done ++ op ∷ []) rest (λ before after o e. rw append_assoc (fits (op ∷ before) after o (ap (λ (xs : List Op). op ∷ xs) e))) (All-tail (λ o. IsName (name_in o)) op rest named) in
    rw next (others ∙ ap Ok (append_assoc done (op ∷ []) rest))

client_read : (nodes : ℕ) (client : ScriptClient) → IsScriptClient nodes client → IsNamed client → script_client (written_client client) ≡ Ok client
client_read nodes client h named =
    let few : length (map spelling client.ops) ≤ 1024 = omega (arith, length-map client.ops spelling, h.at_most) in
    let read = ops_read [] client.ops h.plan named in
    rw (script_ops-few (map spelling client.ops) few, read)

clients_read : (nodes : ℕ) (done rest : List ScriptClient) → All (IsScriptClient nodes) rest → All IsNamed rest → clients_after done (map written_client rest) ≡ Ok (done ++ rest)
clients_read nodes done [] each named = ap Ok (sym (append-nil done))
clients_read nodes done (client ∷ rest) each named =
    let here = client_read nodes client (All-head (IsScriptClient nodes) client rest each) (All-head IsNamed client rest named) in
    let others = clients_read nodes (done ++ client ∷ []) rest (All-tail (IsScriptClient nodes) client rest each) (All-tail IsNamed client rest named) in
    rw here (others ∙ ap Ok (append_assoc done (client ∷ []) rest))

up_to_true : (most number : ℕ) → 1 ≤ number → number ≤ most → is_up_to most (pos number) ≡ true
up_to_true most number first last = rw (le-leb 1 number first, le-leb number most last)

document_read : (script : ScriptState) → 1 ≤ length script.clients → All IsNamed script.clients → IsScript script → script_in (written script) ≡ Ok script
document_read script some named valid =
    let within = up_to_true 64 script.nodes valid.count.0 valid.count.1 in
    let each : list_all (λ (c : ScriptClient). is_up_to script.nodes (pos c.node)) script.clients ≡ true =
    list_all-from_AllPass (λ (c : ScriptClient). is_up_to script.nodes (pos c.node)) script.clients (λ k d lt. let at = valid.each k d lt in up_to_true script.nodes _ at.first at.last) in
    let placed : are_placed script.nodes (map written_client script.clients) ≡ true =
    rw (length-map script.clients written_client, le-leb 1 (length script.clients) some, le-leb (length script.clients) 64 valid.at_most) (list_all-map (λ (t : ClientTable). is_up_to script.nodes t.node) written_client script.clients ∙ each) in
    rw (within, placed, clients_read script.nodes [] script.clients valid.each named)

-- a document of a script is read as it
pub script_of-written : (text : List ℕ) (script : ScriptState) → Means text script → script_of text ≡ Ok script
script_of-written text script h =
    let tree : tree_of text ≡ Ok h.tree = tree_of-text text h.short h.utf8 ∙ ap (λ o. ok_or o fault.Toml) h.parsed in
    rw (tree, h.shape) (document_read script h.some h.named h.valid)

-- and so by whatever answers what the text comes to
pub only : (text : List ℕ) (r : Result ScriptState ScriptError) → IfOk r (λ script. script_of text ≡ Ok script) → IfErr r (IsRefusal (script_of text))
    → (script : ScriptState) → Means text script → MatchResult r (λ read. read ≡ script) (λ why. why ≡ fault.Memory)
only text (Ok read) ok err script h = let same : Ok read ≡ Ok script = sym ok ∙ script_of-written text script h in cc
only text (Err why) ok err script h =
    elim err [
      | inl because ↦ absurd (let clash : Err why ≡ Ok script = sym because ∙ script_of-written text script h in cc)
      | inr memory ↦ memory
    ]

-- what a text without a tree comes to, and one whose tree has another shape
pub refused_tree : (text : List ℕ) (why : ScriptError) → IsRefusal (tree_of text) why → IsRefusal (script_of text) why
refused_tree text why refusal =
    elim refusal [
      | inl because ↦ inl (rw because)
      | inr memory ↦ inr memory
    ]

-- what one with the right shape comes to
pub script_of-shape : (text : List ℕ) (tree : Members) (document : Document) → tree_of text ≡ Ok tree → document_of tree ≡ Some document → script_of text ≡ script_in document
script_of-shape text tree document is shape = rw (is, shape)

pub means_by : (text : List ℕ) (r : Result ScriptState ScriptError) → IfOk r (λ script. script_of text ≡ Ok script) → IfOk r IsScript → IfOk r (Means text)
means_by text (Ok script) is valid = means text script is valid
means_by text (Err why) is valid = tt
