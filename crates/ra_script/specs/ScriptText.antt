-- The script of a text, check by check, in the order of the refusals.
use Rattle.std.specs.Prelude.{◌≡◌, ◌≤◌, ℕ, ℤ, pos, negsuc, nat_le, nat_lt, ◌&&◌, Bool, true, false, not, List, [], ◌∷◌, ◌++◌, length, Result, Ok, Err, if◌then◌else◌, ok_or}
use Rattle.std.specs.List.{list_all}
use Rattle.std.specs.Str.{is_utf8, bytes_eq}
use Rattle.toml.specs.Data.{Members}
use Rattle.toml.specs.Parse.{parse_document}
use Rattle.ra_schedule.specs.declared.script.Op.{Op}
use Rattle.ra_schedule.specs.declared.script.Op.TheVariants.{Lock, Unlock}
use Rattle.ra_schedule.specs.Script.{ScriptClient, ScriptState}
use Rattle.ra_script.specs.declared.error.ScriptError.{ScriptError}
use Rattle.ra_script.specs.declared.error.ScriptError.TheVariants as fault
use Rattle.ra_script.specs.Document.{ClientTable, Document, document_of}
use Rattle.ra_script.specs.Operation.{op_of}

-- the next check, if those before it passed
abbrev pub result_and_then : {A B : Type 0} → (A → Result B ScriptError) → Result A ScriptError → Result B ScriptError
result_and_then next (Ok value) = next value
result_and_then next (Err why) = Err why

-- the script with another client
abbrev pub with_last : ScriptState → ScriptClient → ScriptState
with_last script client = record script { clients = script.clients ++ client ∷ [] }

-- the number, or 0 if it is negative
abbrev pub natural : ℤ → ℕ
natural (pos number) = number
natural (negsuc number) = 0

-- whether the number is 1 to `most`
abbrev pub is_up_to : ℕ → ℤ → Bool
is_up_to most number = nat_le 1 (natural number) && nat_le (natural number) most

-- whether a client has the name after these operations, if `held` says whether it had it before them
abbrev pub is_held_from : Bool → List Op → List ℕ → Bool
is_held_from held [] name = held
is_held_from held (Lock locked mode ∷ ops) name = is_held_from (if bytes_eq locked name then true else held) ops name
is_held_from held (Unlock unlocked ∷ ops) name = is_held_from (if bytes_eq unlocked name then false else held) ops name

-- whether a client has the name after these operations
abbrev pub is_held_after : List Op → List ℕ → Bool
is_held_after ops name = is_held_from false ops name

-- an operation after those that are done: a name is locked if the client does not have it, and unlocked if it does
abbrev pub fitting : List Op → Op → Result Op ScriptError
fitting done (Lock name mode) = if is_held_after done name then Err fault.AlreadyHeld else Ok (Lock name mode)
fitting done (Unlock name) = if is_held_after done name then Ok (Unlock name) else Err fault.NotHeld

-- the operation that a string spells, after those that are done
abbrev pub next_op : List Op → List ℕ → Result Op ScriptError
next_op done string = result_and_then (fitting done) (ok_or (op_of string) fault.Op)

-- the operations that are done, and after them the operations of these strings
abbrev pub ops_after : List Op → List (List ℕ) → Result (List Op) ScriptError
ops_after done [] = Ok done
ops_after done (string ∷ strings) = result_and_then (λ op. ops_after (done ++ op ∷ []) strings) (next_op done string)

-- the operations of a client, at most 1,024 of them
abbrev pub script_ops : List (List ℕ) → Result (List Op) ScriptError
script_ops strings = if nat_lt 1024 (length strings) then Err fault.Limit else ops_after [] strings

-- a client of a script, from its table
abbrev pub script_client : ClientTable → Result ScriptClient ScriptError
script_client client = result_and_then (λ ops. Ok (record { node = natural client.node; ops = ops }))
    (script_ops client.ops)

-- the clients that are done, and after them the clients of these tables
abbrev pub clients_after : List ScriptClient → List ClientTable → Result (List ScriptClient) ScriptError
clients_after done [] = Ok done
clients_after done (client ∷ clients) = result_and_then (λ c. clients_after (done ++ c ∷ []) clients)
    (script_client client)

-- whether there are 1 to 64 clients, each at one of the nodes
abbrev pub are_placed : ℕ → List ClientTable → Bool
are_placed nodes clients =
    (nat_le 1 (length clients) && nat_le (length clients) 64) && list_all (λ client. is_up_to nodes client.node) clients

-- the script of a document
abbrev pub script_in : Document → Result ScriptState ScriptError
script_in document =
    if not (is_up_to 64 document.nodes) then Err fault.Nodes
    else if not (are_placed (natural document.nodes) document.clients) then Err fault.Clients
    else result_and_then (λ clients. Ok (record { nodes = natural document.nodes; clients = clients }))
    (clients_after [] document.clients)

-- the parser's tree of a text
abbrev pub tree_of : List ℕ → Result Members ScriptError
tree_of text =
    if nat_lt 65536 (length text) then Err fault.Limit
    else if not (is_utf8 text) then Err fault.Toml
    else ok_or (parse_document text) fault.Toml

-- a text that is parsed: at most 65,536 bytes of UTF-8; any other is never refused for lack of memory
abbrev pub IsText : List ℕ → Type 0
IsText text = (length text ≤ 65536) × (is_utf8 text ≡ true)

-- the script of a text
abbrev pub script_of : List ℕ → Result ScriptState ScriptError
script_of text = result_and_then script_in (result_and_then (λ tree. ok_or (document_of tree) fault.Shape)
    (tree_of text))
