-- The shape of a script's document.
use Rattle.std.specs.Prelude.{ℕ, suc, ℤ, ◌==◌, List, [], ◌∷◌, Option, Some, None, codes, map, option_map, option_and_then, if◌then◌else◌}
use Rattle.std.specs.Borrow.{Bor}
use Rattle.ra_script.specs.declared.script_reading.document.ClientRef.{ClientRef}
use Rattle.ra_script.specs.declared.script_reading.document.DocumentRef.{DocumentRef}
use Rattle.toml.specs.Data.{Data, Items, no_items, item, Members, no_members, member, get_member, as_str, as_integer, as_array, as_table}

-- a client's table: the number of its node, and the bytes of each of its operations
pub record ClientTable : Type 0 where
  pub node : ℤ
  pub ops : List (List ℕ)

-- the number of nodes, and the clients' tables
pub record Document : Type 0 where
  pub nodes : ℤ
  pub clients : List ClientTable

-- how many keys a table has
abbrev pub key_count : Members → ℕ
key_count no_members = 0
key_count (member key value rest) = suc (key_count rest)

-- the integer at a key, if the table has one there
abbrev pub integer_at : List ℕ → Members → Option ℤ
integer_at key table = option_and_then as_integer (get_member key table)

-- the items of the array at a key, if the table has one there
abbrev pub array_at : List ℕ → Members → Option Items
array_at key table = option_and_then as_array (get_member key table)

-- what the items of an array are read as, if each can be read
abbrev pub each_of : {T : Type 0} → (Data → Option T) → Items → Option (List T)
each_of read no_items = Some []
each_of read (item value rest) = option_and_then (λ first. option_map (λ others. first ∷ others) (each_of read rest))
    (read value)

-- the strings of an array, if it contains only strings
abbrev pub strings_of : Items → Option (List (List ℕ))
strings_of items = each_of as_str items

-- the client of an integer and an array of strings, if these exist
abbrev pub client_from : Option ℤ → Option Items → Option ClientTable
client_from (Some node) (Some ops) = option_map (λ strings. record { node = node; ops = strings }) (strings_of ops)
client_from (Some node) None = None
client_from None ops = None

-- the client of a table, if it has its two keys and no other
abbrev pub client_in : Members → Option ClientTable
client_in table =
    if key_count table == 2 then client_from (integer_at (codes "node") table) (array_at (codes "ops") table) else None

-- the client of a value, if that is such a table
abbrev pub client_of : Data → Option ClientTable
client_of value = option_and_then client_in (as_table value)

-- the clients of an array, if it contains only clients
abbrev pub clients_of : Items → Option (List ClientTable)
clients_of items = each_of client_of items

-- the document of an integer and an array of clients, if these exist
abbrev pub document_from : Option ℤ → Option Items → Option Document
document_from (Some nodes) (Some tables) = option_map (λ clients. record { nodes = nodes; clients = clients })
    (clients_of tables)
document_from (Some nodes) None = None
document_from None tables = None

-- the document of a table, if it has its two keys and no other
abbrev pub document_of : Members → Option Document
document_of table =
    if key_count table == 2 then document_from (integer_at (codes "nodes") table) (array_at (codes "client") table)
    else None

-- the texts that these references point to
abbrev pub texts : List (Bor (List ℕ)) → List (List ℕ)
texts strings = map (λ string. string.now) strings

-- the table of a client that was read
abbrev pub client_table : ClientRef → ClientTable
client_table client = record { node = client.node; ops = texts client.ops.items }

-- the document that was read
abbrev pub document : DocumentRef → Document
document read = record { nodes = read.nodes; clients = map client_table read.clients.items }
