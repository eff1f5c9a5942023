-- The values of a tree, one after the other.
use Rattle.std.proofs.Common.{◌≡◌, ◌<◌, ◌+◌, ◌≤◌, ℕ, List, [], ◌∷◌, ◌++◌, length, get_or, drop, Option, Some, None, Ok, Err, ok_or, codes, ℤ, option_map, option_and_then, refl, sym, ap, ◌∙◌, inl, inr, append_assoc}
use Rattle.std.proofs.lemmas.Bool.{ne_eqb}
use Rattle.std.proofs.lemmas.List.{append-nil, drop_all}
use Rattle.toml.specs.Data.{Data, Items, Members}
use Rattle.toml.specs.View.{view, items_view, members_view}
use Rattle.toml.specs.declared.value.Value.{Value}
use Rattle.toml.proofs.Views.{items_view-drop, Entry}
use Rattle.ra_script.specs.declared.error.ScriptError.{ScriptError}
use Rattle.ra_script.specs.declared.error.ScriptError.TheVariants as fault
use Rattle.ra_script.specs.Faults.{IsRefusal}
use Rattle.ra_script.specs.Document.{ClientTable, key_count, integer_at, array_at, each_of, strings_of, client_in, clients_of, document_of}

-- a map has as many entries as its table has keys
pub key_count-view : (entries : List Entry) → key_count (members_view entries) ≡ length entries
key_count-view [] = refl
key_count-view (e ∷ entries) = rw (key_count-view entries)

-- the values up to a place were read as these
pub record IsReadTo {T : Type 0} (read : Data → Option T) (values : List Value) (place : ℕ) (done : List T) : Type 0 where
  pub same : each_of read (items_view values) ≡ option_map (λ rest. done ++ rest) (each_of read (items_view (drop place values)))

none_done : {T : Type 0} (o : Option (List T)) → o ≡ option_map (λ rest. [] ++ rest) o
none_done None = refl
none_done (Some rest) = refl

pub IsReadTo-none : {T : Type 0} (read : Data → Option T) (values : List Value) → IsReadTo read values 0 []
IsReadTo-none read values = record { same = none_done (each_of read (items_view values)) }

one_done : {T : Type 0} (done : List T) (x : T) (o : Option (List T)) → option_map (λ rest. done ++ rest) (option_map (λ others. x ∷ others) o) ≡ option_map (λ rest. (done ++ x ∷ []) ++ rest) o
one_done done x None = refl
one_done done x (Some rest) = ap Some (sym (append_assoc done (x ∷ []) rest))

pub IsReadTo-more : {T : Type 0} (read : Data → Option T) (values : List Value) (place : ℕ) (done : List T) (value : Value) (x : T) → place < length values → value ≡ get_or values place value → read (view value) ≡ Some x
    → IsReadTo read values place done → IsReadTo read values (place + 1) (done ++ x ∷ [])
IsReadTo-more read values place done value x lt is seen h =
    let step = items_view-drop values place value lt in
    record { same = h.same ∙ rw (step, sym is, seen) (one_done done x (each_of read (items_view (drop (place + 1) values)))) }

pub IsReadTo-all : {T : Type 0} (read : Data → Option T) (values : List Value) (place : ℕ) (done : List T) → length values ≤ place → IsReadTo read values place done → each_of read (items_view values) ≡ Some done
IsReadTo-all read values place done past h = h.same ∙ rw (drop_all place values past) (ap Some (append-nil done))

-- a value that cannot be read
pub IsReadTo-refused : {T : Type 0} (read : Data → Option T) (values : List Value) (place : ℕ) (done : List T) (value : Value) (why : ScriptError) → place < length values → value ≡ get_or values place value
    → ok_or (read (view value)) fault.Shape ≡ Err why → IsReadTo read values place done → ok_or (each_of read (items_view values)) fault.Shape ≡ Err why
IsReadTo-refused read values place done value why lt is unread h =
    let step = items_view-drop values place value lt in
    rw (h.same, step, sym is) (refused (read (view value)) unread)
  where
    refused : (o : Option _) → ok_or o fault.Shape ≡ Err why → ok_or (option_map (λ rest. done ++ rest) (option_and_then (λ first. option_map (λ others. first ∷ others) (each_of read (items_view (drop (place + 1) values)))) o)) fault.Shape ≡ Err why
    refused None e = let same : fault.Shape ≡ why = cc in ap Err same
    refused (Some x) e = absurd (let clash : Ok x ≡ Err why = e in cc)

-- so it refuses them all
pub IsReadTo-err : {T : Type 0} (read : Data → Option T) (values : List Value) (place : ℕ) (done : List T) (value : Value) (why : ScriptError) → place < length values → value ≡ get_or values place value
    → IsRefusal (ok_or (read (view value)) fault.Shape) why → IsReadTo read values place done → IsRefusal (ok_or (each_of read (items_view values)) fault.Shape) why
IsReadTo-err read values place done value why lt is (inl unread) h = inl (IsReadTo-refused read values place done value why lt is unread h)
IsReadTo-err read values place done value why lt is (inr memory) h = inr memory

-- a client's table that has other keys
pub client_in-other : (table : Members) → (key_count table ≡ 2 → ⊥) → client_in table ≡ None
client_in-other table other = rw (ne_eqb (key_count table) 2 other)

-- one that has its two
pub client_in-both : (table : Members) (node : ℤ) (ops : Items) (strings : List (List ℕ)) → key_count table ≡ 2
    → Some node ≡ integer_at (codes "node") table → Some ops ≡ array_at (codes "ops") table → strings_of ops ≡ Some strings
    → client_in table ≡ Some (record { node = node; ops = strings })
client_in-both table node ops strings two has_node has_ops read = rw (two, sym has_node, sym has_ops, read)

-- a document's table that has other keys
pub document_of-other : (table : Members) → (key_count table ≡ 2 → ⊥) → document_of table ≡ None
document_of-other table other = rw (ne_eqb (key_count table) 2 other)

-- one that has its two
pub document_of-both : (table : Members) (nodes : ℤ) (tables : Items) (clients : List ClientTable) → key_count table ≡ 2
    → Some nodes ≡ integer_at (codes "nodes") table → Some tables ≡ array_at (codes "client") table → clients_of tables ≡ Some clients
    → document_of table ≡ Some (record { nodes = nodes; clients = clients })
document_of-both table nodes tables clients two has_nodes has_tables read = rw (two, sym has_nodes, sym has_tables, read)
