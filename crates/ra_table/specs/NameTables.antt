-- How a lock table keeps its entries: in a table for each name. No public contract speaks of these.
use Rattle.std.specs.Prelude.{◌≡◌, ◌<◌, ◌≤◌, ℕ, List, [], ◌∷◌, ◌++◌, Option, Some, None, All, length, max, slice_get, slice_index_or, unwrap_or}
use Rattle.std.specs.List.{filter, AllByRecursion, IsDistinct}
use Rattle.std.specs.Map.{keys_of, values_of, lookup, set_value}
use Rattle.std.specs.Str.{bytes_eq}
use Rattle.indexmap.specs.IndexMap.{set_value_at}
use Rattle.ra_stamp.specs.declared.entry.Entry.{Entry}
use Rattle.ra_table.specs.Table.{LockTable}
use Rattle.ra_table.specs.Laws.{IsConflictFree}

-- ---- The table of one name

-- the table with this entry alone, which waits
abbrev pub first_request : Entry → LockTable
first_request e = record { waiting = e ∷ []; holding = []; granted = [] }

-- each of these entries is on this name
abbrev pub AreOn : List ℕ → List Entry → Type 0
AreOn name entries = All (λ x. x.name ≡ name) entries

-- the entry is at this place of the list, counted from 0
abbrev pub IsPlaceOfEntry : List Entry → ℕ → Entry → Type 0
IsPlaceOfEntry entries place e = (place < length entries) × (slice_index_or entries place e ≡ e)

-- the highest number of these entries, if there are any
abbrev pub highest_of : List Entry → Option ℕ
highest_of [] = None
highest_of (e ∷ es) = Some (max e.stamp.seq (unwrap_or (highest_of es) 0))

-- a highest number exists, and is at least this one
abbrev pub Reaches : Option ℕ → ℕ → Type 0
Reaches None number = ⊥
Reaches (Some highest) number = number ≤ highest

-- ---- The tables of all names

-- the entries on this name, in order
abbrev pub on_name : List ℕ → List Entry → List Entry
on_name name entries = filter (λ x. bytes_eq name x.name) entries

module _ {X : Type 0} (part : X → List Entry) where
  -- this part of all tables, one after the other
  abbrev pub joined : List (List ℕ × X) → List Entry
  joined [] = []
  joined (name_table ∷ name_tables) = part name_table.1 ++ joined name_tables

  -- each entry in this part of a table is on the name of the table
  abbrev pub AreOnTheirNames : List (List ℕ × X) → Type 0
  AreOnTheirNames name_tables = AllByRecursion (λ name_table. AreOn name_table.0 (part name_table.1)) name_tables

-- this place, counted from 0, is the place of this name's table, which is found and written by the name. If the name
-- has no table, the place is past the end, where nothing is found or written
pub record IsPlaceOf (name_tables : List (List ℕ × LockTable)) (name : List ℕ) (place : ℕ) : Type 0 where
  pub found : slice_get (values_of name_tables) place ≡ lookup (bytes_eq name) name_tables
  pub written : (new : LockTable) → set_value_at name_tables place new ≡ set_value (bytes_eq name) name_tables new

-- the entries that wait in a table
abbrev pub waiting_of : LockTable → List Entry
waiting_of name_table = name_table.waiting

-- the entries that hold in a table
abbrev pub holding_of : LockTable → List Entry
holding_of name_table = name_table.holding

-- the entries that were granted in a table
abbrev pub granted_of : LockTable → List Entry
granted_of name_table = name_table.granted

-- the table of the entries of all names
abbrev pub table_of : List (List ℕ × LockTable) → LockTable
table_of name_tables = record {
  waiting = joined waiting_of name_tables;
  holding = joined holding_of name_tables;
  granted = joined granted_of name_tables;
}

-- what is always so of the tables of all names: no name has two, each entry is in the table of its name, and no two
-- entries hold in conflict
pub record IsKept (name_tables : List (List ℕ × LockTable)) : Type 0 where
  pub distinct : IsDistinct bytes_eq (keys_of name_tables)
  pub waiting : AreOnTheirNames waiting_of name_tables
  pub holding : AreOnTheirNames holding_of name_tables
  pub granted : AreOnTheirNames granted_of name_tables
  pub conflict_free : IsConflictFree (joined holding_of name_tables)
