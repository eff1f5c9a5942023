-- The table of a name, found and written by its place.
use Rattle.std.proofs.Common.{◌≡◌, ℕ, zero, suc, Bool, true, false, cond, not, ◌+◌, List, [], ◌∷◌, length, slice_get, position, Option, Some, None, IfSome, is_some, refl, sym, ap, ◌∙◌, subst, arith}
use Rattle.std.specs.Prelude.{unwrap_or}
use Rattle.std.specs.Str.{bytes_eq}
use Rattle.std.specs.List.{AllByRecursion, IsDistinct, position_or_len}
use Rattle.std.specs.Map.{lookup, set_value, keys_of, values_of}
use Rattle.std.proofs.lemmas.Bool.{false≢true}
use Rattle.std.proofs.lemmas.Map.Keys.{IsDistinct-head, IsDistinct-tail}
use Rattle.std.proofs.lemmas.Option.{same_Some, none-some}
use Rattle.std.proofs.lemmas.Slice.Eq.{bytes_eq-Decides}
use Rattle.indexmap.specs.IndexMap.{set_value_at}
use Rattle.ra_table.specs.Table.{LockTable}
use Rattle.ra_table.specs.NameTables.{IsPlaceOf}

-- the table of the name was written, and no other
pub record IsWritten (old : List (List ℕ × LockTable)) (name : List ℕ) (table : LockTable) (new : List (List ℕ × LockTable)) : Type 0 where
  pub entries_are : new ≡ set_value (bytes_eq name) old table
  pub distinct : IsDistinct bytes_eq (keys_of new)

keys_stay : (tables : List (List ℕ × LockTable)) (place : ℕ) (new : LockTable) → keys_of (set_value_at tables place new) ≡ keys_of tables
keys_stay [] place new = refl
keys_stay (first ∷ tables) zero new = refl
keys_stay (first ∷ tables) (suc place) new = ap (λ (ks : List (List ℕ)). first.0 ∷ ks) (keys_stay tables place new)

-- it is written by its place
pub written_there : (tables : List (List ℕ × LockTable)) (name : List ℕ) (place : ℕ) (new : LockTable) → IsDistinct bytes_eq (keys_of tables)
    → IsPlaceOf tables name place → IsWritten tables name new (set_value_at tables place new)
written_there tables name place new distinct there = record {
  entries_are = there.written new;
  distinct = subst (IsDistinct bytes_eq) (sym (keys_stay tables place new)) distinct;
}

apart_at : (first name : List ℕ) (tables : List (List ℕ × LockTable)) (place : ℕ) (table : LockTable)
    → AllByRecursion (λ q. bytes_eq first q ≡ false) (keys_of tables) → slice_get tables place ≡ Some (name, table) → bytes_eq first name ≡ false
apart_at first name [] place table apart at = absurd (none-some (name, table) at)
apart_at first name (x ∷ tables) zero table apart at =
    subst (λ (q : List ℕ). bytes_eq first q ≡ false) (ap (λ (y : List ℕ × LockTable). y.0) (same_Some x (name, table) at)) apart.0
apart_at first name (x ∷ tables) (suc place) table apart at = apart_at first name tables place table apart.1 at

-- a place whose table is of the name
pub is_place : (tables : List (List ℕ × LockTable)) (name : List ℕ) (place : ℕ) (table : LockTable) → IsDistinct bytes_eq (keys_of tables)
    → slice_get tables place ≡ Some (name, table) → IsPlaceOf tables name place
is_place [] name place table distinct at = absurd (none-some (name, table) at)
is_place (first ∷ tables) name zero table distinct at =
    let same : first.0 ≡ name = ap (λ (y : List ℕ × LockTable). y.0) (same_Some first (name, table) at) in
    let yes : bytes_eq name first.0 ≡ true = (bytes_eq-Decides name first.0).1 (sym same) in
    record {
      found = ap (λ b. cond b (Some first.1) (lookup (bytes_eq name) tables)) (sym yes);
      written = λ new. ap (λ b. cond b ((first.0, new) ∷ tables) (first ∷ set_value (bytes_eq name) tables new)) (sym yes);
    }
is_place (first ∷ tables) name (suc place) table distinct at =
    let there = is_place tables name place table (IsDistinct-tail bytes_eq first.0 (keys_of tables) distinct) at in
    let apart = apart_at first.0 name tables place table (IsDistinct-head bytes_eq first.0 (keys_of tables) distinct) at in
    elim (bytes_eq name first.0) as (λ b. bytes_eq name first.0 ≡ b → IsPlaceOf (first ∷ tables) name (suc place)) [
      | true ↦ λ same.
          let name_is : first.0 ≡ name = sym ((bytes_eq-Decides name first.0).0 same) in
          absurd (false≢true (sym apart ∙ (bytes_eq-Decides first.0 name).1 name_is))
      | false ↦ λ other. record {
        found = there.found ∙ ap (λ b. cond b (Some first.1) (lookup (bytes_eq name) tables)) (sym other);
        written = λ new.
            ap (λ (l : List (List ℕ × LockTable)). first ∷ l) (there.written new)
            ∙ ap (λ b. cond b ((first.0, new) ∷ tables) (first ∷ set_value (bytes_eq name) tables new)) (sym other);
      }
    ] refl

-- the same of a name that is found to be this one
pub is_place_of : (tables : List (List ℕ × LockTable)) (name : List ℕ) (place : ℕ) (kept : List ℕ) (table : LockTable) → IsDistinct bytes_eq (keys_of tables)
    → Some (kept, table) ≡ slice_get tables place → bytes_eq kept name ≡ true → IsPlaceOf tables name place
is_place_of tables name place kept table distinct at same =
    is_place tables name place table distinct
    (sym at ∙ ap (λ (k : List ℕ). Some (k, table)) ((bytes_eq-Decides kept name).0 same))

-- ---- The place that a look-up of the name finds

one_more : (n : ℕ) → 1 + n ≡ suc n
one_more n = omega arith

at_first : (tables : List (List ℕ × LockTable)) (test : List ℕ → Bool) (new : LockTable)
    → set_value_at tables (position_or_len test (keys_of tables)) new ≡ set_value test tables new
at_first [] test new = refl
at_first (first ∷ tables) test new =
    elim (test first.0) as (λ b. set_value_at (first ∷ tables) (cond (not b) (1 + position_or_len test (keys_of tables)) 0) new
    ≡ cond b ((first.0, new) ∷ tables) (first ∷ set_value test tables new)) [
      | true ↦ refl
      | false ↦
          ap (λ (place : ℕ). set_value_at (first ∷ tables) place new) (one_more (position_or_len test (keys_of tables)))
          ∙ ap (λ (l : List (List ℕ × LockTable)). first ∷ l) (at_first tables test new)
    ]

some_place : (b : Bool) (first place : ℕ) → Some place ≡ cond b (Some first) None → place ≡ first
some_place true first place is = same_Some place first is
some_place false first place is = absurd (none-some place (sym is))

none_found : (table : Option LockTable) → false ≡ is_some table → table ≡ None
none_found None same = refl
none_found (Some table) same = absurd (false≢true same)

nothing_there : (tables : List (List ℕ × LockTable)) → slice_get (values_of tables) (length tables) ≡ None
nothing_there [] = refl
nothing_there (first ∷ tables) = nothing_there tables

nothing_written : (tables : List (List ℕ × LockTable)) (test : List ℕ → Bool) (new : LockTable) → lookup test tables ≡ None
    → set_value_at tables (length tables) new ≡ set_value test tables new
nothing_written [] test new none = refl
nothing_written (first ∷ tables) test new none =
    elim (test first.0) as (λ b. cond b (Some first.1) (lookup test tables) ≡ None
    → set_value_at (first ∷ tables) (length (first ∷ tables)) new ≡ cond b ((first.0, new) ∷ tables) (first ∷ set_value test tables new)) [
      | true ↦ λ some. absurd (none-some first.1 (sym some))
      | false ↦ λ missing. ap (λ (l : List (List ℕ × LockTable)). first ∷ l) (nothing_written tables test new missing)
    ] none

pub place_found : (tables : List (List ℕ × LockTable)) (name : List ℕ) (found : Option ℕ) → found ≡ position (bytes_eq name) (keys_of tables)
    → is_some found ≡ is_some (lookup (bytes_eq name) tables)
    → IfSome found (λ place. slice_get (values_of tables) place ≡ lookup (bytes_eq name) tables) → IsPlaceOf tables name (unwrap_or found (length tables))
place_found tables name None is same value =
    let none = none_found (lookup (bytes_eq name) tables) same in
    record {
      found = nothing_there tables ∙ sym none;
      written = λ new. nothing_written tables (bytes_eq name) new none;
    }
place_found tables name (Some place) is same value =
    let first : place ≡ position_or_len (bytes_eq name) (keys_of tables) = some_place _ _ place is in
    record {
      found = value;
      written = λ new.
          ap (λ (i : ℕ). set_value_at tables i new) first
          ∙ at_first tables (bytes_eq name) new;
    }
