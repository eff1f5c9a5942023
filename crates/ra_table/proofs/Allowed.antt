-- What may be done is what is not refused.
use Rattle.std.proofs.Common.{◌≡◌, ◌≤◌, List, get_or, All, Any, Contains, arith, inl, inr}
use Rattle.std.proofs.lemmas.List.{get_or_default}
use Rattle.std.proofs.lemmas.List.Elements.{All-contains}
use Rattle.ra_stamp.specs.declared.entry.Entry.{Entry}
use Rattle.ra_stamp.specs.Stamp.{IsEarlier}
use Rattle.ra_table.specs.Table.{LockTable, Excludes, MayRequest, MayEnter}
use Rattle.ra_table.specs.Refusals.{SharesNodeAndName, IsNodeBusy, IsNotAbove, IsHeld, HasEarlier}

-- if P holds of no element, each element lacks it
All-not_any : {X : Type 0} (P : X → Type 0) (xs : List X) → (Any P xs → ⊥) → All (λ x. P x → ⊥) xs
All-not_any P xs none k d lt p = none (k, get_or xs k d, lt, get_or_default xs k (get_or xs k d) d lt, p)

not_any-All : {X : Type 0} (P : X → Type 0) (xs : List X) → All (λ x. P x → ⊥) xs → Any P xs → ⊥
not_any-All P xs none some = All-contains (λ x. P x → ⊥) xs some.1 none (some.0, some.2, some.3) some.4

pub MayRequest-not_refused : (table : LockTable) (e : Entry) → (IsNodeBusy table e → ⊥) → (IsNotAbove table e → ⊥) → MayRequest table e
MayRequest-not_refused table e free above = record {
  not_waiting = λ k d lt name node. All-not_any (λ x. SharesNodeAndName x e) table.waiting (λ h. free (inl h)) k d lt (name, node);
  not_holding = λ k d lt name node. All-not_any (λ x. SharesNodeAndName x e) table.holding (λ h. free (inr h)) k d lt (name, node);
  above = λ k d lt name. let not_le : (e.stamp.seq ≤ (get_or table.granted k d).stamp.seq) → ⊥ = λ le. All-not_any (λ x. (x.name ≡ e.name) × (e.stamp.seq ≤ x.stamp.seq)) table.granted above k d lt (name, le) in omega arith;
}

pub MayRequest-not_busy : (table : LockTable) (e : Entry) → MayRequest table e → IsNodeBusy table e → ⊥
MayRequest-not_busy table e may busy =
    elim busy [
      | inl w ↦ not_any-All (λ x. SharesNodeAndName x e) table.waiting (λ k d lt s. may.not_waiting k d lt s.0 s.1) w
      | inr h ↦ not_any-All (λ x. SharesNodeAndName x e) table.holding (λ k d lt s. may.not_holding k d lt s.0 s.1) h
    ]

pub MayRequest-not_overtaken : (table : LockTable) (e : Entry) → MayRequest table e → IsNotAbove table e → ⊥
MayRequest-not_overtaken table e may some =
    not_any-All (λ x. (x.name ≡ e.name) × (e.stamp.seq ≤ x.stamp.seq)) table.granted (λ k d lt s. let above = may.above k d lt s.0 in let le = s.1 in omega arith) some

pub MayEnter-not_refused : (table : LockTable) (e : Entry) → Contains table.waiting e → (IsHeld table e → ⊥) → (HasEarlier table e → ⊥) → MayEnter table e
MayEnter-not_refused table e waits held earlier = record {
  waits = waits;
  not_held = All-not_any (λ x. Excludes x e) table.holding held;
  no_earlier = λ k d lt ex early. All-not_any (λ x. Excludes x e × IsEarlier x.stamp e.stamp) table.waiting earlier k d lt (ex, early);
}

pub MayEnter-not_held : (table : LockTable) (e : Entry) → MayEnter table e → IsHeld table e → ⊥
MayEnter-not_held table e may held = not_any-All (λ x. Excludes x e) table.holding may.not_held held

pub MayEnter-no_earlier : (table : LockTable) (e : Entry) → MayEnter table e → HasEarlier table e → ⊥
MayEnter-no_earlier table e may earlier =
    not_any-All (λ x. Excludes x e × IsEarlier x.stamp e.stamp) table.waiting (λ k d lt s. may.no_earlier k d lt s.0 s.1) earlier
