-- What a lock table answers of an entry that is to be granted, and that the table of its name answers the same.
use Rattle.std.proofs.Common.{◌≡◌, ◌≤◌, ℕ, List, Any, Contains, ◌↔◌, Result, Ok, Err, refl, sym, subst, inl, inr}
use Rattle.std.proofs.lemmas.Bool.{false≢true}
use Rattle.ra_stamp.specs.declared.entry.Entry.{Entry}
use Rattle.ra_stamp.specs.Stamp.{IsEarlier}
use Rattle.ra_table.specs.declared.error.EnterError.{EnterError}
use Rattle.ra_table.specs.declared.error.EnterError.TheVariants.{NotWaiting, Held, Earlier}
use Rattle.ra_table.specs.declared.error.RequestError.{RequestError}
use Rattle.ra_table.specs.Table.{LockTable, Excludes, MayRequest, MayEnter}
use Rattle.ra_table.specs.Refusals.{SharesNodeAndName, IsNodeBusy, IsNotAbove, IsHeld, HasEarlier}
use Rattle.ra_table.specs.Answers.{RequestTells, EnterTells, IsAnswered}
use Rattle.ra_table.specs.NameTables.{on_name}
use Rattle.ra_table.proofs.Allowed.{MayRequest-not_refused, MayRequest-not_busy, MayRequest-not_overtaken, MayEnter-not_refused, MayEnter-not_held, MayEnter-no_earlier}
use Rattle.ra_table.proofs.Joined.{Any-on, Contains-on}

-- ---- What the check of a grant answers

pub answers_not_waiting : (table : LockTable) (e : Entry) → (Contains table.waiting e → ⊥) → IsAnswered table e (Err NotWaiting)
answers_not_waiting table e none =
    record {
      allowed = (λ ok. absurd (false≢true ok), λ may. absurd (none may.waits));
      not_waiting = (λ _. none, λ _. refl);
      held = (λ err. absurd cc, λ h. absurd (none h.0));
      earlier = (λ err. absurd cc, λ h. absurd (none h.0));
      no_memory = λ err. cc;
    }

pub answers_held : (table : LockTable) (e : Entry) → Contains table.waiting e → IsHeld table e → IsAnswered table e (Err Held)
answers_held table e there held =
    record {
      allowed = (λ ok. absurd (false≢true ok), λ may. absurd (MayEnter-not_held table e may held));
      not_waiting = (λ err. absurd cc, λ none. absurd (none there));
      held = (λ _. (there, held), λ _. refl);
      earlier = (λ err. absurd cc, λ h. absurd (h.1 held));
      no_memory = λ err. cc;
    }

pub answers_earlier : (table : LockTable) (e : Entry) → Contains table.waiting e → (IsHeld table e → ⊥) → HasEarlier table e → IsAnswered table e (Err Earlier)
answers_earlier table e there free earlier =
    record {
      allowed = (λ ok. absurd (false≢true ok), λ may. absurd (MayEnter-no_earlier table e may earlier));
      not_waiting = (λ err. absurd cc, λ absent. absurd (absent there));
      held = (λ err. absurd cc, λ h. absurd (free h.1));
      earlier = (λ _. (there, free, earlier), λ _. refl);
      no_memory = λ err. cc;
    }

pub answers_ok : (table : LockTable) (e : Entry) (place : ℕ) → Contains table.waiting e → (IsHeld table e → ⊥) → (HasEarlier table e → ⊥) → IsAnswered table e (Ok place)
answers_ok table e place there free next =
    record {
      allowed = (λ _. MayEnter-not_refused table e there free next, λ _. refl);
      not_waiting = (λ err. absurd cc, λ absent. absurd (absent there));
      held = (λ err. absurd cc, λ h. absurd (free h.1));
      earlier = (λ err. absurd cc, λ h. absurd (next h.2));
      no_memory = λ err. cc;
    }

-- ---- What the table of a name answers

-- the table of this name has the entries of the whole table that are on it
pub record Shows (name : List ℕ) (name_table table : LockTable) : Type 0 where
  pub waiting : name_table.waiting ≡ on_name name table.waiting
  pub holding : name_table.holding ≡ on_name name table.holding
  pub granted : name_table.granted ≡ on_name name table.granted

over : {A B C : Type 0} → A ↔ B → B ↔ C → A ↔ C
over first second = (λ a. second.0 (first.0 a), λ c. first.1 (second.1 c))

Any-among : (some all : List Entry) (e : Entry) → some ≡ on_name e.name all → (P : Entry → Type 0) → ((x : Entry) → P x → x.name ≡ e.name) → Any P some ↔ Any P all
Any-among some all e on P named = subst (λ (l : List Entry). Any P l ↔ Any P all) (sym on) (Any-on P e.name all named)

Contains-among : (some all : List Entry) (e : Entry) → some ≡ on_name e.name all → Contains some e ↔ Contains all e
Contains-among some all e on = subst (λ (l : List Entry). Contains l e ↔ Contains all e) (sym on) (Contains-on all e)

module _ (name_table table : LockTable) (e : Entry) (shows : Shows e.name name_table table) where
  pub name_table_waits : Contains name_table.waiting e ↔ Contains table.waiting e
  name_table_waits = Contains-among name_table.waiting table.waiting e shows.waiting

  pub name_table_holds : Contains name_table.holding e ↔ Contains table.holding e
  name_table_holds = Contains-among name_table.holding table.holding e shows.holding

  is_busy : IsNodeBusy name_table e ↔ IsNodeBusy table e
  is_busy =
      let waiting = Any-among name_table.waiting table.waiting e shows.waiting (λ x. SharesNodeAndName x e) (λ x s. s.0) in
      let holding = Any-among name_table.holding table.holding e shows.holding (λ x. SharesNodeAndName x e) (λ x s. s.0) in (
        λ busy. elim busy [
          | inl w ↦ inl (waiting.0 w)
          | inr h ↦ inr (holding.0 h)
        ],
        λ busy. elim busy [
          | inl w ↦ inl (waiting.1 w)
          | inr h ↦ inr (holding.1 h)
        ],
      )

  is_not_above : IsNotAbove name_table e ↔ IsNotAbove table e
  is_not_above = Any-among name_table.granted table.granted e shows.granted (λ x. (x.name ≡ e.name) × (e.stamp.seq ≤ x.stamp.seq)) (λ x s. s.0)

  is_held : IsHeld name_table e ↔ IsHeld table e
  is_held = Any-among name_table.holding table.holding e shows.holding (λ x. Excludes x e) (λ x s. s.0)

  has_earlier : HasEarlier name_table e ↔ HasEarlier table e
  has_earlier = Any-among name_table.waiting table.waiting e shows.waiting (λ x. Excludes x e × IsEarlier x.stamp e.stamp) (λ x s. s.0.0)

  pub may_request : MayRequest name_table e ↔ MayRequest table e
  may_request = (
    λ may. MayRequest-not_refused table e (λ busy. MayRequest-not_busy name_table e may (is_busy.1 busy)) (λ above. MayRequest-not_overtaken name_table e may (is_not_above.1 above)),
    λ may. MayRequest-not_refused name_table e (λ busy. MayRequest-not_busy table e may (is_busy.0 busy)) (λ above. MayRequest-not_overtaken table e may (is_not_above.0 above)),
  )

  pub may_enter : MayEnter name_table e ↔ MayEnter table e
  may_enter = (
    λ may. MayEnter-not_refused table e (name_table_waits.0 may.waits) (λ held. MayEnter-not_held name_table e may (is_held.1 held)) (λ earlier. MayEnter-no_earlier name_table e may (has_earlier.1 earlier)),
    λ may. MayEnter-not_refused name_table e (name_table_waits.1 may.waits) (λ held. MayEnter-not_held table e may (is_held.0 held)) (λ earlier. MayEnter-no_earlier table e may (has_earlier.0 earlier)),
  )

  refused_above : ((IsNodeBusy name_table e → ⊥) × IsNotAbove name_table e) ↔ ((IsNodeBusy table e → ⊥) × IsNotAbove table e)
  refused_above = (λ h. (λ busy. h.0 (is_busy.1 busy), is_not_above.0 h.1), λ h. (λ busy. h.0 (is_busy.0 busy), is_not_above.1 h.1))

  pub request_tells : (result : Result (Unit {0}) RequestError) → RequestTells result name_table e → RequestTells result table e
  request_tells result told = record {
    node_busy = over told.node_busy is_busy;
    not_above = over told.not_above refused_above;
    allowed = over told.allowed may_request;
  }

  not_there : (Contains name_table.waiting e → ⊥) ↔ (Contains table.waiting e → ⊥)
  not_there = (λ none at. none (name_table_waits.1 at), λ none at. none (name_table_waits.0 at))

  refused_held : (Contains name_table.waiting e × IsHeld name_table e) ↔ (Contains table.waiting e × IsHeld table e)
  refused_held = (λ h. (name_table_waits.0 h.0, is_held.0 h.1), λ h. (name_table_waits.1 h.0, is_held.1 h.1))

  refused_earlier : (Contains name_table.waiting e × (IsHeld name_table e → ⊥) × HasEarlier name_table e) ↔ (Contains table.waiting e × (IsHeld table e → ⊥) × HasEarlier table e)
  refused_earlier = (
    λ h. (name_table_waits.0 h.0, (λ held. h.1 (is_held.1 held)), has_earlier.0 h.2),
    λ h. (name_table_waits.1 h.0, (λ held. h.1 (is_held.0 held)), has_earlier.1 h.2),
  )

  pub enter_tells : (result : Result (Unit {0}) EnterError) → EnterTells result name_table e → EnterTells result table e
  enter_tells result told = record {
    not_waiting = over told.not_waiting not_there;
    held = over told.held refused_held;
    earlier = over told.earlier refused_earlier;
    allowed = over told.allowed may_enter;
  }
