-- What a lock table answers of an entry that is requested, and of one that is to be granted.
use Rattle.std.specs.Prelude.{◌↔◌, ℕ, Contains, Result, IsOk, IsErrOf, IsOkUnless}
use Rattle.ra_stamp.specs.declared.entry.Entry.{Entry}
use Rattle.ra_table.specs.declared.error.EnterError.{EnterError}
use Rattle.ra_table.specs.declared.error.EnterError.TheVariants as entering
use Rattle.ra_table.specs.declared.error.RequestError.{RequestError}
use Rattle.ra_table.specs.declared.error.RequestError.TheVariants as requesting
use Rattle.ra_table.specs.Table.{LockTable, MayRequest, MayEnter}
use Rattle.ra_table.specs.Refusals.{IsNodeBusy, IsNotAbove, IsHeld, HasEarlier}

-- what the end of a request tells; memory is the one other error
pub record RequestTells (result : Result (Unit {0}) RequestError) (table : LockTable) (e : Entry) : Type 0 where
  pub node_busy : IsErrOf result requesting.NodeBusy ↔ IsNodeBusy table e
  pub not_above : IsErrOf result requesting.NotAbove ↔ ((IsNodeBusy table e → ⊥) × IsNotAbove table e)
  pub allowed : IsOkUnless result requesting.Memory ↔ MayRequest table e

-- what the check of a request tells, which takes no memory
pub record CheckTells (result : Result (Unit {0}) RequestError) (table : LockTable) (e : Entry) : Type 0 where
  pub allowed : IsOk result ↔ MayRequest table e
  pub node_busy : IsErrOf result requesting.NodeBusy ↔ IsNodeBusy table e
  pub not_above : IsErrOf result requesting.NotAbove ↔ ((IsNodeBusy table e → ⊥) × IsNotAbove table e)
  pub no_memory : IsErrOf result requesting.Memory → ⊥

-- what the end of a grant tells; memory is the one other error
pub record EnterTells (result : Result (Unit {0}) EnterError) (table : LockTable) (e : Entry) : Type 0 where
  pub not_waiting : IsErrOf result entering.NotWaiting ↔ (Contains table.waiting e → ⊥)
  pub held : IsErrOf result entering.Held ↔ (Contains table.waiting e × IsHeld table e)
  pub earlier : IsErrOf result entering.Earlier ↔ (Contains table.waiting e × (IsHeld table e → ⊥) × HasEarlier table e)
  pub allowed : IsOkUnless result entering.Memory ↔ MayEnter table e

-- what the check of a grant tells, which takes no memory
pub record IsAnswered (table : LockTable) (e : Entry) (answer : Result ℕ EnterError) : Type 0 where
  pub allowed : IsOk answer ↔ MayEnter table e
  pub not_waiting : IsErrOf answer entering.NotWaiting ↔ (Contains table.waiting e → ⊥)
  pub held : IsErrOf answer entering.Held ↔ (Contains table.waiting e × IsHeld table e)
  pub earlier : IsErrOf answer entering.Earlier ↔ (Contains table.waiting e × (IsHeld table e → ⊥) × HasEarlier table e)
  pub no_memory : IsErrOf answer entering.Memory → ⊥
