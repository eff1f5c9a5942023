-- What adding an operation to a client does. No public contract speaks of it.
use Rattle.std.specs.Prelude.{◌≡◌, ℕ, ◌<◌, ◌≤◌, List, [], ◌∷◌, ◌++◌, length, Result, Ok, Err}
use Rattle.ra_stamp.specs.declared.mode.Mode.{Mode}
use Rattle.ra_schedule.specs.declared.error.AddOpError.{AddOpError}
use Rattle.ra_schedule.specs.declared.error.AddOpError.TheVariants.{Clients, Limit, NotHeld, AlreadyHeld, Memory}
use Rattle.ra_schedule.specs.declared.script.Op.{Op}
use Rattle.ra_schedule.specs.declared.script.Op.TheVariants.{Lock, Unlock}
use Rattle.ra_schedule.specs.Script.{ScriptClient, IsHeldAfter, Fits}

-- the operation fits after these, and they are fewer than a client may have
pub record HasRoomFor (ops : List Op) (op : Op) : Type 0 where
  pub room : length ops < 1024
  pub fits : Fits ops op

-- the operation can't be added after these for this cause
abbrev pub IsFault : List Op → Op → AddOpError → Type 0
IsFault ops op Clients = ⊥
IsFault ops op Limit = 1024 ≤ length ops
IsFault ops op NotHeld = (length ops < 1024) × (name : List ℕ) × (op ≡ Unlock name) × (IsHeldAfter ops name → ⊥)
IsFault ops op AlreadyHeld =
    (length ops < 1024) × (name : List ℕ) × (mode : Mode) × (op ≡ Lock name mode) × IsHeldAfter ops name
IsFault ops op Memory = ⊥

-- the same, or memory ran out for an operation that fits
abbrev pub IsFaultOrMemory : List Op → Op → AddOpError → Type 0
IsFaultOrMemory ops op Clients = ⊥
IsFaultOrMemory ops op Limit = IsFault ops op Limit
IsFaultOrMemory ops op NotHeld = IsFault ops op NotHeld
IsFaultOrMemory ops op AlreadyHeld = IsFault ops op AlreadyHeld
IsFaultOrMemory ops op Memory = HasRoomFor ops op

-- the operation was added to the client, or the client is as before for this cause
abbrev pub AnswersOp : {T : Type 0} → ScriptClient → Op → Result T AddOpError → ScriptClient → Type 0
AnswersOp old op (Ok x) new = HasRoomFor old.ops op × (new ≡ record old { ops = old.ops ++ op ∷ [] })
AnswersOp old op (Err fault) new = IsFaultOrMemory old.ops op fault × (new ≡ old)
