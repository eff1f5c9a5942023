-- How a lock out of order is searched for. Only private contracts speak of this.
use Rattle.std.specs.Prelude.{◌≡◌, ℕ, ◌<◌, List}
use Rattle.ra_stamp.specs.declared.mode.Mode.{Mode}
use Rattle.ra_schedule.specs.declared.script.Op.{Op}
use Rattle.ra_schedule.specs.declared.script.Op.TheVariants.{Lock}
use Rattle.ra_schedule.specs.LockOrder.{IsBelow, LocksBelow}

-- the operation locks a name, and the held one is not below it
abbrev pub LocksNotAbove : Op → List ℕ → Type 0
LocksNotAbove op held = (name : List ℕ) × (mode : Mode) × (op ≡ Lock name mode) × (IsBelow held name → ⊥)

-- before this place, no name is locked that is not above the one that was locked at the place `since` and is still held
abbrev pub NoneBelow : List Op → (since place : ℕ) → Type 0
NoneBelow ops since place = (other : ℕ) → other < place → LocksBelow ops since other → ⊥
