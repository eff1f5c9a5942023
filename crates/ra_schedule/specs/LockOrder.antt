-- Scripts whose clients take names in ascending order and give them all back. They never deadlock.
use Rattle.std.specs.Prelude.{◌≡◌, ◌≢◌, ◌⊎◌, ℕ, ◌≤◌, ◌<◌, List, take, Some, slice_get}
use Rattle.std.specs.Ordering.{nat_cmp}
use Rattle.std.specs.Cmp.Lexicographic.{slice_cmp}
use Rattle.std.specs.declared.cmp.Ordering.TheVariants.{Less}
use Rattle.ra_stamp.specs.declared.mode.Mode.{Mode}
use Rattle.ra_schedule.specs.declared.script.Op.{Op}
use Rattle.ra_schedule.specs.declared.script.Op.TheVariants.{Lock, Unlock}
use Rattle.ra_schedule.specs.declared.script.lock_order.OutOfOrder.{OutOfOrder}
use Rattle.ra_schedule.specs.declared.script.lock_order.Unreleased.{Unreleased}
use Rattle.ra_schedule.specs.Script.{ScriptState, ScriptClient, client_at, IsHeldAfter}

-- one name is below the other, by bytes
abbrev pub IsBelow : List ℕ → List ℕ → Type 0
IsBelow a b = slice_cmp nat_cmp a b ≡ Less

-- some operation locks a name while a name is held that is not below it
abbrev pub LocksOutOfOrder : List Op → Type 0
LocksOutOfOrder ops = (place : ℕ) × (name : List ℕ) × (mode : Mode) × (held : List ℕ)
    × (slice_get ops place ≡ Some (Lock name mode)) × IsHeldAfter (take place ops) held
    × (IsBelow held name → ⊥)

-- some name is held after all operations
abbrev pub EndsHolding : List Op → Type 0
EndsHolding ops = (name : List ℕ) × IsHeldAfter ops name

-- the client exists, and this holds of its operations
abbrev pub IsOf : (List Op → Type 0) → ScriptState → ℕ → Type 0
IsOf P script client = (c : ScriptClient) × (client_at script client ≡ Some c) × P c.ops

-- some client locks a name while it holds one that is not below it, by bytes
abbrev pub IsOutOfOrder : ScriptState → Type 0
IsOutOfOrder script = (client : ℕ) × IsOf LocksOutOfOrder script client

-- some client holds a name after all its operations
abbrev pub IsUnreleased : ScriptState → Type 0
IsUnreleased script = (client : ℕ) × IsOf EndsHolding script client

-- ---- The place

-- the operation at this place locks the name
abbrev pub LocksAt : List Op → ℕ → List ℕ → Type 0
LocksAt ops place name = (mode : Mode) × (slice_get ops place ≡ Some (Lock name mode))

-- a name is locked at one place, and not unlocked before the other one, which locks a name that is not above it
pub record LocksBelow (ops : List Op) (since place : ℕ) : Type 0 where
  pub held : List ℕ
  pub name : List ℕ
  pub later : since < place
  pub locks_held : LocksAt ops since held
  pub kept : (k : ℕ) → since < k → k < place → slice_get ops k ≢ Some (Unlock held)
  pub locks : LocksAt ops place name
  pub not_above : IsBelow held name → ⊥

-- this is the first place that locks a name while a name that is not below it is held, and `since` is the first place
-- that locked such a held name
pub record IsFirstBelow (ops : List Op) (since place : ℕ) : Type 0 where
  pub is : LocksBelow ops since place
  pub first : (earlier other : ℕ) → LocksBelow ops earlier other
      → (place < other) ⊎ ((place ≡ other) × (since ≤ earlier))

-- a name is locked at this place, and not unlocked after it
pub record NeverUnlocks (ops : List Op) (place : ℕ) : Type 0 where
  pub name : List ℕ
  pub locks : LocksAt ops place name
  pub kept : (k : ℕ) → place < k → slice_get ops k ≢ Some (Unlock name)

-- this place is the first such one
pub record IsFirstNeverUnlocked (ops : List Op) (place : ℕ) : Type 0 where
  pub is : NeverUnlocks ops place
  pub first : (other : ℕ) → NeverUnlocks ops other → place ≤ other

-- the first place at which the first client that locks out of order does so, and the first of the names held then that
-- is not below
pub record IsFirstOutOfOrder (script : ScriptState) (found : OutOfOrder) : Type 0 where
  pub is : IsOf (λ ops. IsFirstBelow ops found.since found.place) script found.client
  pub first : (client : ℕ) → IsOf LocksOutOfOrder script client → found.client ≤ client

-- the first place at which the first client that holds a name at its end locks a name that it never unlocks
pub record IsFirstUnreleased (script : ScriptState) (found : Unreleased) : Type 0 where
  pub is : IsOf (λ ops. IsFirstNeverUnlocked ops found.place) script found.client
  pub first : (client : ℕ) → IsOf EndsHolding script client → found.client ≤ client
