-- The names that a client holds or waits for, in the order in which it asked for them.
use Rattle.std.specs.Prelude.{ℕ, Bool, true, false, nat_le, if◌then◌else◌, List, [], ◌∷◌, length, Option, Some, None, is_some}
use Rattle.std.specs.Str.{bytes_eq}
use Rattle.ra_host_text.specs.declared.answer.Refusal.{Refusal}
use Rattle.ra_host_text.specs.declared.answer.Refusal.TheVariants.{Busy, Limit}
use Rattle.ra_clients.specs.declared.uses.NameUse.{NameUse}
use Rattle.ra_clients.specs.declared.uses.Standing.{Standing}
use Rattle.ra_clients.specs.declared.uses.Standing.TheVariants.{Waits, Holds}

-- whether it is the use of this name
abbrev pub is_of : List ℕ → NameUse → Bool
is_of name u = bytes_eq u.name name

abbrev pub waits : Standing → Bool
waits (Waits until) = true
waits Holds = false

-- until when a client waits, if it gives up
abbrev pub until_of : Standing → Option ℕ
until_of (Waits until) = until
until_of Holds = None

-- the use of this name, if there is one
abbrev pub use_of : List ℕ → List NameUse → Option NameUse
use_of name [] = None
use_of name (u ∷ us) = if is_of name u then Some u else use_of name us

abbrev pub waits_if_some : Option NameUse → Bool
waits_if_some None = false
waits_if_some (Some u) = waits u.standing

-- whether the client waits for this name
abbrev pub waits_for : List ℕ → List NameUse → Bool
waits_for name us = waits_if_some (use_of name us)

-- ---- Changes

-- a name for which a client begins to wait now
abbrev pub new_use : List ℕ → ℕ → Option ℕ → NameUse
new_use name now until = record { name = name; since = now; standing = Waits until }

-- a name that a client holds from now on
abbrev pub held_use : List ℕ → ℕ → NameUse
held_use name now = record { name = name; since = now; standing = Holds }

-- the client holds this name from now on
abbrev pub let_in : List ℕ → ℕ → List NameUse → List NameUse
let_in name now [] = []
let_in name now (u ∷ us) = if is_of name u then held_use name now ∷ us else u ∷ let_in name now us

-- the uses of the other names
abbrev pub without : List ℕ → List NameUse → List NameUse
without name [] = []
without name (u ∷ us) = if is_of name u then us else u ∷ without name us

-- ---- Answers

-- why a client may not ask for this name, if it has so many names at most
abbrev pub lock_refusal : List ℕ → ℕ → List NameUse → Option Refusal
lock_refusal name most us =
    if is_some (use_of name us) then Some Busy else if nat_le most (length us) then Some Limit else None
