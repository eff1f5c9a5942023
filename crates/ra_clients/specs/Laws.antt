-- What is true of the clients of a host, whatever happens.
use Rattle.std.specs.Prelude.{◌≡◌, ◌≢◌, ◌⊎◌, ℕ, ◌≤◌, true, false, List, [], ◌∷◌, Option, Some, None, Contains, length}
use Rattle.ra_stamp.specs.declared.mode.Mode.{Mode}
use Rattle.ra_book.specs.declared.book.event.BookKind.TheVariants.{Leave}
use Rattle.ra_host_text.specs.declared.answer.Answer.TheVariants.{Granted, Unlocked}
use Rattle.ra_host_text.specs.declared.answer.Refusal.{Refusal}
use Rattle.ra_clients.specs.declared.uses.NameUse.{NameUse}
use Rattle.ra_clients.specs.declared.uses.Standing.TheVariants.{Holds}
use Rattle.ra_clients.specs.Uses.{use_of, waits, waits_for, without}
use Rattle.ra_clients.specs.Clients.{Limits, Clients, Turn, Turns, Event, with_uses, given_back}
use Rattle.ra_clients.specs.Clients.Event.{Lock, Unlock, Refuse, Enter, Give_back}

-- ---- What becomes of a use

-- the client with this number holds the name
pub record IsHolder (s : Clients) (k : ℕ) (name : List ℕ) : Type 0 where
  pub use_now : NameUse
  pub is : use_of name (s.uses_of k) ≡ Some use_now
  pub holds : use_now.standing ≡ Holds

-- the client holds the name still, or its node is to give it back
abbrev pub HoldsOrLeaves : ℕ → List ℕ → Turn → Type 0
HoldsOrLeaves k name t = IsHolder t.clients k name ⊎ (t.does ≡ Some (Leave k name))

-- the client has the name still: it holds it if it held it
pub record HasStill (before : NameUse) (s : Clients) (k : ℕ) (name : List ℕ) : Type 0 where
  pub use_now : NameUse
  pub is : use_of name (s.uses_of k) ≡ Some use_now
  pub holds : before.standing ≡ Holds → use_now.standing ≡ Holds

-- it waited, and its node has refused the request
pub record IsRefused (before : NameUse) (e : Event) (k : ℕ) (name : List ℕ) : Type 0 where
  pub why : Refusal
  pub event : e ≡ Refuse k name why
  pub waited : waits before.standing ≡ true

-- in this turn, a client that had a name has it still, or its node is to give it back, or has refused it
abbrev pub IsAccountedFor : NameUse → Event → ℕ → List ℕ → Turn → Type 0
IsAccountedFor before e k name t =
    HasStill before t.clients k name
    ⊎ ((t.does ≡ Some (given_back k name before.standing)) ⊎ IsRefused before e k name)

-- ---- What is told

-- this turn tells a connection that its client holds the name, with this number and node
abbrev pub TellsGranted : Turn → ℕ → List ℕ → ℕ → ℕ → Type 0
TellsGranted t c name seq node = Contains t.tells (c, Granted name seq node)

-- the client of this connection waited for the name, and its node let it in, so that it holds the name
pub record IsGrant (s : Clients) (e : Event) (c : ℕ) (name : List ℕ) (seq node : ℕ) (t : Turn) : Type 0 where
  pub number : ℕ
  pub event : e ≡ Enter number name seq node
  pub connection : s.connection_of number ≡ Some c
  pub waited : waits_for name (s.uses_of number) ≡ true
  pub holds : IsHolder t.clients number name

-- The client of this connection has unlocked the name. It had it, and has it no longer.
pub record IsUnlock (s : Clients) (e : Event) (c : ℕ) (name : List ℕ) (t : Turn) : Type 0 where
  pub event : e ≡ Unlock c name
  pub number : ℕ
  pub number_is : s.number_of c ≡ Some number
  pub had : NameUse
  pub had_is : use_of name (s.uses_of number) ≡ Some had
  pub does : t.does ≡ Some (given_back number name had.standing)
  pub has_not : use_of name (t.clients.uses_of number) ≡ None

-- the client with this number has asked for the name
pub record IsAsked (e : Event) (k : ℕ) (name : List ℕ) (t : Turn) : Type 0 where
  pub client : ℕ
  pub mode : Mode
  pub within : Option ℕ
  pub event : e ≡ Lock client name mode within
  pub number : t.clients.number_of client ≡ Some k

-- its client is told that it holds the name no longer
pub record TellsUnlocked (s : Clients) (k : ℕ) (name : List ℕ) (t : Turn) : Type 0 where
  pub client : ℕ
  pub number : s.number_of client ≡ Some k
  pub tells_it : t.tells ≡ (client, Unlocked name) ∷ []

-- its node has refused the name to the client of this connection, which waited for it
pub record IsRefusedByNode (s : Clients) (e : Event) (c : ℕ) (name : List ℕ) (why : Refusal) : Type 0 where
  pub number : ℕ
  pub event : e ≡ Refuse number name why
  pub connection : s.connection_of number ≡ Some c
  pub waited : waits_for name (s.uses_of number) ≡ true

-- a turn that tells a refusal changes nothing, unless the refusal is that of the node
abbrev pub ChangesNothing : Clients → Event → ℕ → List ℕ → Refusal → Turn → Type 0
ChangesNothing s e c name why t =
    ((t.clients ≡ s) × (t.does ≡ None) × (t.closes ≡ false)) ⊎ IsRefusedByNode s e c name why

-- If the client with this number waits for the name, the name goes. Nothing else changes.
pub record IsTakenBack (s : Clients) (k : ℕ) (name : List ℕ) (t : Turn) : Type 0 where
  pub waited : waits_for name (s.uses_of k) ≡ true → t.clients ≡ with_uses s k (without name (s.uses_of k))
  pub not_waited : waits_for name (s.uses_of k) ≡ false → t.clients ≡ s
  pub does : t.does ≡ None
  pub closes : t.closes ≡ false

-- ---- Many turns

-- these events, each with its turn, lead from the old state to the new one, in order
abbrev pub Lead : Limits → Clients → List (Event × Turn) → Clients → Type 0
Lead l old [] new = new ≡ old
Lead l old (e ∷ es) new = Turns l old e.0 e.1 × Lead l e.1.clients es new

-- in none of these turns is its node to give the name back
abbrev pub NeverLeaves : ℕ → List ℕ → List (Event × Turn) → Type 0
NeverLeaves k name [] = Unit {0}
NeverLeaves k name (e ∷ es) = (e.1.does ≢ Some (Leave k name)) × NeverLeaves k name es

-- ---- Who has which number

-- The number of a connection is that of its client, and no client with a connection is kept from before the start.
pub record IsSound (s : Clients) : Type 0 where
  pub each : (c k : ℕ) → s.number_of c ≡ Some k → s.connection_of k ≡ Some c
  pub not_kept : (c k : ℕ) → s.connection_of k ≡ Some c → s.is_kept k ≡ false

-- no client has a connection, as at the start
pub record IsUnconnected (s : Clients) : Type 0 where
  pub no_number : (c : ℕ) → s.number_of c ≡ None
  pub no_connection : (k : ℕ) → s.connection_of k ≡ None
  pub count_is : s.count ≡ 0

-- There is a turn that gives the name back: the node is to give it back, or to cancel it if the client waits, and the
-- client has its other names still.
pub record CanGiveBack (l : Limits) (s : Clients) (k : ℕ) (name : List ℕ) (had : NameUse) : Type 0 where
  pub turn : Turn
  pub turns : Turns l s (Give_back k name) turn
  pub does : turn.does ≡ Some (given_back k name had.standing)
  pub others : turn.clients.uses_of k ≡ without name (s.uses_of k)

-- the client has no more names than it may have
abbrev pub IsWithin : Limits → Clients → ℕ → Type 0
IsWithin l s k = length (s.uses_of k) ≤ l.names
