-- What calls make of the tables of clients.
use Rattle.std.specs.Prelude.{◌≡◌, ◌≢◌, ℕ, ◌<◌, ◌≤◌, ◌^◌, Bool, true, false, ◌&&◌, not, List, [], ◌∷◌, ◌++◌, Option, Some, None}
use Rattle.std.specs.BTreeMap.{BTreeMap, get}
use Rattle.std.specs.Ordering.{nat_cmp}
use Rattle.ra_clients.specs.declared.uses.NameUse.{NameUse}
use Rattle.ra_clients.specs.declared.roster.Roster.{Roster}
use Rattle.ra_clients.specs.Uses.{use_of}
use Rattle.ra_clients.specs.NumberUse as numbers
use Rattle.ra_clients.specs.Table.{uses_at, connection_at, is_had, Changes, Disconnects, Joins, AreSameClients}
use Rattle.ra_clients.specs.Roster.{end_of}

-- the names of the client with this number, and its connection; whether a client has it, and one of before the start
abbrev pub uses_of : Roster → ℕ → List NameUse
uses_of r k = uses_at r.clients k

abbrev pub connection_of : Roster → ℕ → Option ℕ
connection_of r k = connection_at r.clients k

abbrev pub has : Roster → ℕ → Bool
has r k = is_had (connection_of r k) (uses_of r k)

abbrev pub is_before : Roster → ℕ → Bool
is_before r k = numbers.is_before r.numbers k

-- Whoever has a number had it before, and is of before the start if it was.
pub record KeepsBefore (old new : Roster) : Type 0 where
  pub had : (k : ℕ) → has new k ≡ true → has old k ≡ true
  pub before : (k : ℕ) → has new k ≡ true → is_before new k ≡ is_before old k

-- nothing has changed
pub record Stays (old new : Roster) : Type 0 where
  pub clients : AreSameClients old.clients new.clients
  pub before : KeepsBefore old new

-- the names of one client change to these, and nothing else
pub record Alters (old : Roster) (number : ℕ) (uses : List NameUse) (new : Roster) : Type 0 where
  pub clients : Changes old.clients number uses new.clients
  pub before : KeepsBefore old new

-- the client with this number has no connection any more
pub record Parts (old : Roster) (number : ℕ) (new : Roster) : Type 0 where
  pub clients : Disconnects old.clients number new.clients
  pub before : KeepsBefore old new

-- the number is the least that nobody has
pub record IsFirstFree (r : Roster) (number : ℕ) : Type 0 where
  pub free : has r number ≡ false
  pub least : (other : ℕ) → other < number → has r other ≡ true

-- a client with this connection gets the number, which was the least that nobody had, and has one name
pub record Enrols (old : Roster) (number connection : ℕ) (use_now : NameUse) (new : Roster) : Type 0 where
  pub first : IsFirstFree old number
  pub clients : Joins old.clients number (Some connection) use_now new.clients
  pub not_before : is_before new number ≡ false
  pub others : (k : ℕ) → k ≢ number → is_before new k ≡ is_before old k

-- A client without a connection has one name more, and is of before the start.
pub record Recalls (old : Roster) (number : ℕ) (use_now : NameUse) (new : Roster) : Type 0 where
  pub clients : Changes old.clients number (uses_of old number ++ use_now ∷ []) new.clients
  pub kept_now : is_before new number ≡ true
  pub others : (k : ℕ) → k ≢ number → is_before new k ≡ is_before old k

-- nobody has a number
pub record IsEmpty (r : Roster) : Type 0 where
  pub uses : (k : ℕ) → uses_of r k ≡ []
  pub connections : (k : ℕ) → connection_of r k ≡ None
  pub before : (k : ℕ) → is_before r k ≡ false

-- whether the client is of before the start, and these are not released
abbrev pub is_kept : Roster → Bool → ℕ → Bool
is_kept r released k = not released && is_before r k

-- no client with names is to give them back
abbrev pub NoneLeaves : Roster → Bool → Type 0
NoneLeaves r released = (k : ℕ) → connection_of r k ≡ None → uses_of r k ≢ [] → is_kept r released k ≡ true

-- the client is to give back this name, among others
pub record Leaves (r : Roster) (released : Bool) (k : ℕ) (use_now : NameUse) : Type 0 where
  pub no_connection : connection_of r k ≡ None
  pub not_kept : is_kept r released k ≡ false
  pub is : use_of use_now.name (uses_of r k) ≡ Some use_now

-- somebody has each number
abbrev pub IsFull : Roster → Type 0
IsFull r = (number : ℕ) → number < 2 ^ 32 → has r number ≡ true

-- no client has to give up now
abbrev pub NoneIsDue : Roster → ℕ → Type 0
NoneIsDue r now = (k until : ℕ) (name : List ℕ) → end_of name (uses_of r k) ≡ Some until → now < until

-- the client had to give the name up by now
pub record IsDue (r : Roster) (now k : ℕ) (name : List ℕ) : Type 0 where
  pub until : ℕ
  pub past : until ≤ now
  pub is : end_of name (uses_of r k) ≡ Some until

-- the number of each connection is that of its client
abbrev pub AreNumbered : BTreeMap ℕ ℕ → Roster → Type 0
AreNumbered number_of r = (c k : ℕ) → get nat_cmp number_of c ≡ Some k → connection_of r k ≡ Some c
