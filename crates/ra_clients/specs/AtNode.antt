-- What clients hold by their node.
use Rattle.std.specs.Prelude.{◌≡◌, ◌≢◌, ℕ, List, [], ◌∷◌, Option, Some, None}
use Rattle.ra_book.specs.declared.book.event.BookKind.{BookKind}
use Rattle.ra_book.specs.declared.book.event.BookKind.TheVariants.{Leave}
use Rattle.ra_clients.specs.declared.uses.NameUse.{NameUse}
use Rattle.ra_clients.specs.Uses.{use_of, without}
use Rattle.ra_clients.specs.Clients.{Limits, Clients, Event, Turn, Turns, silent}
use Rattle.ra_clients.specs.Clients.Event.{Enter}
use Rattle.ra_clients.specs.Laws.{IsHolder}

-- by name, the number of the client that holds it by the node, if one does
abbrev pub Holding : Type 0
Holding = List ℕ → Option ℕ

-- these clients hold these names
abbrev pub AreGranted : List (ℕ × List ℕ) → Holding → Type 0
AreGranted [] held = Unit {0}
AreGranted (x ∷ xs) held = (held x.1 ≡ Some x.0) × AreGranted xs held

-- An event at the node, which was to do this, lets these clients in. They hold the names after it. Whoever held a name
-- holds it still, unless the node was to give it back.
pub record IsAtNode (old : Holding) (does : Option BookKind) (entered : List (ℕ × List ℕ)) (new : Holding)
    : Type 0 where
  pub granted : AreGranted entered new
  pub lasts : (k : ℕ) (name : List ℕ) → old name ≡ Some k → does ≢ Some (Leave k name) → new name ≡ Some k

-- the event is that the node lets a client in
abbrev pub IsEntry : Event → Type 0
IsEntry e = (k : ℕ) × (name : List ℕ) × (seq : ℕ) × (node : ℕ) × (e ≡ Enter k name seq node)

-- this happens to the clients, or nothing, while the node may do something by itself
abbrev pub TurnsIfAny : Limits → Clients → Option Event → Turn → Type 0
TurnsIfAny l s None t = t ≡ silent s
TurnsIfAny l s (Some e) t = (IsEntry e → ⊥) × Turns l s e t

-- the clients are let in, one after the other
abbrev pub LetsIn : Limits → Clients → List (ℕ × List ℕ) → Clients → Type 0
LetsIn l s [] new = new ≡ s
LetsIn l s (x ∷ xs) new =
    (seq : ℕ) × (node : ℕ) × (t : Turn) × Turns l s (Enter x.0 x.1 seq node) t × LetsIn l t.clients xs new

-- Something happens to the clients, or nothing. The node does what it is to do then, or something by itself, and
-- whoever is let in is told.
pub record Step (l : Limits) (old : Clients) (before : Holding) (e : Option Event) (new : Clients) (after : Holding)
    : Type 0 where
  pub turn : Turn
  pub turns : TurnsIfAny l old e turn
  pub entered : List (ℕ × List ℕ)
  pub node : IsAtNode before turn.does entered after
  pub lets_in : LetsIn l turn.clients entered new

-- whoever holds a name holds it by the node
abbrev pub AreHeld : Clients → Holding → Type 0
AreHeld s held = (k : ℕ) (name : List ℕ) → IsHolder s k name → held name ≡ Some k

-- each name is among these uses once at most
abbrev pub AreOnce : List NameUse → Type 0
AreOnce uses = (name : List ℕ) → use_of name (without name uses) ≡ None

-- no client has a name twice
pub record AreDistinct (s : Clients) : Type 0 where
  pub each : (k : ℕ) → AreOnce (s.uses_of k)
