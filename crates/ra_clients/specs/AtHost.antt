-- What clients hold by the node of their host.
use Rattle.std.specs.Prelude.{◌≡◌, ℕ, List, [], ◌∷◌, Option, Some}
use Rattle.ra_stamp.specs.declared.entry.Entry.{Entry}
use Rattle.ra_stamp.specs.declared.entry.Mark.{Mark}
use Rattle.ra_stamp.specs.declared.entry.Mark.TheVariants.{Requested, Entered, Left, Withdrawn}
use Rattle.ra_book.specs.declared.book.event.BookKind.{BookKind}
use Rattle.ra_book.specs.declared.book.event.BookKind.TheVariants.{Ask, Leave, Cancel, Receive, Forget}
use Rattle.ra_host.specs.Host.{Host}
use Rattle.ra_host.specs.Grants.{IsHeld}
use Rattle.ra_clients.specs.AtNode.{Holding}

-- a request of the client for the name is granted at the host's node
pub record HoldsAt (h : Host) (k : ℕ) (name : List ℕ) : Type 0 where
  pub entry : Entry
  pub client_is : entry.client ≡ k
  pub name_is : entry.name ≡ name
  pub granted : IsHeld h entry

-- this is who holds each name at the host's node
pub record AreHoldersAt (h : Host) (held : Holding) : Type 0 where
  pub each : (entry : Entry) → IsHeld h entry → held entry.name ≡ Some entry.client
  pub only : (k : ℕ) (name : List ℕ) → held name ≡ Some k → HoldsAt h k name

-- the clients that these marks let in, each with the name
abbrev pub entered_in : List Mark → List (ℕ × List ℕ)
entered_in [] = []
entered_in (Requested entry ∷ marks) = entered_in marks
entered_in (Entered entry ∷ marks) = (entry.client, entry.name) ∷ entered_in marks
entered_in (Left entry ∷ marks) = entered_in marks
entered_in (Withdrawn entry ∷ marks) = entered_in marks

-- a client's leave happens only if this is what the node is to do
abbrev pub IsByTurn : Option BookKind → BookKind → Type 0
IsByTurn does (Ask client name mode) = Unit {0}
IsByTurn does (Leave client name) = does ≡ Some (Leave client name)
IsByTurn does (Cancel client name) = Unit {0}
IsByTurn does (Receive frame) = Unit {0}
IsByTurn does Forget = Unit {0}
