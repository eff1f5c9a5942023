-- A node and its clock, and how an event changes them. Nothing else is kept.
use Rattle.std.specs.Prelude.{◌≡◌, ℕ, ◌≤◌, ◌^◌, List, [], ◌∷◌, All, refl}
use Rattle.std.specs.Coded.{Coded, code_by, coded×, coded_ℕ}
use Rattle.ra_stamp.specs.declared.entry.Mark.{Mark}
use Rattle.ra_stamp.specs.declared.message.Message.{Message}
use Rattle.ra_frame.specs.Fits.{Fits}
use Rattle.ra_node.specs.Node.{NodeState, opening_node, IsConsistentNode}
use Rattle.ra_node.specs.Events.{NodeEvent, IsForThisNode}
use Rattle.ra_book.specs.History.{Posting, node_event, clock_after}
use Rattle.ra_book.specs.declared.book.event.BookKind.{BookKind}
use Rattle.ra_book.specs.declared.book.event.BookKind.TheVariants.{Ask, Leave, Cancel, Receive, Forget}
use Rattle.ra_book.specs.declared.error.BookError.{BookError}
use Rattle.ra_book.specs.EventChecks.{IsRefusedAfter}
use Rattle.ra_book.specs.declared.timed_node.TimedNode.TheInside.{Inside}

-- a node, and the clock of its last event
pub record Timed : Type 0 where
  pub node : NodeState
  pub clock : ℕ

-- it is stored as its fields
abbrev pub timed_code : Coded NodeState → Coded Timed
timed_code node =
    code_by (NodeState × ℕ) (coded× node coded_ℕ) (λ t. (t.node, t.clock)) (λ p. record { node = p.0; clock = p.1 })
    (λ _. refl)

-- a node that has met nothing
abbrev pub opening : ℕ → ℕ → ℕ → Timed
opening me nodes start = record { node = opening_node me nodes start; clock = 0 }

-- the node and the clock that the fields are
abbrev pub timed_of : Inside → Timed
timed_of t = record { node = t.node; clock = t.clock }

-- what holds of the fields
abbrev pub IsTimed : Inside → Type 0
IsTimed t = IsConsistentNode t.node

-- the event happens, with what it sends and marks, and the clock goes on; no clock is above 2^62
pub record Takes (old : Timed) (kind : BookKind) (sends : List Message) (marks : List Mark) (new : Timed) : Type 0 where
  pub for_this_node : IsForThisNode old.node (node_event kind)
  pub event : NodeEvent old.node (node_event kind) sends marks new.node
  pub clock_is : new.clock ≡ clock_after old.clock kind
  pub has_clock : new.clock ≤ 2 ^ 62

-- these events happen, one after the other, each with its clock and with what it sends and marks
abbrev pub TakesEach : Timed → List Posting → Timed → Type 0
TakesEach old [] new = new ≡ old
TakesEach old (p ∷ postings) new =
    (next : Timed) × Takes old p.event.kind p.sends p.marks next × (next.clock ≡ p.event.clock)
    × TakesEach next postings new

-- a frame that comes fits, as each frame does that is read
abbrev pub CanCome : BookKind → Type 0
CanCome (Ask client name mode) = Unit {0}
CanCome (Leave client name) = Unit {0}
CanCome (Cancel client name) = Unit {0}
CanCome (Receive frame) = Fits frame
CanCome Forget = Unit {0}

-- the messages fit into frames with this clock
abbrev pub FitAt : ℕ → List Message → Type 0
FitAt clock sends = All (λ message. Fits (record { clock = clock; message = message })) sends

-- why an event is refused
abbrev pub Refuses : Timed → BookKind → BookError → Type 0
Refuses at kind why = IsRefusedAfter at.node at.clock kind why
