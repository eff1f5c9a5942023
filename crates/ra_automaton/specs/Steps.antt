-- The rules of the algorithm: what a node does when its client asks for the resource, when a message comes, and when
-- its client leaves or gives up waiting. Whatever a rule does not mention stays as it was.
--
-- The rules are those of G. Ricart and A. K. Agrawala, CACM 24(1), 1981. This project adds its own:
-- - Requests have modes, and exclude each other only if these conflict.
-- - A request sets its number and the highest number at once.
-- - A REPLY carries the number of its request, so that strays can be told apart.
-- - A deferral keeps the greater of two numbers.
-- - Messages go out in ascending order of the nodes, and at a leave the REPLYs come first.
-- - A request that waits can be withdrawn: its node answers all whom it has deferred, as at a leave.
-- - The highest number that a node has met may rise at any time.
-- - No request comes after the greatest number.
use Rattle.std.specs.Prelude.{◌≡◌, ℕ, ◌+◌, ◌-◌, ◌<◌, ◌^◌, ◌⊎◌, max, Bool, true, false, not}
use Rattle.std.specs.Prelude.{List, [], ◌∷◌, ◌++◌, filter, map, Option, Some, None, IsTrue, ◌==◌}
use Rattle.std.specs.List.{range_with_len}
use Rattle.std.specs.FinSet as set
use Rattle.std.specs.FinMap as finmap
use Rattle.ra_stamp.specs.declared.mode.Mode.{Mode}
use Rattle.ra_stamp.specs.declared.message.Message.{Message}
use Rattle.ra_stamp.specs.declared.message.Message.TheVariants.{Request, Reply}
use Rattle.ra_stamp.specs.Mode.{Conflict}
use Rattle.ra_stamp.specs.Stamp.{IsEarlier}
use Rattle.ra_automaton.specs.declared.phase.Phase.{Phase}
use Rattle.ra_automaton.specs.declared.phase.Phase.TheVariants.{Idle, Waiting, Inside}
use Rattle.ra_automaton.specs.State.{State}

-- the greatest number that a request can have: 2^64-1
abbrev pub greatest_number : ℕ
greatest_number = 2 ^ 64 - 1

-- all nodes but this one, in ascending order
abbrev pub others_of : ℕ → ℕ → List ℕ
others_of me nodes = filter (λ node. not (node == me)) (range_with_len 1 nodes)

-- ---- A client asks: the request takes the next number, and a REQUEST goes to each other node.

-- if there are other nodes, the REPLY of each is awaited
pub record AsksOthers (old : State) (mode : Mode) (entered : Bool) (new : State) : Type 0 where
  pub others : 1 < old.nodes
  pub entered_is : entered ≡ false
  pub new_is : new ≡ record old {
    highest = old.highest + 1;
    phase = Waiting (old.highest + 1) mode;
    awaited = set.from_list (others_of old.me old.nodes);
  }

-- the only node enters at once
pub record EntersAlone (old : State) (mode : Mode) (entered : Bool) (new : State) : Type 0 where
  pub alone : old.nodes ≡ 1
  pub entered_is : entered ≡ true
  pub new_is : new ≡ record old { highest = old.highest + 1; phase = Inside (old.highest + 1) mode }

-- the request of a node that has others to ask awaits their REPLYs; that of the only node enters at once
abbrev pub Begins : State → Mode → Bool → State → Type 0
Begins old mode entered new = AsksOthers old mode entered new ⊎ EntersAlone old mode entered new

-- a request needs an idle node and a number that is left
pub record RequestStep (old : State) (mode : Mode) (sends : List Message) (entered : Bool) (new : State)
    : Type 0 where
  pub idle : old.phase ≡ Idle
  pub number_left : old.highest < greatest_number
  -- in ascending order of the nodes
  pub sends_are : sends
      ≡ map (λ other. Request old.me other old.name mode (old.highest + 1)) (others_of old.me old.nodes)
  pub begins : Begins old mode entered new

-- ---- A REQUEST comes.

-- a node's own request, with its number and mode, excludes another node's request and is earlier
pub record GoesFirst (me seq : ℕ) (mode : Mode) (other number : ℕ) (wanted : Mode) : Type 0 where
  pub excludes : Conflict mode wanted
  pub earlier : IsEarlier (record { seq = seq; node = me }) (record { seq = number; node = other })

-- a node that waits or is inside has a request of its own, which may go first; an idle node has no request
abbrev pub OwnGoesFirst : Phase → ℕ → ℕ → ℕ → Mode → Type 0
OwnGoesFirst Idle me other number wanted = ⊥
OwnGoesFirst (Waiting seq mode) me other number wanted = GoesFirst me seq mode other number wanted
OwnGoesFirst (Inside seq mode) me other number wanted = GoesFirst me seq mode other number wanted

-- the number with which a node is deferred: the greater one, if two requests of the node are deferred
abbrev pub later_of : Option ℕ → ℕ → ℕ
later_of None number = number
later_of (Some before) number = max before number

-- if the own request goes first, the REPLY is deferred until the node leaves
pub record Defers (old : State) (other number : ℕ) (wanted : Mode) (sends : List Message) (new : State)
    : Type 0 where
  pub own_first : OwnGoesFirst old.phase old.me other number wanted
  pub sends_are : sends ≡ []
  pub new_is : new ≡ record old {
    highest = max old.highest number;
    deferred = finmap.insert old.deferred other (later_of (finmap.get old.deferred other) number);
  }

-- otherwise the REPLY goes out at once
pub record RepliesAtOnce (old : State) (other number : ℕ) (wanted : Mode) (sends : List Message) (new : State)
    : Type 0 where
  pub not_first : OwnGoesFirst old.phase old.me other number wanted → ⊥
  pub sends_are : sends ≡ Reply old.me other old.name number ∷ []
  pub new_is : new ≡ record old { highest = max old.highest number }

-- ---- A REPLY comes. It carries the number of the request that it answers.

-- the node waits with this number and mode, and awaits the REPLY of the other node
pub record Awaits (old : State) (other number : ℕ) (mode : Mode) : Type 0 where
  pub waits : old.phase ≡ Waiting number mode
  pub awaited : IsTrue (set.contains old.awaited other)

-- the last REPLY lets the node enter
pub record Enters (old : State) (other number : ℕ) (mode : Mode) (entered : Bool) (new : State)
    : Type 0 where
  pub awaits : Awaits old other number mode
  pub last : set.remove old.awaited other ≡ set.empty
  pub entered_is : entered ≡ true
  pub new_is : new ≡ record old { phase = Inside number mode; awaited = set.empty }

-- after any other awaited REPLY the node still waits
pub record WaitsOn (old : State) (other number : ℕ) (mode : Mode) (entered : Bool) (new : State)
    : Type 0 where
  pub awaits : Awaits old other number mode
  pub not_last : set.remove old.awaited other ≡ set.empty → ⊥
  pub entered_is : entered ≡ false
  pub new_is : new ≡ record old { awaited = set.remove old.awaited other }

-- a REPLY that is not awaited is a stray, and changes nothing
pub record IsStray (old : State) (other number : ℕ) (entered : Bool) (new : State) : Type 0 where
  pub not_awaited : (mode : Mode) → Awaits old other number mode → ⊥
  pub entered_is : entered ≡ false
  pub new_is : new ≡ old

-- a REPLY comes: the last one awaited lets the node enter, any other awaited one is counted, and the rest are strays
abbrev pub TakesReply : State → ℕ → ℕ → Bool → State → Type 0
TakesReply old other number entered new =
    IsStray old other number entered new
    ⊎ ((mode : Mode) × (Enters old other number mode entered new ⊎ WaitsOn old other number mode entered new))

-- a message comes: the REPLY to a REQUEST is deferred or goes out at once, and a REPLY is taken without sending
-- anything
abbrev pub ReceiveStep : State → Message → List Message → Bool → State → Type 0
ReceiveStep old (Request from to name mode seq) sends entered new =
    (entered ≡ false) × (Defers old from seq mode sends new ⊎ RepliesAtOnce old from seq mode sends new)
ReceiveStep old (Reply from to name seq) sends entered new =
    (sends ≡ []) × TakesReply old from seq entered new

-- the message is the last REPLY that the node awaits, so that it enters
abbrev pub LetsEnter : State → Message → Type 0
LetsEnter old (Request from to name mode seq) = ⊥
LetsEnter old (Reply from to name seq) =
    (mode : Mode) × Awaits old from seq mode × (set.remove old.awaited from ≡ set.empty)

-- ---- The client leaves: each deferred REPLY goes out, and no deferral is left.

-- a leave needs a node that is inside, and makes it idle
pub record LeaveStep (old : State) (sends : List Message) (new : State) : Type 0 where
  pub seq : ℕ
  pub mode : Mode
  pub inside : old.phase ≡ Inside seq mode
  -- in ascending order of the nodes
  pub sends_are : sends
      ≡ map (λ deferred. Reply old.me deferred.0 old.name deferred.1) (finmap.entries old.deferred)
  pub new_is : new ≡ record old { phase = Idle; deferred = finmap.empty }

-- ---- The client gives up while it waits: each deferred REPLY goes out, and no REPLY is awaited any more.

-- a withdrawal needs a node that waits, and makes it idle; its highest number stays, so its next request has a greater
-- one
pub record WithdrawStep (old : State) (sends : List Message) (new : State) : Type 0 where
  pub seq : ℕ
  pub mode : Mode
  pub waits : old.phase ≡ Waiting seq mode
  -- in ascending order of the nodes
  pub sends_are : sends
      ≡ map (λ deferred. Reply old.me deferred.0 old.name deferred.1) (finmap.entries old.deferred)
  pub new_is : new ≡ record old { phase = Idle; awaited = set.empty; deferred = finmap.empty }

-- ---- The client leaves or gives up, and another one asks, in one event: the REPLYs come first.

-- the node's request ends in this way, and then the node requests again in this mode
pub record EndAndRequestStep (Ends : List Message → State → Type 0) (mode : Mode) (sends : List Message)
    (entered : Bool) (new : State) : Type 0 where
  pub between : State
  pub replies : List Message
  pub requests : List Message
  pub ends : Ends replies between
  pub asks : RequestStep between mode requests entered new
  pub sends_are : sends ≡ replies ++ requests

-- the node leaves, and then requests again
abbrev pub LeaveAndRequestStep : State → Mode → List Message → Bool → State → Type 0
LeaveAndRequestStep old mode sends entered new = EndAndRequestStep (LeaveStep old) mode sends entered new

-- the node withdraws its request, and then requests again
abbrev pub WithdrawAndRequestStep : State → Mode → List Message → Bool → State → Type 0
WithdrawAndRequestStep old mode sends entered new = EndAndRequestStep (WithdrawStep old) mode sends entered new
