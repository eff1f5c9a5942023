-- The machine of n hosts with their books and disks, and the network between them: all that was ever said, and any of
-- it may come at any time, and again.
use Rattle.std.specs.Prelude.{◌≡◌, ◌≢◌, ℕ, ◌-◌, ◌≤◌, ◌==◌, ◌&&◌, Bool, true, false, if◌then◌else◌, Option, Some, None, List, [], ◌∷◌, ◌++◌, map, slice_get, All}
use Rattle.std.specs.List.{range_with_len}
use Rattle.ra_frame.specs.declared.frame.Frame.{Frame as BookFrame}
use Rattle.ra_link.specs.declared.message.Message.{Message}
use Rattle.ra_link.specs.declared.message.Message.TheVariants.{Hello, Welcome, Frame, Ack, Old}
use Rattle.ra_link.specs.Link as link
use Rattle.ra_link.specs.Pair.{was_used}
use Rattle.ra_book.specs.declared.book.event.BookKind.{BookKind}
use Rattle.ra_book.specs.Book.{BookState}
use Rattle.ra_book.specs.Pairs.{sent_to}
use Rattle.ra_host.specs.Host.{Host, new_host, on_disk, IsOther, begins, crashes, puts_back, connects, hears_hello, hears_welcome, hears_ack, hears_old, Happens, IsOwn, is_taken, TakesFrame, syncs_book}
use Rattle.ra_host.specs.Host.{Replays as ReplaysBook}

-- a message, and the frame if it is one
pub record Packet : Type 0 where
  pub message : Message
  pub frame : Option BookFrame

-- What happens at a host. What was said to it comes by its place in the list of all that the other host said to it, the
-- last one first. A crash leaves the first `count` events of its book, and no less than is on the disk.
pub data Event : Type 0 where
  Start : (nonce : ℕ) → Event
  Connects : (other : ℕ) → Event
  Comes : (other which : ℕ) → Event
  Replays : Event
  Does : (kind : BookKind) → Event
  Syncs : Event
  Says_hello : (other : ℕ) → Event
  Says_ack : (other : ℕ) → Event
  Says_old : (other : ℕ) → Event
  Says_frame : (other number : ℕ) → Event
  Crashes : (count : ℕ) → Event
  Put_back : (count : ℕ) → Event

abbrev pub is_put_back : Event → Bool
is_put_back (Put_back count) = true
is_put_back event = false

-- ---- A turn of a host

-- a host after an event, and what it says to each other one
pub record Turn : Type 0 where
  pub host : Host
  pub says : ℕ → List Packet

abbrev pub silent : Host → Turn
silent h = record { host = h; says = λ j. [] }

abbrev pub packets : Option Message → Option BookFrame → List Packet
packets None frame = []
packets (Some m) frame = record { message = m; frame = frame } ∷ []

abbrev pub says : Host → ℕ → Option Message → Option BookFrame → Turn
says h j m frame = record { host = h; says = λ k. if k == j then packets m frame else [] }

-- a frame is taken, or passed over
abbrev pub TakesOrNot : Bool → Host → ℕ → ℕ → ℕ → BookFrame → Host → Type 0
TakesOrNot true h j start number frame new = TakesFrame h j start number frame new
TakesOrNot false h j start number frame new = new ≡ h

-- the frame that came with the message, if one did
abbrev pub TakesIfFrame : Host → ℕ → ℕ → ℕ → Option BookFrame → Turn → Type 0
TakesIfFrame h j start number None t = t ≡ silent h
TakesIfFrame h j start number (Some frame) t =
    TakesOrNot (is_taken h j start number frame) h j start number frame t.host × (t ≡ silent t.host)

-- it hears this from host j
abbrev pub Hears : Host → ℕ → Message → Option BookFrame → Turn → Type 0
Hears h j (Hello start question) frame t =
    t ≡ says (hears_hello h j start) j (Some (link.welcome_of (h.links j) start question)) None
Hears h j (Welcome asker question start kept) frame t = t ≡ silent (hears_welcome h j asker question start kept)
Hears h j (Frame start number) frame t = TakesIfFrame h j start number frame t
Hears h j (Ack start other kept) frame t = t ≡ silent (hears_ack h j start other kept)
Hears h j (Old count) frame t = t ≡ silent (hears_old h j count)

abbrev pub HearsIfSaid : Host → ℕ → Option Packet → Turn → Type 0
HearsIfSaid h j None t = t ≡ silent h
HearsIfSaid h j (Some p) t = Hears h j p.message p.frame t

-- an event at a host that is up; `back j` is all that host j has said to it
abbrev pub Acts : (ℕ → List Packet) → Host → Event → Turn → Type 0
Acts back h (Start nonce) t = ⊥
Acts back h (Connects j) t = IsOther h j × (t ≡ silent (connects h j))
Acts back h (Comes j which) t = IsOther h j × HearsIfSaid h j (slice_get (back j) which) t
Acts back h Replays t = ReplaysBook h t.host × (t ≡ silent t.host)
Acts back h (Does kind) t = IsOwn kind × Happens h kind t.host × (t ≡ silent t.host)
Acts back h Syncs t = t ≡ silent (syncs_book h)
Acts back h (Says_hello j) t = IsOther h j × (t ≡ says h j (link.hello_of (h.links j)) None)
Acts back h (Says_ack j) t = IsOther h j × (t ≡ says h j (link.ack_of (h.links j)) None)
Acts back h (Says_old j) t = IsOther h j × (t ≡ says h j (link.old_of (h.links j)) None)
Acts back h (Says_frame j number) t =
    IsOther h j × (t ≡ says h j (link.frame_of (h.links j) number) (slice_get (sent_to j h.book) (number - 1)))
Acts back h (Crashes count) t = t ≡ silent (crashes h count)
Acts back h (Put_back count) t = ⊥

-- An event at a host that is down: it may start, with a nonce that it never had, its disk may fail to keep what was not
-- synced, and its book may be put back.
abbrev pub Rests : Host → Event → Turn → Type 0
Rests h (Start nonce) t = (was_used nonce h.starts ≡ false) × (t ≡ silent (begins h nonce))
Rests h (Connects j) t = ⊥
Rests h (Comes j which) t = ⊥
Rests h Replays t = ⊥
Rests h (Does kind) t = ⊥
Rests h Syncs t = ⊥
Rests h (Says_hello j) t = ⊥
Rests h (Says_ack j) t = ⊥
Rests h (Says_old j) t = ⊥
Rests h (Says_frame j number) t = ⊥
Rests h (Crashes count) t = t ≡ silent (crashes h count)
Rests h (Put_back count) t = t ≡ silent (puts_back h count)

abbrev pub TurnsIf : Bool → (ℕ → List Packet) → Host → Event → Turn → Type 0
TurnsIf true back h e t = Acts back h e t
TurnsIf false back h e t = Rests h e t

abbrev pub Turns : (ℕ → List Packet) → Host → Event → Turn → Type 0
Turns back h e t = TurnsIf h.up back h e t

-- ---- All hosts

-- the hosts, by number, and all that the first one ever said to the second one, the last one first
pub record Hosts : Type 0 where
  pub host : ℕ → Host
  pub said : ℕ → ℕ → List Packet

-- n hosts with empty books, that never were up
abbrev pub new_hosts : ℕ → ℕ → Hosts
new_hosts n start = record { host = λ i. new_host n start i; said = λ i j. [] }

-- the event happens at host i, and what that host says is added to what it has said
pub record Step (old : Hosts) (i : ℕ) (event : Event) (new : Hosts) : Type 0 where
  pub turn : Turn
  pub turns : Turns (λ j. old.said j i) (old.host i) event turn
  pub host_is : new.host i ≡ turn.host
  pub said_is : (j : ℕ) → new.said i j ≡ turn.says j ++ old.said i j
  pub others : (k : ℕ) → k ≢ i → new.host k ≡ old.host k
  pub others_said : (k j : ℕ) → k ≢ i → new.said k j ≡ old.said k j

-- these events, each at one of the hosts 1 to n, lead from the old state to the new one, in order
abbrev pub Lead : ℕ → Hosts → List (ℕ × Event) → Hosts → Type 0
Lead n old [] new = new ≡ old
Lead n old (e ∷ events) new =
    (1 ≤ e.0) × (e.0 ≤ n) × (next : Hosts) × Step old e.0 e.1 next × Lead n next events new

-- this is the state after these events, from the beginning
abbrev pub Reaches : ℕ → ℕ → List (ℕ × Event) → Hosts → Type 0
Reaches n start events s = Lead n (new_hosts n start) events s

-- ---- Words for the laws

-- the book of host i is put back
abbrev pub puts_back_at : ℕ → ℕ × Event → Bool
puts_back_at i e = e.0 == i && is_put_back e.1

-- no book is put back
abbrev pub AreWhole : List (ℕ × Event) → Type 0
AreWhole events = All (λ e. is_put_back e.1 ≡ false) events

-- two different hosts of n
pub record AreTwo (n i j : ℕ) : Type 0 where
  pub first : (1 ≤ i) × (i ≤ n)
  pub second : (1 ≤ j) × (j ≤ n)
  pub apart : i ≢ j

-- the books of hosts 1 to n, and what of them is on the disks
abbrev pub books_of : ℕ → Hosts → List BookState
books_of n s = map (λ i. (s.host i).book) (range_with_len 1 n)

abbrev pub disks_of : ℕ → Hosts → List BookState
disks_of n s = map (λ i. on_disk (s.host i)) (range_with_len 1 n)

-- the host is up and ready
pub record IsReady (h : Host) : Type 0 where
  pub up : h.up ≡ true
  pub ready : (j : ℕ) → IsOther h j → (h.links j).ready ≡ true

abbrev pub AreReady : ℕ → Hosts → Type 0
AreReady n s = (i : ℕ) → 1 ≤ i → i ≤ n → IsReady (s.host i)

-- the other hosts have acknowledged all frames that this one made for them
abbrev pub IsAcknowledged : Host → Type 0
IsAcknowledged h = (j : ℕ) → IsOther h j → (h.links j).acknowledged ≡ (h.links j).made

-- all hosts are up and ready, and have acknowledged all frames that were made for them
pub record AllIsAcknowledged (n : ℕ) (s : Hosts) : Type 0 where
  pub ready : AreReady n s
  pub acknowledged : (i : ℕ) → 1 ≤ i → i ≤ n → IsAcknowledged (s.host i)
