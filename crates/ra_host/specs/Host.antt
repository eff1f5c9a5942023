-- A host: its node's book, what of it is on the disk, and a link to each other host. There is one definition for each
-- thing that a host hears or does.
use Rattle.std.specs.Prelude.{◌≡◌, ◌⊎◌, ℕ, ◌+◌, ◌≤◌, ◌==◌, Bool, true, false, ◌&&◌, ◌||◌, if◌then◌else◌, List, [], ◌∷◌, length, max, min}
use Rattle.std.specs.List.{filter}
use Rattle.ra_stamp.specs.declared.entry.Mark.{Mark}
use Rattle.ra_stamp.specs.Message.{from_of, to_of}
use Rattle.ra_frame.specs.declared.frame.Frame.{Frame}
use Rattle.ra_automaton.specs.State.{IsOtherNode}
use Rattle.ra_node.specs.Node.{opening_node}
use Rattle.ra_node.specs.Events.{IsForThisNode}
use Rattle.ra_link.specs.declared.link.Link.{Link}
use Rattle.ra_link.specs.Link as link
use Rattle.ra_book.specs.declared.book.event.BookKind.{BookKind}
use Rattle.ra_book.specs.declared.book.event.BookKind.TheVariants.{Ask, Leave, Cancel, Receive, Forget}
use Rattle.ra_book.specs.History.{node_event}
use Rattle.ra_book.specs.Book.{BookState, opening_book, HasClock, Adds}
use Rattle.ra_book.specs.Cut.{first_of}
use Rattle.ra_book.specs.Pairs.{sent_to, come_from}

-- The first `kept` events of the book are on the disk; a crash may lose the others. `links` are what it knows of each
-- other host, by number, and `starts` the nonces of its starts. `accused` says which hosts accuse it: it ended by itself
-- after it started last, since a count of that host showed that its book is old.
pub record Host : Type 0 where
  pub up : Bool
  pub accused : ℕ → Bool
  pub links : ℕ → Link
  pub book : BookState
  pub kept : ℕ
  pub starts : List ℕ

-- host i with an empty book, that never was up
abbrev pub new_host : ℕ → ℕ → ℕ → Host
new_host n start i =
    record {
      up = false;
      accused = λ j. false;
      links = λ j. link.started 0 0;
      book = opening_book i n start;
      kept = 0;
      starts = [];
    }

-- the book as it is on the disk
abbrev pub on_disk : Host → BookState
on_disk h = first_of h.kept h.book

-- another host of the cluster
abbrev pub IsOther : Host → ℕ → Type 0
IsOther h j = IsOtherNode h.book.me h.book.nodes j

-- ---- Starts and ends

-- It comes up: it reads its book, and syncs it before it says anything. A link begins with how many frames of the other
-- host are in the book.
abbrev pub begins : Host → ℕ → Host
begins h nonce =
    record h {
      up = true;
      accused = λ j. false;
      links = λ j. link.started nonce (length (come_from j h.book));
      kept = length h.book.events;
      starts = nonce ∷ h.starts;
    }

-- it ends by itself: a count of host j shows that its book is old
abbrev pub ends : Host → ℕ → Host
ends h j = record h { up = false; accused = λ k. k == j || h.accused k }

-- it is down, and its disk has all that was synced, and perhaps more: so many events
abbrev pub crashes : Host → ℕ → Host
crashes h count = record h { up = false; book = first_of (max count h.kept) h.book }

-- While it is down, its book is put back to its first events. A copy with events that a crash took is none of these.
abbrev pub puts_back : Host → ℕ → Host
puts_back h count = record h { book = first_of count h.book; kept = min count h.kept }

-- ---- What it hears

abbrev pub linked : Host → ℕ → Link → Host
linked h j l = record h { links = λ k. if k == j then l else h.links k }

-- there is a new connection to host j
abbrev pub connects : Host → ℕ → Host
connects h j = linked h j (link.asks (h.links j))

abbrev pub hears_hello : Host → ℕ → ℕ → Host
hears_hello h j start = linked h j (link.hears_hello (h.links j) start)

abbrev pub hears_welcome : Host → ℕ → ℕ → ℕ → ℕ → ℕ → Host
hears_welcome h j asker question start kept =
    if link.welcome_accuses (h.links j) asker question kept
    then ends h j
    else linked h j (link.hears_welcome (h.links j) asker question start kept)

abbrev pub hears_ack : Host → ℕ → ℕ → ℕ → ℕ → Host
hears_ack h j start other kept =
    if link.ack_accuses (h.links j) start other kept
    then ends h j
    else linked h j (link.hears_ack (h.links j) start other kept)

abbrev pub hears_old : Host → ℕ → ℕ → Host
hears_old h j count = if link.old_accuses (h.links j) count then ends h j else h

-- ---- What happens at its node

-- the frames to host j among these
abbrev pub frames_to : ℕ → List Frame → List Frame
frames_to j frames = filter (λ f. to_of f.message == j) frames

-- the links after the node sent these frames
abbrev pub makes_frames : (ℕ → Link) → List Frame → ℕ → Link
makes_frames links frames j = record (links j) { made = (links j).made + length (frames_to j frames) }

-- An event of this kind, which is for its node, happens there, and its book has it, with the frames that the node
-- sends. The host is ready, and a clock is left for the event, and a number for each frame.
pub record Happens (h : Host) (kind : BookKind) (new : Host) : Type 0 where
  pub ready : (j : ℕ) → IsOther h j → (h.links j).ready ≡ true
  pub for_this_node : IsForThisNode (opening_node h.book.me h.book.nodes h.book.start) (node_event kind)
  pub has_clock : HasClock h.book kind
  pub book : BookState
  pub frames : List Frame
  pub marks : List Mark
  pub adds : Adds h.book kind frames marks book
  pub has_numbers : (j : ℕ) → IsOther h j → (h.links j).made + length (frames_to j frames) ≤ link.greatest
  pub new_is : new ≡ record h { book = book; links = makes_frames h.links frames }

-- an event that no frame brings: one of a client, or the node forgets
abbrev pub IsOwn : BookKind → Type 0
IsOwn (Ask client name mode) = Unit {0}
IsOwn (Leave client name) = Unit {0}
IsOwn (Cancel client name) = Unit {0}
IsOwn (Receive frame) = ⊥
IsOwn Forget = Unit {0}

-- the frame that came from host j is the next one, and names that host and this one
abbrev pub is_taken : Host → ℕ → ℕ → ℕ → Frame → Bool
is_taken h j start number frame =
    link.is_next (h.links j) start number && (from_of frame.message == j && to_of frame.message == h.book.me)

-- the link counts the frame, and the node receives it
abbrev pub TakesFrame : Host → ℕ → ℕ → ℕ → Frame → Host → Type 0
TakesFrame h j start number frame new =
    Happens (linked h j (link.hears_frame (h.links j) start number)) (Receive frame) new

-- ---- Its book

abbrev pub syncs_book : Host → Host
syncs_book h = record h { links = λ j. link.syncs (h.links j); kept = length h.book.events }

-- at the replay a count of host j shows that the book is old
abbrev pub is_short : Host → ℕ → Bool
is_short h j = link.replay_accuses (h.links j) (length (sent_to j h.book))

abbrev pub replays_book : Host → Host
replays_book h = record h { links = λ j. link.replays (h.links j) (length (sent_to j h.book)) }

-- the host may replay its book, by each of its links
abbrev pub MayReplay : Host → Type 0
MayReplay h = (j : ℕ) → IsOther h j → link.may_replay (h.links j) ≡ true

-- Once each other host has acknowledged by this start's nonce, it replays its book. It ends instead if a count shows
-- that the book is old.
pub record Replays (h : Host) (new : Host) : Type 0 where
  pub may : MayReplay h
  pub new_is : (((j : ℕ) → IsOther h j → is_short h j ≡ false) × (new ≡ replays_book h))
      ⊎ ((j : ℕ) × IsOther h j × (is_short h j ≡ true) × (new ≡ ends h j))
