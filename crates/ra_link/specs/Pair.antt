-- Two hosts with their books and disks, and the network between them: all that was ever said, and any of it may come at
-- any time, and again.
use Rattle.std.specs.Prelude.{◌≡◌, ℕ, ◌-◌, ◌==◌, Bool, true, false, ◌||◌, if◌then◌else◌, Option, Some, None, List, [], ◌∷◌, ◌++◌, length, get_or, take, max, slice_get}
use Rattle.ra_link.specs.declared.message.Message.{Message}
use Rattle.ra_link.specs.declared.message.Message.TheVariants.{Hello, Welcome, Frame, Ack, Old}
use Rattle.ra_link.specs.declared.link.Link.{Link}
use Rattle.ra_link.specs.Link.{started, asks, hello_of, hears_hello, welcome_of, welcome_accuses, hears_welcome, ack_accuses, hears_ack, old_accuses, ack_of, old_of, is_next, hears_frame, frame_of, may_make, makes, syncs, may_replay, replay_accuses, replays}

-- One of the two hosts. `sent` are the frames in its book that its node has sent to the other host, and `taken` those
-- that it has taken from it. The first `sent_kept` and `taken_kept` of them are on its disk; a crash may lose the
-- others. `starts` are the nonces of its starts. It is accused if it has ended by itself since it started last: a count
-- showed that its book is old.
pub record Host : Type 0 where
  pub up : Bool
  pub accused : Bool
  pub link : Link
  pub sent : List (List ℕ)
  pub taken : List (List ℕ)
  pub sent_kept : ℕ
  pub taken_kept : ℕ
  pub starts : List ℕ

-- a message, and the text of the frame if it is one
pub record Packet : Type 0 where
  pub message : Message
  pub frame : List ℕ

-- What happens at a host. What was said to it comes by its place in the list of all that was said, the last one first.
-- A crash leaves what is on the disk, and of the rest the first: `sent` frames that were sent, and `taken` that came.
pub data Event : Type 0 where
  Start : (nonce : ℕ) → Event
  Connects : Event
  Comes : (which : ℕ) → Event
  Replays : Event
  Makes : (frame : List ℕ) → Event
  Syncs : Event
  Says_hello : Event
  Says_ack : Event
  Says_old : Event
  Says_frame : (number : ℕ) → Event
  Crashes : (sent taken : ℕ) → Event

-- ---- A host

-- a host after an event, and what it says to the other one
pub record Turn : Type 0 where
  pub host : Host
  pub says : List Packet

abbrev pub packets : Option Message → List Packet
packets None = []
packets (Some m) = record { message = m; frame = [] } ∷ []

abbrev pub framed : List ℕ → Option Message → List Packet
framed frame None = []
framed frame (Some m) = record { message = m; frame = frame } ∷ []

abbrev pub silent : Host → Turn
silent h = record { host = h; says = [] }

abbrev pub says : Host → Option Message → Turn
says h m = record { host = h; says = packets m }

abbrev pub linked : Host → Link → Host
linked h l = record h { link = l }

-- it ends by itself, since its book is old
abbrev pub ends : Host → Turn
ends h = silent (record h { up = false; accused = true })

abbrev pub was_used : ℕ → List ℕ → Bool
was_used nonce [] = false
was_used nonce (start ∷ starts) = nonce == start || was_used nonce starts

-- A host comes up: it reads its book, and syncs it before it says anything.
abbrev pub begins : Host → ℕ → Host
begins h nonce =
    record h {
      up = true;
      accused = false;
      link = started nonce (length h.taken);
      sent_kept = length h.sent;
      taken_kept = length h.taken;
      starts = nonce ∷ h.starts;
    }

abbrev pub hears : Host → Message → List ℕ → Turn
hears h (Hello start question) frame =
    record { host = linked h (hears_hello h.link start); says = packets (Some (welcome_of h.link start question)) }
hears h (Welcome asker question start kept) frame =
    if welcome_accuses h.link asker question kept
    then ends h
    else silent (linked h (hears_welcome h.link asker question start kept))
hears h (Frame start number) frame =
    if is_next h.link start number
    then silent (record h { link = hears_frame h.link start number; taken = h.taken ++ frame ∷ [] })
    else silent h
hears h (Ack start other kept) frame =
    if ack_accuses h.link start other kept
    then ends h
    else silent (linked h (hears_ack h.link start other kept))
hears h (Old count) frame = if old_accuses h.link count then ends h else silent h

abbrev pub hears_packet : Host → Option Packet → Turn
hears_packet h None = silent h
hears_packet h (Some p) = hears h p.message p.frame

-- It replays its book once it has an ack of the other host. If its book has fewer frames than were acknowledged, it
-- ends instead.
abbrev pub replays_book : Host → Turn
replays_book h =
    if replay_accuses h.link (length h.sent)
    then ends h
    else (if may_replay h.link then silent (linked h (replays h.link (length h.sent))) else silent h)

-- its node sends a frame to the other host, once it is ready
abbrev pub makes_frame : Host → List ℕ → Turn
makes_frame h frame =
    if may_make h.link
    then silent (record h { link = makes h.link; sent = h.sent ++ frame ∷ [] })
    else silent h

-- its book is written to the disk
abbrev pub syncs_book : Host → Host
syncs_book h = record h { link = syncs h.link; sent_kept = length h.sent; taken_kept = length h.taken }

-- it is down, and its disk has all that was synced, and perhaps more
abbrev pub crashes : Host → ℕ → ℕ → Host
crashes h sent taken =
    record h { up = false; sent = take (max sent h.sent_kept) h.sent; taken = take (max taken h.taken_kept) h.taken }

-- an event at a host that is up; `back` is all that the other one has said to it
abbrev pub acts : List Packet → Host → Event → Turn
acts back h (Start nonce) = silent h
acts back h Connects = silent (linked h (asks h.link))
acts back h (Comes which) = hears_packet h (slice_get back which)
acts back h Replays = replays_book h
acts back h (Makes frame) = makes_frame h frame
acts back h Syncs = silent (syncs_book h)
acts back h Says_hello = says h (hello_of h.link)
acts back h Says_ack = says h (ack_of h.link)
acts back h Says_old = says h (old_of h.link)
acts back h (Says_frame number) =
    record { host = h; says = framed (get_or h.sent (number - 1) []) (frame_of h.link number) }
acts back h (Crashes sent taken) = silent (crashes h sent taken)

-- An event at a host that is down: it may start, with a nonce that it never had, and its disk may fail to keep what was
-- not synced.
abbrev pub rests : Host → Event → Turn
rests h (Start nonce) = silent (if was_used nonce h.starts then h else begins h nonce)
rests h Connects = silent h
rests h (Comes which) = silent h
rests h Replays = silent h
rests h (Makes frame) = silent h
rests h Syncs = silent h
rests h Says_hello = silent h
rests h Says_ack = silent h
rests h Says_old = silent h
rests h (Says_frame number) = silent h
rests h (Crashes sent taken) = silent (crashes h sent taken)

abbrev pub turn : List Packet → Host → Event → Turn
turn back h e = if h.up then acts back h e else rests h e

-- ---- Two hosts

-- the two hosts, and all that was ever said to each of them, the last one first
pub record Pair : Type 0 where
  pub one : Host
  pub two : Host
  pub to_one : List Packet
  pub to_two : List Packet

pub data Who : Type 0 where
  One : Who
  Two : Who

abbrev pub happens : Pair → Who → Event → Pair
happens p One e =
    let t = turn p.to_one p.one e in
    record { one = t.host; two = p.two; to_one = p.to_one; to_two = t.says ++ p.to_two }
happens p Two e =
    let t = turn p.to_two p.two e in
    record { one = p.one; two = t.host; to_one = t.says ++ p.to_one; to_two = p.to_two }

abbrev pub run : Pair → List (Who × Event) → Pair
run p [] = p
run p (e ∷ events) = run (happens p e.0 e.1) events

-- two hosts with empty books, that never were up
abbrev pub new_host : Host
new_host =
    record {
      up = false;
      accused = false;
      link = started 0 0;
      sent = [];
      taken = [];
      sent_kept = 0;
      taken_kept = 0;
      starts = [];
    }

abbrev pub new_pair : Pair
new_pair = record { one = new_host; two = new_host; to_one = []; to_two = [] }

-- the two hosts after these events
abbrev pub after : List (Who × Event) → Pair
after events = run new_pair events

abbrev pub this : Who → Pair → Host
this One p = p.one
this Two p = p.two

abbrev pub other : Who → Pair → Host
other One p = p.two
other Two p = p.one

-- all that this host ever said to the other one
abbrev pub said_by : Who → Pair → List Packet
said_by One p = p.to_two
said_by Two p = p.to_one

-- ---- Words for the laws

-- the first list begins the second one
abbrev pub IsPrefixOf : List (List ℕ) → List (List ℕ) → Type 0
IsPrefixOf xs ys = (more : List (List ℕ)) × (xs ++ more ≡ ys)

-- how many frames of the receiver are on the sender's disk, as it says
abbrev pub count_in : Message → ℕ
count_in (Hello start question) = 0
count_in (Welcome asker question start kept) = kept
count_in (Frame start number) = 0
count_in (Ack start other kept) = kept
count_in (Old count) = 0

-- it says that the receiver's book is old
abbrev pub says_old : Message → Bool
says_old (Hello start question) = false
says_old (Welcome asker question start kept) = false
says_old (Frame start number) = false
says_old (Ack start other kept) = false
says_old (Old count) = true
