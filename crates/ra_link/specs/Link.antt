-- The rules of a link: what one host knows of another one, what it may say, and what changes when it hears something.
-- There is one definition for each thing that a link hears, does or says.
use Rattle.std.specs.Prelude.{ℕ, ◌+◌, ◌-◌, ◌==◌, Bool, true, false, not, ◌&&◌, ◌||◌, if◌then◌else◌, Option, Some, None, min, max, nat_lt, nat_le}
use Rattle.ra_link.specs.declared.message.Message.{Message}
use Rattle.ra_link.specs.declared.message.Message.TheVariants.{Hello, Welcome, Frame, Ack, Old}
use Rattle.ra_link.specs.declared.link.Link.{Link}
use Rattle.ra_link.specs.declared.link.Heard.{Heard}
use Rattle.ra_link.specs.declared.link.Heard.TheVariants.{Next, Again, Passed}

-- the greatest number of a frame or a question: 2^64-1
abbrev pub greatest : ℕ
greatest = 18446744073709551615

-- ---- Nonces

-- this nonce is known, and it is this one
abbrev pub is_nonce : Option ℕ → ℕ → Bool
is_nonce None start = false
is_nonce (Some nonce) start = nonce == start

-- ---- A start, and its questions

-- A start with this nonce, of a host whose disk has `taken` frames of the other one. Its first question is open, and
-- nothing is known to be acknowledged.
abbrev pub started : ℕ → ℕ → Link
started nonce taken =
    record {
      own = nonce;
      heard = None;
      adopted = None;
      asked = 1;
      pending = Some 0;
      is_old = false;
      made = 0;
      sent = 0;
      acknowledged = 0;
      taken = taken;
      kept = taken;
      confirmed = false;
      ready = false;
    }

-- It asks a new question. What is known to be acknowledged at this moment is kept with it. After 2^64-1 questions it
-- asks no more.
abbrev pub asks : Link → Link
asks l =
    if nat_lt l.asked greatest
    then record l { asked = l.asked + 1; pending = Some l.acknowledged; is_old = false }
    else l

abbrev pub is_open : Option ℕ → Bool
is_open None = false
is_open (Some count) = true

-- It says the open question.
abbrev pub hello_of : Link → Option Message
hello_of l = if is_open l.pending then Some (Hello l.own l.asked) else None

-- It hears a question. If another start says it than the last one, it asks, too.
abbrev pub hears_hello : Link → ℕ → Link
hears_hello l start = if is_nonce l.heard start then l else asks (record l { heard = Some start })

-- It answers at once, with how many frames of the asker are on its disk.
abbrev pub welcome_of : Link → ℕ → ℕ → Message
welcome_of l start question = Welcome start question l.own l.kept

-- ---- Answers

-- it is an answer to the open question
abbrev pub is_answer : Link → ℕ → ℕ → Bool
is_answer l asker question = asker == l.own && question == l.asked && is_open l.pending

-- the count is more than this host has sent
abbrev pub is_above : Link → ℕ → Bool
is_above l kept = l.ready && nat_lt l.sent kept

abbrev pub is_below : Option ℕ → ℕ → Bool
is_below None kept = false
is_below (Some count) kept = nat_lt kept count

-- The answer shows that the other book is old: it counts less than was acknowledged when the question was first said,
-- or it is of a start that is not adopted, and counts less than is known now. An ack may overtake an answer of the same
-- start; one of a start before may come after the question, and is known only now.
abbrev pub shows_old : Link → ℕ → ℕ → Bool
shows_old l start kept = is_below l.pending kept || (not (is_nonce l.adopted start) && nat_lt kept l.acknowledged)

-- from now on frames of this start are taken, and no others
abbrev pub adopts : Link → ℕ → ℕ → Link
adopts l start kept =
    record l { adopted = Some start; pending = None; is_old = false; acknowledged = max l.acknowledged kept }

abbrev pub hears_welcome : Link → ℕ → ℕ → ℕ → ℕ → Link
hears_welcome l asker question start kept =
    if is_answer l asker question
    then (if shows_old l start kept then record l { is_old = true } else adopts l start kept)
    else l

-- an answer from which this host learns that its own book is old
abbrev pub welcome_accuses : Link → ℕ → ℕ → ℕ → Bool
welcome_accuses l asker question kept = is_answer l asker question && is_above l kept

-- ---- Acks

-- the ack is of the adopted start, and for this one
abbrev pub is_ack : Link → ℕ → ℕ → Bool
is_ack l start other = is_nonce l.adopted start && other == l.own

abbrev pub hears_ack : Link → ℕ → ℕ → ℕ → Link
hears_ack l start other kept =
    if is_ack l start other then record l { acknowledged = max l.acknowledged kept; confirmed = true } else l

-- an ack from which this host learns that its own book is old
abbrev pub ack_accuses : Link → ℕ → ℕ → ℕ → Bool
ack_accuses l start other kept = is_ack l start other && is_above l kept

-- It acknowledges all that was taken to the adopted start, if it is on the disk.
abbrev pub ack_to : Option ℕ → Link → Option Message
ack_to None l = None
ack_to (Some other) l = if l.kept == l.taken then Some (Ack l.own other l.kept) else None

abbrev pub ack_of : Link → Option Message
ack_of l = ack_to l.adopted l

-- ---- Old books

-- It tells the other host that its book is old, as long as the question whose answer showed it is open.
abbrev pub old_of : Link → Option Message
old_of l = if is_open l.pending && l.is_old then Some (Old l.acknowledged) else None

-- This host learns that its own book is old: it lacks frames that it has acknowledged. A ready host ignores this: its
-- book has all that the other's present start knows to be acknowledged, so what comes was said about an earlier one.
abbrev pub old_accuses : Link → ℕ → Bool
old_accuses l count = not l.ready && nat_lt l.taken count

-- ---- Frames

-- It may take frames of this start.
abbrev pub is_due : Link → ℕ → Bool
is_due l start = l.ready && is_nonce l.adopted start

-- the frame is the one after those that were taken
abbrev pub is_next : Link → ℕ → ℕ → Bool
is_next l start number = is_due l start && number == l.taken + 1

abbrev pub hears_frame : Link → ℕ → ℕ → Link
hears_frame l start number = if is_next l start number then record l { taken = l.taken + 1 } else l

-- what is to be done with the frame
abbrev pub heard_frame : Link → ℕ → ℕ → Heard
heard_frame l start number =
    if is_next l start number then Next
    else (if is_due l start && nat_lt 0 number && nat_le number l.taken then Again else Passed)

-- It may say frames that are on its disk.
abbrev pub may_say : Link → ℕ → Bool
may_say l number = l.ready && nat_lt 0 number && nat_le number l.sent

abbrev pub frame_of : Link → ℕ → Option Message
frame_of l number = if may_say l number then Some (Frame l.own number) else None

-- how many frames after the acknowledged ones it says again at once: those on its disk, at most 1,000
abbrev pub said_again : Link → ℕ
said_again l = min 1000 (l.sent - l.acknowledged)

-- ---- The book

-- it may make a frame for the other host: it is ready, and a number is left
abbrev pub may_make : Link → Bool
may_make l = l.ready && nat_lt l.made greatest

-- it makes a frame
abbrev pub makes : Link → Link
makes l = record l { made = l.made + 1 }

-- all that was made and taken is on the disk
abbrev pub syncs : Link → Link
syncs l = record l { sent = l.made; kept = l.taken }

-- The book may be replayed: the host has an ack, and is not ready yet.
abbrev pub may_replay : Link → Bool
may_replay l = not l.ready && l.confirmed

-- the book was replayed, and `all` frames for the other host are in it
abbrev pub replays : Link → ℕ → Link
replays l all = record l { made = all; sent = all; ready = true }

-- at the replay this host learns that its own book is old: it has fewer frames than were acknowledged
abbrev pub replay_accuses : Link → ℕ → Bool
replay_accuses l all = may_replay l && nat_lt all l.acknowledged
