-- The lines that a host reads, and those that it writes, without their line feeds.
use Rattle.std.specs.Prelude.{◌≡◌, ℕ, List, ◌++◌, codes, decimal}
use Rattle.ra_stamp.specs.NodeId.{IsNodeNumber}
use Rattle.ra_text.specs.Lines.{field}
use Rattle.ra_host_text.specs.HostText.{IsCount, IsNonce, nonce_text}
use Rattle.ra_host_text.specs.declared.input_line.InputLine.{InputLine}
use Rattle.ra_host_text.specs.declared.input_line.InputLine.TheVariants as line
use Rattle.ra_host_text.specs.declared.fatal.Fatal.{Fatal}
use Rattle.ra_host_text.specs.declared.fatal.Fatal.TheVariants.{Usage, Book, Old, ClockFull, Read, Write, Disk, Memory}

-- ---- What a host reads

-- what a line says: the nonce of this start; that a host said a text; that there is a new connection to a host; that a
-- client said a text; that a client has gone; the time; that what clients held before is given back
pub data Input : Type 0 where
  Nonce : (nonce : ℕ) → Input
  Peer : (host : ℕ) → (text : List ℕ) → Input
  Up : (host : ℕ) → Input
  Client : (client : ℕ) → (text : List ℕ) → Input
  Gone : (client : ℕ) → Input
  Time : (milliseconds : ℕ) → Input
  Release : Input

-- how it is spelled; a text may be anything
abbrev pub input_text : Input → List ℕ
input_text (Nonce nonce) = codes "nonce" ++ field (nonce_text nonce)
input_text (Peer host text) = codes "peer" ++ field (decimal host) ++ field text
input_text (Up host) = codes "up" ++ field (decimal host)
input_text (Client client text) = codes "client" ++ field (decimal client) ++ field text
input_text (Gone client) = codes "gone" ++ field (decimal client)
input_text (Time milliseconds) = codes "time" ++ field (decimal milliseconds)
input_text Release = codes "release"

-- its fields are in their ranges
abbrev pub IsInputInRange : Input → Type 0
IsInputInRange (Nonce nonce) = IsNonce nonce
IsInputInRange (Peer host text) = IsNodeNumber host
IsInputInRange (Up host) = IsNodeNumber host
IsInputInRange (Client client text) = IsCount client
IsInputInRange (Gone client) = IsCount client
IsInputInRange (Time milliseconds) = IsCount milliseconds
IsInputInRange Release = Unit {0}

-- the line says this
abbrev pub IsInput : List ℕ → Input → Type 0
IsInput line said = IsInputInRange said × (line ≡ input_text said)

-- what a line that was read says
abbrev pub input_of : InputLine → Input
input_of (line.Nonce nonce) = Nonce nonce
input_of (line.Peer host text) = Peer host text.now
input_of (line.Up host) = Up host
input_of (line.Client client text) = Client client text.now
input_of (line.Gone client) = Gone client
input_of (line.Time milliseconds) = Time milliseconds
input_of line.Release = Release

-- ---- What a host writes

-- it says a text to a host, or to a client
abbrev pub peer_text : ℕ → List ℕ → List ℕ
peer_text host text = codes "peer" ++ field (decimal host) ++ field text

abbrev pub client_text : ℕ → List ℕ → List ℕ
client_text client text = codes "client" ++ field (decimal client) ++ field text

-- the word of a last line
abbrev pub fatal_word : Fatal → List ℕ
fatal_word Usage = codes "Usage"
fatal_word Book = codes "Book"
fatal_word Old = codes "Old"
fatal_word ClockFull = codes "ClockFull"
fatal_word Read = codes "Read"
fatal_word Write = codes "Write"
fatal_word Disk = codes "Disk"
fatal_word Memory = codes "Memory"

-- the exit status: 2 if the host is not to be started again as it is, and otherwise 1
abbrev pub fatal_status : Fatal → ℕ
fatal_status Usage = 2
fatal_status Book = 2
fatal_status Old = 2
fatal_status ClockFull = 2
fatal_status Read = 1
fatal_status Write = 1
fatal_status Disk = 1
fatal_status Memory = 1
