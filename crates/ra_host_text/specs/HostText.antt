-- What hosts say to each other, as text. A text is words with one space between two. Numbers are decimal, without
-- leading zeros, and below 2^64; digits are hexadecimal, in lower case.
use Rattle.std.specs.Prelude.{◌≡◌, ◌≢◌, ℕ, ◌<◌, ◌^◌, List, ◌++◌, codes, decimal}
use Rattle.std.specs.Int.{w128, to_be_bytes}
use Rattle.hex.specs.Hex.{encode_lower}
use Rattle.ra_stamp.specs.Message.{from_of, to_of}
use Rattle.ra_stamp.specs.Name.{IsName}
use Rattle.ra_stamp.specs.NodeId.{IsNodeNumber}
use Rattle.ra_frame.specs.declared.frame.Frame.{Frame}
use Rattle.ra_frame.specs.Fits.{Fits}
use Rattle.ra_frame.specs.FrameText.{IsWrittenText}
use Rattle.ra_link.specs.declared.message.Message.{Message}
use Rattle.ra_link.specs.declared.message.Message.TheVariants as link
use Rattle.ra_text.specs.Lines.{field}
use Rattle.ra_host_text.specs.declared.host_message.HostMessage.{HostMessage}
use Rattle.ra_host_text.specs.declared.host_message.HostMessage.TheVariants.{Hello, Welcome, Frame as Framed, Ack, Old}
use Rattle.ra_host_text.specs.declared.host_line.HostLine.{HostLine}
use Rattle.ra_host_text.specs.declared.host_line.message_fault.MessageFault.{MessageFault}
use Rattle.ra_host_text.specs.declared.host_line.message_fault.MessageFault.TheVariants as fault

-- ---- Words

-- the 32 digits of a nonce: its 16 bytes, highest first
unfoldable pub nonce_text : ℕ → List ℕ
nonce_text nonce = encode_lower (to_be_bytes w128 nonce)

-- a question: the nonce of the start that asks, and which of its questions it is
abbrev pub question_text : ℕ → ℕ → List ℕ
question_text start question = nonce_text start ++ (codes "." ++ decimal question)

-- the digits of the text of a frame, in version 2
abbrev pub IsFrameDigits : List ℕ → Frame → Type 0
IsFrameDigits digits frame = (bytes : List ℕ) × IsWrittenText bytes frame × (digits ≡ encode_lower bytes)

-- a nonce has 128 bits
abbrev pub IsNonce : ℕ → Type 0
IsNonce nonce = nonce < 2 ^ 128

-- a count has 64 bits
abbrev pub IsCount : ℕ → Type 0
IsCount count = count < 2 ^ 64

-- ---- Messages

-- the fields of a message are in their ranges
abbrev pub IsInRange : HostMessage → Type 0
IsInRange (Hello start question nodes first identity) =
    IsNonce start × IsCount question × IsNodeNumber nodes × IsCount first × IsNonce identity
IsInRange (Welcome asker question start kept) = IsNonce asker × IsCount question × IsNonce start × IsCount kept
IsInRange (Framed start number frame) = IsNonce start × IsCount number
IsInRange (Ack start other kept) = IsNonce start × IsNonce other × IsCount kept
IsInRange (Old count) = IsCount count

-- how a message is spelled
abbrev pub IsSpelled : List ℕ → HostMessage → Type 0
IsSpelled text (Hello start question nodes first identity) =
    text ≡ codes "hello" ++ field (question_text start question) ++ field (decimal nodes) ++ field (decimal first)
    ++ field (nonce_text identity)
IsSpelled text (Welcome asker question start kept) =
    text ≡ codes "welcome" ++ field (question_text asker question) ++ field (nonce_text start) ++ field (decimal kept)
IsSpelled text (Framed start number frame) =
    (digits : List ℕ) × IsFrameDigits digits frame
    × (text ≡ codes "frame" ++ field (nonce_text start) ++ field (decimal number) ++ field digits)
IsSpelled text (Ack start other kept) =
    text ≡ codes "ack" ++ field (nonce_text start) ++ field (nonce_text other) ++ field (decimal kept)
IsSpelled text (Old count) = text ≡ codes "old" ++ field (decimal count)

-- the text is this message
abbrev pub IsMessage : List ℕ → HostMessage → Type 0
IsMessage text message = IsInRange message × IsSpelled text message

-- the frame of a message, if it has one, does not fit, so that it has no text
abbrev pub IsUnfit : HostMessage → Type 0
IsUnfit (Hello start question nodes first identity) = ⊥
IsUnfit (Welcome asker question start kept) = ⊥
IsUnfit (Framed start number frame) = Fits frame → ⊥
IsUnfit (Ack start other kept) = ⊥
IsUnfit (Old count) = ⊥

-- what a link hears of a message
abbrev pub link_of : HostMessage → Message
link_of (Hello start question nodes first identity) = link.Hello start question
link_of (Welcome asker question start kept) = link.Welcome asker question start kept
link_of (Framed start number frame) = link.Frame start number
link_of (Ack start other kept) = link.Ack start other kept
link_of (Old count) = link.Old count

-- ---- Lines

-- the line says this: the cluster, the host that says it, the host that it is for, and the message
pub record IsHostLine (line : List ℕ) (said : HostLine) : Type 0 where
  pub cluster : IsName said.cluster
  pub from : IsNodeNumber said.from
  pub to : IsNodeNumber said.to
  pub text : List ℕ
  pub message : IsMessage text said.message
  pub line_is : line ≡ said.cluster ++ field (decimal said.from) ++ field (decimal said.to) ++ field text

-- the frame of a message, if it has one, goes from one of these hosts to the other
abbrev pub IsBetween : ℕ → ℕ → HostMessage → Type 0
IsBetween from to (Hello start question nodes first identity) = Unit {0}
IsBetween from to (Welcome asker question start kept) = Unit {0}
IsBetween from to (Framed start number frame) = (from_of frame.message ≡ from) × (to_of frame.message ≡ to)
IsBetween from to (Ack start other kept) = Unit {0}
IsBetween from to (Old count) = Unit {0}

-- in this cluster, one host says this to the other
abbrev pub IsHeard : List ℕ → (cluster : List ℕ) → (from to : ℕ) → HostMessage → Type 0
IsHeard line cluster from to message =
    IsHostLine line (record { cluster = cluster; from = from; to = to; message = message }) × IsBetween from to message

-- why a line is none that one host says to the other in this cluster
abbrev pub IsUnheard : List ℕ → (cluster : List ℕ) → (from to : ℕ) → MessageFault → Type 0
IsUnheard line cluster from to fault.Unknown = (said : HostLine) → IsHostLine line said → ⊥
IsUnheard line cluster from to fault.Cluster = (said : HostLine) × IsHostLine line said × (said.cluster ≢ cluster)
IsUnheard line cluster from to fault.From =
    (said : HostLine) × IsHostLine line said × (said.cluster ≡ cluster) × (said.from ≢ from)
IsUnheard line cluster from to fault.To =
    (said : HostLine) × IsHostLine line said × (said.cluster ≡ cluster) × (said.from ≡ from) × (said.to ≢ to)
IsUnheard line cluster from to fault.Frame =
    (said : HostLine) × IsHostLine line said × (said.cluster ≡ cluster) × (said.from ≡ from) × (said.to ≡ to)
    × (IsBetween from to said.message → ⊥)
