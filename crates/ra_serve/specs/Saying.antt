-- What a host says to others.
use Rattle.std.specs.Prelude.{◌≡◌, ℕ, Bool, true, false, List, ◌++◌, Option, Some, None, codes}
use Rattle.ra_text.specs.Drafting.{Adds}
use Rattle.ra_frame.specs.declared.frame.Frame.{Frame}
use Rattle.ra_link.specs.declared.link.Link.{Link}
use Rattle.ra_link.specs.declared.message.Message.{Message}
use Rattle.ra_link.specs.declared.message.Message.TheVariants as link
use Rattle.ra_link.specs.Link.{hello_of, old_of}
use Rattle.ra_host_text.specs.declared.host_message.HostMessage.{HostMessage}
use Rattle.ra_host_text.specs.declared.host_message.HostMessage.TheVariants as text
use Rattle.ra_host_text.specs.HostText.{IsHostLine}
use Rattle.ra_host_text.specs.LineText.{peer_text}
use Rattle.ra_serve.specs.declared.settings.Settings.{Settings}
use Rattle.ra_serve.specs.declared.base.Base.{Base}
use Rattle.ra_serve.specs.Peers.{Puts, peer_of}

-- a text is written, and nothing else changes
pub record Writes (old : Base) (part : List ℕ) (new : Base) : Type 0 where
  pub settings : new.settings ≡ old.settings
  pub nonce : new.nonce ≡ old.nonce
  pub identity : new.identity ≡ old.identity
  pub time : new.time ≡ old.time
  pub peers : new.peers ≡ old.peers
  pub out : Adds old.out part new.out

-- a message is said to a host: a line that says it is written
pub record Says (old : Base) (to : ℕ) (message : HostMessage) (new : Base) : Type 0 where
  pub line : List ℕ
  pub is : IsHostLine line
      (record { cluster = old.settings.cluster; from = old.settings.member.node; to = to; message = message })
  pub writes : Writes old (peer_text to line ++ codes "\n") new

-- how a link's message is said that is no frame: a question has the host's settings, and the first nonce of its book
abbrev pub said_of : Settings → ℕ → Message → Option HostMessage
said_of settings identity (link.Hello start question) =
    Some (text.Hello start question settings.member.nodes settings.start identity)
said_of settings identity (link.Welcome asker question start kept) = Some (text.Welcome asker question start kept)
said_of settings identity (link.Frame start number) = None
said_of settings identity (link.Ack start other kept) = Some (text.Ack start other kept)
said_of settings identity (link.Old count) = Some (text.Old count)

abbrev pub SaysIfSome : Base → ℕ → Option HostMessage → Base → Type 0
SaysIfSome old to None new = new ≡ old
SaysIfSome old to (Some message) new = Says old to message new

-- a link's message that is no frame is said, if there is one
abbrev pub SaysPlain : Base → ℕ → Option Message → Base → Type 0
SaysPlain old to None new = new ≡ old
SaysPlain old to (Some message) new = SaysIfSome old to (said_of old.settings old.identity message) new

-- a frame is said with its message
abbrev pub SaysFrame : Base → ℕ → Message → Frame → Base → Type 0
SaysFrame old to (link.Hello start question) frame new = new ≡ old
SaysFrame old to (link.Welcome asker question start kept) frame new = new ≡ old
SaysFrame old to (link.Frame start number) frame new = Says old to (text.Frame start number frame) new
SaysFrame old to (link.Ack start other kept) frame new = new ≡ old
SaysFrame old to (link.Old count) frame new = new ≡ old

-- the open question is said, if there is one, and `old` if its answer showed that the other book is old
abbrev pub SaysQuestion : Base → ℕ → Link → Base → Type 0
SaysQuestion old to l new = (mid : Base) × SaysPlain old to (hello_of l) mid × SaysPlain mid to (old_of l) new

-- a question is said for the first time
abbrev pub Asks : Base → ℕ → Link → Base → Type 0
Asks old to l new =
    (mid : Base) × Puts old to (record (peer_of old to) { since = old.time; said = old.time }) mid
    × SaysQuestion mid to l new

-- an ack is owed, unless a question is open
abbrev pub OwesUnless : Bool → Base → ℕ → Base → Type 0
OwesUnless true old to new = new ≡ old
OwesUnless false old to new = Puts old to (record (peer_of old to) { is_owed = true }) new

-- the ack is said, or if not all that was taken is on the disk, it is owed
abbrev pub Acknowledges : Base → ℕ → Option Message → Bool → Base → Type 0
Acknowledges old to (Some ack) is_open new = SaysPlain old to (Some ack) new
Acknowledges old to None is_open new = OwesUnless is_open old to new
