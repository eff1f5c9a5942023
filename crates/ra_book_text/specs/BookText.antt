-- Books: what was handed to a node, written down line by line. A line is words with one space between two, and a line
-- feed at its end, which is no part of what is said here. Numbers are decimal, without leading zeros.
use Rattle.std.specs.Prelude.{◌≡◌, ◌⊎◌, ℕ, ◌<◌, ◌≤◌, ◌^◌, List, [], ◌∷◌, ◌++◌, Some, Ok, length, codes, decimal}
use Rattle.hex.specs.Hex.{decode_of}
use Rattle.ra_stamp.specs.Name.{IsName}
use Rattle.ra_stamp.specs.NodeId.{IsNodeNumber}
use Rattle.ra_stamp.specs.declared.mode.Mode.{Mode}
use Rattle.ra_frame.specs.declared.frame.Frame.{Frame}
use Rattle.ra_frame.specs.FrameText.{IsFrameText}
use Rattle.ra_frame.specs.Faults.{first_fault}
use Rattle.ra_stamp.specs.Mode.{mode_word}
use Rattle.ra_text.specs.Lines.{field}
use Rattle.ra_trace.specs.TraceText.{IsClientNumber}
use Rattle.ra_book.specs.declared.book.event.BookKind.{BookKind}
use Rattle.ra_book.specs.declared.book.event.BookKind.TheVariants as kinds
use Rattle.ra_book_text.specs.declared.next_line.book_version.BookVersion.{BookVersion}
use Rattle.ra_book_text.specs.declared.next_line.book_version.BookVersion.TheVariants.{One, Two}
use Rattle.ra_book_text.specs.declared.answering.line_refusal.Refusal.{Refusal}
use Rattle.ra_book_text.specs.declared.answering.line_refusal.Refusal.TheVariants.{Line, Hex, Frame as Faulty, Event}

-- the words of a version
abbrev pub version_text : BookVersion → List ℕ
version_text One = codes "book 1"
version_text Two = codes "book 2"

-- the first line: the version, the number of the node, how many nodes there are, and the number with which each
-- resource begins
abbrev pub first_text : BookVersion → ℕ → ℕ → ℕ → List ℕ
first_text version node nodes start =
    version_text version ++ field (decimal node) ++ field (decimal nodes) ++ field (decimal start)

-- the line is the first one of a book of this node, in this version
pub record IsFirst (line : List ℕ) (version : BookVersion) (node nodes start : ℕ) : Type 0 where
  pub short : length line ≤ 256
  pub count : IsNodeNumber nodes
  pub member : (1 ≤ node) × (node ≤ nodes)
  pub begins : start < 2 ^ 64
  pub text_is : line ≡ first_text version node nodes start

-- what each other line has the form of: a client asks, leaves or gives up, the node forgets names, or digits come
pub data Form : Type 0 where
  Ask : (client : ℕ) → (name : List ℕ) → (mode : Mode) → Form
  Leave : (client : ℕ) → (name : List ℕ) → Form
  Cancel : (client : ℕ) → (name : List ℕ) → Form
  Forget : Form
  Receive : (digits : List ℕ) → Form

-- a line of this form; what follows `receive` and a space is taken as digits, whatever it is
abbrev pub form_text : Form → List ℕ
form_text (Ask client name mode) = codes "ask" ++ field (decimal client) ++ field name ++ field (mode_word mode)
form_text (Leave client name) = codes "release" ++ field (decimal client) ++ field name
form_text (Cancel client name) = codes "cancel" ++ field (decimal client) ++ field name
form_text Forget = codes "forget"
form_text (Receive digits) = codes "receive" ++ field digits

-- the fields are in their ranges
abbrev pub IsForm : Form → Type 0
IsForm (Ask client name mode) = IsClientNumber client × IsName name
IsForm (Leave client name) = IsClientNumber client × IsName name
IsForm (Cancel client name) = IsClientNumber client × IsName name
IsForm Forget = Unit {0}
IsForm (Receive digits) = Unit {0}

-- the line has this form, and at most 256 bytes
abbrev pub HasForm : List ℕ → Form → Type 0
HasForm line form = (length line ≤ 256) × IsForm form × (line ≡ form_text form)

-- the digits, in either case, spell these bytes
abbrev pub HasBytes : List ℕ → List ℕ → Type 0
HasBytes digits bytes = decode_of digits ≡ Ok bytes

-- the digits spell the text of this frame, in version 1 or 2
abbrev pub IsFrameOf : List ℕ → Frame → Type 0
IsFrameOf digits frame = (bytes : List ℕ) × HasBytes digits bytes × IsFrameText bytes frame

-- why digits do not spell the text of a frame: they spell no bytes, or the bytes have this fault
abbrev pub IsNoFrame : List ℕ → Refusal → Type 0
IsNoFrame digits Hex = (bytes : List ℕ) → HasBytes digits bytes → ⊥
IsNoFrame digits (Faulty fault) = (bytes : List ℕ) × HasBytes digits bytes × (first_fault bytes ≡ Some fault)
IsNoFrame digits Line = ⊥
IsNoFrame digits (Event cause) = ⊥

-- the line is this event, in a book that allows it; a frame comes in version 1 or 2
abbrev pub IsEvent : List ℕ → BookKind → Type 0
IsEvent line (kinds.Ask client name mode) = HasForm line (Ask client name mode)
IsEvent line (kinds.Leave client name) = HasForm line (Leave client name)
IsEvent line (kinds.Cancel client name) = HasForm line (Cancel client name)
IsEvent line kinds.Forget = HasForm line Forget
IsEvent line (kinds.Receive frame) = (digits : List ℕ) × HasForm line (Receive digits) × IsFrameOf digits frame

-- why a line is no event: it has none of the forms, or its digits are no frame; the other refusals are of events
abbrev pub IsUnread : List ℕ → Refusal → Type 0
IsUnread line Line = (form : Form) → HasForm line form → ⊥
IsUnread line Hex = (digits : List ℕ) × HasForm line (Receive digits) × IsNoFrame digits Hex
IsUnread line (Faulty fault) = (digits : List ℕ) × HasForm line (Receive digits) × IsNoFrame digits (Faulty fault)
IsUnread line (Event cause) = ⊥

-- the line has none of the forms that only books of version 2 have
abbrev pub IsNoLater : List ℕ → Type 0
IsNoLater line = ((client : ℕ) (name : List ℕ) → HasForm line (Cancel client name) → ⊥) × (HasForm line Forget → ⊥)

-- ---- The version of a book

-- a book of this version can have an event of this kind: one of version 1 has no cancels and does not forget
abbrev pub AllowsKind : BookVersion → BookKind → Type 0
AllowsKind One (kinds.Ask client name mode) = Unit {0}
AllowsKind One (kinds.Leave client name) = Unit {0}
AllowsKind One (kinds.Cancel client name) = ⊥
AllowsKind One kinds.Forget = ⊥
AllowsKind One (kinds.Receive frame) = Unit {0}
AllowsKind Two kind = Unit {0}

-- in a book of this version the line is this event
abbrev pub IsEventIn : BookVersion → List ℕ → BookKind → Type 0
IsEventIn version line kind = AllowsKind version kind × IsEvent line kind

-- the line is an event that a book of this version does not have, so that none of its forms fits
abbrev pub IsTooNew : BookVersion → List ℕ → Type 0
IsTooNew version line = (kind : BookKind) × IsEvent line kind × (AllowsKind version kind → ⊥)

-- the line begins no book
abbrev pub IsNoFirst : List ℕ → Type 0
IsNoFirst line = (version : BookVersion) (node nodes start : ℕ) → IsFirst line version node nodes start → ⊥

-- After a first line of this version, each of these lines begins a book, or is an event that a book of its version may
-- have: of the version that the first line before it names. The line after them is read in the other version.
abbrev pub AreReadIn : BookVersion → List (List ℕ) → BookVersion → Type 0
AreReadIn version [] next = next ≡ version
AreReadIn version (line ∷ lines) next =
    ((new : BookVersion) × (node : ℕ) × (nodes : ℕ) × (start : ℕ) × IsFirst line new node nodes start
    × AreReadIn new lines next)
    ⊎ ((kind : BookKind) × IsEventIn version line kind × AreReadIn version lines next)
