-- The answers to the lines of a book after the first.
use Rattle.std.specs.Prelude.{◌≡◌, ◌⊎◌, ◌<◌, ◌^◌, ℕ, All, List, [], ◌∷◌, ◌++◌, codes, decimal, flat_map, map}
use Rattle.hex.specs.Hex.{encode_lower}
use Rattle.ra_stamp.specs.Mark.{entry_of_mark}
use Rattle.ra_stamp.specs.Message.{to_of}
use Rattle.ra_stamp.specs.Name.{IsName}
use Rattle.ra_stamp.specs.NodeId.{IsNodeNumber}
use Rattle.ra_stamp.specs.declared.entry.Entry.{Entry}
use Rattle.ra_stamp.specs.declared.entry.Mark.{Mark}
use Rattle.ra_stamp.specs.declared.message.Message.{Message}
use Rattle.ra_frame.specs.FrameText.{IsWrittenText}
use Rattle.ra_frame.specs.Words as frame
use Rattle.ra_trace.specs.TraceText.{IsClientNumber}
use Rattle.ra_text.specs.Lines.{field, mark_line}
use Rattle.ra_book.specs.declared.book.event.BookKind.{BookKind}
use Rattle.ra_book.specs.declared.error.BookError.{BookError}
use Rattle.ra_book.specs.declared.error.BookError.TheVariants as error
use Rattle.ra_book_text.specs.declared.answering.line_refusal.Refusal.{Refusal}
use Rattle.ra_book_text.specs.declared.answering.line_refusal.Refusal.TheVariants as refusal
use Rattle.ra_book_text.specs.BookText.{IsEventIn, IsTooNew, IsUnread}
use Rattle.ra_book_text.specs.declared.next_line.book_version.BookVersion.{BookVersion}
use Rattle.ra_book.specs.Timed.{Timed, Takes, Refuses}

-- the word of why an event is refused
abbrev pub event_word : BookError → List ℕ
event_word error.Failed = codes "Failed"
event_word (error.Frame fault) = frame.word_of fault
event_word error.Busy = codes "Busy"
event_word error.Exhausted = codes "Exhausted"
event_word error.NotHeld = codes "NotHeld"
event_word error.NotWaiting = codes "NotWaiting"
event_word error.WrongNode = codes "WrongNode"
event_word error.Stranger = codes "Stranger"
event_word error.ClockFull = codes "ClockFull"
event_word error.Memory = codes "Memory"

-- the word of a refusal
abbrev pub word_of : Refusal → List ℕ
word_of refusal.Line = codes "Line"
word_of refusal.Hex = codes "Hex"
word_of (refusal.Frame fault) = frame.word_of fault
word_of (refusal.Event cause) = event_word cause

-- the answer to a line that is refused
abbrev pub refused_line : Refusal → List ℕ
refused_line why = codes "refused" ++ field (word_of why) ++ codes "\n"

-- the line of a frame with these bytes that goes to this node
abbrev pub send_line : ℕ → List ℕ → List ℕ
send_line to bytes = codes "send" ++ field (decimal to) ++ field (encode_lower bytes) ++ codes "\n"

-- the text has a line for each message, in order: its frame in version 2, with this clock
abbrev pub AreSends : ℕ → List Message → List ℕ → Type 0
AreSends clock [] text = text ≡ []
AreSends clock (message ∷ messages) text =
    (bytes : List ℕ) × (rest : List ℕ) × IsWrittenText bytes (record { clock = clock; message = message })
    × (text ≡ send_line (to_of message) bytes ++ rest) × AreSends clock messages rest

-- the fields of a request are in their ranges, so that the line of a mark is one line
pub record IsShown (entry : Entry) : Type 0 where
  pub node : IsNodeNumber entry.stamp.node
  pub client : IsClientNumber entry.client
  pub name : IsName entry.name
  pub number : entry.stamp.seq < 2 ^ 64

abbrev pub AreShown : List Mark → Type 0
AreShown marks = All (λ mark. IsShown (entry_of_mark mark)) marks

-- the answer to an event: its frames, its marks, and `ok`
pub record IsPosted (clock : ℕ) (sends : List Message) (marks : List Mark) (text : List ℕ) : Type 0 where
  pub sent : List ℕ
  pub sends_are : AreSends clock sends sent
  pub marks_are : AreShown marks
  pub text_is : text ≡ sent ++ flat_map mark_line marks ++ codes "ok\n"

-- the line is an event of a book of this version that the node takes, and it sends and marks this
pub record Reacts (version : BookVersion) (old : Timed) (line : List ℕ) (sends : List Message) (marks : List Mark)
    (new : Timed) : Type 0 where
  pub kind : BookKind
  pub is_event : IsEventIn version line kind
  pub takes : Takes old kind sends marks new

-- the line is no event of a book of this version, or one that is refused; the node is as it was
pub record Stays (version : BookVersion) (old : Timed) (line : List ℕ) (new : Timed) (why : Refusal) : Type 0 where
  pub cause : IsUnread line why ⊎ (((why ≡ refusal.Line) × IsTooNew version line)
      ⊎ ((kind : BookKind) × (cause : BookError) × (why ≡ refusal.Event cause) × IsEventIn version line kind
      × Refuses old kind cause))
  pub new_is : new ≡ old

-- the node takes the line, and this is the answer
pub record Accepts (version : BookVersion) (old : Timed) (line text : List ℕ) (new : Timed) : Type 0 where
  pub sends : List Message
  pub marks : List Mark
  pub reacts : Reacts version old line sends marks new
  pub posted : IsPosted new.clock sends marks text

-- the line is refused, and this is the answer
pub record Denies (version : BookVersion) (old : Timed) (line text : List ℕ) (new : Timed) : Type 0 where
  pub why : Refusal
  pub stays : Stays version old line new why
  pub text_is : text ≡ refused_line why

-- the answer to a line of a book of this version, and what the node is after it
abbrev pub Answers : BookVersion → Timed → List ℕ → List ℕ → Timed → Type 0
Answers version old line text new = Accepts version old line text new ⊎ Denies version old line text new

-- a line that a node was handed, and its answer: the node accepted the line, or refused it
pub data Answered : Type 0 where
  Accepted : (line : List ℕ) → (answer : List ℕ) → Answered
  Refused : (line : List ℕ) → (answer : List ℕ) → Answered

abbrev pub line_of : Answered → List ℕ
line_of (Accepted line answer) = line
line_of (Refused line answer) = line

abbrev pub answer_of : Answered → List ℕ
answer_of (Accepted line answer) = answer
answer_of (Refused line answer) = answer

-- the lines, and the text of their answers, both in order
abbrev pub lines_of : List Answered → List (List ℕ)
lines_of all = map line_of all

abbrev pub text_of : List Answered → List ℕ
text_of all = flat_map answer_of all

-- The node is handed these lines of a book of this version, one after the other, answers each of them so, and is then
-- this one. A line that it refuses leaves it as it was.
abbrev pub AnswersEach : BookVersion → Timed → List Answered → Timed → Type 0
AnswersEach version old [] new = new ≡ old
AnswersEach version old (Accepted line answer ∷ all) new =
    (next : Timed) × Accepts version old line answer next × AnswersEach version next all new
AnswersEach version old (Refused line answer ∷ all) new =
    Denies version old line answer old × AnswersEach version old all new

-- the book that is kept: the lines that the node accepted, each with its very answer, in order; none that it refused
abbrev pub kept_of : List Answered → List Answered
kept_of [] = []
kept_of (Accepted line answer ∷ all) = Accepted line answer ∷ kept_of all
kept_of (Refused line answer ∷ all) = kept_of all

-- this text is the answers to these lines, in order, and the node is this one after them
abbrev pub AnswersAll : BookVersion → Timed → List (List ℕ) → List ℕ → Timed → Type 0
AnswersAll version old lines text new =
    (all : List Answered) × (lines ≡ lines_of all) × (text ≡ text_of all) × AnswersEach version old all new
