-- What the laws of books speak of.
use Rattle.std.specs.Prelude.{◌≡◌, ℕ, All, List, [], ◌∷◌, ◌++◌, codes, flat_map, map}
use Rattle.std.specs.List.{AllZip}
use Rattle.ra_stamp.specs.Message.{to_of}
use Rattle.ra_stamp.specs.declared.entry.Mark.{Mark}
use Rattle.ra_frame.specs.FrameText.{IsWrittenText}
use Rattle.ra_frame.specs.declared.frame.Frame.{Frame}
use Rattle.ra_text.specs.Lines.{mark_line}
use Rattle.ra_book.specs.Book.{BookState, LeadsTo}
use Rattle.ra_book.specs.Settled.{marks_in}
use Rattle.ra_book_text.specs.Book.{lines_text}
use Rattle.ra_book_text.specs.Input.{HasNoFeed}
use Rattle.ra_book.specs.History.{Posting, clock_of}
use Rattle.ra_book.specs.declared.error.BookError.TheVariants as error
use Rattle.ra_book_text.specs.declared.answering.line_refusal.Refusal.TheVariants as refusal
use Rattle.ra_book_text.specs.BookText.{IsEvent, IsFirst, AreReadIn}
use Rattle.ra_book_text.specs.declared.next_line.book_version.BookVersion.{BookVersion}
use Rattle.ra_book.specs.Timed.{Timed, opening}
use Rattle.ra_book_text.specs.Answers.{Answered, AnswersEach, IsPosted, kept_of, lines_of, refused_line, send_line, text_of}
use Rattle.ra_book_text.specs.Answers.Answered.{Accepted, Refused}
use Rattle.ra_book_text.specs.Texts.{IsRead, Says, said_by}

-- ---- A book that is handed to a node again

-- The lines were answered as before up to one that is now refused, and only for lack of memory. What comes after it may
-- differ.
pub record IsCutShort (kept again : List Answered) : Type 0 where
  pub before : List Answered
  pub line : List ℕ
  pub answer : List ℕ
  pub left : List Answered
  pub others : List Answered
  pub kept_is : kept ≡ before ++ Accepted line answer ∷ left
  pub again_is : again ≡ before ++ Refused line (refused_line (refusal.Event error.Memory)) ∷ others

-- ---- The book as settling reads it

-- a node that was driven: the first line of its book, the lines after it with their answers, and the node after them
pub record Driven : Type 0 where
  pub first : List ℕ
  pub answered : List Answered
  pub end : Timed

-- the first line made the node, and it answered the others so
abbrev pub IsDriven : Driven → Type 0
IsDriven driven = (version : BookVersion) × (node : ℕ) × (nodes : ℕ) × (start : ℕ)
    × IsFirst driven.first version node nodes start
    × AnswersEach version (opening node nodes start) driven.answered driven.end

-- the book that is kept of it: the first line, and the lines that were accepted
abbrev pub book_lines : Driven → List (List ℕ)
book_lines driven = driven.first ∷ lines_of (kept_of driven.answered)

-- the books of several, one after the other
abbrev pub all_book_lines : List Driven → List (List ℕ)
all_book_lines driven = flat_map book_lines driven

-- The line is the event, and its answer says what the event did: a line `send` for each frame, with the clock of the
-- event, the lines of the marks, and `ok`.
abbrev pub IsAnswerTo : Posting → Answered → Type 0
IsAnswerTo posting (Accepted line answer) =
    IsEvent line posting.event.kind × IsPosted posting.event.clock posting.sends posting.marks answer
IsAnswerTo posting (Refused line answer) = ⊥

-- what a line of the answers tells: a frame is sent, a mark is made, or the answer is over
pub data Told : Type 0 where
  Sends : (frame : Frame) → Told
  Marks : (mark : Mark) → Told
  IsDone : Told

-- the line of a frame begins with `send`, the line of a mark with its word, and the last one is `ok`
abbrev pub Tells : List ℕ → Told → Type 0
Tells line (Sends frame) =
    (bytes : List ℕ) × IsWrittenText bytes frame × (line ++ codes "\n" ≡ send_line (to_of frame.message) bytes)
Tells line (Marks mark) = line ++ codes "\n" ≡ mark_line mark
Tells line IsDone = line ≡ codes "ok"

-- the frames that are sent, and the marks, both in order
abbrev pub frames_told : List Told → List Frame
frames_told [] = []
frames_told (Sends frame ∷ told) = frame ∷ frames_told told
frames_told (Marks mark ∷ told) = frames_told told
frames_told (IsDone ∷ told) = frames_told told

abbrev pub marks_told : List Told → List Mark
marks_told [] = []
marks_told (Sends frame ∷ told) = marks_told told
marks_told (Marks mark ∷ told) = mark ∷ marks_told told
marks_told (IsDone ∷ told) = marks_told told

-- This book is read from the lines that were kept. Its events lead to the node as it was in the end, and its clock is
-- the node's. The answers to the lines are, in order, the answers to its events: so the frames in them are the frames
-- that the book sent, and the marks in them are its marks.
pub record IsBookOf (driven : Driven) (book : BookState) : Type 0 where
  pub said : AllZip Says (book_lines driven) (said_by book)
  -- each line is read in the version of the first
  pub read_in : (version : BookVersion) × ((before : BookVersion) → AreReadIn before (book_lines driven) version)
  pub is_read : IsRead book
  pub leads : LeadsTo book driven.end.node
  pub clock_is : clock_of book.events ≡ driven.end.clock
  pub answers : AllZip IsAnswerTo leads.postings (kept_of driven.answered)

-- The text of the answers has these lines, which tell this: in order, exactly the frames that the book sent, each with
-- its clock, and exactly its marks.
pub record AreLinesTold (driven : Driven) (book : BookState) (is : IsBookOf driven book) : Type 0 where
  pub lines : List (List ℕ)
  pub told : List Told
  pub each : All HasNoFeed lines
  pub text_is : text_of (kept_of driven.answered) ≡ lines_text lines
  pub tell : AllZip Tells lines told
  pub frames_are : frames_told told ≡ map (λ sent. sent.frame) book.sent
  pub marks_are : marks_told told ≡ marks_in is.leads.postings
