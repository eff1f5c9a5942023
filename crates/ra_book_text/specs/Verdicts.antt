-- The verdict on a text of books: when it settles, and otherwise what is wrong with it at which line.
use Rattle.std.specs.Prelude.{◌≡◌, ◌≢◌, ◌⊎◌, ℕ, ◌+◌, ◌≤◌, Bool, false, List, [], ◌∷◌, ◌++◌, All, AllPairs, Contains, MatchBool, map, length}
use Rattle.std.specs.List.{Any}
use Rattle.ra_stamp.specs.declared.message.Message.{Message}
use Rattle.ra_world.specs.MainTheorem.{MainTheorem}
use Rattle.ra_world.specs.Traffic.{Move}
use Rattle.ra_world.specs.World.{Reports}
use Rattle.ra_book.specs.declared.book.event.BookKind.{BookKind}
use Rattle.ra_book.specs.Book.{BookState}
use Rattle.ra_book.specs.Repeats.{IsSettledRunWithCopies}
use Rattle.ra_book.specs.declared.settle_books.settled.Settled.{Settled}
use Rattle.ra_book.specs.Settled.{BooksFit, HasUnsent, IsSettledOrder, IsSettledRun, Placed, WasSent, settled_steps, start_of}
use Rattle.ra_book_text.specs.BookText.{Form, HasForm, IsEventIn, IsFirst, IsNoFirst, IsTooNew, IsUnread}
use Rattle.ra_book_text.specs.declared.next_line.book_version.BookVersion.{BookVersion}
use Rattle.ra_book_text.specs.Input.{HasNoFeed}
use Rattle.ra_book_text.specs.declared.answering.line_refusal.Refusal.{Refusal}
use Rattle.ra_book_text.specs.declared.answering.line_refusal.Refusal.TheVariants as refusal
use Rattle.ra_book_text.specs.declared.text_settling.came_frames.Came.{Came}
use Rattle.ra_book_text.specs.declared.text_settling.settle_error.SettleTextError.{SettleTextError}
use Rattle.ra_book_text.specs.declared.text_settling.settle_error.SettleTextError.TheVariants.{Invalid, Memory}
use Rattle.ra_book_text.specs.declared.text_settling.settle_error.TextCause.{TextCause}
use Rattle.ra_book_text.specs.declared.text_settling.settle_error.TextCause.TheVariants as cause
use Rattle.ra_book_text.specs.declared.text_settling.SettledText.{SettledText}
use Rattle.ra_book_text.specs.Texts.{AreRight, AreWhole, Begins, CanTake, IsBeside, IsText, came_in}

-- ---- A wrong line, after lines that are right

-- it begins no book; and there is no book yet, or it has no form of an event, or the form of an event that a book of
-- the last version does not have
abbrev pub IsNoLine : BookVersion → List BookState → List ℕ → Type 0
IsNoLine version books line = IsNoFirst line
    × ((books ≡ []) ⊎ (((form : Form) → HasForm line form → ⊥) ⊎ IsTooNew version line))

-- it is the first line of a book that is not beside one of those before it
abbrev pub IsOfAnother : List BookState → List ℕ → Type 0
IsOfAnother books line = (version : BookVersion) × (node : ℕ) × (nodes : ℕ) × (start : ℕ)
    × IsFirst line version node nodes start
    × Any (λ book. IsBeside node nodes start book → ⊥) books

-- its digits are no frame, or it is an event that the node of the last book does not take
abbrev pub IsRefused : BookVersion → List BookState → List ℕ → Type 0
IsRefused version books line = (earlier : List BookState) × (last : BookState) × (books ≡ earlier ++ last ∷ [])
    × (((why : Refusal) × (why ≢ refusal.Line) × IsUnread line why)
    ⊎ ((kind : BookKind) × IsEventIn version line kind × (CanTake last kind → ⊥)))

-- why a line is wrong after these books, if the last one is of this version
abbrev pub IsWrongLine : BookVersion → List BookState → List ℕ → TextCause → Type 0
IsWrongLine version books line cause.Line = IsNoLine version books line
IsWrongLine version books line cause.Books = IsOfAnother books line
IsWrongLine version books line cause.Refused = IsRefused version books line
IsWrongLine version books line cause.NotSent = ⊥
IsWrongLine version books line cause.Twice = ⊥

-- the line of this number, counted from 1, is the first wrong one, for this cause
pub record IsWrongAt (text : List ℕ) (number : ℕ) (why : TextCause) : Type 0 where
  pub before : List (List ℕ)
  pub line : List ℕ
  pub rest : List ℕ
  pub begins : Begins text (before ++ line ∷ []) rest
  pub number_is : number ≡ length before + 1
  pub books : List BookState
  pub right : AreRight before books
  pub wrong : IsWrongLine right.version books line why

-- ---- A text whose lines are all right

-- they are not all books of a cluster: they are not as many as its nodes, or a node has none
abbrev pub IsMissing : List BookState → Type 0
IsMissing books = Any (λ book. book.nodes ≢ length books) books
    ⊎ ((node : ℕ) × (1 ≤ node) × All (λ book. (node ≤ book.nodes) × (book.me ≢ node)) books)

-- this is the first frame that comes and is not among those that its sender's book sent with its clock
pub record IsFirstUnsent (ordered : List BookState) (came : List Came) (number : ℕ) : Type 0 where
  pub before : List Came
  pub this : Came
  pub after : List Came
  pub came_is : came ≡ before ++ this ∷ after
  pub number_is : number ≡ this.line
  pub unsent : WasSent ordered this.frame → ⊥
  pub sent : All (λ earlier. WasSent ordered earlier.frame) before

abbrev pub messages_of : List Came → List Message
messages_of came = map (λ one. one.frame.message) came

-- this is the first frame that comes and whose message came before
pub record IsFirstAgain (came : List Came) (number : ℕ) : Type 0 where
  pub before : List Came
  pub this : Came
  pub after : List Came
  pub came_is : came ≡ before ++ this ∷ after
  pub number_is : number ≡ this.line
  pub again : Contains (messages_of before) this.frame.message
  pub once : AllPairs (λ a b. a ≢ b) (messages_of before)

-- What is wrong with a text at which line: the first of these, in this order. A line is wrong, or there is no line;
-- after the last line a book is missing; a frame comes that was not sent; a message comes again, if no message may.
abbrev pub IsWrong : (repeats : Bool) → List ℕ → ℕ → TextCause → Type 0
IsWrong repeats text number cause.Line = (HasNoFeed text × (number ≡ 1)) ⊎ IsWrongAt text number cause.Line
IsWrong repeats text number cause.Books = IsWrongAt text number cause.Books
    ⊎ ((lines : List (List ℕ)) × (books : List BookState) × IsText text lines × AreRight lines books × (books ≢ [])
    × (number ≡ length lines + 1) × IsMissing books)
IsWrong repeats text number cause.Refused = IsWrongAt text number cause.Refused
IsWrong repeats text number cause.NotSent =
    (lines : List (List ℕ)) × (books : List BookState) × (ordered : List BookState)
    × IsText text lines × AreWhole lines books ordered × IsFirstUnsent ordered (came_in books) number
IsWrong repeats text number cause.Twice =
    (lines : List (List ℕ)) × (books : List BookState) × (ordered : List BookState)
    × IsText text lines × AreWhole lines books ordered × (repeats ≡ false) × (HasUnsent ordered → ⊥)
    × IsFirstAgain (came_in books) number

-- why a text does not settle; that memory runs out comes from outside
abbrev pub IsUnsettled : (repeats : Bool) → List ℕ → SettleTextError → Type 0
IsUnsettled repeats text (Invalid number why) = IsWrong repeats text number why
IsUnsettled repeats text Memory = Unit {0}

-- ---- A text of books that fit

-- the books fit: each frame that came was sent, and unless messages may come again, no message came twice
abbrev pub FitBy : (repeats : Bool) → List BookState → Type 0
FitBy repeats ordered = MatchBool repeats (HasUnsent ordered → ⊥) (BooksFit ordered)

-- the text has all books of a cluster, each a history, and they fit
pub record HasFittingBooks (repeats : Bool) (text : List ℕ) : Type 0 where
  pub lines : List (List ℕ)
  pub books : List BookState
  pub ordered : List BookState
  pub is_text : IsText text lines
  pub whole : AreWhole lines books ordered
  pub fit : FitBy repeats ordered

-- ---- A text that settles

-- these books fit together, and this is their settled run, with its report and the main theorem
pub record IsRunOf (ordered : List BookState) (settled : Settled) : Type 0 where
  pub fit : BooksFit ordered
  pub moves : List Move
  pub steps_are : map (λ move. move.step) moves ≡ settled.steps.items
  pub run : IsSettledRun ordered moves
  pub reports : Reports (length ordered) (start_of ordered) moves settled.report
  pub main : MainTheorem (length ordered) settled.report
  pub placed : List Placed
  pub order : IsSettledOrder ordered placed
  pub in_order : settled.steps.items ≡ settled_steps ordered placed

-- the same about the settled run with copies of these books, if only frames came that were sent
pub record IsRunWithCopiesOf (ordered : List BookState) (settled : Settled) : Type 0 where
  pub sent : HasUnsent ordered → ⊥
  pub moves : List Move
  pub steps_are : map (λ move. move.step) moves ≡ settled.steps.items
  pub run : IsSettledRunWithCopies ordered moves
  pub reports : Reports (length ordered) (start_of ordered) moves settled.report
  pub main : MainTheorem (length ordered) settled.report

-- the settled run with copies if messages may come again, and otherwise the settled run
abbrev pub IsRunBy : (repeats : Bool) → List BookState → Settled → Type 0
IsRunBy repeats ordered settled = MatchBool repeats (IsRunWithCopiesOf ordered settled) (IsRunOf ordered settled)

-- these books of a cluster settle into this
pub record IsSettledBy (repeats : Bool) (ordered : List BookState) (text : SettledText) : Type 0 where
  pub nodes_is : text.nodes ≡ length ordered
  pub start_is : text.start ≡ start_of ordered
  pub run_is : IsRunBy repeats ordered text.settled

-- the text has all books of a cluster, each a history, and this is the run that they settle into
pub record IsSettledText (repeats : Bool) (input : List ℕ) (text : SettledText) : Type 0 where
  pub lines : List (List ℕ)
  pub books : List BookState
  pub ordered : List BookState
  pub is_text : IsText input lines
  pub whole : AreWhole lines books ordered
  pub settled_by : IsSettledBy repeats ordered text
