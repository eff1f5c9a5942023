-- The parts of reading a text of books and of settling it. No public contract speaks of them.
use Rattle.std.specs.Prelude.{◌≡◌, ◌≢◌, ◌↔◌, ◌⊎◌, ℕ, ◌+◌, ◌<◌, vec_len, vec_capacity, Bool, false, List, [], ◌∷◌, ◌++◌, All, Contains, Result, Ok, Err, length, map}
use Rattle.std.specs.List.Sorted.{IsPermutation}
use Rattle.ra_frame.specs.declared.frame.Frame.{Frame}
use Rattle.ra_book.specs.declared.error.BookError.{BookError}
use Rattle.ra_book.specs.declared.error.BookError.TheVariants as refused
use Rattle.ra_book.specs.declared.error.SettleError.{SettleError}
use Rattle.ra_book.specs.declared.error.SettleError.TheVariants.{NotSent, Twice}
use Rattle.ra_book.specs.declared.book.event.BookKind.{BookKind}
use Rattle.ra_book.specs.Book.{BookState, HasHistory, opening_book, with_event}
use Rattle.ra_book.specs.Settled.{HasUnsent, IsCluster, all_received}
use Rattle.ra_book_text.specs.BookText.{IsEventIn, IsFirst}
use Rattle.ra_book_text.specs.declared.next_line.book_version.BookVersion.{BookVersion}
use Rattle.ra_book_text.specs.declared.text_settling.came_frames.Came.{Came}
use Rattle.ra_book_text.specs.declared.text_settling.settle_error.SettleTextError.{SettleTextError}
use Rattle.ra_book_text.specs.declared.text_settling.settle_error.SettleTextError.TheVariants as fault
use Rattle.ra_book_text.specs.declared.text_settling.settle_error.TextCause.TheVariants as cause
use Rattle.ra_book_text.specs.declared.text_settling.gathering.Gathered.{Gathered}
use Rattle.ra_book_text.specs.declared.text_settling.gathering.LineFault.{LineFault}
use Rattle.ra_book_text.specs.declared.text_settling.gathering.LineFault.TheVariants as line_fault
use Rattle.ra_book_text.specs.Texts.{AreRight, CanTake, IsBeside, IsText, came_by, came_in}
use Rattle.ra_book_text.specs.Verdicts.{IsFirstAgain, IsFirstUnsent, IsWrongLine}

-- ---- An event

-- the book has another event of this kind, and is a history
abbrev pub HasTaken : BookState → BookKind → BookState → Type 0
HasTaken old kind new = (clock : ℕ) × (frames : List Frame) × (new ≡ with_event old clock kind frames) × HasHistory new

-- how a book takes an event: it has it, or the node does not take it, or the node takes it and memory ran out
abbrev pub Comes : BookState → BookKind → BookState → Result (Unit {0}) BookError → Type 0
Comes old kind new (Ok done) = HasTaken old kind new
Comes old kind new (Err why) = (why ≢ refused.Memory → CanTake old kind → ⊥) × (why ≡ refused.Memory → CanTake old kind)

-- ---- What was gathered

-- the books that were read so far, in the order of the text
abbrev pub books_of : Gathered → List BookState
books_of g = g.earlier.items ++ g.last ∷ []

-- the lines were read, and this was gathered, with room for the last book after the earlier ones
pub record IsGathered (lines : List (List ℕ)) (g : Gathered) : Type 0 where
  pub right : AreRight lines (books_of g)
  pub version_is : g.version ≡ right.version
  pub came_is : g.came.items ≡ came_in (books_of g)
  pub room : vec_len g.earlier < vec_capacity g.earlier

-- a first line begins a book beside those before it
pub record IsOpened (old : Gathered) (line : List ℕ) (new : Gathered) : Type 0 where
  pub version : BookVersion
  pub node : ℕ
  pub nodes : ℕ
  pub start : ℕ
  pub is_first : IsFirst line version node nodes start
  pub beside : All (IsBeside node nodes start) (books_of old)
  pub earlier_is : new.earlier.items ≡ books_of old
  pub last_is : new.last ≡ opening_book node nodes start
  pub version_is : new.version ≡ version
  pub came_is : new.came.items ≡ old.came.items
  pub history : HasHistory new.last
  pub room : vec_len new.earlier < vec_capacity new.earlier

-- an event happens in the last book
pub record HasHappened (old : Gathered) (number : ℕ) (line : List ℕ) (new : Gathered) : Type 0 where
  pub kind : BookKind
  pub is_event : IsEventIn old.version line kind
  pub version_is : new.version ≡ old.version
  pub taken : HasTaken old.last kind new.last
  pub earlier_is : new.earlier ≡ old.earlier
  pub came_is : new.came.items ≡ old.came.items ++ came_by number kind

-- the line is right: it begins a book beside those before it
pub record IsRightFirst (old : Gathered) (line : List ℕ) : Type 0 where
  pub version : BookVersion
  pub node : ℕ
  pub nodes : ℕ
  pub start : ℕ
  pub is_first : IsFirst line version node nodes start
  pub beside : All (IsBeside node nodes start) (books_of old)

-- the line is right: it is an event that the node of the last book takes, or took
pub record IsRightEvent (old : Gathered) (line : List ℕ) (new : Gathered) : Type 0 where
  pub kind : BookKind
  pub is_event : IsEventIn old.version line kind
  pub takes : CanTake old.last kind ⊎ HasTaken old.last kind new.last

-- how the line of this number is taken: it is taken, or it is wrong, or it is right and memory ran out
abbrev pub TakesLine : Gathered → ℕ → List ℕ → Gathered → Result (Unit {0}) LineFault → Type 0
TakesLine old number line new (Ok done) = IsOpened old line new ⊎ HasHappened old number line new
TakesLine old number line new (Err (line_fault.Wrong why)) = IsWrongLine old.version (books_of old) line why
TakesLine old number line new (Err line_fault.Memory) = IsRightFirst old line ⊎ IsRightEvent old line new

-- the same of a first line, and of another line
abbrev pub TakesEvent : Gathered → ℕ → List ℕ → Gathered → Result (Unit {0}) LineFault → Type 0
TakesEvent old number line new (Ok done) = HasHappened old number line new
TakesEvent old number line new (Err (line_fault.Wrong why)) = IsWrongLine old.version (books_of old) line why
TakesEvent old number line new (Err line_fault.Memory) = IsRightEvent old line new

abbrev pub TakesFirst : Gathered → List ℕ → Gathered → Result (Unit {0}) LineFault → Type 0
TakesFirst old line new (Ok done) = IsOpened old line new
TakesFirst old line new (Err (line_fault.Wrong why)) = IsWrongLine old.version (books_of old) line why
TakesFirst old line new (Err line_fault.Memory) = IsRightFirst old line

-- ---- What is read of a text

-- all lines of the text were read and this was gathered, and the line after them would have this number
pub record HasGathered (text : List ℕ) (g : Gathered) (next : ℕ) : Type 0 where
  pub lines : List (List ℕ)
  pub is_text : IsText text lines
  pub gathered : IsGathered lines g
  pub next_is : next ≡ length lines + 1

-- these are the books that were gathered, and what came to them
pub record IsMadeOf (g : Gathered) (books : List BookState) (came : List Came) : Type 0 where
  pub books_are : books ≡ books_of g
  pub came_are : came ≡ g.came.items

-- ---- The order of the nodes

-- in some order they are the books of a cluster, and each frame that came was sent
pub record AreSentInCluster (books : List BookState) : Type 0 where
  pub ordered : List BookState
  pub same : IsPermutation books ordered
  pub cluster : IsCluster ordered
  pub sent : HasUnsent ordered → ⊥

-- ---- Why books do not settle

-- each frame that came to these books is among what came
abbrev pub HasAllCome : List BookState → List Came → Type 0
HasAllCome books came = All (λ frame. Contains (map (λ one. one.frame) came) frame) (all_received books)

-- why books of a cluster do not settle, with what came to them in the order of the text; memory runs out only if each
-- frame that came was sent
abbrev pub IsUnfit : (repeats : Bool) → List BookState → List Came → SettleTextError → Type 0
IsUnfit repeats ordered came (fault.Invalid number cause.NotSent) = IsFirstUnsent ordered came number
IsUnfit repeats ordered came (fault.Invalid number cause.Twice) =
    (repeats ≡ false) × (HasUnsent ordered → ⊥) × IsFirstAgain came number
IsUnfit repeats ordered came (fault.Invalid number cause.Line) = ⊥
IsUnfit repeats ordered came (fault.Invalid number cause.Books) = ⊥
IsUnfit repeats ordered came (fault.Invalid number cause.Refused) = ⊥
IsUnfit repeats ordered came fault.Memory = HasUnsent ordered → ⊥

-- books are refused as `NotSent` exactly if a frame came that was not sent, and as `Twice` only if no message may come
-- again
abbrev pub IsRefusedBy : (repeats : Bool) → List BookState → SettleError → Type 0
IsRefusedBy repeats books why = ((why ≡ NotSent) ↔ HasUnsent books) × (why ≡ Twice → repeats ≡ false)
