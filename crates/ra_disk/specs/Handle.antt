-- What is said of a book, and what its calls do to it.
use Rattle.std.specs.Prelude.{◌≡◌, ◌⊎◌, ◌<◌, [], ◌∷◌, ℕ, List, Option, None, Some, Result, Err, IfErr, OnOk}
use Rattle.ra_disk.specs.declared.error.FileError.{FileError}
use Rattle.ra_disk.specs.declared.error.FileError.TheVariants.{Read, Disk, Memory}
use Rattle.ra_disk.specs.declared.book.Book.{Book}
use Rattle.ra_disk.specs.declared.book_file.BookFile.{Ghosts}
use Rattle.ra_disk.specs.Lines.{whole}
use Rattle.ra_disk.specs.Contents.{Contents, seen}
use Rattle.ra_disk.specs.Book.{State, Event, cuts_torn, step, steps}
use Rattle.ra_disk.specs.Book.State.{Open, Closed}
use Rattle.ra_disk.specs.Book.Event.{Opens, Cuts, Crashes}

abbrev pub state_if : Option FileError → Contents → State
state_if None file = Open file
state_if (Some error) file = Closed file

module _ {F : Type 0} {g : Ghosts F} where
  -- what its file holds
  abbrev pub contents_of : Book F g → Contents
  contents_of book = g.contents book.file

  -- what its file held before each call that changed it, the newest first
  abbrev pub past_of : Book F g → List Contents
  past_of book = g.past book.file

  -- how often its file has failed
  abbrev pub faults_of : Book F g → ℕ
  faults_of book = g.faults book.file

  -- the error of the call that failed
  abbrev pub failure_of : Book F g → Option FileError
  failure_of book = book.failed

  -- its file, as the laws speak of it
  abbrev pub state_of : Book F g → State
  state_of book = state_if book.failed (g.contents book.file)

  -- an opening that succeeds: the book is open, and this is the text of its lines
  pub record IsOpened (file : F) (book : Book F g) (text : List ℕ) : Type 0 where
    pub lines : text ≡ whole (seen (g.contents file))
    pub is_open : failure_of book ≡ None
    pub state : state_of book ≡ step Opens (Closed (g.contents file))
    pub past : past_of book ≡ cuts_torn (g.contents file) ∷ g.contents file ∷ g.past file
    pub faults : faults_of book ≡ g.faults file

  -- a call of a book: these events happen, or if it fails, those before a crash
  pub record Does (old new : Book F g) (result : Result (Unit {0}) FileError) (all before : List Event) (error : FileError)
      : Type 0 where
    -- after a failure each call fails in the same way, and the book is unchanged
    pub refused : (e : FileError) → failure_of old ≡ Some e → (result ≡ Err e) × (new ≡ old)
    pub ok : OnOk result ((failure_of new ≡ None) × (state_of new ≡ steps all (state_of old)))
    pub err : failure_of old ≡ None → IfErr result (λ e.
        (e ≡ error) × (failure_of new ≡ Some e) × (faults_of old < faults_of new)
        × (size : ℕ) × (state_of new ≡ steps (Crashes size ∷ before) (state_of old)))
    pub past : failure_of old ≡ None → past_of new ≡ contents_of old ∷ past_of old

-- an opening that fails hands the file back, unchanged if it wasn't read, and otherwise as after a crash
abbrev pub FailsToOpen : {F : Type 0} → Ghosts F → F → FileError × F → Type 0
FailsToOpen g file (error, left) =
    (((error ≡ Read) ⊎ (error ≡ Memory)) × (g.contents left ≡ g.contents file) × (g.past left ≡ g.past file))
    ⊎ ((error ≡ Disk)
    × ((size : ℕ) × (Closed (g.contents left) ≡ steps (Crashes size ∷ Cuts ∷ []) (Closed (g.contents file))))
    × ((g.past left ≡ g.contents file ∷ g.past file)
    ⊎ (g.past left ≡ cuts_torn (g.contents file) ∷ g.contents file ∷ g.past file)))
