-- The file of a book, over all that happens to it: openings, lines, syncs, failures and crashes.
use Rattle.std.specs.Prelude.{◌≡◌, ◌++◌, ◌∷◌, [], ℕ, List, length}
use Rattle.ra_disk.specs.Lines.{lines, whole, IsWhole}
use Rattle.ra_disk.specs.Contents.{Contents, seen, settled, appends, cuts, syncs, crashes}

pub data State : Type 0 where
  -- no process has it open, or a call has failed since
  Closed : (file : Contents) → State
  -- it was opened, and each call since has succeeded
  Open : (file : Contents) → State

pub data Event : Type 0 where
  -- it is opened: what follows the last line feed is cut, and the rest is synced
  Opens : Event
  -- an opening gets no further than the cut
  Cuts : Event
  -- these lines are appended
  Appends : (text : List ℕ) → IsWhole text → Event
  Syncs : Event
  -- its host or the machine crashes, or a call fails, and this many bytes are left. If it crashes in a call, it leaves
  -- what a crash before the call or after it may leave
  Crashes : (size : ℕ) → Event

abbrev pub file_of : State → Contents
file_of (Closed file) = file
file_of (Open file) = file

abbrev pub cuts_torn : Contents → Contents
cuts_torn f = cuts (length (whole (seen f))) f

abbrev pub opens : Contents → Contents
opens f = syncs (cuts_torn f)

-- what can't happen changes nothing
abbrev pub step : Event → State → State
step Opens (Closed file) = Open (opens file)
step Opens (Open file) = Open file
step Cuts (Closed file) = Closed (cuts_torn file)
step Cuts (Open file) = Open file
step (Appends text is) (Closed file) = Closed file
step (Appends text is) (Open file) = Open (appends text file)
step Syncs (Closed file) = Closed file
step Syncs (Open file) = Open (syncs file)
step (Crashes size) (Closed file) = Closed (crashes size file)
step (Crashes size) (Open file) = Closed (crashes size file)

-- after these events, the newest of them first
abbrev pub steps : List Event → State → State
steps [] state = state
steps (event ∷ earlier) state = step event (steps earlier state)

-- a new file, after these events, the newest of them first
abbrev pub after : List Event → State
after events = steps events (Closed (settled []))

abbrev pub lines_in : Event → List (List ℕ)
lines_in Opens = []
lines_in Cuts = []
lines_in (Appends text is) = lines text
lines_in Syncs = []
lines_in (Crashes size) = []

-- all lines that were given to it, in order
abbrev pub given : List Event → List (List ℕ)
given [] = []
given (event ∷ earlier) = given earlier ++ lines_in event

-- what an open file is: whole lines, and nothing was cut since the last sync
pub record IsReady (f : Contents) : Type 0 where
  pub even : f.size ≡ length f.written
  pub whole : IsWhole f.written

-- what may happen while nobody has it open, until an opening succeeds
abbrev pub AreOfClosed : List Event → Type 0
AreOfClosed [] = Unit {0}
AreOfClosed (Opens ∷ earlier) = ⊥
AreOfClosed (Cuts ∷ earlier) = AreOfClosed earlier
AreOfClosed (Appends text is ∷ earlier) = ⊥
AreOfClosed (Syncs ∷ earlier) = ⊥
AreOfClosed (Crashes size ∷ earlier) = AreOfClosed earlier

-- lines and syncs, which leave an open file open
abbrev pub AreOfOpen : List Event → Type 0
AreOfOpen [] = Unit {0}
AreOfOpen (Opens ∷ earlier) = ⊥
AreOfOpen (Cuts ∷ earlier) = ⊥
AreOfOpen (Appends text is ∷ earlier) = AreOfOpen earlier
AreOfOpen (Syncs ∷ earlier) = AreOfOpen earlier
AreOfOpen (Crashes size ∷ earlier) = ⊥
