-- Books of all nodes in one text, one after the other.
use Rattle.std.specs.Prelude.{◌≡◌, ◌≢◌, ℕ, ◌+◌, false, List, [], ◌∷◌, ◌++◌, All, AllPairs, None, map}
use Rattle.std.specs.List.{AllZip, flat_map}
use Rattle.std.specs.List.Sorted.{IsPermutation}
use Rattle.ra_stamp.specs.declared.entry.Entry.{Entry}
use Rattle.ra_automaton.specs.State.{IsForNode}
use Rattle.ra_node.specs.Node.{resource_at}
use Rattle.ra_node.specs.Resource.{Holds, IsKeptWaiting}
use Rattle.ra_node.specs.Turns.{MayAsk}
use Rattle.ra_book.specs.declared.book.event.BookKind.{BookKind}
use Rattle.ra_book.specs.declared.book.event.BookKind.TheVariants.{Ask, Leave, Cancel, Forget, Receive}
use Rattle.ra_book.specs.Book.{BookState, HasClock, HasHistory, IsWhole, Runs}
use Rattle.ra_book.specs.Settled.{IsCluster, frames_in}
use Rattle.ra_book_text.specs.Book.{lines_text}
use Rattle.ra_book_text.specs.BookText.{IsEvent, IsFirst, AreReadIn}
use Rattle.ra_book_text.specs.declared.next_line.book_version.BookVersion.{BookVersion}
use Rattle.ra_book_text.specs.declared.next_line.book_version.BookVersion.TheVariants.{One}
use Rattle.ra_book_text.specs.Input.{HasNoFeed}
use Rattle.ra_book_text.specs.declared.text_settling.came_frames.Came.{Came}

-- ---- Lines

-- the text begins with these lines, each with its line feed, and this follows
pub record Begins (text : List ℕ) (lines : List (List ℕ)) (rest : List ℕ) : Type 0 where
  pub text_is : text ≡ lines_text lines ++ rest
  pub each : All HasNoFeed lines

-- the text has these lines, and after the last line feed there is at most a line that is cut off and passed over
abbrev pub IsText : List ℕ → List (List ℕ) → Type 0
IsText text lines = (part : List ℕ) × Begins text lines part × HasNoFeed part

-- what a line says: a book of this node begins, in some version, or this happens at the node
pub data Said : Type 0 where
  Opens : (node : ℕ) → (nodes : ℕ) → (start : ℕ) → Said
  Happens : (kind : BookKind) → Said

abbrev pub Says : List ℕ → Said → Type 0
Says line (Opens node nodes start) = (version : BookVersion) × IsFirst line version node nodes start
Says line (Happens kind) = IsEvent line kind

-- ---- Books

-- what the lines of a book say: the first one, and then the events in order
abbrev pub said_by : BookState → List Said
said_by book = Opens book.me book.nodes book.start ∷ map (λ event. Happens event.kind) book.events

-- these are the lines of these books, one after the other
abbrev pub AreLinesOf : List (List ℕ) → List BookState → Type 0
AreLinesOf lines books = AllZip Says lines (flat_map said_by books)

-- it is a whole history of its node, with no frame flagged lost
pub record IsRead (book : BookState) : Type 0 where
  pub history : HasHistory book
  pub whole : IsWhole book
  pub no_fault : book.fault ≡ None
  pub kept : All (λ sent. sent.lost ≡ false) book.sent

-- the book is of another node than this one, of as many nodes, and from this start
abbrev pub IsBeside : ℕ → ℕ → ℕ → BookState → Type 0
IsBeside node nodes start book = (book.me ≢ node) × (book.nodes ≡ nodes) × (book.start ≡ start)

-- the books are of different nodes, and all name one number of nodes and one start
abbrev pub AreBeside : List BookState → Type 0
AreBeside books = AllPairs (λ a b. IsBeside b.me b.nodes b.start a) books

-- The lines are right so far: they are these books, each a history, and the books are of different nodes of one
-- cluster. A book of the version that its first line names can have each of its events. The last of these versions is
-- this one. (Before the first of these lines there is no book, and no event.)
pub record AreRight (lines : List (List ℕ)) (books : List BookState) : Type 0 where
  pub version : BookVersion
  pub read_in : AreReadIn One lines version
  pub lines_are : AreLinesOf lines books
  pub each : All IsRead books
  pub beside : AreBeside books

-- and they are all books of the cluster: in the order of their nodes they are these
pub record AreWhole (lines : List (List ℕ)) (books ordered : List BookState) : Type 0 where
  pub right : AreRight lines books
  pub same : IsPermutation books ordered
  pub cluster : IsCluster ordered

-- ---- What happens

-- the node of the book takes this event: the client may ask, holds what it leaves, or waits or is queued for what it
-- gives up, or the frame is for this node and from another one; and a clock is left for it
abbrev pub CanTake : BookState → BookKind → Type 0
CanTake book (Ask client name mode) =
    Runs book (λ node. MayAsk (resource_at node name) client × HasClock book (Ask client name mode))
CanTake book (Leave client name) =
    Runs book (λ node. ((entry : Entry) × Holds (resource_at node name) client entry)
    × HasClock book (Leave client name))
CanTake book (Cancel client name) =
    Runs book (λ node. IsKeptWaiting (resource_at node name) client × HasClock book (Cancel client name))
CanTake book Forget = (book.fault ≡ None) × HasClock book Forget
CanTake book (Receive frame) =
    (book.fault ≡ None) × IsForNode book.me book.nodes frame.message × HasClock book (Receive frame)

-- the frame that comes by an event in this line, if one does
abbrev pub came_by : ℕ → BookKind → List Came
came_by line kind = map (λ frame. record { line = line; frame = frame }) (frames_in kind)

-- the frames that come by lines which say this, if the first of them has this number
abbrev pub came_from : ℕ → List Said → List Came
came_from line [] = []
came_from line (Opens node nodes start ∷ said) = came_from (line + 1) said
came_from line (Happens kind ∷ said) = came_by line kind ++ came_from (line + 1) said

-- the frames that come in a text of these books, in its order, each with the number of its line
abbrev pub came_in : List BookState → List Came
came_in books = came_from 1 (flat_map said_by books)
