-- What a checker says of a text: that it is the trace of a run, or which line is the first wrong one and why. It goes
-- line by line. After each line it knows the version that the first line named, the run so far, and which sends and
-- marks of the last step have not come yet.
use Rattle.std.specs.Prelude.{◌≡◌, ◌≢◌, ◌⊎◌, ℕ, ◌+◌, List, [], ◌∷◌, ◌++◌, All, map, flat_map, length}
use Rattle.ra_stamp.specs.NodeId.{IsNodeNumber}
use Rattle.ra_stamp.specs.declared.entry.Mark.{Mark}
use Rattle.ra_stamp.specs.declared.message.Message.{Message}
use Rattle.ra_table.specs.Table.{LockTable, TableRun}
use Rattle.ra_world.specs.declared.step.Step.{Step}
use Rattle.ra_world.specs.declared.step.Step.TheVariants.{Ask, Leave, Cancel, Deliver, Lose, Repeat, Forget}
use Rattle.ra_world.specs.Traffic.{Move, sent_by}
use Rattle.ra_world.specs.Run.{IsRun, GoesOn, marks_of}
use Rattle.ra_world.specs.Quiet.{requests_in}
use Rattle.ra_trace.specs.declared.line.Line.{Line}
use Rattle.ra_trace.specs.declared.line.Line.TheVariants.{First, Stepped, Sent, Marked, Last}
use Rattle.ra_trace.specs.declared.checker.verdict.Cause.{Cause}
use Rattle.ra_trace.specs.declared.checker.verdict.Cause.TheVariants as cause
use Rattle.ra_trace.specs.declared.checker.verdict.Verdict.{Verdict}
use Rattle.ra_trace.specs.declared.checker.verdict.Verdict.TheVariants.{Valid, Invalid}
use Rattle.ra_trace.specs.declared.line.version.Version.{Version}
use Rattle.ra_trace.specs.TraceText.{IsLine, IsTraceIn, line_text, move_lines, trace_lines, BeginsWith}

-- what is due of a step: messages that it sends, if the version tells them, and then its marks
pub record Due : Type 0 where
  pub sends : List Message
  pub marks : List Mark

-- only these marks are due
abbrev pub marks_due : List Mark → Due
marks_due marks = record { sends = []; marks = marks }

-- the lines of what is due
abbrev pub due_lines : Due → List Line
due_lines due = map Sent due.sends ++ map Marked due.marks

-- the lines so far are the lines of these moves in this version, without those of the last move that are still due; the
-- moves are a run
pub record IsTracePrefix (version : Version) (n start : ℕ) (moves : List Move) (due : Due)
    (lines : List Line) : Type 0 where
  pub count : IsNodeNumber n
  pub run : IsRun n start moves
  pub each : All (IsLine version) lines
  pub lines_are : lines ++ due_lines due ≡ First version n start ∷ flat_map (move_lines version) moves

-- the mark of a line, if it has one
abbrev pub marks_in_line : Line → List Mark
marks_in_line (First version nodes start) = []
marks_in_line (Stepped step) = []
marks_in_line (Sent message) = []
marks_in_line (Marked mark) = mark ∷ []
marks_in_line Last = []

-- the marks in these lines, in order
abbrev pub marks_in : List Line → List Mark
marks_in lines = flat_map marks_in_line lines

-- the lock table allows this mark after these
abbrev pub TableGoesOn : List Mark → Mark → Type 0
TableGoesOn marks mark = (table : LockTable) × TableRun (marks ++ mark ∷ []) table

-- the step is of a client that asks, leaves or gives up, or of a node that forgets
abbrev pub IsOfClient : Step → Type 0
IsOfClient (Ask node client name mode) = Unit {0}
IsOfClient (Leave node client name) = Unit {0}
IsOfClient (Cancel node client name) = Unit {0}
IsOfClient (Deliver message) = ⊥
IsOfClient (Lose message) = ⊥
IsOfClient (Repeat message) = ⊥
IsOfClient (Forget node) = Unit {0}

-- the step is of a message that is delivered, lost or repeated
abbrev pub IsOfMessage : Step → Type 0
IsOfMessage (Ask node client name mode) = ⊥
IsOfMessage (Leave node client name) = ⊥
IsOfMessage (Cancel node client name) = ⊥
IsOfMessage (Deliver message) = Unit {0}
IsOfMessage (Lose message) = Unit {0}
IsOfMessage (Repeat message) = Unit {0}
IsOfMessage (Forget node) = ⊥

-- the line is the first of a trace
abbrev pub IsFirst : Line → Type 0
IsFirst (First version nodes start) = Unit {0}
IsFirst (Stepped step) = ⊥
IsFirst (Sent message) = ⊥
IsFirst (Marked mark) = ⊥
IsFirst Last = ⊥

-- After these lines, the text begins with no line that may come next. Either no lines came yet, and the text begins
-- with no first line of any version. Or it begins with no line of the trace's version but the first, which may not come
-- again. Or the trace is complete, and something follows its last line.
abbrev pub HasNoLine : List Line → List ℕ → Type 0
HasNoLine prefix text =
    ((prefix ≡ []) × ((version : Version) (line : Line) (rest : List ℕ) → BeginsWith version text line rest
    → IsFirst line → ⊥))
    ⊎ ((version : Version) × (n start : ℕ) × (moves : List Move) × (due : Due)
    × IsTracePrefix version n start moves due prefix
    × ((line : Line) (rest : List ℕ) → BeginsWith version text line rest → IsFirst line))
    ⊎ ((version : Version) × (n start : ℕ) × (moves : List Move)
    × IsTraceIn version n start moves (flat_map line_text prefix)
    × (prefix ≡ trace_lines version n start moves) × (text ≢ []))

-- while these messages have yet to be told, the line is not the next one's
abbrev pub IsUnsent : List Message → Line → Type 0
IsUnsent unsent (First version nodes start) = ⊥
IsUnsent unsent (Stepped step) = unsent ≢ []
IsUnsent unsent (Sent message) = (others : List Message) → unsent ≢ message ∷ others
IsUnsent unsent (Marked mark) = unsent ≢ []
IsUnsent unsent Last = unsent ≢ []

-- after these marks, with `due` still to come, the line is not the mark that comes next
abbrev pub IsUndue : List Mark → List Mark → Line → Type 0
IsUndue marks due (First version nodes start) = ⊥
IsUndue marks due (Stepped step) = due ≢ []
IsUndue marks due (Sent message) = ⊥
IsUndue marks due (Marked mark) = TableGoesOn marks mark × ((others : List Mark) → due ≢ mark ∷ others)
IsUndue marks due Last = due ≢ []

-- why the line that comes next in the text is wrong, after these lines, which are right
abbrev pub IsWrong : List Line → List ℕ → Cause → Type 0
IsWrong prefix text cause.Line = HasNoLine prefix text
-- the line is a message, but not the next one that the step sends; or one is still to be told, and the line is no
-- message
IsWrong prefix text cause.Sends =
    (version : Version) × (n start : ℕ) × (moves : List Move) × (due : Due)
    × IsTracePrefix version n start moves due prefix
    × (line : Line) × (rest : List ℕ) × BeginsWith version text line rest
    × IsUnsent due.sends line
-- no message is still to be told, and the lock table refuses the mark
IsWrong prefix text cause.Table =
    (version : Version) × (n start : ℕ) × (moves : List Move) × (due : List Mark)
    × IsTracePrefix version n start moves (marks_due due) prefix
    × (mark : Mark) × (rest : List ℕ) × BeginsWith version text (Marked mark) rest
    × (TableGoesOn (marks_in prefix) mark → ⊥)
-- likewise, and the lock table allows the mark, but it is not the next one that is due; or one is due, and the line is
-- not a mark
IsWrong prefix text cause.Marks =
    (version : Version) × (n start : ℕ) × (moves : List Move) × (due : List Mark)
    × IsTracePrefix version n start moves (marks_due due) prefix
    × (line : Line) × (rest : List ℕ) × BeginsWith version text line rest
    × IsUndue (marks_in prefix) due line
-- nothing is due, and the run does not go on with the step
IsWrong prefix text cause.Refused =
    (version : Version) × (n start : ℕ) × (moves : List Move)
    × IsTracePrefix version n start moves (marks_due []) prefix
    × (step : Step) × (rest : List ℕ) × BeginsWith version text (Stepped step) rest
    × IsOfClient step × (GoesOn n start moves step → ⊥)
IsWrong prefix text cause.NotUnderWay =
    (version : Version) × (n start : ℕ) × (moves : List Move)
    × IsTracePrefix version n start moves (marks_due []) prefix
    × (step : Step) × (rest : List ℕ) × BeginsWith version text (Stepped step) rest
    × IsOfMessage step × (GoesOn n start moves step → ⊥)

-- the text is the trace of a run, with this many requests and messages; or this line of it, counted from 1, is the
-- first wrong one
abbrev pub IsVerdict : List ℕ → Verdict → Type 0
IsVerdict text (Valid requests messages) =
    (version : Version) × (n start : ℕ) × (moves : List Move) × IsTraceIn version n start moves text
    × (requests ≡ requests_in (marks_of moves)) × (messages ≡ length (sent_by moves))
IsVerdict text (Invalid line why) =
    (prefix : List Line) × (rest : List ℕ) × (text ≡ flat_map line_text prefix ++ rest)
    × (line ≡ length prefix + 1) × IsWrong prefix rest why

-- the text is the trace of a run whose marks are a run of the lock table
abbrev pub IsTraceOfTableRun : List ℕ → Type 0
IsTraceOfTableRun text =
    (version : Version) × (n start : ℕ) × (moves : List Move) × IsTraceIn version n start moves text
    × (table : LockTable) × TableRun (marks_of moves) table
