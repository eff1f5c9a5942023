-- Traces: a run, written down line by line, in one of three versions, the last of them with or without what is sent. A
-- line is words with one space between two, and a line feed at its end. Numbers are decimal, without leading zeros.
use Rattle.std.specs.Prelude.{◌≡◌, ℕ, ◌<◌, ◌≤◌, ◌^◌, Bool, true, false, if◌then◌else◌, List, ◌∷◌, [], ◌++◌, All, codes, decimal, map, flat_map}
use Rattle.ra_stamp.specs.Name.{IsName}
use Rattle.ra_stamp.specs.NodeId.{IsNodeNumber}
use Rattle.ra_stamp.specs.declared.entry.Entry.{Entry}
use Rattle.ra_stamp.specs.declared.entry.Mark.{Mark}
use Rattle.ra_stamp.specs.declared.entry.Mark.TheVariants.{Requested, Entered, Left, Withdrawn}
use Rattle.ra_stamp.specs.declared.message.Message.{Message}
use Rattle.ra_stamp.specs.declared.message.Message.TheVariants.{Request, Reply}
use Rattle.ra_world.specs.declared.step.Step.{Step}
use Rattle.ra_world.specs.declared.step.Step.TheVariants.{Ask, Leave, Cancel, Deliver, Lose, Repeat, Forget}
use Rattle.ra_world.specs.Traffic.{Move}
use Rattle.ra_world.specs.Run.{IsRun}
use Rattle.ra_stamp.specs.Mode.{mode_word}
use Rattle.ra_text.specs.Lines.{field, mark_line, message_fields}
use Rattle.ra_trace.specs.declared.line.Line.{Line}
use Rattle.ra_trace.specs.declared.line.Line.TheVariants.{First, Stepped, Sent, Marked, Last}
use Rattle.ra_trace.specs.declared.line.version.Version.{Version}
use Rattle.ra_trace.specs.declared.line.version.Version.TheVariants.{One, Two, Three, ThreeWithSends}
use Rattle.ra_trace.specs.Version.{version_word, first_end, IsNodeIn, IsModeIn, MayRepeat, MayCancel, TellsSends}

-- the line of a step: its word, and then the fields of the client's step or of the message
abbrev pub step_line : Step → List ℕ
step_line (Ask node client name mode) =
    codes "ask" ++ field (decimal node) ++ field (decimal client) ++ field name ++ field (mode_word mode) ++ codes "\n"
step_line (Leave node client name) =
    codes "release" ++ field (decimal node) ++ field (decimal client) ++ field name ++ codes "\n"
step_line (Cancel node client name) =
    codes "cancel" ++ field (decimal node) ++ field (decimal client) ++ field name ++ codes "\n"
step_line (Deliver message) = codes "deliver" ++ message_fields message ++ codes "\n"
step_line (Lose message) = codes "lose" ++ message_fields message ++ codes "\n"
step_line (Repeat message) = codes "repeat" ++ message_fields message ++ codes "\n"
step_line (Forget node) = codes "forget" ++ field (decimal node) ++ codes "\n"

-- the line of a message that a step sends
abbrev pub send_line : Message → List ℕ
send_line message = codes "send" ++ message_fields message ++ codes "\n"

-- a line as it is written; the first one says the version, how many nodes there are, the number with which each
-- resource begins, and in version 3 whether the trace has sends
abbrev pub line_text : Line → List ℕ
line_text (First version nodes start) =
    codes "trace" ++ field (version_word version) ++ field (decimal nodes) ++ field (decimal start)
    ++ (first_end version ++ codes "\n")
line_text (Stepped step) = step_line step
line_text (Sent message) = send_line message
line_text (Marked mark) = mark_line mark
line_text Last = codes "end\n"

-- the number of a client is below 2^32
abbrev pub IsClientNumber : ℕ → Type 0
IsClientNumber client = client < 2 ^ 32

-- the number of a request is 1 to 2^64-1
abbrev pub IsSeq : ℕ → Type 0
IsSeq seq = (1 ≤ seq) × (seq < 2 ^ 64)

-- each field of a request is in its range in this version
abbrev pub IsEntryLine : Version → Entry → Type 0
IsEntryLine version entry =
    IsNodeIn version entry.stamp.node × IsClientNumber entry.client × IsName entry.name × IsModeIn version entry.mode
    × IsSeq entry.stamp.seq

-- each field of a mark is in its range in this version, and only version 3 has a withdrawal
abbrev pub IsMarkLine : Version → Mark → Type 0
IsMarkLine version (Requested entry) = IsEntryLine version entry
IsMarkLine version (Entered entry) = IsEntryLine version entry
IsMarkLine version (Left entry) = IsEntryLine version entry
IsMarkLine version (Withdrawn entry) = MayCancel version × IsEntryLine version entry

-- each field of a message is in its range in this version
abbrev pub IsMessageLine : Version → Message → Type 0
IsMessageLine version (Request from to name mode seq) =
    IsNodeIn version from × IsNodeIn version to × IsName name × IsModeIn version mode × IsSeq seq
IsMessageLine version (Reply from to name seq) = IsNodeIn version from × IsNodeIn version to × IsName name × IsSeq seq

-- each field of a step is in its range in this version, which has a repeat from version 2 on, and a cancel and to
-- forget in version 3
abbrev pub IsStepLine : Version → Step → Type 0
IsStepLine version (Ask node client name mode) =
    IsNodeIn version node × IsClientNumber client × IsName name × IsModeIn version mode
IsStepLine version (Leave node client name) = IsNodeIn version node × IsClientNumber client × IsName name
IsStepLine version (Cancel node client name) =
    MayCancel version × IsNodeIn version node × IsClientNumber client × IsName name
IsStepLine version (Deliver message) = IsMessageLine version message
IsStepLine version (Lose message) = IsMessageLine version message
IsStepLine version (Repeat message) = MayRepeat version × IsMessageLine version message
IsStepLine version (Forget node) = MayCancel version × IsNodeIn version node

-- a line that a trace of this version may have, each of its fields in its range; the first line names the version
abbrev pub IsLine : Version → Line → Type 0
IsLine version (First named nodes start) = (named ≡ version) × IsNodeIn version nodes × (start < 2 ^ 64)
IsLine version (Stepped step) = IsStepLine version step
IsLine version (Sent message) = TellsSends version × IsMessageLine version message
IsLine version (Marked mark) = IsMarkLine version mark
IsLine version Last = Unit {0}

-- the lines of the messages that a step sends, if the version tells them
abbrev pub sent_lines : Version → List Message → List Line
sent_lines One sends = []
sent_lines Two sends = []
sent_lines Three sends = []
sent_lines ThreeWithSends sends = map Sent sends

-- the lines of a step, of what it sends and of its marks, in order
abbrev pub move_lines : Version → Move → List Line
move_lines version move = Stepped move.step ∷ sent_lines version move.sends ++ map Marked move.marks

-- all lines of a trace: the first, the lines of each move in order, and the last
abbrev pub trace_lines : Version → ℕ → ℕ → List Move → List Line
trace_lines version n start moves = First version n start ∷ flat_map (move_lines version) moves ++ Last ∷ []

-- the only text in this version for this many nodes, this start value and these moves
abbrev pub trace_text : Version → ℕ → ℕ → List Move → List ℕ
trace_text version n start moves = flat_map line_text (trace_lines version n start moves)

-- the text is the trace in this version of these moves, which are a run, each field in its range
pub record IsTraceIn (version : Version) (n start : ℕ) (moves : List Move) (text : List ℕ) : Type 0 where
  pub count : IsNodeNumber n
  pub run : IsRun n start moves
  pub lines : All (IsLine version) (trace_lines version n start moves)
  pub text_is : text ≡ trace_text version n start moves

-- whether only version 3 has the step: a client gives up, or a node forgets
abbrev pub needs_third : Step → Bool
needs_third (Ask node client name mode) = false
needs_third (Leave node client name) = false
needs_third (Cancel node client name) = true
needs_third (Deliver message) = false
needs_third (Lose message) = false
needs_third (Repeat message) = false
needs_third (Forget node) = true

-- the version in which a run of these steps is written without sends: version 2 if it has words for all of them, and
-- otherwise 3
abbrev pub plain_version : List Step → Version
plain_version [] = Two
plain_version (step ∷ steps) = if needs_third step then Three else plain_version steps

-- The text is the trace of these moves without what is sent, in version 2 or 3, as their steps need. Traces of each
-- version are read, and this is the one that is written.
abbrev pub IsTrace : ℕ → ℕ → List Move → List ℕ → Type 0
IsTrace n start moves text = IsTraceIn (plain_version (map (λ (move : Move). move.step) moves)) n start moves text

-- the text begins with a line of this version, and this is what follows
abbrev pub BeginsWith : Version → List ℕ → Line → List ℕ → Type 0
BeginsWith version text line rest = IsLine version line × (text ≡ line_text line ++ rest)
