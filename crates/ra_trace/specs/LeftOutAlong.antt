-- How far a check has come that tells each wrong line of a mark log. No public contract speaks of it.
use Rattle.std.specs.Prelude.{◌≡◌, ◌≢◌, ◌⊎◌, ℕ, ◌+◌, ◌<◌, ◌≤◌, Bool, true, false, List, [], ◌∷◌, ◌++◌, All, Option, Some, None, Result, Ok, Err, IfSome, length, slice_index, take}
use Rattle.std.specs.Io.KnownBytes.{Consumes, IsAtEnd}
use Rattle.std.specs.List.{list_any}
use Rattle.std.specs.Str.{bytes_eq}
use Rattle.ra_stamp.specs.Mark.{entry_of_mark}
use Rattle.ra_stamp.specs.declared.entry.Mark.{Mark}
use Rattle.ra_table.specs.Laws.{AllowsMark}
use Rattle.ra_trace.specs.declared.error.TraceError.{TraceError}
use Rattle.ra_trace.specs.declared.error.TraceError.TheVariants.{Read, Limit, Memory}
use Rattle.ra_trace.specs.declared.line.Line.{Line}
use Rattle.ra_trace.specs.declared.line.Line.TheVariants as line
use Rattle.ra_trace.specs.declared.mark_log.MarkLog.{MarkLog}
use Rattle.ra_trace.specs.declared.mark_log.marks_verdict.MarkCause.{MarkCause}
use Rattle.ra_trace.specs.declared.mark_log.marks_verdict.MarkCause.TheVariants as cause
use Rattle.ra_trace.specs.declared.mark_log.wrong_lines.WrongLine.{WrongLine}
use Rattle.ra_trace.specs.CompleteAlong.{PassesLogBy}
use Rattle.ra_trace.specs.Forms.{BeginsReadable}
use Rattle.ra_trace.specs.LeftOut.{AreWrong, count_at, first_of_each, is_met, same_name}
use Rattle.ra_trace.specs.Marks.{TableRefuses, marks_text}
use Rattle.ra_trace.specs.MarksAlong.{IsLogOf, TakesMark}
use Rattle.ra_trace.specs.NextLine.{TakesBytes}

-- ---- What is kept of wrong lines

-- of these lines the first ones are kept, the names among them, how many there are for each cause, and whether one has
-- no name
pub record AreKept (firsts : List WrongLine) (names : List (List ℕ)) (counts : List ℕ) (has_nameless : Bool)
    (lines : List WrongLine) : Type 0 where
  pub firsts_are : firsts ≡ first_of_each lines
  pub names_are : (name : List ℕ) → list_any (bytes_eq name) names ≡ is_met (Some name) lines
  pub seven : length counts ≡ 7
  pub counts_are : (place : ℕ) → place < 7 → slice_index counts place ≡ count_at place lines
  pub nameless_is : has_nameless ≡ is_met None lines

-- ---- What is read

-- the bytes end with their only line feed, or they have none and end with the input
abbrev pub EndsWhole : (has_feed : Bool) → List ℕ → Option (List ℕ) → Type 0
EndsWhole true bytes new = (before : List ℕ) × All (λ byte. byte ≢ 10) before × (bytes ≡ before ++ 10 ∷ [])
EndsWhole false bytes new = All (λ byte. byte ≢ 10) bytes × IsAtEnd new

-- the bytes up to a line feed, or to the end of the input, of which 128 are kept
abbrev pub ReadsToFeed : ℕ → Option (List ℕ) → Option (List ℕ) → (count : ℕ) → (kept : List ℕ)
    → Result Bool TraceError → Type 0
ReadsToFeed left old new count kept (Ok true) = (before : List ℕ) × All (λ byte. byte ≢ 10) before
    × Consumes old new (before ++ 10 ∷ []) × (count ≡ length before + 1) × (count ≤ left) × (kept ≡ take 128 before)
ReadsToFeed left old new count kept (Ok false) = (bytes : List ℕ) × All (λ byte. byte ≢ 10) bytes
    × Consumes old new bytes × IsAtEnd new × (count ≡ length bytes) × (count ≤ left)
ReadsToFeed left old new count kept (Err Read) = (bytes : List ℕ) × TakesBytes left old new bytes
ReadsToFeed left old new count kept (Err Limit) =
    (bytes : List ℕ) × (byte : ℕ) × Consumes old new (bytes ++ byte ∷ []) × (length bytes ≡ left)
ReadsToFeed left old new count kept (Err Memory) = ⊥

-- the bytes are this line, or with whatever may follow them they do not begin with a line
abbrev pub IsReadAs : (has_feed : Bool) → List ℕ → Option Line → Type 0
IsReadAs has_feed bytes (Some given) = (has_feed ≡ true) × BeginsReadable bytes given []
IsReadAs has_feed bytes None = (more : List ℕ) → (has_feed ≡ false → more ≡ []) → (given : Line) (rest : List ℕ)
    → BeginsReadable (bytes ++ more) given rest → ⊥

-- the next line, of so many bytes, or what is left of the input if that has no line feed
abbrev pub ReadsWhole : ℕ → Option (List ℕ) → Option (List ℕ) → (count : ℕ) → Option Line → Result Bool TraceError
    → Type 0
ReadsWhole left old new count read (Ok has_feed) = (bytes : List ℕ) × (count ≡ length bytes)
    × TakesBytes left old new bytes × EndsWhole has_feed bytes new × IsReadAs has_feed bytes read
ReadsWhole left old new count read (Err Read) = (bytes : List ℕ) × TakesBytes left old new bytes
ReadsWhole left old new count read (Err Limit) =
    (bytes : List ℕ) × (byte : ℕ) × Consumes old new (bytes ++ byte ∷ []) × (length bytes ≡ left)
ReadsWhole left old new count read (Err Memory) = ⊥

-- ---- What is made of a line

-- the name of a line, if it is that of a mark
abbrev pub name_in : Option Line → Option (List ℕ)
name_in (Some (line.Marked mark)) = Some (entry_of_mark mark).name
name_in (Some (line.First version nodes start)) = None
name_in (Some (line.Stepped step)) = None
name_in (Some (line.Sent message)) = None
name_in (Some line.Last) = None
name_in None = None

-- how a mark is taken: its step is made, or the table refuses it and the log stays
abbrev pub TriedMark : MarkLog → Mark → MarkLog → Result (Option MarkCause) TraceError → Type 0
TriedMark old mark new (Ok None) = TakesMark old mark new
TriedMark old mark new (Ok (Some why)) = TableRefuses old.table mark why × (new ≡ old)
TriedMark old mark new (Err fault) = (fault ≡ Memory) × AllowsMark old.table mark

-- what is read is no mark
abbrev pub IsNoMark : Option Line → Type 0
IsNoMark read = (mark : Mark) → read ≡ Some (line.Marked mark) → ⊥

-- why what is read is wrong
abbrev pub IsWrongFor : MarkLog → Option Line → MarkCause → Type 0
IsWrongFor log read why = ((why ≡ cause.Line) × IsNoMark read)
    ⊎ ((mark : Mark) × (read ≡ Some (line.Marked mark)) × TableRefuses log.table mark why)

-- how what is read is judged: it is a mark that is taken, or it is wrong and the log stays
abbrev pub JudgedRead : MarkLog → Option Line → MarkLog → Result (Option MarkCause) TraceError → Type 0
JudgedRead old read new (Ok None) = (mark : Mark) × (read ≡ Some (line.Marked mark)) × TakesMark old mark new
JudgedRead old read new (Ok (Some why)) = IsWrongFor old read why × (new ≡ old)
JudgedRead old read new (Err fault) = fault ≡ Memory

-- what is read is told as the line with this number if it is wrong
abbrev pub AddsWrong : MarkLog → List WrongLine → Option Line → (number : ℕ) → MarkLog → List WrongLine → Type 0
AddsWrong old before read number new after =
    ((mark : Mark) × (read ≡ Some (line.Marked mark)) × TakesMark old mark new × (after ≡ before))
    ⊎ ((why : MarkCause) × IsWrongFor old read why × (new ≡ old)
    × (after ≡ before ++ record { line = number; cause = why; name = name_in read } ∷ []))

-- ---- How far the check has come

-- So many lines were taken, some of which are wrong and were left out, and the log has the others. Whatever the wrong
-- lines of the rest are, after those of the log, they come after these.
pub record IsAlongAll (limit : ℕ) (old now : Option (List ℕ)) (log : MarkLog) (wrong : List WrongLine)
    (lines left : ℕ) : Type 0 where
  pub taken : List ℕ
  pub consumed : Consumes old now taken
  pub room : length taken + left ≡ limit
  pub kept : List Mark
  pub so_far : IsLogOf log kept
  pub lines_is : lines ≡ length kept + length wrong
  pub few : lines ≤ length taken
  pub goes_on : (rest : List ℕ) (others : List WrongLine) (final : List Mark)
      → AreWrong (marks_text kept ++ rest) (length wrong) others final
      → AreWrong (taken ++ rest) 0 (wrong ++ others) final

-- the input is at its end, and these are its wrong lines
pub record IsAllTaken (limit : ℕ) (old new : Option (List ℕ)) (log : MarkLog) (wrong : List WrongLine)
    (lines : ℕ) : Type 0 where
  pub taken : List ℕ
  pub consumed : Consumes old new taken
  pub at_most : length taken ≤ limit
  pub whole : IfSome old (λ input. input ≡ taken)
  pub kept : List Mark
  pub so_far : IsLogOf log kept
  pub lines_is : lines ≡ length kept + length wrong
  pub are_wrong : AreWrong taken 0 wrong kept

-- what each answer says of what was read
abbrev pub LeavesOut : (limit : ℕ) → (old new : Option (List ℕ)) → MarkLog → List WrongLine → Result ℕ TraceError
    → Type 0
LeavesOut limit old new log wrong (Ok lines) = IsAllTaken limit old new log wrong lines
LeavesOut limit old new log wrong (Err Read) = (taken : List ℕ) × Consumes old new taken × (length taken ≤ limit)
LeavesOut limit old new log wrong (Err Limit) = (taken : List ℕ) × Consumes old new taken × (length taken ≡ limit + 1)
LeavesOut limit old new log wrong (Err Memory) = (taken : List ℕ) × Consumes old new taken × (length taken ≤ limit)

-- ---- At the end

-- whether a log passes that has taken the lines which are kept
abbrev pub PassesBy : (demanded : Bool) → MarkLog → List WrongLine → Bool → Type 0
PassesBy demanded log (wrong ∷ others) passes = passes ≡ false
PassesBy demanded log [] passes = PassesLogBy demanded log passes
