-- How far a checker has come in a mark log. No public contract speaks of it.
use Rattle.std.specs.Prelude.{◌≡◌, ◌≢◌, ◌↔◌, ℕ, ◌+◌, ◌-◌, ◌≤◌, List, [], ◌∷◌, ◌++◌, All, Option, Result, Ok, Err, length, IfSome}
use Rattle.std.specs.Io.KnownBytes.{Consumes}
use Rattle.ra_stamp.specs.declared.entry.Mark.{Mark}
use Rattle.ra_table.specs.Table.{LockTable, empty_table, TableStep, TableSteps, TableRun}
use Rattle.ra_table.specs.Laws.{AllowsMark, SameEntries}
use Rattle.ra_world.specs.Quiet.{requests_in}
use Rattle.ra_trace.specs.declared.error.TraceError.{TraceError}
use Rattle.ra_trace.specs.declared.error.TraceError.TheVariants.{Memory}
use Rattle.ra_trace.specs.declared.line.Line.{Line}
use Rattle.ra_trace.specs.declared.line.Line.TheVariants as line
use Rattle.ra_trace.specs.declared.mark_log.MarkLog.{MarkLog}
use Rattle.ra_trace.specs.declared.mark_log.MarkJudgement.{MarkJudgement}
use Rattle.ra_trace.specs.declared.mark_log.MarkJudgement.TheVariants.{Right, End, Wrong}
use Rattle.ra_trace.specs.declared.mark_log.marks_verdict.MarkCause.TheVariants as cause
use Rattle.ra_trace.specs.declared.mark_log.marks_verdict.MarksVerdict.TheVariants.{Valid, Invalid}
use Rattle.ra_trace.specs.declared.line.version.Version.TheVariants.{Three}
use Rattle.ra_trace.specs.TraceText.{IsMarkLine}
use Rattle.ra_trace.specs.Marks.{marks_text, grants_in, IsMarkRun, TableRefuses}
use Rattle.ra_trace.specs.MarksReading.{JudgesMarks, AnswersMarks}

-- the laws of the lock table that mark logs depend on
pub record TableLaws : Type 0 where
  pub empty : TableRun [] empty_table
  pub splits : (prefix rest : List Mark) (a c : LockTable) → TableSteps a (prefix ++ rest) c
      → (b : LockTable) × TableSteps a prefix b × TableSteps b rest c
  pub steps_on : (marks : List Mark) (mark : Mark) (table next : LockTable) → TableRun marks table
      → TableStep table mark next → TableRun (marks ++ mark ∷ []) next
  pub goes_on : (marks : List Mark) (mark : Mark) (table : LockTable) → TableRun marks table
      → AllowsMark table mark ↔ ((next : LockTable) × TableRun (marks ++ mark ∷ []) next)
  pub same : (marks : List Mark) (a b : LockTable) → TableRun marks a → TableRun marks b → SameEntries a b

-- the log after another mark
pub record TakesMark (old : MarkLog) (mark : Mark) (new : MarkLog) : Type 0 where
  pub step : TableStep old.table mark new.table
  pub requests_is : new.requests ≡ old.requests + requests_in (mark ∷ [])
  pub grants_is : new.grants ≡ old.grants + grants_in (mark ∷ [])

-- the log has taken these marks
pub record IsLogOf (log : MarkLog) (marks : List Mark) : Type 0 where
  pub lines : All (IsMarkLine Three) marks
  pub run : TableRun marks log.table
  pub requests_is : log.requests ≡ requests_in marks
  pub grants_is : log.grants ≡ grants_in marks

-- the lines of these marks were taken, and the text may still have this many bytes
pub record IsAlongMarks (limit left : ℕ) (old now : Option (List ℕ)) (log : MarkLog) (number : ℕ) : Type 0 where
  pub marks : List Mark
  pub taken : Consumes old now (marks_text marks)
  pub room : length (marks_text marks) + left ≡ limit
  pub number_is : number ≡ length marks + 1
  pub so_far : IsLogOf log marks

-- how a mark is judged
abbrev pub JudgedMark : MarkLog → Mark → MarkLog → Result MarkJudgement TraceError → Type 0
JudgedMark old mark new (Ok Right) = TakesMark old mark new
JudgedMark old mark new (Ok End) = ⊥
JudgedMark old mark new (Ok (Wrong why)) = TableRefuses old.table mark why
JudgedMark old mark new (Err fault) = (fault ≡ Memory) × AllowsMark old.table mark

-- a line that is not a mark is wrong
abbrev pub JudgedOther : Result MarkJudgement TraceError → Type 0
JudgedOther (Ok Right) = ⊥
JudgedOther (Ok End) = ⊥
JudgedOther (Ok (Wrong why)) = why ≡ cause.Line
JudgedOther (Err fault) = ⊥

-- how a line is judged
abbrev pub JudgedLine : MarkLog → Line → MarkLog → Result MarkJudgement TraceError → Type 0
JudgedLine old (line.First version nodes start) new result = JudgedOther result
JudgedLine old (line.Stepped step) new result = JudgedOther result
JudgedLine old (line.Sent message) new result = JudgedOther result
JudgedLine old (line.Marked mark) new result = JudgedMark old mark new result
JudgedLine old line.Last new result = JudgedOther result

-- what happens at this many bytes that are not a line: the text is at its end, or they are a wrong line
abbrev pub IsMissing : ℕ → MarkJudgement → Type 0
IsMissing count Right = ⊥
IsMissing count End = count ≡ 0
IsMissing count (Wrong why) = (why ≡ cause.Line) × (count ≢ 0)

-- the input, if it is known, is the lines of a run of the lock table, and a line after them would have this number
abbrev pub HasLinesBefore : Option (List ℕ) → ℕ → Type 0
HasLinesBefore old number = IfSome old (λ input.
    (marks : List Mark) × IsMarkRun marks × (input ≡ marks_text marks) × (number ≡ length marks + 1))

-- the log has taken these marks, whose lines are all of the input if that is known
abbrev pub HasTakenLog : Option (List ℕ) → Option (List ℕ) → MarkLog → Type 0
HasTakenLog old new log = (marks : List Mark) × IsLogOf log marks × Consumes old new (marks_text marks)
    × IfSome old (λ input. input ≡ marks_text marks)

-- what happens at the line with this number, of this many bytes: the log has taken it, or the text is at its end, or
-- the line is wrong, or a fault occurred
abbrev pub TurnsMarks : ℕ → ℕ → Option (List ℕ) → Option (List ℕ) → MarkLog → ℕ → ℕ → Result MarkJudgement TraceError
    → Type 0
TurnsMarks limit left old new after number count (Ok Right) =
    IsAlongMarks limit (left - count) old new after (number + 1)
TurnsMarks limit left old new after number count (Ok End) =
    JudgesMarks limit old new (Valid after.requests after.grants) × HasLinesBefore old number
    × HasTakenLog old new after
TurnsMarks limit left old new after number count (Ok (Wrong why)) = JudgesMarks limit old new (Invalid number why)
TurnsMarks limit left old new after number count (Err fault) = AnswersMarks limit old new (Err fault)

-- a line of a mark has at least one byte, and no more than the text may still have
abbrev pub SomeMarkTaken : ℕ → ℕ → MarkJudgement → Type 0
SomeMarkTaken left count Right = (1 ≤ count) × (count ≤ left)
SomeMarkTaken left count End = Unit {0}
SomeMarkTaken left count (Wrong why) = Unit {0}
