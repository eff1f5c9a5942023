-- How far a checker reads a mark log: the lines of a run of the lock table, and of what follows them no more than shows
-- that the next line is over.
use Rattle.std.specs.Prelude.{◌≡◌, ◌⊎◌, ℕ, ◌+◌, ◌≤◌, List, [], ◌∷◌, ◌++◌, Option, Result, Ok, Err, length}
use Rattle.std.specs.Io.KnownBytes.{Consumes, IsAtEnd}
use Rattle.ra_stamp.specs.declared.entry.Mark.{Mark}
use Rattle.ra_world.specs.Quiet.{requests_in}
use Rattle.ra_trace.specs.declared.error.TraceError.{TraceError}
use Rattle.ra_trace.specs.declared.error.TraceError.TheVariants.{Read, Limit, Memory}
use Rattle.ra_trace.specs.declared.mark_log.marks_verdict.MarksVerdict.{MarksVerdict}
use Rattle.ra_trace.specs.declared.mark_log.marks_verdict.MarksVerdict.TheVariants.{Valid, Invalid}
use Rattle.ra_trace.specs.Marks.{marks_text, grants_in, IsMarkRun, IsWrongMark}
use Rattle.ra_trace.specs.Reading.{IsOpenLine}
use Rattle.ra_trace.specs.NextLine.{IsOverLine}

-- what was taken of the input: the lines of these marks, a run of the lock table, and these bytes after them
pub record HasReadMarks (limit : ℕ) (old new : Option (List ℕ)) (marks : List Mark) (rest : List ℕ) : Type 0 where
  pub taken : Consumes old new (marks_text marks ++ rest)
  pub at_most : length (marks_text marks ++ rest) ≤ limit
  pub run : IsMarkRun marks

-- what these marks and bytes show
abbrev pub ShowsMarks : List Mark → List ℕ → MarksVerdict → Type 0
ShowsMarks marks rest (Valid requests grants) =
    (rest ≡ []) × (requests ≡ requests_in marks) × (grants ≡ grants_in marks)
ShowsMarks marks rest (Invalid line why) = (line ≡ length marks + 1) × IsWrongMark marks rest why

-- a verdict on what was read; it comes when a line is over, or when the input is at its end
abbrev pub JudgesMarks : ℕ → Option (List ℕ) → Option (List ℕ) → MarksVerdict → Type 0
JudgesMarks limit old new verdict =
    (marks : List Mark) × (rest : List ℕ) × HasReadMarks limit old new marks rest
    × (IsOverLine rest ⊎ (IsOpenLine rest × IsAtEnd new)) × ShowsMarks marks rest verdict

-- no verdict was reached: what was read does not end the line that comes next
abbrev pub ReadsOnMarks : ℕ → Option (List ℕ) → Option (List ℕ) → Type 0
ReadsOnMarks limit old new =
    (marks : List Mark) × (rest : List ℕ) × HasReadMarks limit old new marks rest × IsOpenLine rest

-- no verdict was reached within the limit, and another byte came
abbrev pub PassesMarksLimit : ℕ → Option (List ℕ) → Option (List ℕ) → Type 0
PassesMarksLimit limit old new =
    (marks : List Mark) × (rest : List ℕ) × (byte : ℕ) × HasReadMarks (limit + 1) old new marks (rest ++ byte ∷ [])
    × (length (marks_text marks ++ rest) ≡ limit) × IsOpenLine rest

-- no verdict was reached: what was read are the lines of a run of the lock table, and nothing after them
abbrev pub StopsAfterMarks : ℕ → Option (List ℕ) → Option (List ℕ) → Type 0
StopsAfterMarks limit old new =
    (marks : List Mark) × IsMarkRun marks × Consumes old new (marks_text marks) × (length (marks_text marks) ≤ limit)

-- what each answer says of what was read
abbrev pub AnswersMarks : ℕ → Option (List ℕ) → Option (List ℕ) → Result MarksVerdict TraceError → Type 0
AnswersMarks limit old new (Ok verdict) = JudgesMarks limit old new verdict
AnswersMarks limit old new (Err Read) = ReadsOnMarks limit old new
AnswersMarks limit old new (Err Limit) = PassesMarksLimit limit old new
AnswersMarks limit old new (Err Memory) = StopsAfterMarks limit old new
