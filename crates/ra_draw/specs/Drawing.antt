-- What is drawn of an input, and when.
use Rattle.std.specs.Prelude.{◌≡◌, ◌≢◌, ◌⊎◌, ℕ, ◌<◌, ◌≤◌, List, [], ◌++◌, Option, Result, Ok, length, IfOk, IfErr, IsErrOf}
use Rattle.std.specs.Io.KnownBytes.{Appends, Consumes}
use Rattle.ra_text.specs.Input.{Reads}
use Rattle.ra_trace.specs.declared.error.TraceError.{TraceError}
use Rattle.ra_trace.specs.declared.error.TraceError.TheVariants as trace
use Rattle.ra_trace.specs.declared.mark_log.marks_verdict.MarksVerdict.{MarksVerdict}
use Rattle.ra_trace.specs.declared.mark_log.marks_verdict.MarksVerdict.TheVariants as log
use Rattle.ra_trace.specs.declared.checker.verdict.Verdict.{Verdict}
use Rattle.ra_trace.specs.declared.checker.verdict.Verdict.TheVariants.{Valid, Invalid}
use Rattle.ra_trace.specs.Marks.{IsMarksVerdict}
use Rattle.ra_trace.specs.Verdict.{IsVerdict}
use Rattle.ra_draw.specs.declared.error.DrawError.{DrawError}
use Rattle.ra_draw.specs.declared.error.DrawError.TheVariants.{Read, Limit, NoLines, TooLong, Memory, Write}
use Rattle.ra_text.specs.declared.drawn_part.Part.{Part}
use Rattle.ra_draw.specs.Lines.{line_count}
use Rattle.ra_draw.specs.Pictures.{IsPicture}
use Rattle.ra_text.specs.DrawnPart.{lines_between}

-- the refusal that one of a check becomes
abbrev pub of_trace : TraceError → DrawError
of_trace trace.Read = Read
of_trace trace.Limit = Limit
of_trace trace.Memory = Memory

-- the most lines that are drawn: 4,096
abbrev pub line_limit : ℕ
line_limit = 4096

-- how many lines of the text are in the part
abbrev pub drawn_lines : Part → List ℕ → ℕ
drawn_lines part text = lines_between part.from part.to (line_count text)

-- the part has a line of the text, and at most 4,096
abbrev pub IsDrawable : Part → List ℕ → Type 0
IsDrawable part text = (1 ≤ drawn_lines part text) × (drawn_lines part text ≤ line_limit)

-- the input was read to its end, and has at most 16,777,216 bytes
pub record IsInput (old new : Option (List ℕ)) (input : List ℕ) : Type 0 where
  pub reads : Reads old new 16777217 input
  pub at_most : length input ≤ 16777216

-- the refusal is about the part
abbrev pub IsOfPart : DrawError → Type 0
IsOfPart fault = ((lines : ℕ) × (fault ≡ NoLines lines)) ⊎ (fault ≡ TooLong)

-- why the part is not drawn: it has none of the lines of the text, which the refusal counts, or more than 4,096
abbrev pub IsUnfit : Part → List ℕ → DrawError → Type 0
IsUnfit part text fault = ((fault ≡ NoLines (line_count text)) × (drawn_lines part text ≡ 0))
    ⊎ ((fault ≡ TooLong) × (line_limit < drawn_lines part text))

-- a picture of the part, which has 1 to 4,096 lines, was written
abbrev pub DrawsPicture : Part → List ℕ → (before after : Option (List ℕ)) → Type 0
DrawsPicture part input before after =
    IsDrawable part input × (picture : List ℕ) × IsPicture part input picture × Appends before after picture

-- what is drawn if this is the verdict on the input: a picture if it is a trace, and otherwise nothing
abbrev pub Draws : Part → List ℕ → (before after : Option (List ℕ)) → Verdict → Type 0
Draws part input before after (Valid requests messages) = DrawsPicture part input before after
Draws part input before after (Invalid line why) = Appends before after []

-- what is drawn if this is the verdict on the input as a mark log: a picture if its marks are a run of the lock table,
-- and otherwise nothing
abbrev pub DrawsMarks : Part → List ℕ → (before after : Option (List ℕ)) → MarksVerdict → Type 0
DrawsMarks part input before after (log.Valid requests grants) = DrawsPicture part input before after
DrawsMarks part input before after (log.Invalid line why) = Appends before after []

-- The outcome of an attempt to draw a part of an input, for any kind of text. A kind has its verdicts on an input,
-- `valid_of` and `invalid_of` make those on one that is of the kind and on one that is not, and `Shows` says what is
-- drawn for each. `old` and `new` are what is left in the reader before and after the attempt, and `before` and `after`
-- what the writer contains, if they tell. `Untouched` says that the writer is as before, and `kept` is the text that
-- the caller has afterwards.
pub record DrawsPart {V Why : Type 0} (IsVerdictOn : List ℕ → V → Type 0) (valid_of : ℕ → ℕ → V)
    (invalid_of : ℕ → Why → V)
    (Shows : Part → List ℕ → Option (List ℕ) → Option (List ℕ) → V → Type 0) (part : Part)
    (old new before after : Option (List ℕ))
    (Untouched : Type 0) (kept : List ℕ) (result : Result V DrawError) : Type 0 where
  -- the verdict is the verdict on the whole input; a picture is written exactly if the input is of the kind, and
  -- nothing else is written
  pub ok : IfOk result (λ verdict. (input : List ℕ) × IsInput old new input × IsVerdictOn input verdict
      × Shows part input before after verdict)
  pub invalid : (line : ℕ) (why : Why) → result ≡ Ok (invalid_of line why) → Untouched
  -- the caller has the whole input
  pub text : IfOk result (λ verdict. IsInput old new kept × IsVerdictOn kept verdict)
  -- how much was read before a refusal
  pub failed : IsErrOf result Read → (taken : List ℕ) × (length taken ≤ 16777216) × Consumes old new taken
  pub limit : IsErrOf result Limit → (taken : List ℕ) × (length taken ≡ 16777217) × Consumes old new taken
  -- the input is of the kind, and the part of it cannot be drawn
  pub unfit : IfErr result (λ fault. IsOfPart fault → (input : List ℕ) × (m n : ℕ) × IsInput old new input
      × IsVerdictOn input (valid_of m n) × IsUnfit part input fault)
  -- however it ends, no more than this was read
  pub at_most : (taken : List ℕ) × (length taken ≤ 16777217) × Consumes old new taken
  pub unwritten : IfErr result (λ fault. fault ≢ Write → Untouched)
  -- a fault of the writer comes only in a picture of the part, with something left to write
  pub prefix : IsErrOf result Write → (input : List ℕ) × (m n : ℕ) × (prefix rest : List ℕ) × IsInput old new input
      × IsVerdictOn input (valid_of m n) × IsDrawable part input × IsPicture part input (prefix ++ rest) × (rest ≢ [])
      × Appends before after prefix

-- the outcome of an attempt to draw a trace
abbrev pub DrawsTrace : Part → (old new before after : Option (List ℕ)) → (Untouched : Type 0) → (kept : List ℕ)
    → Result Verdict DrawError → Type 0
DrawsTrace = DrawsPart IsVerdict Valid Invalid Draws

-- the outcome of an attempt to draw a mark log
abbrev pub DrawsLog : Part → (old new before after : Option (List ℕ)) → (Untouched : Type 0) → (kept : List ℕ)
    → Result MarksVerdict DrawError → Type 0
DrawsLog = DrawsPart IsMarksVerdict log.Valid log.Invalid DrawsMarks
