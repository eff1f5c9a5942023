-- What `ra draw` does.
use Rattle.std.specs.Prelude.{◌≡◌, ◌≢◌, ◌⊎◌, ℕ, List, [], ◌++◌, length, Option, Some, None, Result, IfOk, IfErr, IsErrOf, string_bytes}
use Rattle.std.specs.Io.KnownBytes.{Appends, Consumes}
use Rattle.ra_trace.specs.declared.mark_log.marks_verdict.MarkCause.{MarkCause}
use Rattle.ra_trace.specs.declared.mark_log.marks_verdict.MarksVerdict.TheVariants as log
use Rattle.ra_trace.specs.declared.checker.verdict.Cause.{Cause}
use Rattle.ra_trace.specs.declared.checker.verdict.Verdict.TheVariants.{Valid, Invalid}
use Rattle.ra_trace.specs.Marks.{IsMarksVerdict}
use Rattle.ra_trace.specs.Verdict.{IsVerdict}
use Rattle.ra_draw.specs.declared.error.DrawError.{DrawError}
use Rattle.ra_draw.specs.declared.error.DrawError.TheVariants.{Read, Limit, NoLines, TooLong, Memory, Write}
use Rattle.ra_text.specs.declared.drawn_part.Part.{Part}
use Rattle.ra_draw.specs.Drawing.{IsDrawable, IsInput, IsOfPart, IsUnfit}
use Rattle.ra_draw.specs.Pictures.{IsPicture}
use Rattle.ra_cli.specs.Checks.{verdict_text, marks_verdict_text}
use Rattle.ra_cli.specs.InputOutput.{StopsBefore}
use Rattle.ra_cli.specs.declared.commands.draw_command.Denial.{Denial}
use Rattle.ra_arguments.specs.declared.command_line.input_kind.InputKind.{InputKind}
use Rattle.ra_arguments.specs.declared.command_line.input_kind.InputKind.TheVariants.{Trace, Marks}

-- the input is of this kind: the trace of a run, or the log of a run of the lock table
abbrev pub IsOfKind : InputKind → (input : List ℕ) → Type 0
IsOfKind Trace input = (requests messages : ℕ) × IsVerdict input (Valid requests messages)
IsOfKind Marks input = (requests grants : ℕ) × IsMarksVerdict input (log.Valid requests grants)

-- the text is the line that says why the input is not of this kind
abbrev pub SaysWhyNot : InputKind → (input text : List ℕ) → Type 0
SaysWhyNot Trace input text =
    (line : ℕ) × (why : Cause) × IsVerdict input (Invalid line why) × (text ≡ verdict_text (Invalid line why))
SaysWhyNot Marks input text =
    (line : ℕ) × (why : MarkCause) × IsMarksVerdict input (log.Invalid line why)
    × (text ≡ marks_verdict_text (log.Invalid line why))

-- ---- What is read and written

-- the input is not of this kind and was read to its end, and only the line that says why was written
abbrev pub IsNotDrawn : InputKind → (old new before after : Option (List ℕ)) → Type 0
IsNotDrawn kind old new before after = (input text : List ℕ) × IsInput old new input × SaysWhyNot kind input text
    × Appends before after text

-- the text is what is printed of the input: a picture of the part if it is of this kind and 1 to 4,096 of its lines are
-- in the part, and the line that says why it is not of this kind otherwise
abbrev pub IsDrawing : InputKind → Part → (input text : List ℕ) → Type 0
IsDrawing kind part input text =
    (IsOfKind kind input × IsDrawable part input × IsPicture part input text) ⊎ SaysWhyNot kind input text

-- Why a part is not drawn. Before it is judged, the whole input is read; it has fewer bytes than may be drawn, or more.
-- If the part is the cause, the input is of this kind, and none of its lines is in the part, or more than 4,096 are.
abbrev pub RefusesPart : InputKind → Part → (old new : Option (List ℕ)) → DrawError → Type 0
RefusesPart kind part old new Read = StopsBefore 16777217 old new
RefusesPart kind part old new Limit = (taken : List ℕ) × (length taken ≡ 16777217) × Consumes old new taken
RefusesPart kind part old new (NoLines lines) = (input : List ℕ) × IsInput old new input × IsOfKind kind input
    × IsUnfit part input (NoLines lines)
RefusesPart kind part old new TooLong = (input : List ℕ) × IsInput old new input × IsOfKind kind input
    × IsUnfit part input TooLong
RefusesPart kind part old new Memory = Unit {0}
RefusesPart kind part old new Write = Unit {0}

-- ---- One attempt

-- the input is of this kind, 1 to 4,096 of its lines are in the part, and a picture of the part was written
abbrev pub Shows : InputKind → Part → (input : List ℕ) → (before after : Option (List ℕ)) → Type 0
Shows kind part input before after = IsOfKind kind input × IsDrawable part input
    × (picture : List ℕ) × IsPicture part input picture × Appends before after picture

-- the outcome of an input: a picture, or a denial that says why none is drawn. `Untouched` says that nothing was
-- written.
abbrev pub ShowsOrDenies : InputKind → Part → (input : List ℕ) → (before after : Option (List ℕ)) → (Untouched : Type 0)
    → Option Denial → Type 0
ShowsOrDenies kind part input before after Untouched None = Shows kind part input before after
ShowsOrDenies kind part input before after Untouched (Some denial) = SaysWhyNot kind input (string_bytes denial.line)
    × Untouched

-- The outcome of an attempt to draw a part. `old` and `new` are what is left in the reader before and after it, and
-- `before` and `after` what the writer contains, if they tell.
pub record Attempts (kind : InputKind) (part : Part) (old new before after : Option (List ℕ)) (Untouched : Type 0)
    (result : Result (Option Denial) DrawError) : Type 0 where
  pub ok : IfOk result
      (λ denial. (input : List ℕ) × IsInput old new input × ShowsOrDenies kind part input before after Untouched denial)
  pub unwritten : IfErr result (λ fault. fault ≢ Write → Untouched)
  pub failed : IsErrOf result Read → StopsBefore 16777217 old new
  pub limit : IsErrOf result Limit → (taken : List ℕ) × (length taken ≡ 16777217) × Consumes old new taken
  pub unfit : IfErr result (λ fault. IsOfPart fault → (input : List ℕ) × IsInput old new input × IsOfKind kind input
      × IsUnfit part input fault)
  pub prefix : IsErrOf result Write → (input prefix rest : List ℕ) × IsInput old new input × IsOfKind kind input
      × IsDrawable part input × IsPicture part input (prefix ++ rest) × (rest ≢ []) × Appends before after prefix
