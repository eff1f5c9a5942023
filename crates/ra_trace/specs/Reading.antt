-- How far a checker reads: whole lines that are right, and of what follows them no more than shows that the next line
-- is over.
use Rattle.std.specs.Prelude.{◌≡◌, ◌≢◌, ◌⊎◌, ℕ, ◌+◌, ◌<◌, ◌≤◌, List, [], ◌∷◌, ◌++◌, All, Option, Result, Ok, Err, flat_map, length}
use Rattle.std.specs.Io.KnownBytes.{Consumes, IsAtEnd}
use Rattle.ra_world.specs.Traffic.{Move}
use Rattle.ra_trace.specs.declared.error.TraceError.{TraceError}
use Rattle.ra_trace.specs.declared.error.TraceError.TheVariants.{Read, Limit, Memory}
use Rattle.ra_trace.specs.declared.line.Line.{Line}
use Rattle.ra_trace.specs.declared.checker.verdict.Verdict.{Verdict}
use Rattle.ra_trace.specs.declared.checker.verdict.Verdict.TheVariants.{Valid, Invalid}
use Rattle.ra_trace.specs.declared.line.version.Version.{Version}
use Rattle.ra_trace.specs.TraceText.{IsTraceIn, line_text, trace_lines}
use Rattle.ra_trace.specs.Verdict.{Due, IsTracePrefix, IsWrong, IsVerdict}

-- the lines are the lines of a whole trace
abbrev pub IsWhole : List Line → Type 0
IsWhole prefix =
    (version : Version) × (n start : ℕ) × (moves : List Move)
    × IsTraceIn version n start moves (flat_map line_text prefix)
    × (prefix ≡ trace_lines version n start moves)

-- the lines are the lines of a prefix of a trace: the last one has not come
abbrev pub HasBegun : List Line → Type 0
HasBegun prefix = (version : Version) × (n start : ℕ) × (moves : List Move) × (due : Due)
    × IsTracePrefix version n start moves due prefix

-- no line yet, or the lines of a prefix of a trace, or of a whole one
abbrev pub AreRight : List Line → Type 0
AreRight prefix = (prefix ≡ []) ⊎ HasBegun prefix ⊎ IsWhole prefix

-- bytes of a line that is not over: no line feed is among them, and there are fewer than 128
abbrev pub IsOpenLine : List ℕ → Type 0
IsOpenLine bytes = All (λ byte. byte ≢ 10) bytes × (length bytes < 128)

-- after these lines, these bytes do not end a line, and nothing follows the last line
abbrev pub IsOpen : List Line → List ℕ → Type 0
IsOpen prefix rest = IsOpenLine rest × (IsWhole prefix → rest ≡ [])

-- what follows these lines is over with its last byte, and not before: with its line feed, with its 128th byte, or with
-- the first byte after the last line
abbrev pub IsOver : List Line → List ℕ → Type 0
IsOver prefix rest =
    (before : List ℕ) × (byte : ℕ) × IsOpen prefix before × (rest ≡ before ++ byte ∷ [])
    × ((byte ≡ 10) ⊎ (length rest ≡ 128) ⊎ IsWhole prefix)

-- what was taken of the input: these lines, which are right, and these bytes after them
pub record HasRead (limit : ℕ) (old new : Option (List ℕ)) (prefix : List Line) (rest : List ℕ) : Type 0 where
  pub taken : Consumes old new (flat_map line_text prefix ++ rest)
  pub at_most : length (flat_map line_text prefix ++ rest) ≤ limit
  pub right : AreRight prefix

-- what these lines and bytes show
abbrev pub Shows : List Line → List ℕ → Verdict → Type 0
Shows prefix rest (Valid requests messages) =
    (rest ≡ []) × IsVerdict (flat_map line_text prefix) (Valid requests messages)
Shows prefix rest (Invalid line why) = (line ≡ length prefix + 1) × IsWrong prefix rest why

-- a verdict on what was read; it comes when a line is over, or when the input is at its end
abbrev pub Judges : ℕ → Option (List ℕ) → Option (List ℕ) → Verdict → Type 0
Judges limit old new verdict =
    (prefix : List Line) × (rest : List ℕ) × HasRead limit old new prefix rest
    × (IsOver prefix rest ⊎ (IsOpen prefix rest × IsAtEnd new)) × Shows prefix rest verdict

-- no verdict was reached: what was read does not end the line that comes next
abbrev pub ReadsOn : ℕ → Option (List ℕ) → Option (List ℕ) → Type 0
ReadsOn limit old new = (prefix : List Line) × (rest : List ℕ) × HasRead limit old new prefix rest × IsOpen prefix rest

-- no verdict was reached within the limit, and another byte came
abbrev pub PassesLimit : ℕ → Option (List ℕ) → Option (List ℕ) → Type 0
PassesLimit limit old new =
    (prefix : List Line) × (rest : List ℕ) × (byte : ℕ) × HasRead (limit + 1) old new prefix (rest ++ byte ∷ [])
    × (length (flat_map line_text prefix ++ rest) ≡ limit) × IsOpen prefix rest

-- no verdict was reached: what was read are whole lines that are right, the first line of a trace at least, and not the
-- last
abbrev pub StopsAfter : ℕ → Option (List ℕ) → Option (List ℕ) → Type 0
StopsAfter limit old new =
    (prefix : List Line) × HasBegun prefix × Consumes old new (flat_map line_text prefix)
    × (length (flat_map line_text prefix) ≤ limit)

-- what each answer says of what was read
abbrev pub Answers : ℕ → Option (List ℕ) → Option (List ℕ) → Result Verdict TraceError → Type 0
Answers limit old new (Ok verdict) = Judges limit old new verdict
Answers limit old new (Err Read) = ReadsOn limit old new
Answers limit old new (Err Limit) = PassesLimit limit old new
Answers limit old new (Err Memory) = StopsAfter limit old new
