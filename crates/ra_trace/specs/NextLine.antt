-- What is read of the next line. Public contracts state no more than when a line is over.
use Rattle.std.specs.Prelude.{◌≡◌, ◌≢◌, ◌⊎◌, ℕ, ◌≤◌, Bool, true, false, List, [], ◌∷◌, ◌++◌, All, Option, Some, None, Result, Ok, Err, length, take}
use Rattle.std.specs.Io.KnownBytes.{Consumes, IsAtEnd}
use Rattle.ra_world.specs.Quiet.{requests_in}
use Rattle.ra_world.specs.Run.{marks_of}
use Rattle.ra_world.specs.Traffic.{sent_by}
use Rattle.ra_trace.specs.declared.error.TraceError.{TraceError}
use Rattle.ra_trace.specs.declared.error.TraceError.TheVariants.{Read, Limit, Memory}
use Rattle.ra_trace.specs.declared.checker.Checker.{Checker}
use Rattle.ra_trace.specs.declared.line.Line.{Line}
use Rattle.ra_trace.specs.declared.checker.verdict.Cause.TheVariants as cause
use Rattle.ra_trace.specs.declared.checker.verdict.Verdict.{Verdict}
use Rattle.ra_trace.specs.declared.checker.verdict.Verdict.TheVariants.{Valid, Invalid}
use Rattle.ra_trace.specs.declared.line_source.byte_lines.LineEnd.{LineEnd}
use Rattle.ra_trace.specs.declared.line_source.byte_lines.LineEnd.TheVariants.{Feed, Length, Input}
use Rattle.ra_trace.specs.Forms.{BeginsReadable}
use Rattle.ra_trace.specs.Reading.{IsOpenLine}

-- the bytes end like this: with a line feed, with the 128th byte and no line feed, or with the input
abbrev pub EndsSo : LineEnd → List ℕ → Option (List ℕ) → Type 0
EndsSo Feed bytes new = (before : List ℕ) × IsOpenLine before × (bytes ≡ before ++ 10 ∷ [])
EndsSo Length bytes new = All (λ byte. byte ≢ 10) bytes × (length bytes ≡ 128)
EndsSo Input bytes new = IsOpenLine bytes × IsAtEnd new

-- these bytes were taken, at most as many as the text may still have
abbrev pub TakesBytes : ℕ → Option (List ℕ) → Option (List ℕ) → List ℕ → Type 0
TakesBytes left old new bytes = Consumes old new bytes × (length bytes ≤ left)

-- the reader failed, or one byte more came than the text may still have, before the line was over
abbrev pub FailsWithin : ℕ → Option (List ℕ) → Option (List ℕ) → List ℕ → TraceError → Type 0
FailsWithin left old new bytes Read = TakesBytes left old new bytes × IsOpenLine bytes
FailsWithin left old new bytes Limit =
    (byte : ℕ) × Consumes old new (bytes ++ byte ∷ []) × (length bytes ≡ left) × IsOpenLine bytes
FailsWithin left old new bytes Memory = ⊥

-- what was read of the next line
abbrev pub ReadsLine : ℕ → Option (List ℕ) → Option (List ℕ) → List ℕ → Result LineEnd TraceError → Type 0
ReadsLine left old new bytes (Ok end) = TakesBytes left old new bytes × EndsSo end bytes new
ReadsLine left old new bytes (Err fault) = FailsWithin left old new bytes fault

-- these bytes end with the only line feed among them, or have no line feed
abbrev pub EndsPart : List ℕ → Bool → Type 0
EndsPart part true = (before : List ℕ) × All (λ byte. byte ≢ 10) before × (part ≡ before ++ 10 ∷ [])
EndsPart part false = All (λ byte. byte ≢ 10) part

-- this many of these bytes belong to one line, and no more than allowed
abbrev pub IsPart : ℕ → List ℕ → ℕ → Bool → Type 0
IsPart most shown count is_over = (count ≤ length shown) × (count ≤ most) × EndsPart (take count shown) is_over

-- the line is over with its last byte, which is its line feed or its 128th byte
abbrev pub IsOverLine : List ℕ → Type 0
IsOverLine bytes =
    (before : List ℕ) × (byte : ℕ) × IsOpenLine before × (bytes ≡ before ++ byte ∷ [])
    × ((byte ≡ 10) ⊎ (length bytes ≡ 128))

-- the bytes do not begin with a line, and will not, whatever follows them
abbrev pub HasNone : List ℕ → Option (List ℕ) → Type 0
HasNone bytes new =
    ((line : Line) (rest : List ℕ) → BeginsReadable bytes line rest → ⊥)
    × (IsOverLine bytes ⊎ (IsOpenLine bytes × IsAtEnd new))

-- which line these bytes are, or that they are not one
abbrev pub ReadsNext : ℕ → Option (List ℕ) → Option (List ℕ) → List ℕ → Result (Option Line) TraceError → Type 0
ReadsNext left old new bytes (Ok (Some line)) =
    TakesBytes left old new bytes × BeginsReadable bytes line [] × EndsSo Feed bytes new
ReadsNext left old new bytes (Ok None) = TakesBytes left old new bytes × HasNone bytes new
ReadsNext left old new bytes (Err fault) = FailsWithin left old new bytes fault

-- which line was read, of how many bytes, or that a fault came
abbrev pub ReadsSome : ℕ → Option (List ℕ) → Option (List ℕ) → ℕ → Option Line → Result (Unit {0}) TraceError → Type 0
ReadsSome left old new count line (Ok read) =
    (bytes : List ℕ) × (length bytes ≡ count) × ReadsNext left old new bytes (Ok line)
ReadsSome left old new count line (Err fault) = (bytes : List ℕ) × ReadsNext left old new bytes (Err fault)

-- What follows the last line of a trace whose run the checker knows: nothing, or one byte, which would begin the line
-- of this number.
abbrev pub EndsText : ℕ → Option (List ℕ) → Option (List ℕ) → Checker → ℕ → Result Verdict TraceError → Type 0
EndsText left old new checker number (Ok (Valid requests messages)) =
    Consumes old new [] × IsAtEnd new × (requests ≡ requests_in (marks_of checker.world.moves))
    × (messages ≡ length (sent_by checker.world.moves))
EndsText left old new checker number (Ok (Invalid line why)) =
    (byte : ℕ) × (1 ≤ left) × Consumes old new (byte ∷ []) × (line ≡ number) × (why ≡ cause.Line)
EndsText left old new checker number (Err Read) = FailsWithin left old new [] Read
EndsText left old new checker number (Err Limit) = FailsWithin left old new [] Limit
EndsText left old new checker number (Err Memory) = ⊥
