-- Whether a text passes a check that may demand that it is complete: something was requested, and at its end nothing is
-- left to do.
use Rattle.std.specs.Prelude.{◌≡◌, ◌==◌, ◌&&◌, ℕ, Bool, true, false, List, All, Option, Result, IfOk, IfSome, length, nat_lt}
use Rattle.std.specs.Io.KnownBytes.{Consumes}
use Rattle.ra_stamp.specs.declared.entry.Mark.{Mark}
use Rattle.ra_stamp.specs.declared.message.Message.{Message}
use Rattle.ra_table.specs.Idle.{is_idle}
use Rattle.ra_table.specs.Table.{LockTable, TableRun}
use Rattle.ra_world.specs.Quiet.{requests_in}
use Rattle.ra_world.specs.Run.{marks_of}
use Rattle.ra_world.specs.Traffic.{LeavesUnderWay, Move}
use Rattle.ra_world.specs.World.{AreQueued}
use Rattle.ra_trace.specs.declared.checker.verdict.Verdict.{Verdict}
use Rattle.ra_trace.specs.declared.checker.verdict.Verdict.TheVariants as traces
use Rattle.ra_trace.specs.declared.error.TraceError.{TraceError}
use Rattle.ra_trace.specs.declared.line.version.Version.{Version}
use Rattle.ra_trace.specs.declared.line.version.Version.TheVariants.{Three}
use Rattle.ra_trace.specs.declared.mark_log.marks_verdict.MarksVerdict.{MarksVerdict}
use Rattle.ra_trace.specs.declared.mark_log.marks_verdict.MarksVerdict.TheVariants as logs
use Rattle.ra_trace.specs.Marks.{IsMarksVerdict, marks_text}
use Rattle.ra_trace.specs.TraceText.{IsMarkLine, IsTraceIn}
use Rattle.ra_trace.specs.Verdict.{IsVerdict}

-- ---- mark logs

-- something was requested, and in this table, after the marks, no entry waits or holds
abbrev pub are_complete : List Mark → LockTable → Bool
are_complete marks table = nat_lt 0 (requests_in marks) && is_idle table

-- whether the marks are complete, by the table to which they lead
abbrev pub AreComplete : List Mark → Bool → Type 0
AreComplete marks complete = (table : LockTable) × TableRun marks table × (complete ≡ are_complete marks table)

-- whether a log that is a run passes: if nothing is demanded it does, and otherwise if it is complete
abbrev pub PassesLog : (demanded : Bool) → List ℕ → Bool → Type 0
PassesLog false text passes = passes ≡ true
PassesLog true text passes =
    (marks : List Mark) × All (IsMarkLine Three) marks × (text ≡ marks_text marks) × AreComplete marks passes

-- whether a text with this verdict passes
abbrev pub MeetsLog : (demanded : Bool) → List ℕ → MarksVerdict → Bool → Type 0
MeetsLog demanded text (logs.Valid requests grants) passes = PassesLog demanded text passes
MeetsLog demanded text (logs.Invalid line why) passes = passes ≡ false

-- ---- traces

-- something was requested, no entry waits or holds, no message is under way, and no client is queued
abbrev pub is_complete : (moves : List Move) → LockTable → (under_way queued : ℕ) → Bool
is_complete moves table under_way queued =
    are_complete (marks_of moves) table && (under_way == 0) && (queued == 0)

-- whether a run is complete, by the table to which its marks lead
abbrev pub IsCompleteBy : (n start : ℕ) → List Move → LockTable → Bool → Type 0
IsCompleteBy n start moves table complete = (left : List Message) × LeavesUnderWay moves left
    × (queued : ℕ) × AreQueued n start moves queued
    × (complete ≡ is_complete moves table (length left) queued)

-- whether a trace of a run passes: if nothing is demanded it does, and otherwise if it is complete
abbrev pub PassesTrace : (demanded : Bool) → List ℕ → Bool → Type 0
PassesTrace false text passes = passes ≡ true
PassesTrace true text passes = (version : Version) × (n start : ℕ) × (moves : List Move)
    × IsTraceIn version n start moves text
    × (table : LockTable) × TableRun (marks_of moves) table × IsCompleteBy n start moves table passes

-- whether a text with this verdict passes
abbrev pub MeetsTrace : (demanded : Bool) → List ℕ → Verdict → Bool → Type 0
MeetsTrace demanded text (traces.Valid requests messages) passes = PassesTrace demanded text passes
MeetsTrace demanded text (traces.Invalid line why) passes = passes ≡ false

-- ---- what a check says

-- what was read has the verdict, and passes or not; and so the whole input, if it is known
abbrev pub Tells : {V : Type 0} → (IsVerdictOn : List ℕ → V → Type 0) → (Meets : List ℕ → V → Bool → Type 0)
    → (old new : Option (List ℕ)) → Result V TraceError → Bool → Type 0
Tells {V} IsVerdictOn Meets old new result passes = IfOk result (λ verdict.
    ((taken : List ℕ) × IsVerdictOn taken verdict × Meets taken verdict passes × Consumes old new taken)
    × IfSome old (λ input. Meets input verdict passes))

abbrev pub TellsTrace : (demanded : Bool) → (old new : Option (List ℕ)) → Result Verdict TraceError → Bool → Type 0
TellsTrace demanded = Tells IsVerdict (MeetsTrace demanded)

abbrev pub TellsLog : (demanded : Bool) → (old new : Option (List ℕ)) → Result MarksVerdict TraceError → Bool → Type 0
TellsLog demanded = Tells IsMarksVerdict (MeetsLog demanded)
