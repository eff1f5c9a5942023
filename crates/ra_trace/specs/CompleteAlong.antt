-- What a checker knows at the end of a text. No public contract speaks of it.
use Rattle.std.specs.Prelude.{◌≡◌, ◌&&◌, ⊤, ℕ, Bool, true, false, List, Option, Result, Ok, Err, IfSome, length, nat_lt}
use Rattle.std.specs.Io.KnownBytes.{Consumes}
use Rattle.ra_table.specs.Idle.{is_idle}
use Rattle.ra_table.specs.Table.{TableRun}
use Rattle.ra_world.specs.Quiet.{requests_in}
use Rattle.ra_world.specs.Run.{marks_of}
use Rattle.ra_world.specs.Traffic.{sent_by}
use Rattle.ra_trace.specs.declared.checker.Checker.{Checker}
use Rattle.ra_trace.specs.declared.checker.verdict.Verdict.{Verdict}
use Rattle.ra_trace.specs.declared.checker.verdict.Verdict.TheVariants as traces
use Rattle.ra_trace.specs.declared.error.TraceError.{TraceError}
use Rattle.ra_trace.specs.declared.mark_log.MarkLog.{MarkLog}
use Rattle.ra_trace.specs.declared.mark_log.marks_verdict.MarksVerdict.{MarksVerdict}
use Rattle.ra_trace.specs.declared.mark_log.marks_verdict.MarksVerdict.TheVariants as logs
use Rattle.ra_trace.specs.Complete.{IsCompleteBy}
use Rattle.ra_trace.specs.MarksAlong.{HasTakenLog}
use Rattle.ra_trace.specs.TraceText.{IsTraceIn}

-- ---- traces

-- the checker has taken the lines of a whole trace, which is all of the input if that is known
abbrev pub HasTakenTrace : Option (List ℕ) → Option (List ℕ) → Checker → Type 0
HasTakenTrace old new checker = (text : List ℕ)
    × IsTraceIn checker.version checker.world.count checker.world.start checker.world.moves text
    × TableRun (marks_of checker.world.moves) checker.table
    × Consumes old new text × IfSome old (λ input. input ≡ text)

-- what the checker has taken if the text is valid
abbrev pub AtEnd : Option (List ℕ) → Option (List ℕ) → Checker → Result Verdict TraceError → Type 0
AtEnd old new checker (Ok (traces.Valid requests messages)) = HasTakenTrace old new checker
    × (requests ≡ requests_in (marks_of checker.world.moves)) × (messages ≡ length (sent_by checker.world.moves))
AtEnd old new checker (Ok (traces.Invalid line why)) = ⊤
AtEnd old new checker (Err fault) = ⊤

-- whether the checker's run passes
abbrev pub PassesBy : (demanded : Bool) → Checker → Bool → Type 0
PassesBy false checker passes = passes ≡ true
PassesBy true checker passes =
    IsCompleteBy checker.world.count checker.world.start checker.world.moves checker.table passes

abbrev pub MeetsBy : (demanded : Bool) → Checker → Result Verdict TraceError → Bool → Type 0
MeetsBy demanded checker (Ok (traces.Valid requests messages)) passes = PassesBy demanded checker passes
MeetsBy demanded checker (Ok (traces.Invalid line why)) passes = passes ≡ false
MeetsBy demanded checker (Err fault) passes = ⊤

-- ---- mark logs

-- what the log has taken if the text is valid
abbrev pub LogAtEnd : Option (List ℕ) → Option (List ℕ) → MarkLog → Result MarksVerdict TraceError → Type 0
LogAtEnd old new after (Ok (logs.Valid requests grants)) = HasTakenLog old new after
    × (requests ≡ after.requests) × (grants ≡ after.grants)
LogAtEnd old new after (Ok (logs.Invalid line why)) = ⊤
LogAtEnd old new after (Err fault) = ⊤

-- whether the log passes
abbrev pub PassesLogBy : (demanded : Bool) → MarkLog → Bool → Type 0
PassesLogBy false after passes = passes ≡ true
PassesLogBy true after passes = passes ≡ (nat_lt 0 after.requests && is_idle after.table)

abbrev pub MeetsLogBy : (demanded : Bool) → MarkLog → Result MarksVerdict TraceError → Bool → Type 0
MeetsLogBy demanded after (Ok (logs.Valid requests grants)) passes = PassesLogBy demanded after passes
MeetsLogBy demanded after (Ok (logs.Invalid line why)) passes = passes ≡ false
MeetsLogBy demanded after (Err fault) passes = ⊤
