-- Whether a text passes, by what the checker knows at its end.
use Rattle.std.proofs.Common.{◌≡◌, ◌∙◌, ◌&&◌, ◌++◌, ℕ, ◌≤◌, Bool, true, false, List, [], length, Option, Some, None, refl, sym, ap, subst}
use Rattle.std.specs.Prelude.{flat_map, nat_lt, IfOk, IfSome, Result, Ok, Err}
use Rattle.std.specs.Io.KnownBytes.{Consumes, IsAtEnd}
use Rattle.std.proofs.lemmas.List.{append-nil}
use Rattle.ra_table.specs.Idle.{is_idle}
use Rattle.ra_table.specs.Table.{TableRun}
use Rattle.ra_world.specs.Run.{marks_of}
use Rattle.ra_trace.specs.declared.checker.Checker.{Checker}
use Rattle.ra_trace.specs.declared.checker.verdict.Verdict.{Verdict}
use Rattle.ra_trace.specs.declared.checker.verdict.Verdict.TheVariants as traces
use Rattle.ra_trace.specs.declared.error.TraceError.{TraceError}
use Rattle.ra_trace.specs.declared.mark_log.MarkLog.{MarkLog}
use Rattle.ra_trace.specs.declared.mark_log.marks_verdict.MarksVerdict.{MarksVerdict}
use Rattle.ra_trace.specs.declared.mark_log.marks_verdict.MarksVerdict.TheVariants as logs
use Rattle.ra_trace.specs.Along.{IsDone}
use Rattle.ra_trace.specs.Complete.{MeetsLog, MeetsTrace, PassesLog, PassesTrace, TellsLog, TellsTrace}
use Rattle.ra_trace.specs.CompleteAlong.{AtEnd, HasTakenTrace, LogAtEnd, MeetsBy, MeetsLogBy, PassesBy, PassesLogBy}
use Rattle.ra_trace.specs.Marks.{IsMarksVerdict, marks_text}
use Rattle.ra_trace.specs.MarksAlong.{HasTakenLog}
use Rattle.ra_trace.specs.NextLine.{EndsText}
use Rattle.ra_trace.specs.TraceText.{IsTraceIn, line_text}
use Rattle.ra_trace.specs.Verdict.{IsVerdict}
use Rattle.ra_trace.proofs.Along.{consumed_both}

-- what is true of all that was read is true of the input
of_input : (P : List ℕ → Type 0) (old : Option (List ℕ)) (text : List ℕ) → IfSome old (λ input. input ≡ text) → P text → IfSome old P
of_input P None text is holds = tt
of_input P (Some input) text is holds = subst P (sym is) holds

always : (P : Type 0) (old : Option (List ℕ)) → P → IfSome old (λ input. P)
always P None holds = tt
always P (Some input) holds = holds

-- ---- traces

pub whole : (old new : Option (List ℕ)) (text : List ℕ) → Consumes old new text → IsAtEnd new → IfSome old (λ input. input ≡ text)
whole None new text all ended = tt
whole (Some input) None text all ended = absurd all
whole (Some input) (Some rest) text all ended = all ∙ ap (λ (bytes : List ℕ). text ++ bytes) ended ∙ append-nil text

-- what follows the last line decides
pub taken_at_end : (limit left : ℕ) (old now new : Option (List ℕ)) (checker : Checker) (number : ℕ) (result : Result Verdict TraceError)
    → IsDone limit left old now checker number → EndsText left now new checker number result → AtEnd old new checker result
taken_at_end limit left old now new checker number (Ok (traces.Valid requests messages)) done (taken, ended, is, are) =
    let text = flat_map line_text done.prefix in
    let all = subst (Consumes old new) (append-nil text) (consumed_both old now new text [] done.so_far.taken taken) in
    ((text, done.trace, done.table, all, whole old new text all ended), is, are)
taken_at_end limit left old now new checker number (Ok (traces.Invalid line why)) done ends = tt
taken_at_end limit left old now new checker number (Err fault) done ends = tt

passes_trace : (demanded : Bool) (old new : Option (List ℕ)) (checker : Checker) (passes : Bool) → (taken : HasTakenTrace old new checker)
    → PassesBy demanded checker passes → PassesTrace demanded taken.0 passes
passes_trace false old new checker passes taken meets = meets
passes_trace true old new checker passes (text, trace, table, all, is) meets =
    (checker.version, checker.world.count, checker.world.start, checker.world.moves, trace, checker.table, table, meets)

pub tells_trace : (demanded : Bool) (most : ℕ) (old new : Option (List ℕ)) (checker : Checker) (result : Result Verdict TraceError) (passes : Bool)
    → IfOk result (λ verdict. (taken : List ℕ) × IsVerdict taken verdict × (length taken ≤ most) × Consumes old new taken)
    → AtEnd old new checker result → MeetsBy demanded checker result passes → TellsTrace demanded old new result passes
tells_trace demanded most old new checker (Ok (traces.Valid requests messages)) passes alone (taken, is, are) meets =
    let w = checker.world in
    let there = passes_trace demanded old new checker passes taken meets in (
      (taken.0, (checker.version, w.count, w.start, w.moves, taken.1, is, are), there, taken.3),
      of_input (λ (text : List ℕ). PassesTrace demanded text passes) old taken.0 taken.4 there,
    )
tells_trace demanded most old new checker (Ok (traces.Invalid line why)) passes alone ended meets =
    ((alone.0, alone.1, meets, alone.3), always (passes ≡ false) old meets)
tells_trace demanded most old new checker (Err fault) passes alone ended meets = tt

-- a text that does not begin with the first line of a trace
pub tells_wrong : (demanded : Bool) (most : ℕ) (old new : Option (List ℕ)) (verdict : Verdict) (passes : Bool)
    → (taken : List ℕ) × IsVerdict taken verdict × (length taken ≤ most) × Consumes old new taken
    → ((text : List ℕ) → MeetsTrace demanded text verdict passes) → TellsTrace demanded old new (Ok verdict) passes
tells_wrong demanded most None new verdict passes alone meets = ((alone.0, alone.1, meets alone.0, alone.3), tt)
tells_wrong demanded most (Some input) new verdict passes alone meets = ((alone.0, alone.1, meets alone.0, alone.3), meets input)

-- ---- mark logs

passes_log : (demanded : Bool) (old new : Option (List ℕ)) (after : MarkLog) (passes : Bool) → (taken : HasTakenLog old new after)
    → PassesLogBy demanded after passes → PassesLog demanded (marks_text taken.0) passes
passes_log false old new after passes taken meets = meets
passes_log true old new after passes (marks, so_far, all, is) meets =
    (marks, so_far.lines, refl, (after.table, so_far.run, meets ∙ ap (λ (n : ℕ). nat_lt 0 n && is_idle after.table) so_far.requests_is))

pub tells_log : (demanded : Bool) (most : ℕ) (old new : Option (List ℕ)) (after : MarkLog) (result : Result MarksVerdict TraceError) (passes : Bool)
    → IfOk result (λ verdict. (taken : List ℕ) × IsMarksVerdict taken verdict × (length taken ≤ most) × Consumes old new taken)
    → LogAtEnd old new after result → MeetsLogBy demanded after result passes → TellsLog demanded old new result passes
tells_log demanded most old new after (Ok (logs.Valid requests grants)) passes alone (taken, is, are) meets =
    let (marks, so_far, all, input_is) = taken in
    let there = passes_log demanded old new after passes taken meets in (
      (
        marks_text marks,
        (marks, record { lines = so_far.lines; table = after.table; run = so_far.run }, refl, is ∙ so_far.requests_is, are ∙ so_far.grants_is),
        there,
        all,
      ),
      of_input (λ (text : List ℕ). PassesLog demanded text passes) old (marks_text marks) input_is there,
    )
tells_log demanded most old new after (Ok (logs.Invalid line why)) passes alone ended meets =
    ((alone.0, alone.1, meets, alone.3), always (passes ≡ false) old meets)
tells_log demanded most old new after (Err fault) passes alone ended meets = tt
