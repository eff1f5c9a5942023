-- What a watcher is told of a trace while it is checked.
use Rattle.std.proofs.Common.{◌≡◌, ℕ, ◌+◌, ◌-◌, ◌≤◌, List, [], ◌++◌, length, Option, Some, None, refl, sym, ap, ◌∙◌, subst, inl, inr, arith}
use Rattle.std.specs.Prelude.{Result, Ok, Err, IfSome, flat_map}
use Rattle.std.specs.Io.KnownBytes.{Consumes, IsAtEnd}
use Rattle.std.proofs.lemmas.List.{append-nil}
use Rattle.ra_world.specs.Quiet.{requests_in}
use Rattle.ra_world.specs.Run.{marks_of}
use Rattle.ra_world.specs.Traffic.{sent_by}
use Rattle.ra_trace.specs.declared.error.TraceError.{TraceError}
use Rattle.ra_trace.specs.declared.checker.Checker.{Checker}
use Rattle.ra_trace.specs.declared.line.Line.{Line}
use Rattle.ra_trace.specs.declared.checker.Judgement.{Judgement}
use Rattle.ra_trace.specs.declared.checker.Judgement.TheVariants.{Right, Last, Wrong}
use Rattle.ra_trace.specs.declared.checker.trace_watcher.TraceSoFar.{TraceSoFar}
use Rattle.ra_trace.specs.declared.checker.verdict.Cause.{Cause}
use Rattle.ra_trace.specs.declared.checker.verdict.Verdict.{Verdict}
use Rattle.ra_trace.specs.declared.checker.verdict.Verdict.TheVariants.{Valid, Invalid}
use Rattle.ra_trace.specs.TraceText.{IsTraceIn, line_text}
use Rattle.ra_trace.specs.Along.{IsAlong, IsDone, Turns}
use Rattle.ra_trace.specs.Checking.{all_due}
use Rattle.ra_trace.specs.NextLine.{EndsText}
use Rattle.ra_trace.specs.Following.{AreLinesOf, HasRightLines, IsTraceSoFar, TellsTrace, trace_so_far_lines}
use Rattle.ra_trace.specs.FollowingAlong.{IsTold}
use Rattle.ra_trace.proofs.Following.{tells_at_fault, tells_at_verdict}

-- what so many lines come to, after which the checker has made these moves
abbrev pub so_far_of : Checker → ℕ → TraceSoFar
so_far_of checker number = record {
  lines = number;
  requests = requests_in (marks_of checker.world.moves);
  messages = length (sent_by checker.world.moves);
}

-- after the lines of a known input
so_far_in : (checker : Checker) (number : ℕ) (old now : Option (List ℕ)) (lines : List Line) → Consumes old now (flat_map line_text lines)
    → number + 1 ≡ length lines + 1 → AreLinesOf checker.version checker.world.count checker.world.start checker.world.moves lines
    → IfSome old (λ input. IsTraceSoFar input (so_far_of checker number))
so_far_in checker number None now lines taken count are = tt
so_far_in checker number (Some input) None lines taken count are = absurd taken
so_far_in checker number (Some input) (Some rest) lines taken count are =
    let w = checker.world in (lines, rest, taken, omega (arith, count), checker.version, w.count, w.start, w.moves, are, refl, refl)

module _ (limit left : ℕ) (old now : Option (List ℕ)) (checker : Checker) (number : ℕ) where
  pub so_far_along : IsAlong limit left old now checker (number + 1) → IfSome old (λ input. IsTraceSoFar input (so_far_of checker number))
  so_far_along along =
      so_far_in checker number old now along.prefix along.so_far.taken along.number_is (inl (all_due checker, along.checker_is.prefix))

  pub so_far_done : IsDone limit left old now checker (number + 1) → IfSome old (λ input. IsTraceSoFar input (so_far_of checker number))
  so_far_done done = so_far_in checker number old now done.prefix done.so_far.taken done.number_is (inr (done.trace, done.lines))

-- after a line that is not wrong
pub so_far_turned : (limit left : ℕ) (old new : Option (List ℕ)) (after : Checker) (number count : ℕ) (next : Judgement)
    → Turns limit left old new after number count (Ok next) → ((why : Cause) → next ≡ Wrong why → ⊥)
    → IfSome old (λ input. IsTraceSoFar input (so_far_of after number))
so_far_turned limit left old new after number count Right turns wrong = so_far_along limit (left - count) old new after number turns
so_far_turned limit left old new after number count Last turns wrong = so_far_done limit (left - count) old new after number turns
so_far_turned limit left old new after number count (Wrong why) turns wrong = absurd (wrong why refl)

pub lines_along : (limit left : ℕ) (old now : Option (List ℕ)) (checker : Checker) (number : ℕ) → IsAlong limit left old now checker number → 1 ≤ number
lines_along limit left old now checker number along = omega (arith, along.number_is)

-- the line with this number is wrong
pub right_before_wrong : (number : ℕ) (why : Cause) → 1 ≤ number → (old : Option (List ℕ)) (input : List ℕ) → old ≡ Some input
    → (count : ℕ) × HasRightLines input (Invalid number why) count × (number ≡ count + 1)
right_before_wrong number why some old input is = let counted : number ≡ (number - 1) + 1 = omega (arith, some) in (number - 1, counted, counted)

-- the text is the whole trace
whole_text : (limit left : ℕ) (input : List ℕ) (now new : Option (List ℕ)) (checker : Checker) (number : ℕ)
    → (done : IsDone limit left (Some input) now checker number) → Consumes now new [] → IsAtEnd new → input ≡ flat_map line_text done.prefix
whole_text limit left input None new checker number done taken ended = absurd done.so_far.taken
whole_text limit left input (Some rest) None checker number done taken ended = absurd taken
whole_text limit left input (Some rest) (Some none) checker number done taken ended =
    done.so_far.taken ∙ ap (λ (bytes : List ℕ). flat_map line_text done.prefix ++ bytes) (taken ∙ ended) ∙ append-nil (flat_map line_text done.prefix)

module _ (every limit left : ℕ) (old now new : Option (List ℕ)) (checker : Checker) (number due : ℕ) (before after : Option (List TraceSoFar))
    (done : IsDone limit left old now checker number)
    (so : IsTold trace_so_far_lines IsTraceSoFar every old before after number due)
  where
    -- what follows the last line decides
    pub tells_at_end : (result : Result Verdict TraceError) → EndsText left now new checker number result → TellsTrace every old result before after
    tells_at_end (Ok (Valid requests messages)) (taken, ended, is, are) =
        tells_at_verdict TraceSoFar trace_so_far_lines IsTraceSoFar HasRightLines every old before after number due so (Valid requests messages)
        (λ input known.
        let w = checker.world in
        let there = subst (λ (o : Option (List ℕ)). IsDone limit left o now checker number) known done in
        let text = whole_text limit left input now new checker number there taken ended in (
          length there.prefix,
          (checker.version, w.count, w.start, w.moves, subst (IsTraceIn checker.version w.count w.start w.moves) (sym text) there.trace, ap length there.lines),
          there.number_is,
        ))
    tells_at_end (Ok (Invalid line why)) (byte, some, taken, is, because) =
        tells_at_verdict TraceSoFar trace_so_far_lines IsTraceSoFar HasRightLines every old before after number due so (Invalid line why)
        (λ input known. (length done.prefix, is ∙ done.number_is, done.number_is))
    tells_at_end (Err fault) failed =
        tells_at_fault TraceSoFar trace_so_far_lines IsTraceSoFar HasRightLines every old before after number due so fault
