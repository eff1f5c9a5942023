-- Which line is due at a line that is wrong for its sends or its marks.
use Rattle.std.proofs.Common.{◌≡◌, ◌⊎◌, ℕ, List, Option, Some, None, ◌∙◌, slice_get, inl, inr}
use Rattle.std.specs.Prelude.{Result, Ok, Err}
use Rattle.ra_trace.specs.declared.checker.Checker.{Checker}
use Rattle.ra_trace.specs.declared.error.TraceError.{TraceError}
use Rattle.ra_trace.specs.declared.line.Line.{Line}
use Rattle.ra_trace.specs.declared.checker.verdict.Cause.{Cause}
use Rattle.ra_trace.specs.declared.checker.verdict.Cause.TheVariants as cause
use Rattle.ra_trace.specs.declared.checker.verdict.Verdict.{Verdict}
use Rattle.ra_trace.specs.declared.checker.verdict.Verdict.TheVariants.{Valid, Invalid}
use Rattle.ra_trace.specs.Along.{IsAlong}
use Rattle.ra_trace.specs.Checking.{all_due}
use Rattle.ra_trace.specs.Due.{TellsDue}
use Rattle.ra_trace.specs.NextLine.{EndsText}
use Rattle.ra_trace.specs.Verdict.{due_lines}

-- at a wrong line
pub tells_at : (limit left : ℕ) (old now : Option (List ℕ)) (checker : Checker) (number : ℕ) (why : Cause) (next : Option Line)
    → IsAlong limit left old now checker number → next ≡ slice_get (due_lines (all_due checker)) 0
    → TellsDue old (Ok (Invalid number why)) next
tells_at limit left None now checker number why next along is = tt
tells_at limit left (Some input) None checker number why next along is = absurd along.so_far.taken
tells_at limit left (Some input) (Some rest) checker number why next along is = λ line which.
    let here : line ≡ number = elim which [ inl sends ↦ cc | inr marks ↦ cc ] in
    record {
      prefix = along.prefix;
      rest = rest;
      text_is = along.so_far.taken;
      line_is = here ∙ along.number_is;
      version = checker.version;
      count = checker.world.count;
      start = checker.world.start;
      moves = checker.world.moves;
      due = all_due checker;
      lines = along.checker_is.prefix;
      first = is;
    }

-- what follows the last line is not wrong for its sends or its marks
no_due : (left : ℕ) (old new : Option (List ℕ)) (checker : Checker) (number : ℕ) (result : Result Verdict TraceError) (line : ℕ)
    → EndsText left old new checker number result → (result ≡ Ok (Invalid line cause.Sends)) ⊎ (result ≡ Ok (Invalid line cause.Marks)) → ⊥
no_due left old new checker number (Ok (Valid requests messages)) line ends which = elim which [ inl is ↦ cc | inr is ↦ cc ]
no_due left old new checker number (Ok (Invalid other why)) line (byte, some, taken, at, because) which =
    elim which [
      | inl is ↦ let sends : cause.Line ≡ cause.Sends = cc in cc
      | inr is ↦ let marks : cause.Line ≡ cause.Marks = cc in cc
    ]
no_due left old new checker number (Err fault) line ends which = elim which [ inl is ↦ cc | inr is ↦ cc ]

pub none_at_end : (left : ℕ) (text old new : Option (List ℕ)) (checker : Checker) (number : ℕ) (result : Result Verdict TraceError) (next : Option Line)
    → EndsText left old new checker number result → TellsDue text result next
none_at_end left None old new checker number result next ends = tt
none_at_end left (Some input) old new checker number result next ends = λ line is. absurd (no_due left old new checker number result line ends is)

-- a fault is no verdict
pub none_at_fault : (text : Option (List ℕ)) (fault : TraceError) (next : Option Line) → TellsDue text (Err fault) next
none_at_fault None fault next = tt
none_at_fault (Some input) fault next = λ line which. elim which [ inl is ↦ cc | inr is ↦ cc ]
