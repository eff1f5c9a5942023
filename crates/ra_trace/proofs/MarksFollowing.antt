-- What a watcher is told of a mark log while it is checked.
use Rattle.std.proofs.Common.{◌≡◌, ℕ, ◌+◌, ◌-◌, ◌≤◌, List, length, Option, Some, None, refl, subst, arith}
use Rattle.std.specs.Prelude.{IfSome}
use Rattle.ra_trace.specs.declared.mark_log.MarkLog.{MarkLog}
use Rattle.ra_trace.specs.declared.mark_log.marks_verdict.MarkCause.{MarkCause}
use Rattle.ra_trace.specs.declared.mark_log.marks_verdict.MarksVerdict.TheVariants.{Valid, Invalid}
use Rattle.ra_trace.specs.MarksAlong.{IsAlongMarks, HasLinesBefore}
use Rattle.ra_trace.specs.Following.{IsMarksSoFar, HasRightMarks}

-- what the lines come to of which the last one has this number
pub so_far_is : (limit left : ℕ) (old new : Option (List ℕ)) (log : MarkLog) (number : ℕ) → IsAlongMarks limit left old new log (number + 1)
    → IfSome old (λ input. IsMarksSoFar input (record { lines = number; requests = log.requests; grants = log.grants }))
so_far_is limit left None new log number along = tt
so_far_is limit left (Some input) None log number along = absurd along.taken
so_far_is limit left (Some input) (Some rest) log number along =
    let so_far = along.so_far in (
      along.marks,
      rest,
      record { lines = so_far.lines; table = log.table; run = so_far.run },
      along.taken,
      omega (arith, along.number_is),
      so_far.requests_is,
      so_far.grants_is,
    )

-- the line with this number is wrong
pub right_before_wrong : (number : ℕ) (why : MarkCause) → 1 ≤ number → (old : Option (List ℕ)) (input : List ℕ) → old ≡ Some input
    → (count : ℕ) × HasRightMarks input (Invalid number why) count × (number ≡ count + 1)
right_before_wrong number why some old input is = let counted : number ≡ (number - 1) + 1 = omega (arith, some) in (number - 1, counted, counted)

-- there is no line with this number
pub right_before_end : (number requests grants : ℕ) (old : Option (List ℕ)) → HasLinesBefore old number → (input : List ℕ) → old ≡ Some input
    → (count : ℕ) × HasRightMarks input (Valid requests grants) count × (number ≡ count + 1)
right_before_end number requests grants old lines input is =
    let (marks, run, text, count) = subst (λ (o : Option (List ℕ)). HasLinesBefore o number) is lines in
    (length marks, (marks, run, text, refl), count)
