-- What a verdict on what was read of a mark log says of the whole input.
use Rattle.std.proofs.Common.{◌≡◌, ◌≢◌, ◌↔◌, ℕ, ◌+◌, ◌≤◌, List, [], ◌∷◌, ◌++◌, length, Option, Some, None, Result, Ok, Err, refl, sym, ap, subst, ◌∙◌, inl, inr, arith, append_assoc}
use Rattle.std.specs.Prelude.{IfOk, IfSome, IsErrOf}
use Rattle.std.specs.Io.KnownBytes.{Consumes}
use Rattle.std.proofs.lemmas.List.{append-nil}
use Rattle.ra_stamp.specs.declared.entry.Mark.{Mark}
use Rattle.ra_text.specs.Lines.{mark_line}
use Rattle.ra_world.specs.Quiet.{requests_in}
use Rattle.ra_trace.specs.declared.error.TraceError.{TraceError}
use Rattle.ra_trace.specs.declared.error.TraceError.TheVariants.{Read, Limit, Memory}
use Rattle.ra_trace.specs.declared.line.Line.TheVariants.{Marked}
use Rattle.ra_trace.specs.declared.mark_log.marks_verdict.MarkCause.{MarkCause}
use Rattle.ra_trace.specs.declared.mark_log.marks_verdict.MarksVerdict.{MarksVerdict}
use Rattle.ra_trace.specs.declared.mark_log.marks_verdict.MarksVerdict.TheVariants.{Valid, Invalid}
use Rattle.ra_trace.specs.NextLine.{IsOverLine}
use Rattle.ra_trace.specs.Marks.{marks_text, grants_in, IsMarkRun, IsWrongMark, IsMarksVerdict}
use Rattle.ra_trace.specs.Check.{ChecksLog}
use Rattle.ra_trace.specs.MarksReading.{JudgesMarks, ReadsOnMarks, PassesMarksLimit, StopsAfterMarks, AnswersMarks}
use Rattle.ra_trace.proofs.Ends.{begins_before}

-- ---- What is wrong stays wrong, whatever comes after what was read

some_bytes : (before : List ℕ) (byte : ℕ) (more : List ℕ) → (before ++ byte ∷ []) ++ more ≢ []
some_bytes [] byte more e = absurd cc
some_bytes (b ∷ before) byte more e = absurd cc

wrong_goes_on : (marks : List Mark) (rest more : List ℕ) (why : MarkCause) → IsOverLine rest → IsWrongMark marks rest why
    → IsWrongMark marks (rest ++ more) why
wrong_goes_on marks rest more why over (inl (is, some, none)) =
    let (before, byte, opened, whole, how) = over in
    inl (
      is,
      λ nothing. some_bytes before byte more (ap (λ (bytes : List ℕ). bytes ++ more) (sym whole) ∙ nothing),
      λ mark later begins. let b = begins_before rest more (Marked mark) later over begins in none mark b.0 b.1,
    )
wrong_goes_on marks rest more why over (inr (table, run, mark, others, begins, refused)) =
    inr (
      table,
      run,
      mark,
      others ++ more,
      (begins.0, ap (λ (bytes : List ℕ). bytes ++ more) begins.1 ∙ append_assoc (mark_line mark) others more),
      refused,
    )

-- ---- The whole input

nothing_over : (rest : List ℕ) → rest ≡ [] → IsOverLine rest → ⊥
nothing_over rest none (before, byte, opened, is, how) =
    some_bytes before byte [] (append-nil (before ++ byte ∷ []) ∙ (sym is ∙ none))

-- what was read is all of a known input, if the marks are a run
pub record AllRead (limit : ℕ) (input : List ℕ) (new : Option (List ℕ)) (marks : List Mark) : Type 0 where
  pub input_is : input ≡ marks_text marks
  pub at_most : length input ≤ limit
  pub taken : Consumes (Some input) new input

pub all_read : (limit : ℕ) (input : List ℕ) (new : Option (List ℕ)) (requests grants : ℕ)
    → (j : JudgesMarks limit (Some input) new (Valid requests grants)) → AllRead limit input new j.0
all_read limit input None requests grants (marks, rest, read, how, shows) = absurd read.taken
all_read limit input (Some left) requests grants (marks, rest, read, how, shows) =
    elim how [
      | inl over ↦ absurd (nothing_over rest shows.0 over)
      | inr (opened, ended) ↦
          let taken : input ≡ marks_text marks ++ rest = read.taken ∙ ap (λ (bytes : List ℕ). (marks_text marks ++ rest) ++ bytes) ended
          ∙ append-nil (marks_text marks ++ rest) in
          record {
            input_is = taken ∙ ap (λ (bytes : List ℕ). marks_text marks ++ bytes) shows.0 ∙ append-nil (marks_text marks);
            at_most = subst (λ (bytes : List ℕ). length bytes ≤ limit) (sym taken) read.at_most;
            taken = sym (append-nil input) ∙ ap (λ (bytes : List ℕ). input ++ bytes) (sym ended);
          }
    ]

verdict_of_bytes : (limit : ℕ) (input : List ℕ) (new : Option (List ℕ)) (verdict : MarksVerdict) → JudgesMarks limit (Some input) new verdict
    → IsMarksVerdict input verdict
verdict_of_bytes limit input new (Valid requests grants) (marks, rest, read, how, shows) =
    let all = all_read limit input new requests grants (marks, rest, read, how, shows) in
    (marks, read.run, all.input_is, shows.1, shows.2)
verdict_of_bytes limit input None (Invalid line why) (marks, rest, read, how, shows) = absurd read.taken
verdict_of_bytes limit input (Some left) (Invalid line why) (marks, rest, read, how, shows) = (
  marks,
  rest ++ left,
  read.run,
  read.taken ∙ append_assoc (marks_text marks) rest left,
  shows.0,
  elim how [
    | inl over ↦ wrong_goes_on marks rest left why over shows.1
    | inr (opened, ended) ↦ subst (λ (bytes : List ℕ). IsWrongMark marks bytes why)
        (sym (ap (λ (bytes : List ℕ). rest ++ bytes) ended ∙ append-nil rest)) shows.1
  ],
)

verdict_of_input : (limit : ℕ) (old new : Option (List ℕ)) (verdict : MarksVerdict) → JudgesMarks limit old new verdict
    → IfSome old (λ input. IsMarksVerdict input verdict)
verdict_of_input limit None new verdict j = tt
verdict_of_input limit (Some input) new verdict j = verdict_of_bytes limit input new verdict j

valid_input : (limit : ℕ) (old new : Option (List ℕ)) (verdict : MarksVerdict) → JudgesMarks limit old new verdict
    → IfSome old (λ input. (requests grants : ℕ) → verdict ≡ Valid requests grants → (length input ≤ limit) × Consumes old new input)
valid_input limit None new verdict j = tt
valid_input limit (Some input) new verdict j = λ requests grants is.
    let all = all_read limit input new requests grants (subst (JudgesMarks limit (Some input) new) is j) in (all.at_most, all.taken)

-- what was read has the verdict too
alone_of : (limit : ℕ) (old new : Option (List ℕ)) (verdict : MarksVerdict) → JudgesMarks limit old new verdict
    → (taken : List ℕ) × IsMarksVerdict taken verdict × (length taken ≤ limit) × Consumes old new taken
alone_of limit old new (Valid requests grants) (marks, rest, read, how, shows) =
    let whole : marks_text marks ++ rest ≡ marks_text marks =
    ap (λ (bytes : List ℕ). marks_text marks ++ bytes) shows.0 ∙ append-nil (marks_text marks) in
    (marks_text marks ++ rest, (marks, read.run, whole, shows.1, shows.2), read.at_most, read.taken)
alone_of limit old new (Invalid line why) (marks, rest, read, how, shows) =
    (marks_text marks ++ rest, (marks, rest, read.run, refl, shows.0, shows.1), read.at_most, read.taken)

-- no other verdict
abbrev pub IsOnly : Type 0
IsOnly = (text : List ℕ) (a b : MarksVerdict) → IsMarksVerdict text a → IsMarksVerdict text b → a ≡ b

only_verdict : IsOnly → (limit : ℕ) (old new : Option (List ℕ)) (verdict : MarksVerdict) → JudgesMarks limit old new verdict
    → IfSome old (λ input. (other : MarksVerdict) → IsMarksVerdict input other ↔ (verdict ≡ other))
only_verdict one limit None new verdict j = tt
only_verdict one limit (Some input) new verdict j = λ other.
    let is = verdict_of_bytes limit input new verdict j in
    (one input verdict other is, λ same. subst (IsMarksVerdict input) same is)

run_of_input : IsOnly → (limit : ℕ) (old new : Option (List ℕ)) (verdict : MarksVerdict) → JudgesMarks limit old new verdict
    → IfSome old (λ input. (marks : List Mark) → IsMarkRun marks → input ≡ marks_text marks
    → verdict ≡ Valid (requests_in marks) (grants_in marks))
run_of_input one limit None new verdict j = tt
run_of_input one limit (Some input) new verdict j = λ marks run is.
    one input verdict (Valid (requests_in marks) (grants_in marks)) (verdict_of_bytes limit input new verdict j) (marks, run, is, refl, refl)

-- ---- What each answer says of the input

module _ (limit : ℕ) (old new : Option (List ℕ)) where
  ok : (result : Result MarksVerdict TraceError) → AnswersMarks limit old new result
      → IfOk result (λ verdict. IfSome old (λ input. IsMarksVerdict input verdict))
  ok (Ok verdict) j = verdict_of_input limit old new verdict j
  ok (Err fault) j = tt

  valid : (result : Result MarksVerdict TraceError) → AnswersMarks limit old new result
      → IfOk result (λ verdict. IfSome old (λ input. (requests grants : ℕ) → verdict ≡ Valid requests grants
      → (length input ≤ limit) × Consumes old new input))
  valid (Ok verdict) j = valid_input limit old new verdict j
  valid (Err fault) j = tt

  judged : (result : Result MarksVerdict TraceError) → AnswersMarks limit old new result → IfOk result (JudgesMarks limit old new)
  judged (Ok verdict) j = j
  judged (Err fault) j = tt

  alone : (result : Result MarksVerdict TraceError) → AnswersMarks limit old new result
      → IfOk result (λ verdict. (taken : List ℕ) × IsMarksVerdict taken verdict × (length taken ≤ limit) × Consumes old new taken)
  alone (Ok verdict) j = alone_of limit old new verdict j
  alone (Err fault) j = tt

  exact : IsOnly → (result : Result MarksVerdict TraceError) → AnswersMarks limit old new result
      → IfOk result (λ verdict. IfSome old (λ input. (other : MarksVerdict) → IsMarksVerdict input other ↔ (verdict ≡ other)))
  exact one (Ok verdict) j = only_verdict one limit old new verdict j
  exact one (Err fault) j = tt

  run : IsOnly → (result : Result MarksVerdict TraceError) → AnswersMarks limit old new result
      → IfOk result (λ verdict. IfSome old (λ input. (marks : List Mark) → IsMarkRun marks → input ≡ marks_text marks
      → verdict ≡ Valid (requests_in marks) (grants_in marks)))
  run one (Ok verdict) j = run_of_input one limit old new verdict j
  run one (Err fault) j = tt

  failed : (result : Result MarksVerdict TraceError) → AnswersMarks limit old new result → IsErrOf result Read → ReadsOnMarks limit old new
  failed (Ok verdict) j is = absurd cc
  failed (Err Read) j is = j
  failed (Err Limit) j is = absurd cc
  failed (Err Memory) j is = absurd cc

  passed : (result : Result MarksVerdict TraceError) → AnswersMarks limit old new result → IsErrOf result Limit → PassesMarksLimit limit old new
  passed (Ok verdict) j is = absurd cc
  passed (Err Read) j is = absurd cc
  passed (Err Limit) j is = j
  passed (Err Memory) j is = absurd cc

  stopped : (result : Result MarksVerdict TraceError) → AnswersMarks limit old new result → IsErrOf result Memory → StopsAfterMarks limit old new
  stopped (Ok verdict) j is = absurd cc
  stopped (Err Read) j is = absurd cc
  stopped (Err Limit) j is = absurd cc
  stopped (Err Memory) j is = j

  at_most : (result : Result MarksVerdict TraceError) → AnswersMarks limit old new result
      → (taken : List ℕ) × (length taken ≤ limit + 1) × Consumes old new taken
  at_most (Ok verdict) (marks, rest, read, how, shows) = (marks_text marks ++ rest, omega (arith, read.at_most), read.taken)
  at_most (Err Read) (marks, rest, read, opened) = (marks_text marks ++ rest, omega (arith, read.at_most), read.taken)
  at_most (Err Limit) (marks, rest, byte, read, full, opened) = (marks_text marks ++ (rest ++ byte ∷ []), read.at_most, read.taken)
  at_most (Err Memory) (marks, run, taken, most) = (marks_text marks, omega (arith, most), taken)

  pub checked : IsOnly → (result : Result MarksVerdict TraceError) → AnswersMarks limit old new result → ChecksLog limit old new result
  checked one result answer =
      record {
        ok = ok result answer;
        valid = valid result answer;
        judged = judged result answer;
        alone = alone result answer;
        exact = exact one result answer;
        run = run one result answer;
        failed = failed result answer;
        limit = passed result answer;
        memory = stopped result answer;
        at_most = at_most result answer;
      }
