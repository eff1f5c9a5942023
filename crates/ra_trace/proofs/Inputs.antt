-- What a verdict on what was read says of the whole input.
use Rattle.std.proofs.Common.{◌≡◌, ◌≢◌, ◌↔◌, ℕ, ◌+◌, ◌≤◌, List, [], ◌∷◌, ◌++◌, length, Option, Some, None, Result, Ok, Err, refl, sym, ap, subst, ◌∙◌, arith, inl, inr, append_assoc}
use Rattle.std.specs.Prelude.{IfOk, IfSome, IsErrOf, flat_map}
use Rattle.std.specs.Io.KnownBytes.{Consumes}
use Rattle.std.proofs.lemmas.List.{append-nil}
use Rattle.ra_world.specs.Traffic.{Move, sent_by}
use Rattle.ra_world.specs.Run.{marks_of}
use Rattle.ra_world.specs.Quiet.{requests_in}
use Rattle.ra_trace.specs.declared.error.TraceError.{TraceError}
use Rattle.ra_trace.specs.declared.error.TraceError.TheVariants.{Read, Limit, Memory}
use Rattle.ra_trace.specs.declared.line.Line.{Line}
use Rattle.ra_trace.specs.declared.line.Line.TheVariants.{Stepped, Marked}
use Rattle.ra_trace.specs.declared.checker.verdict.Cause.{Cause}
use Rattle.ra_trace.specs.declared.checker.verdict.Cause.TheVariants as cause
use Rattle.ra_trace.specs.declared.checker.verdict.Verdict.{Verdict}
use Rattle.ra_trace.specs.declared.checker.verdict.Verdict.TheVariants.{Valid, Invalid}
use Rattle.ra_trace.specs.declared.line.version.Version.{Version}
use Rattle.ra_trace.specs.TraceText.{IsTraceIn, BeginsWith, line_text, trace_lines}
use Rattle.ra_trace.specs.Verdict.{HasNoLine, IsWrong, IsVerdict, IsTraceOfTableRun}
use Rattle.ra_trace.specs.Check.{ChecksTrace}
use Rattle.ra_trace.specs.Reading.{IsWhole, IsOver, Judges, ReadsOn, PassesLimit, StopsAfter, Answers}
use Rattle.ra_trace.specs.NextLine.{IsOverLine}
use Rattle.ra_trace.specs.Below.{LawsBelow}
use Rattle.ra_trace.proofs.Ends.{begins_before}
use Rattle.ra_trace.proofs.Versions.{begins_readable}
use Rattle.ra_trace.proofs.Prefixes.{no_trace}

-- ---- What is wrong stays wrong, whatever comes after what was read

begins_more : (version : Version) (text more : List ℕ) (line : Line) (rest : List ℕ) → BeginsWith version text line rest
    → BeginsWith version (text ++ more) line (rest ++ more)
begins_more version text more line rest begins =
    (begins.0, ap (λ (bytes : List ℕ). bytes ++ more) begins.1 ∙ append_assoc (line_text line) rest more)

over_line : (prefix : List Line) (rest : List ℕ) → IsOver prefix rest → (IsWhole prefix → ⊥) → IsOverLine rest
over_line prefix rest (before, byte, opened, is, how) more = (
  before,
  byte,
  opened.0,
  is,
  elim how [ inl feed ↦ inl feed | inr other ↦ elim other [ inl long ↦ inr long | inr whole ↦ absurd (more whole) ] ],
)

-- a line that begins what is over, and more, begins it alone
begins_over : (version : Version) (rest more : List ℕ) (line : Line) (later : List ℕ) → IsOverLine rest → BeginsWith version (rest ++ more) line later
    → (others : List ℕ) × BeginsWith version rest line others
begins_over version rest more line later over begins =
    let b = begins_before rest more line later over (begins_readable version (rest ++ more) line later begins) in (b.0, (begins.0, b.1.1))

some_bytes : (before : List ℕ) (byte : ℕ) (more : List ℕ) → (before ++ byte ∷ []) ++ more ≢ []
some_bytes [] byte more e = absurd cc
some_bytes (b ∷ before) byte more e = absurd cc

no_line_goes_on : LawsBelow → (prefix : List Line) (rest more : List ℕ) → IsOver prefix rest → HasNoLine prefix rest → HasNoLine prefix (rest ++ more)
no_line_goes_on laws prefix rest more over (inl (none, other)) =
    let part : IsWhole prefix → ⊥ = λ whole. let clash : [] ≡ trace_lines whole.0 whole.1 whole.2 whole.3 = sym none ∙ whole.5 in cc in
    inl (
      none,
      λ version line later begins first.
          let b = begins_over version rest more line later (over_line prefix rest over part) begins in other version line b.0 b.1 first,
    )
no_line_goes_on laws prefix rest more over (inr (inl (version, n, start, moves, due, so_far, any))) =
    let part : IsWhole prefix → ⊥ = λ whole.
    no_trace laws version n start moves due whole.0 whole.1 whole.2 whole.3 prefix so_far whole.5 in
    inr (inl (
      version,
      n,
      start,
      moves,
      due,
      so_far,
      λ line later begins.
          let b = begins_over version rest more line later (over_line prefix rest over part) begins in any line b.0 b.1,
    ))
no_line_goes_on laws prefix rest more (before, byte, opened, is, how) (inr (inr (version, n, start, moves, trace, whole, some))) =
    let more_left = λ (none : rest ++ more ≡ []). some_bytes before byte more (ap (λ (bytes : List ℕ). bytes ++ more) (sym is) ∙ none) in
    inr (inr (version, n, start, moves, trace, whole, more_left))

pub wrong_goes_on : LawsBelow → (prefix : List Line) (rest more : List ℕ) (why : Cause) → IsOver prefix rest → IsWrong prefix rest why
    → IsWrong prefix (rest ++ more) why
wrong_goes_on laws prefix rest more cause.Line over w = no_line_goes_on laws prefix rest more over w
wrong_goes_on laws prefix rest more cause.Sends over (version, n, start, moves, due, so_far, line, others, begins, unsent) =
    (version, n, start, moves, due, so_far, line, others ++ more, begins_more version rest more line others begins, unsent)
wrong_goes_on laws prefix rest more cause.Table over (version, n, start, moves, due, so_far, mark, others, begins, refused) =
    (version, n, start, moves, due, so_far, mark, others ++ more, begins_more version rest more (Marked mark) others begins, refused)
wrong_goes_on laws prefix rest more cause.Marks over (version, n, start, moves, due, so_far, line, others, begins, undue) =
    (version, n, start, moves, due, so_far, line, others ++ more, begins_more version rest more line others begins, undue)
wrong_goes_on laws prefix rest more cause.Refused over (version, n, start, moves, so_far, step, others, begins, whose, stops) =
    (version, n, start, moves, so_far, step, others ++ more, begins_more version rest more (Stepped step) others begins, whose, stops)
wrong_goes_on laws prefix rest more cause.NotUnderWay over (version, n, start, moves, so_far, step, others, begins, takes, stops) =
    (version, n, start, moves, so_far, step, others ++ more, begins_more version rest more (Stepped step) others begins, takes, stops)

-- ---- The whole input

nothing_over : (prefix : List Line) (rest : List ℕ) → rest ≡ [] → IsOver prefix rest → ⊥
nothing_over prefix rest none (before, byte, opened, is, how) =
    some_bytes before byte [] (append-nil (before ++ byte ∷ []) ∙ (sym is ∙ none))

-- what was read is all of a known input, if the text is valid
record AllRead (limit : ℕ) (input : List ℕ) (new : Option (List ℕ)) (prefix : List Line) : Type 0 where
  input_is : input ≡ flat_map line_text prefix
  at_most : length input ≤ limit
  taken : Consumes (Some input) new input

all_read : (limit : ℕ) (input : List ℕ) (new : Option (List ℕ)) (requests messages : ℕ)
    → (j : Judges limit (Some input) new (Valid requests messages)) → AllRead limit input new j.0
all_read limit input None requests messages (prefix, rest, read, how, shows) = absurd read.taken
all_read limit input (Some left) requests messages (prefix, rest, read, how, shows) =
    elim how [
      | inl over ↦ absurd (nothing_over prefix rest shows.0 over)
      | inr (opened, ended) ↦
          let taken : input ≡ flat_map line_text prefix ++ rest = read.taken ∙ ap (λ (bytes : List ℕ). (flat_map line_text prefix ++ rest) ++ bytes) ended
          ∙ append-nil (flat_map line_text prefix ++ rest) in
          record {
            input_is = taken ∙ ap (λ (bytes : List ℕ). flat_map line_text prefix ++ bytes) shows.0 ∙ append-nil (flat_map line_text prefix);
            at_most = subst (λ (bytes : List ℕ). length bytes ≤ limit) (sym taken) read.at_most;
            taken = sym (append-nil input) ∙ ap (λ (bytes : List ℕ). input ++ bytes) (sym ended);
          }
    ]

verdict_of_bytes : LawsBelow → (limit : ℕ) (input : List ℕ) (new : Option (List ℕ)) (verdict : Verdict) → Judges limit (Some input) new verdict
    → IsVerdict input verdict
verdict_of_bytes laws limit input new (Valid requests messages) j =
    let all = all_read limit input new requests messages j in
    subst (λ (text : List ℕ). IsVerdict text (Valid requests messages)) (sym all.input_is) j.4.1
verdict_of_bytes laws limit input None (Invalid line why) (prefix, rest, read, how, shows) = absurd read.taken
verdict_of_bytes laws limit input (Some left) (Invalid line why) (prefix, rest, read, how, shows) = (
  prefix,
  rest ++ left,
  read.taken ∙ append_assoc (flat_map line_text prefix) rest left,
  shows.0,
  elim how [
    | inl over ↦ wrong_goes_on laws prefix rest left why over shows.1
    | inr (opened, ended) ↦ subst (λ (bytes : List ℕ). IsWrong prefix bytes why)
        (sym (ap (λ (bytes : List ℕ). rest ++ bytes) ended ∙ append-nil rest)) shows.1
  ],
)

pub verdict_of_input : LawsBelow → (limit : ℕ) (old new : Option (List ℕ)) (verdict : Verdict) → Judges limit old new verdict
    → IfSome old (λ input. IsVerdict input verdict)
verdict_of_input laws limit None new verdict j = tt
verdict_of_input laws limit (Some input) new verdict j = verdict_of_bytes laws limit input new verdict j

pub valid_input : (limit : ℕ) (old new : Option (List ℕ)) (verdict : Verdict) → Judges limit old new verdict
    → IfSome old (λ input. (requests messages : ℕ) → verdict ≡ Valid requests messages → (length input ≤ limit) × Consumes old new input)
valid_input limit None new verdict j = tt
valid_input limit (Some input) new verdict j = λ requests messages is.
    let all = all_read limit input new requests messages (subst (Judges limit (Some input) new) is j) in (all.at_most, all.taken)

pub table_of_input : LawsBelow → (limit : ℕ) (old new : Option (List ℕ)) (verdict : Verdict) → Judges limit old new verdict
    → IfSome old (λ input. (requests messages : ℕ) → verdict ≡ Valid requests messages → IsTraceOfTableRun input)
table_of_input laws limit None new verdict j = tt
table_of_input laws limit (Some input) new verdict j = λ requests messages is.
    let found = subst (IsVerdict input) is (verdict_of_bytes laws limit input new verdict j) in
    let trace = found.4 in
    let table = laws.has_table found.1 found.2 found.3 trace.count trace.run in
    (found.0, found.1, found.2, found.3, trace, table.0, table.1)

-- what was read has the verdict too
pub alone : (limit : ℕ) (old new : Option (List ℕ)) (verdict : Verdict) → Judges limit old new verdict
    → (taken : List ℕ) × IsVerdict taken verdict × (length taken ≤ limit) × Consumes old new taken
alone limit old new (Valid requests messages) (prefix, rest, read, how, shows) =
    let whole : flat_map line_text prefix ≡ flat_map line_text prefix ++ rest =
    sym (ap (λ (bytes : List ℕ). flat_map line_text prefix ++ bytes) shows.0 ∙ append-nil (flat_map line_text prefix)) in
    (flat_map line_text prefix ++ rest, subst (λ (text : List ℕ). IsVerdict text (Valid requests messages)) whole shows.1, read.at_most, read.taken)
alone limit old new (Invalid line why) (prefix, rest, read, how, shows) =
    (flat_map line_text prefix ++ rest, (prefix, rest, refl, shows.0, shows.1), read.at_most, read.taken)

-- the text has no other verdict
pub only_verdict : LawsBelow → ((text : List ℕ) (a b : Verdict) → IsVerdict text a → IsVerdict text b → a ≡ b)
    → (limit : ℕ) (old new : Option (List ℕ)) (verdict : Verdict) → Judges limit old new verdict
    → IfSome old (λ input. (other : Verdict) → IsVerdict input other ↔ (verdict ≡ other))
only_verdict laws one limit None new verdict j = tt
only_verdict laws one limit (Some input) new verdict j = λ other.
    let is = verdict_of_bytes laws limit input new verdict j in
    (one input verdict other is, λ same. subst (IsVerdict input) same is)

pub trace_of_input : LawsBelow → ((text : List ℕ) (a b : Verdict) → IsVerdict text a → IsVerdict text b → a ≡ b)
    → (limit : ℕ) (old new : Option (List ℕ)) (verdict : Verdict) → Judges limit old new verdict
    → IfSome old (λ input. (version : Version) (n start : ℕ) (moves : List Move) → IsTraceIn version n start moves input
    → verdict ≡ Valid (requests_in (marks_of moves)) (length (sent_by moves)))
trace_of_input laws one limit None new verdict j = tt
trace_of_input laws one limit (Some input) new verdict j = λ version n start moves trace.
    one input verdict (Valid (requests_in (marks_of moves)) (length (sent_by moves))) (verdict_of_bytes laws limit input new verdict j)
    (version, n, start, moves, trace, refl, refl)

-- ---- What each answer says of the input

if_judged : (limit : ℕ) (old new : Option (List ℕ)) (P : Verdict → Type 0) (result : Result Verdict TraceError) → Answers limit old new result
    → ((verdict : Verdict) → Judges limit old new verdict → P verdict) → IfOk result P
if_judged limit old new P (Ok verdict) answer each = each verdict answer
if_judged limit old new P (Err fault) answer each = tt

module _ (limit : ℕ) (old new : Option (List ℕ)) where
  failed : (result : Result Verdict TraceError) → Answers limit old new result → IsErrOf result Read → ReadsOn limit old new
  failed (Ok verdict) answer is = absurd cc
  failed (Err Read) answer is = answer
  failed (Err Limit) answer is = absurd cc
  failed (Err Memory) answer is = absurd cc

  passed : (result : Result Verdict TraceError) → Answers limit old new result → IsErrOf result Limit → PassesLimit limit old new
  passed (Ok verdict) answer is = absurd cc
  passed (Err Read) answer is = absurd cc
  passed (Err Limit) answer is = answer
  passed (Err Memory) answer is = absurd cc

  stopped : (result : Result Verdict TraceError) → Answers limit old new result → IsErrOf result Memory → StopsAfter limit old new
  stopped (Ok verdict) answer is = absurd cc
  stopped (Err Read) answer is = absurd cc
  stopped (Err Limit) answer is = absurd cc
  stopped (Err Memory) answer is = answer

  at_most : (result : Result Verdict TraceError) → Answers limit old new result → (taken : List ℕ) × (length taken ≤ limit + 1) × Consumes old new taken
  at_most (Ok verdict) (prefix, rest, read, how, shows) = (flat_map line_text prefix ++ rest, omega (arith, read.at_most), read.taken)
  at_most (Err Read) (prefix, rest, read, opened) = (flat_map line_text prefix ++ rest, omega (arith, read.at_most), read.taken)
  at_most (Err Limit) (prefix, rest, byte, read, full, opened) = (flat_map line_text prefix ++ (rest ++ byte ∷ []), read.at_most, read.taken)
  at_most (Err Memory) (prefix, begun, taken, most) = (flat_map line_text prefix, omega (arith, most), taken)

  pub checked : LawsBelow → ((text : List ℕ) (a b : Verdict) → IsVerdict text a → IsVerdict text b → a ≡ b)
      → (result : Result Verdict TraceError) → Answers limit old new result → ChecksTrace limit old new result
  checked laws one result answer =
      record {
        ok = if_judged limit old new _ result answer (verdict_of_input laws limit old new);
        valid = if_judged limit old new _ result answer (valid_input limit old new);
        table = if_judged limit old new _ result answer (table_of_input laws limit old new);
        judged = if_judged limit old new _ result answer (λ verdict j. j);
        alone = if_judged limit old new _ result answer (alone limit old new);
        exact = if_judged limit old new _ result answer (only_verdict laws one limit old new);
        trace = if_judged limit old new _ result answer (trace_of_input laws one limit old new);
        failed = failed result answer;
        limit = passed result answer;
        memory = stopped result answer;
        at_most = at_most result answer;
      }
