-- How far a checker has come in a mark log.
use Rattle.std.proofs.Common.{◌≡◌, ◌≢◌, ℕ, ◌+◌, ◌-◌, ◌≤◌, List, [], ◌∷◌, ◌++◌, length, All, Option, refl, sym, ap, ◌∙◌, subst, inl, inr, arith, length-append, codes}
use Rattle.std.specs.Prelude.{◌⊎◌, Some, None, Result, Ok, Err, IfOk, IfSome}
use Rattle.std.specs.Io.KnownBytes.{Consumes, IsAtEnd}
use Rattle.std.proofs.lemmas.List.{append-nil, nil_from_length}
use Rattle.std.proofs.lemmas.List.Elements.{All-nil, All-cons, All-head, All-tail}
use Rattle.std.proofs.lemmas.Grind.{flat_map-append}
use Rattle.ra_stamp.specs.declared.entry.Mark.{Mark}
use Rattle.ra_stamp.specs.declared.entry.Mark.TheVariants.{Requested, Entered, Left, Withdrawn}
use Rattle.ra_table.specs.Table.{empty_table, TableRun}
use Rattle.ra_table.specs.Laws.{AllowsMark}
use Rattle.ra_text.specs.Lines.{entry_fields, mark_line}
use Rattle.ra_world.specs.Quiet.{requests_in}
use Rattle.ra_trace.specs.declared.error.TraceError.{TraceError}
use Rattle.ra_trace.specs.declared.error.TraceError.TheVariants.{Read, Limit, Memory}
use Rattle.ra_trace.specs.declared.line.Line.{Line}
use Rattle.ra_trace.specs.declared.line.Line.TheVariants as line
use Rattle.ra_trace.specs.declared.mark_log.MarkLog.{MarkLog}
use Rattle.ra_trace.specs.declared.mark_log.MarkJudgement.{MarkJudgement}
use Rattle.ra_trace.specs.declared.mark_log.MarkJudgement.TheVariants.{Right, End, Wrong}
use Rattle.ra_trace.specs.declared.mark_log.marks_verdict.MarkCause.{MarkCause}
use Rattle.ra_trace.specs.declared.mark_log.marks_verdict.MarkCause.TheVariants as cause
use Rattle.ra_trace.specs.declared.mark_log.marks_verdict.MarksVerdict.TheVariants.{Valid, Invalid}
use Rattle.ra_trace.specs.declared.line_source.byte_lines.LineEnd.TheVariants.{Feed}
use Rattle.ra_trace.specs.declared.line.version.Version.TheVariants.{Three}
use Rattle.ra_trace.specs.Forms.{BeginsReadable}
use Rattle.ra_trace.specs.Reading.{IsOpenLine}
use Rattle.ra_trace.specs.NextLine.{EndsSo, TakesBytes, FailsWithin, HasNone, IsOverLine}
use Rattle.ra_trace.specs.TraceText.{IsMarkLine}
use Rattle.ra_trace.specs.Marks.{marks_text, grants_in, IsMarkRun, TableRefuses}
use Rattle.ra_trace.specs.MarksReading.{HasReadMarks, ShowsMarks, JudgesMarks, StopsAfterMarks, AnswersMarks}
use Rattle.ra_trace.specs.MarksAlong.{TableLaws, TakesMark, IsLogOf, IsAlongMarks, JudgedMark, JudgedOther, JudgedLine, IsMissing, HasLinesBefore, HasTakenLog, TurnsMarks, SomeMarkTaken}
use Rattle.ra_trace.proofs.Along.{consumed_both, nothing_taken}
use Rattle.ra_trace.proofs.Ends.{feed_is_over, some_bytes_at_feed}
use Rattle.ra_trace.proofs.Lines.{begins_once}
use Rattle.ra_trace.proofs.MarkInputs.{all_read}

-- ---- Counts

requests_after : (marks : List Mark) (mark : Mark) → requests_in (marks ++ mark ∷ []) ≡ requests_in marks + requests_in (mark ∷ [])
requests_after [] mark = omega arith
requests_after (Requested e ∷ marks) mark = omega (arith, requests_after marks mark)
requests_after (Entered e ∷ marks) mark = requests_after marks mark
requests_after (Left e ∷ marks) mark = requests_after marks mark
requests_after (Withdrawn e ∷ marks) mark = requests_after marks mark

grants_after : (marks : List Mark) (mark : Mark) → grants_in (marks ++ mark ∷ []) ≡ grants_in marks + grants_in (mark ∷ [])
grants_after [] mark = omega arith
grants_after (Requested e ∷ marks) mark = grants_after marks mark
grants_after (Entered e ∷ marks) mark = omega (arith, grants_after marks mark)
grants_after (Left e ∷ marks) mark = grants_after marks mark
grants_after (Withdrawn e ∷ marks) mark = grants_after marks mark

pub few_requests : (marks : List Mark) → requests_in marks ≤ length marks
few_requests [] = omega arith
few_requests (Requested e ∷ marks) = omega (arith, few_requests marks)
few_requests (Entered e ∷ marks) = omega (arith, few_requests marks)
few_requests (Left e ∷ marks) = omega (arith, few_requests marks)
few_requests (Withdrawn e ∷ marks) = omega (arith, few_requests marks)

pub few_grants : (marks : List Mark) → grants_in marks ≤ length marks
few_grants [] = omega arith
few_grants (Requested e ∷ marks) = omega (arith, few_grants marks)
few_grants (Entered e ∷ marks) = omega (arith, few_grants marks)
few_grants (Left e ∷ marks) = omega (arith, few_grants marks)
few_grants (Withdrawn e ∷ marks) = omega (arith, few_grants marks)

-- each mark has a byte at least
mark_has_length : (mark : Mark) → 1 ≤ length (mark_line mark)
mark_has_length (Requested e) = omega (arith, length-append (codes "request") (entry_fields e ++ codes "\n"))
mark_has_length (Entered e) = omega (arith, length-append (codes "enter") (entry_fields e ++ codes "\n"))
mark_has_length (Left e) = omega (arith, length-append (codes "leave") (entry_fields e ++ codes "\n"))
mark_has_length (Withdrawn e) = omega (arith, length-append (codes "withdraw") (entry_fields e ++ codes "\n"))

marks_have_length : (marks : List Mark) → length marks ≤ length (marks_text marks)
marks_have_length [] = omega arith
marks_have_length (mark ∷ marks) =
    omega (arith, length-append (mark_line mark) (marks_text marks), mark_has_length mark, marks_have_length marks)

-- so there are no more of them than bytes
pub record IsFew (limit : ℕ) (log : MarkLog) (number : ℕ) : Type 0 where
  pub requests : log.requests ≤ limit
  pub grants : log.grants ≤ limit
  pub number_is : number ≤ limit + 1

pub few : (limit left : ℕ) (old now : Option (List ℕ)) (log : MarkLog) (number : ℕ) → IsAlongMarks limit left old now log number → IsFew limit log number
few limit left old now log number along =
    let so_far = along.so_far in
    let some = marks_have_length along.marks in
    record {
      requests = omega (arith, so_far.requests_is, few_requests along.marks, some, along.room);
      grants = omega (arith, so_far.grants_is, few_grants along.marks, some, along.room);
      number_is = omega (arith, along.number_is, some, along.room);
    }

-- ---- After right lines

pub run_of : (log : MarkLog) (marks : List Mark) → IsLogOf log marks → IsMarkRun marks
run_of log marks so_far = record { lines = so_far.lines; table = log.table; run = so_far.run }

has_read : (limit left : ℕ) (old now new : Option (List ℕ)) (log : MarkLog) (number : ℕ) (bytes : List ℕ)
    → (along : IsAlongMarks limit left old now log number) → Consumes now new bytes → length bytes ≤ left
    → HasReadMarks limit old new along.marks bytes
has_read limit left old now new log number bytes along taken most = record {
  taken = consumed_both old now new (marks_text along.marks) bytes along.taken taken;
  at_most = omega (arith, length-append (marks_text along.marks) bytes, along.room, most);
  run = run_of log along.marks along.so_far;
}

-- an error of what comes next
pub fails_there : (limit left : ℕ) (old now new : Option (List ℕ)) (log : MarkLog) (number : ℕ) (bytes : List ℕ) (fault : TraceError)
    → IsAlongMarks limit left old now log number → FailsWithin left now new bytes fault → AnswersMarks limit old new (Err fault)
fails_there limit left old now new log number bytes Read along (taken, opened) =
    (along.marks, bytes, has_read limit left old now new log number bytes along taken.0 taken.1, opened)
fails_there limit left old now new log number bytes Limit along (byte, taken, full, opened) = (
  along.marks,
  bytes,
  byte,
  record {
    taken = consumed_both old now new (marks_text along.marks) (bytes ++ byte ∷ []) along.taken taken;
    at_most =
        omega (arith, length-append (marks_text along.marks) (bytes ++ byte ∷ []), length-append bytes (byte ∷ []), along.room, full);
    run = run_of log along.marks along.so_far;
  },
  omega (arith, length-append (marks_text along.marks) bytes, along.room, full),
  opened,
)
fails_there limit left old now new log number bytes Memory along none = absurd none

-- no line comes next
pub none_there : (limit left : ℕ) (old now new : Option (List ℕ)) (log : MarkLog) (number : ℕ) (bytes : List ℕ)
    → IsAlongMarks limit left old now log number → TakesBytes left now new bytes → HasNone bytes new → bytes ≢ []
    → JudgesMarks limit old new (Invalid number cause.Line)
none_there limit left old now new log number bytes along taken none some = (
  along.marks,
  bytes,
  has_read limit left old now new log number bytes along taken.0 taken.1,
  none.1,
  (along.number_is, inl (refl, some, λ mark rest begins. none.0 (line.Marked mark) rest begins)),
)

-- at the end of a known input, so many lines came
lines_before : (limit : ℕ) (old new : Option (List ℕ)) (requests grants : ℕ) (marks : List Mark) (rest : List ℕ) (number : ℕ)
    → HasReadMarks limit old new marks rest → (IsOverLine rest ⊎ (IsOpenLine rest × IsAtEnd new)) → ShowsMarks marks rest (Valid requests grants)
    → number ≡ length marks + 1 → HasLinesBefore old number
lines_before limit None new requests grants marks rest number read how shows is = tt
lines_before limit (Some input) new requests grants marks rest number read how shows is =
    (marks, read.run, (all_read limit input new requests grants (marks, rest, read, how, shows)).input_is, is)

-- and these are all of it
whole_input : (limit : ℕ) (old new : Option (List ℕ)) (requests grants : ℕ) (marks : List Mark) (rest : List ℕ) → HasReadMarks limit old new marks rest
    → (IsOverLine rest ⊎ (IsOpenLine rest × IsAtEnd new)) → ShowsMarks marks rest (Valid requests grants) → IfSome old (λ input. input ≡ marks_text marks)
whole_input limit None new requests grants marks rest read how shows = tt
whole_input limit (Some input) new requests grants marks rest read how shows =
    (all_read limit input new requests grants (marks, rest, read, how, shows)).input_is

whole_taken : (old new : Option (List ℕ)) (marks : List Mark) (rest : List ℕ) → Consumes old new (marks_text marks ++ rest) → rest ≡ []
    → Consumes old new (marks_text marks)
whole_taken old new marks rest taken none =
    subst (Consumes old new) (ap (λ (bytes : List ℕ). marks_text marks ++ bytes) none ∙ append-nil (marks_text marks)) taken

-- nothing comes next
pub end_there : (limit left : ℕ) (old now new : Option (List ℕ)) (log : MarkLog) (number : ℕ) (bytes : List ℕ)
    → IsAlongMarks limit left old now log number → TakesBytes left now new bytes → HasNone bytes new → bytes ≡ []
    → JudgesMarks limit old new (Valid log.requests log.grants) × HasLinesBefore old number × HasTakenLog old new log
end_there limit left old now new log number bytes along taken none nothing =
    let so_far = along.so_far in
    let read = has_read limit left old now new log number bytes along taken.0 taken.1 in
    let judges : JudgesMarks limit old new (Valid log.requests log.grants) =
    (along.marks, bytes, read, none.1, (nothing, so_far.requests_is, so_far.grants_is)) in
    let shows : ShowsMarks along.marks bytes (Valid log.requests log.grants) = (nothing, so_far.requests_is, so_far.grants_is) in (
      judges,
      lines_before limit old new log.requests log.grants along.marks bytes number read none.1 shows along.number_is,
      (along.marks, so_far, whole_taken old new along.marks bytes read.taken nothing, whole_input limit old new log.requests log.grants along.marks bytes read none.1 shows),
    )

some_at_feed : (bytes : List ℕ) (new : Option (List ℕ)) → EndsSo Feed bytes new → bytes ≢ []
some_at_feed bytes new ended = λ none. let some = some_bytes_at_feed bytes new ended in absurd (omega (arith, some, ap length none))

-- the line of no mark comes next
other_there : (limit left : ℕ) (old now new : Option (List ℕ)) (log : MarkLog) (number : ℕ) (given : Line) (bytes : List ℕ)
    → IsAlongMarks limit left old now log number → TakesBytes left now new bytes → BeginsReadable bytes given [] → EndsSo Feed bytes new
    → ((mark : Mark) → given ≡ line.Marked mark → ⊥) → JudgesMarks limit old new (Invalid number cause.Line)
other_there limit left old now new log number given bytes along taken begins ended other = (
  along.marks,
  bytes,
  has_read limit left old now new log number bytes along taken.0 taken.1,
  inl (feed_is_over bytes new ended),
  (
    along.number_is,
    inl (
      refl,
      some_at_feed bytes new ended,
      λ mark rest there. other mark (begins_once bytes given (line.Marked mark) [] rest begins there).0,
    ),
  ),
)

-- the table refuses the mark that comes next
refused_there : (limit left : ℕ) (old now new : Option (List ℕ)) (log : MarkLog) (number : ℕ) (mark : Mark) (bytes : List ℕ) (why : MarkCause)
    → IsAlongMarks limit left old now log number → TakesBytes left now new bytes → BeginsReadable bytes (line.Marked mark) []
    → EndsSo Feed bytes new → TableRefuses log.table mark why → JudgesMarks limit old new (Invalid number why)
refused_there limit left old now new log number mark bytes why along taken begins ended refused =
    let so_far = along.so_far in (
      along.marks,
      bytes,
      has_read limit left old now new log number bytes along taken.0 taken.1,
      inl (feed_is_over bytes new ended),
      (along.number_is, inr (log.table, so_far.run, mark, [], begins, refused)),
    )

-- ---- One mark more

All-push : (P : Mark → Type 0) (marks : List Mark) (mark : Mark) → All P marks → P mark → All P (marks ++ mark ∷ [])
All-push P [] mark h p = All-cons P mark [] p (All-nil P)
All-push P (m ∷ marks) mark h p = All-cons P m (marks ++ mark ∷ []) (All-head P m marks h) (All-push P marks mark (All-tail P m marks h) p)

pub one_more : (marks : List Mark) (mark : Mark) (bytes : List ℕ) → bytes ≡ mark_line mark ++ []
    → marks_text marks ++ bytes ≡ marks_text (marks ++ mark ∷ [])
one_more marks mark bytes is = ap (λ (xs : List ℕ). marks_text marks ++ xs) is ∙ sym (flat_map-append mark_line marks (mark ∷ []))

taken_more : (limit left : ℕ) (old now new : Option (List ℕ)) (log : MarkLog) (number : ℕ) (mark : Mark) (bytes : List ℕ)
    → (along : IsAlongMarks limit left old now log number) → TakesBytes left now new bytes → BeginsReadable bytes (line.Marked mark) []
    → Consumes old new (marks_text (along.marks ++ mark ∷ []))
    × (length (marks_text (along.marks ++ mark ∷ [])) + (left - length bytes) ≡ limit)
taken_more limit left old now new log number mark bytes along taken begins =
    let is = one_more along.marks mark bytes begins.1 in (
      subst (Consumes old new) is (consumed_both old now new (marks_text along.marks) bytes along.taken taken.0),
      omega (arith, ap length (sym is), length-append (marks_text along.marks) bytes, along.room, taken.1),
    )

pub log_more : TableLaws → (log after : MarkLog) (marks : List Mark) (mark : Mark) → IsLogOf log marks → IsMarkLine Three mark
    → TakesMark log mark after → IsLogOf after (marks ++ mark ∷ [])
log_more laws log after marks mark so_far fits takes = record {
  lines = All-push (IsMarkLine Three) marks mark so_far.lines fits;
  run = laws.steps_on marks mark log.table after.table so_far.run takes.step;
  requests_is = omega (arith, takes.requests_is, so_far.requests_is, requests_after marks mark);
  grants_is = omega (arith, takes.grants_is, so_far.grants_is, grants_after marks mark);
}

more_there : TableLaws → (limit left : ℕ) (old now new : Option (List ℕ)) (log after : MarkLog) (number : ℕ) (mark : Mark) (bytes : List ℕ)
    → IsAlongMarks limit left old now log number → TakesBytes left now new bytes → BeginsReadable bytes (line.Marked mark) []
    → TakesMark log mark after → IsAlongMarks limit (left - length bytes) old new after (number + 1)
more_there laws limit left old now new log after number mark bytes along taken begins takes =
    let more = taken_more limit left old now new log number mark bytes along taken begins in
    record {
      marks = along.marks ++ mark ∷ [];
      taken = more.0;
      room = more.1;
      number_is = omega (arith, along.number_is, length-append along.marks (mark ∷ []));
      so_far = log_more laws log after along.marks mark along.so_far begins.0 takes;
    }

-- the mark is allowed, and memory ran out
memory_there : TableLaws → (limit left : ℕ) (old now new : Option (List ℕ)) (log : MarkLog) (number : ℕ) (mark : Mark) (bytes : List ℕ)
    → IsAlongMarks limit left old now log number → TakesBytes left now new bytes → BeginsReadable bytes (line.Marked mark) []
    → AllowsMark log.table mark → StopsAfterMarks limit old new
memory_there laws limit left old now new log number mark bytes along taken begins allowed =
    let so_far = along.so_far in
    let more = taken_more limit left old now new log number mark bytes along taken begins in
    let next = (laws.goes_on along.marks mark log.table so_far.run).0 allowed in (
      along.marks ++ mark ∷ [],
      record { lines = All-push (IsMarkLine Three) along.marks mark so_far.lines begins.0; table = next.0; run = next.1 },
      more.0,
      omega (arith, more.1),
    )

-- ---- The outcome of a line

mark_turns : TableLaws → (limit left : ℕ) (old now new : Option (List ℕ)) (log after : MarkLog) (number : ℕ) (mark : Mark) (bytes : List ℕ)
    (result : Result MarkJudgement TraceError) → IsAlongMarks limit left old now log number → TakesBytes left now new bytes
    → BeginsReadable bytes (line.Marked mark) [] → EndsSo Feed bytes new → JudgedMark log mark after result
    → TurnsMarks limit left old new after number (length bytes) result
mark_turns laws limit left old now new log after number mark bytes (Ok Right) along taken begins ended is =
    more_there laws limit left old now new log after number mark bytes along taken begins is
mark_turns laws limit left old now new log after number mark bytes (Ok End) along taken begins ended is = absurd is
mark_turns laws limit left old now new log after number mark bytes (Ok (Wrong why)) along taken begins ended is =
    refused_there limit left old now new log number mark bytes why along taken begins ended is
mark_turns laws limit left old now new log after number mark bytes (Err fault) along taken begins ended is =
    subst (λ (why : TraceError). AnswersMarks limit old new (Err why)) (sym is.0)
    (memory_there laws limit left old now new log number mark bytes along taken begins is.1)

other_turns : (limit left : ℕ) (old now new : Option (List ℕ)) (log after : MarkLog) (number : ℕ) (given : Line) (bytes : List ℕ)
    (result : Result MarkJudgement TraceError) → IsAlongMarks limit left old now log number → TakesBytes left now new bytes
    → BeginsReadable bytes given [] → EndsSo Feed bytes new → ((mark : Mark) → given ≡ line.Marked mark → ⊥) → JudgedOther result
    → TurnsMarks limit left old new after number (length bytes) result
other_turns limit left old now new log after number given bytes (Ok Right) along taken begins ended other is = absurd is
other_turns limit left old now new log after number given bytes (Ok End) along taken begins ended other is = absurd is
other_turns limit left old now new log after number given bytes (Ok (Wrong why)) along taken begins ended other is =
    subst (λ (w : MarkCause). JudgesMarks limit old new (Invalid number w)) (sym is)
    (other_there limit left old now new log number given bytes along taken begins ended other)
other_turns limit left old now new log after number given bytes (Err fault) along taken begins ended other is = absurd is

pub turns_by : TableLaws → (limit left : ℕ) (old now new : Option (List ℕ)) (log after : MarkLog) (number : ℕ) (given : Line) (bytes : List ℕ)
    (result : Result MarkJudgement TraceError) → IsAlongMarks limit left old now log number → TakesBytes left now new bytes
    → BeginsReadable bytes given [] → EndsSo Feed bytes new → JudgedLine log given after result
    → TurnsMarks limit left old new after number (length bytes) result
turns_by laws limit left old now new log after number (line.First version nodes start) bytes result along taken begins ended is =
    other_turns limit left old now new log after number (line.First version nodes start) bytes result along taken begins ended (λ mark e. cc) is
turns_by laws limit left old now new log after number (line.Stepped step) bytes result along taken begins ended is =
    other_turns limit left old now new log after number (line.Stepped step) bytes result along taken begins ended (λ mark e. cc) is
turns_by laws limit left old now new log after number (line.Sent message) bytes result along taken begins ended is =
    other_turns limit left old now new log after number (line.Sent message) bytes result along taken begins ended (λ mark e. cc) is
turns_by laws limit left old now new log after number (line.Marked mark) bytes result along taken begins ended is =
    mark_turns laws limit left old now new log after number mark bytes result along taken begins ended is
turns_by laws limit left old now new log after number line.Last bytes result along taken begins ended is =
    other_turns limit left old now new log after number line.Last bytes result along taken begins ended (λ mark e. cc) is

-- such a line took some bytes
pub some_taken_by : (left : ℕ) (now new : Option (List ℕ)) (bytes : List ℕ) (result : Result MarkJudgement TraceError) → TakesBytes left now new bytes
    → EndsSo Feed bytes new → IfOk result (λ next. SomeMarkTaken left (length bytes) next)
some_taken_by left now new bytes (Ok Right) taken ended = (some_bytes_at_feed bytes new ended, taken.1)
some_taken_by left now new bytes (Ok End) taken ended = tt
some_taken_by left now new bytes (Ok (Wrong why)) taken ended = tt
some_taken_by left now new bytes (Err fault) taken ended = tt

-- what comes if there is no line
pub none_turns : (limit left : ℕ) (old now new : Option (List ℕ)) (log : MarkLog) (number : ℕ) (bytes : List ℕ) (next : MarkJudgement)
    → IsAlongMarks limit left old now log number → TakesBytes left now new bytes → HasNone bytes new → IsMissing (length bytes) next
    → TurnsMarks limit left old new log number (length bytes) (Ok next)
none_turns limit left old now new log number bytes Right along taken none is = absurd is
none_turns limit left old now new log number bytes End along taken none is =
    end_there limit left old now new log number bytes along taken none (nil_from_length bytes is)
none_turns limit left old now new log number bytes (Wrong why) along taken none is =
    subst (λ (w : MarkCause). JudgesMarks limit old new (Invalid number w)) (sym is.0)
    (none_there limit left old now new log number bytes along taken none (λ nothing. is.1 (ap length nothing)))

pub none_taken : (left count : ℕ) (next : MarkJudgement) → IsMissing count next → SomeMarkTaken left count next
none_taken left count Right is = absurd is
none_taken left count End is = tt
none_taken left count (Wrong why) is = tt

-- nothing was taken yet
pub begins_log : TableLaws → (limit : ℕ) (old : Option (List ℕ)) (log : MarkLog) → log ≡ record { table = empty_table; requests = 0; grants = 0 }
    → IsAlongMarks limit limit old old log 1
begins_log laws limit old log is = record {
  marks = [];
  taken = nothing_taken old;
  room = omega arith;
  number_is = omega arith;
  so_far = record {
    lines = All-nil (IsMarkLine Three);
    run = subst (λ (l : MarkLog). TableRun [] l.table) (sym is) laws.empty;
    requests_is = ap (λ (l : MarkLog). l.requests) is;
    grants_is = ap (λ (l : MarkLog). l.grants) is;
  };
}

-- lines are counted from 1
pub some_number : (limit left : ℕ) (old now : Option (List ℕ)) (log : MarkLog) (number : ℕ) → IsAlongMarks limit left old now log number → 1 ≤ number
some_number limit left old now log number along = omega (arith, along.number_is)

-- there is no memory for a log
pub no_log : TableLaws → (limit : ℕ) (old : Option (List ℕ)) → StopsAfterMarks limit old old
no_log laws limit old =
    ([], record { lines = All-nil (IsMarkLine Three); table = empty_table; run = laws.empty }, nothing_taken old, omega arith)

-- what is left if it is neither wrong nor the end
pub right_turns : (limit left : ℕ) (old new : Option (List ℕ)) (after : MarkLog) (number count : ℕ) (next : MarkJudgement)
    → TurnsMarks limit left old new after number count (Ok next) → ((why : MarkCause) → next ≡ Wrong why → ⊥) → (next ≡ End → ⊥)
    → IsAlongMarks limit (left - count) old new after (number + 1)
right_turns limit left old new after number count Right turns wrong end = turns
right_turns limit left old new after number count End turns wrong end = absurd (end refl)
right_turns limit left old new after number count (Wrong why) turns wrong end = absurd (wrong why refl)

-- a right line has some bytes, and not more than there may be
pub some_mark_taken : (left count : ℕ) (next : MarkJudgement) → SomeMarkTaken left count next → ((why : MarkCause) → next ≡ Wrong why → ⊥)
    → (next ≡ End → ⊥) → (1 ≤ count) × (count ≤ left)
some_mark_taken left count Right some wrong end = some
some_mark_taken left count End some wrong end = absurd (end refl)
some_mark_taken left count (Wrong why) some wrong end = absurd (wrong why refl)
