-- How far a checker has come in what it reads.
use Rattle.std.proofs.Common.{◌≡◌, ◌≢◌, ◌⊎◌, ℕ, ◌+◌, ◌-◌, ◌<◌, ◌≤◌, List, [], ◌∷◌, ◌++◌, length, Option, Some, None, refl, sym, ap, ◌∙◌, subst, inl, inr, arith, append_assoc, length-append}
use Rattle.std.specs.Prelude.{flat_map, Result, Ok, Err, IfOk, IfErr, IfSome, IsNone}
use Rattle.std.specs.Io.KnownBytes.{Consumes, IsAtEnd}
use Rattle.std.proofs.lemmas.List.{append-nil}
use Rattle.std.proofs.lemmas.List.Elements.{All-nil}
use Rattle.std.proofs.lemmas.Grind.{flat_map-append}
use Rattle.ra_stamp.specs.declared.entry.Mark.{Mark}
use Rattle.ra_table.specs.Table.{TableRun}
use Rattle.ra_world.specs.Run.{marks_of}
use Rattle.ra_world.specs.Quiet.{requests_in}
use Rattle.ra_world.specs.Traffic.{sent_by}
use Rattle.ra_trace.specs.declared.checker.Judgement.{Judgement}
use Rattle.ra_trace.specs.declared.error.TraceError.{TraceError}
use Rattle.ra_trace.specs.declared.error.TraceError.TheVariants.{Read, Limit, Memory}
use Rattle.ra_trace.specs.declared.line.Line.{Line}
use Rattle.ra_trace.specs.declared.line.Line.TheVariants.{First, Stepped, Sent, Marked, Last}
use Rattle.ra_trace.specs.declared.line_source.byte_lines.LineEnd.TheVariants.{Feed}
use Rattle.ra_trace.specs.declared.checker.verdict.Cause.{Cause}
use Rattle.ra_trace.specs.declared.checker.verdict.Cause.TheVariants as cause
use Rattle.ra_trace.specs.declared.checker.verdict.Verdict.{Verdict}
use Rattle.ra_trace.specs.declared.checker.verdict.Verdict.TheVariants.{Valid, Invalid}
use Rattle.ra_trace.specs.declared.checker.Checker.{Checker}
use Rattle.ra_trace.specs.declared.line.version.Version.{Version}
use Rattle.ra_trace.specs.Forms.{IsReadable, BeginsReadable}
use Rattle.ra_trace.specs.TraceText.{IsLine, line_text, trace_lines}
use Rattle.ra_trace.specs.Verdict.{IsTracePrefix, marks_due, marks_in, IsFirst, IsWrong}
use Rattle.ra_trace.specs.Reading.{IsWhole, AreRight, IsOpenLine, IsOpen, IsOver, HasBegun, HasRead, Judges, StopsAfter, Answers}
use Rattle.ra_trace.specs.NextLine.{EndsSo, TakesBytes, FailsWithin, IsOverLine, HasNone, EndsText}
use Rattle.ra_trace.specs.Checking.{all_due, IsCheckerOf, Takes, Refuses, Allows, Judged}
use Rattle.ra_trace.specs.Along.{HasTaken, IsAlong, IsDone, Opens, Turns, SomeTaken}
use Rattle.ra_trace.specs.Below.{LawsBelow}
use Rattle.ra_trace.proofs.Lines.{begins_once}
use Rattle.ra_trace.proofs.Versions.{begins_readable}
use Rattle.ra_trace.proofs.Prefixes.{marks_so_far, prefix_and_last, no_trace}
use Rattle.ra_trace.proofs.Ends.{feed_is_over, some_bytes_at_feed}

-- bytes that are taken after others are taken with them
pub consumed_both : (old mid new : Option (List ℕ)) (first second : List ℕ) → Consumes old mid first → Consumes mid new second
    → Consumes old new (first ++ second)
consumed_both None mid new first second a b = tt
consumed_both (Some xs) None new first second a b = absurd a
consumed_both (Some xs) (Some ys) None first second a b = absurd b
consumed_both (Some xs) (Some ys) (Some zs) first second a b =
    a ∙ ap (λ (rest : List ℕ). first ++ rest) b ∙ sym (append_assoc first second zs)

-- ---- After whole lines

has_read : (limit left : ℕ) (old now new : Option (List ℕ)) (prefix : List Line) (bytes : List ℕ) → HasTaken limit left old now prefix
    → Consumes now new bytes → length bytes ≤ left → HasRead limit old new prefix bytes
has_read limit left old now new prefix bytes so_far taken most = record {
  taken = consumed_both old now new (flat_map line_text prefix) bytes so_far.taken taken;
  at_most = omega (arith, length-append (flat_map line_text prefix) bytes, so_far.room, most);
  right = so_far.right;
}

-- an error of what comes next
pub fails_after : (limit left : ℕ) (old now new : Option (List ℕ)) (prefix : List Line) (bytes : List ℕ) (fault : TraceError)
    → HasTaken limit left old now prefix → (IsWhole prefix → bytes ≡ []) → FailsWithin left now new bytes fault
    → Answers limit old new (Err fault)
fails_after limit left old now new prefix bytes Read so_far last (taken, opened) =
    (prefix, bytes, has_read limit left old now new prefix bytes so_far taken.0 taken.1, (opened, last))
fails_after limit left old now new prefix bytes Limit so_far last (byte, taken, full, opened) = (
  prefix,
  bytes,
  byte,
  record {
    taken = consumed_both old now new (flat_map line_text prefix) (bytes ++ byte ∷ []) so_far.taken taken;
    at_most = omega (arith, length-append (flat_map line_text prefix) (bytes ++ byte ∷ []), length-append bytes (byte ∷ []), so_far.room, full);
    right = so_far.right;
  },
  omega (arith, length-append (flat_map line_text prefix) bytes, so_far.room, full),
  (opened, last),
)
fails_after limit left old now new prefix bytes Memory so_far last none = absurd none

over_after : (prefix : List Line) (bytes : List ℕ) → (IsWhole prefix → ⊥) → IsOverLine bytes → IsOver prefix bytes
over_after prefix bytes more (before, byte, opened, is, how) =
    (before, byte, (opened, λ whole. absurd (more whole)), is, elim how [ inl feed ↦ inl feed | inr long ↦ inr (inl long) ])

-- a verdict on bytes that no line begins
none_after : (limit left : ℕ) (old now new : Option (List ℕ)) (prefix : List Line) (bytes : List ℕ) (number : ℕ) (why : Cause)
    → HasTaken limit left old now prefix → (IsWhole prefix → ⊥) → TakesBytes left now new bytes
    → IsOverLine bytes ⊎ (IsOpenLine bytes × IsAtEnd new) → number ≡ length prefix + 1 → IsWrong prefix bytes why
    → Judges limit old new (Invalid number why)
none_after limit left old now new prefix bytes number why so_far more taken how is wrong = (
  prefix,
  bytes,
  has_read limit left old now new prefix bytes so_far taken.0 taken.1,
  elim how [ inl over ↦ inl (over_after prefix bytes more over) | inr (opened, ended) ↦ inr ((opened, λ whole. absurd (more whole)), ended) ],
  (is, wrong),
)

-- memory ran out after right lines
stops_after : (limit left : ℕ) (old now : Option (List ℕ)) (prefix : List Line) → HasTaken limit left old now prefix → HasBegun prefix
    → StopsAfter limit old now
stops_after limit left old now prefix so_far begun = (prefix, begun, so_far.taken, omega (arith, so_far.room))

-- ---- The first line

pub nothing_taken : (old : Option (List ℕ)) → Consumes old old []
nothing_taken None = tt
nothing_taken (Some bytes) = refl

nothing_read : (limit : ℕ) (old : Option (List ℕ)) → HasTaken limit limit old old []
nothing_read limit old = record { taken = nothing_taken old; room = omega arith; right = inl refl }

no_line_is_whole : IsWhole [] → ⊥
no_line_is_whole (version, n, start, moves, trace, is) = let none : [] ≡ trace_lines version n start moves = is in cc

pub fails_first : (limit : ℕ) (old new : Option (List ℕ)) (bytes : List ℕ) (fault : TraceError) → FailsWithin limit old new bytes fault → Answers limit old new (Err fault)
fails_first limit old new bytes fault failed =
    fails_after limit limit old old new [] bytes fault (nothing_read limit old) (λ whole. absurd (no_line_is_whole whole)) failed

-- no line begins the text
pub none_first : (limit : ℕ) (old new : Option (List ℕ)) (bytes : List ℕ) → TakesBytes limit old new bytes
    → HasNone bytes new → Judges limit old new (Invalid 1 cause.Line)
none_first limit old new bytes taken none =
    none_after limit limit old old new [] bytes 1 cause.Line (nothing_read limit old) no_line_is_whole taken none.1 refl
    (inl (refl, λ version line rest begins first. none.0 line rest (begins_readable version bytes line rest begins)))

-- another line than the first of a version begins it
pub other_first : (limit : ℕ) (old new : Option (List ℕ)) (bytes : List ℕ) (line : Line) → TakesBytes limit old new bytes
    → BeginsReadable bytes line [] → EndsSo Feed bytes new → ((version : Version) → IsLine version line → IsFirst line → ⊥) → Judges limit old new (Invalid 1 cause.Line)
other_first limit old new bytes line taken begins ended other =
    none_after limit limit old old new [] bytes 1 cause.Line (nothing_read limit old) no_line_is_whole taken (inl (feed_is_over bytes new ended)) refl
    (inl (
      refl,
      λ version l r b first.
          let same = (begins_once bytes l line r [] (begins_readable version bytes l r b) begins).0 in
          other version (subst (IsLine version) same b.0) (subst IsFirst same first),
    ))

-- ---- The lines that come next

not_whole : LawsBelow → (limit left : ℕ) (old now : Option (List ℕ)) (checker : Checker) (number : ℕ)
    → (along : IsAlong limit left old now checker number) → IsWhole along.prefix → ⊥
not_whole laws limit left old now checker number along (version, n, start, moves, trace, is) =
    no_trace laws checker.version checker.world.count checker.world.start checker.world.moves (all_due checker) version n start moves along.prefix
    along.checker_is.prefix is

-- one line more
one_more : (prefix : List Line) (line : Line) (bytes : List ℕ) → bytes ≡ line_text line ++ []
    → flat_map line_text prefix ++ bytes ≡ flat_map line_text (prefix ++ line ∷ [])
one_more prefix line bytes is = ap (λ (xs : List ℕ). flat_map line_text prefix ++ xs) is ∙ sym (flat_map-append line_text prefix (line ∷ []))

after_one_more : (limit left : ℕ) (old now new : Option (List ℕ)) (prefix : List Line) (line : Line) (bytes : List ℕ)
    → HasTaken limit left old now prefix → TakesBytes left now new bytes → BeginsReadable bytes line [] → AreRight (prefix ++ line ∷ [])
    → HasTaken limit (left - length bytes) old new (prefix ++ line ∷ [])
after_one_more limit left old now new prefix line bytes so_far taken begins right =
    let is = one_more prefix line bytes begins.1 in
    record {
      taken = subst (Consumes old new) is (consumed_both old now new (flat_map line_text prefix) bytes so_far.taken taken.0);
      room = omega (arith, ap length (sym is), length-append (flat_map line_text prefix) bytes, so_far.room, taken.1);
      right = right;
    }

right_so_far : (checker : Checker) (prefix : List Line) → IsCheckerOf checker prefix → AreRight prefix
right_so_far checker prefix checker_is =
    inr (inl (checker.version, checker.world.count, checker.world.start, checker.world.moves, all_due checker, checker_is.prefix))

-- after the first line
pub along_first : (limit : ℕ) (old new : Option (List ℕ)) (bytes : List ℕ) (line : Line) (checker : Checker) → TakesBytes limit old new bytes → BeginsReadable bytes line [] → (IsReadable line → IsCheckerOf checker (line ∷ []))
    → IsAlong limit (limit - length bytes) old new checker 2
along_first limit old new bytes line checker taken begins checker_is = record {
  prefix = line ∷ [];
  so_far =
      after_one_more limit limit old old new [] line bytes (nothing_read limit old) taken begins
      (right_so_far checker (line ∷ []) (checker_is begins.0));
  number_is = refl;
  checker_is = checker_is begins.0;
}

no_memory_first : (limit : ℕ) (old new : Option (List ℕ)) (bytes : List ℕ) (line : Line) → TakesBytes limit old new bytes
    → BeginsReadable bytes line [] → HasBegun (line ∷ []) → StopsAfter limit old new
no_memory_first limit old new bytes line taken begins begun =
    stops_after limit (limit - length bytes) old new (line ∷ [])
    (after_one_more limit limit old old new [] line bytes (nothing_read limit old) taken begins (inr (inl begun))) begun

-- what the first line comes to
pub opens_by : (limit : ℕ) (old new : Option (List ℕ)) (bytes : List ℕ) (line : Line) (result : Result (Option Checker) TraceError)
    → TakesBytes limit old new bytes → BeginsReadable bytes line [] → EndsSo Feed bytes new
    → IfOk result (λ opened. IfSome opened (λ checker. IsReadable line → IsCheckerOf checker (line ∷ [])))
    → IfOk result (λ opened. IsNone opened → (version : Version) → IsLine version line → IsFirst line → ⊥)
    → IfErr result (λ fault. (fault ≡ Memory) × (IsReadable line → HasBegun (line ∷ [])))
    → Opens limit old new (length bytes) result
opens_by limit old new bytes line (Ok (Some checker)) taken begins ended some none err = along_first limit old new bytes line checker taken begins some
opens_by limit old new bytes line (Ok None) taken begins ended some none err = other_first limit old new bytes line taken begins ended (none refl)
opens_by limit old new bytes line (Err fault) taken begins ended some none err =
    subst (λ (why : TraceError). Answers limit old new (Err why)) (sym err.0)
    (no_memory_first limit old new bytes line taken begins (err.1 begins.0))

along_by : (limit left : ℕ) (old now new : Option (List ℕ)) (checker after : Checker) (number : ℕ) (line : Line) (bytes : List ℕ)
    → (along : IsAlong limit left old now checker number) → TakesBytes left now new bytes → BeginsReadable bytes line []
    → IsCheckerOf after (along.prefix ++ line ∷ []) → IsAlong limit (left - length bytes) old new after (number + 1)
along_by limit left old now new checker after number line bytes along taken begins checker_is = record {
  prefix = along.prefix ++ line ∷ [];
  so_far =
      after_one_more limit left old now new along.prefix line bytes along.so_far taken begins
      (right_so_far after (along.prefix ++ line ∷ []) checker_is);
  number_is = omega (arith, along.number_is, length-append along.prefix (line ∷ []));
  checker_is = checker_is;
}

-- after another line, which was right and is not the last one
pub along_more : (limit left : ℕ) (old now new : Option (List ℕ)) (checker after : Checker) (number : ℕ) (line : Line) (bytes : List ℕ)
    → IsAlong limit left old now checker number → TakesBytes left now new bytes → BeginsReadable bytes line [] → line ≢ Last
    → Takes checker line after → IsAlong limit (left - length bytes) old new after (number + 1)
along_more limit left old now new checker after number (First version nodes start) bytes along taken begins more takes = absurd takes
along_more limit left old now new checker after number (Stepped step) bytes along taken begins more takes =
    along_by limit left old now new checker after number (Stepped step) bytes along taken begins (takes.on along.prefix begins.0 along.checker_is)
along_more limit left old now new checker after number (Sent message) bytes along taken begins more takes =
    along_by limit left old now new checker after number (Sent message) bytes along taken begins (takes.on along.prefix begins.0 along.checker_is)
along_more limit left old now new checker after number (Marked mark) bytes along taken begins more takes =
    along_by limit left old now new checker after number (Marked mark) bytes along taken begins (takes.on along.prefix begins.0 along.checker_is)
along_more limit left old now new checker after number Last bytes along taken begins more takes = absurd (more refl)

pub fails_next : LawsBelow → (limit left : ℕ) (old now new : Option (List ℕ)) (checker : Checker) (number : ℕ) (bytes : List ℕ) (fault : TraceError)
    → IsAlong limit left old now checker number → FailsWithin left now new bytes fault → Answers limit old new (Err fault)
fails_next laws limit left old now new checker number bytes fault along failed =
    fails_after limit left old now new along.prefix bytes fault along.so_far
    (λ whole. absurd (not_whole laws limit left old now checker number along whole)) failed

-- no line comes next, and the last one has not come
pub none_next : LawsBelow → (limit left : ℕ) (old now new : Option (List ℕ)) (checker : Checker) (number : ℕ) (bytes : List ℕ)
    → IsAlong limit left old now checker number → TakesBytes left now new bytes → HasNone bytes new
    → Judges limit old new (Invalid number cause.Line)
none_next laws limit left old now new checker number bytes along taken none =
    none_after limit left old now new along.prefix bytes number cause.Line along.so_far (not_whole laws limit left old now checker number along) taken
    none.1 along.number_is
    (inr (inl (
      checker.version,
      checker.world.count,
      checker.world.start,
      checker.world.moves,
      all_due checker,
      along.checker_is.prefix,
      λ line rest begins. absurd (none.0 line rest (begins_readable checker.version bytes line rest begins)),
    )))

-- the checker refuses the next line
pub wrong_next : LawsBelow → (limit left : ℕ) (old now new : Option (List ℕ)) (checker : Checker) (number : ℕ) (line : Line) (bytes : List ℕ)
    (why : Cause) → IsAlong limit left old now checker number → TakesBytes left now new bytes → BeginsReadable bytes line []
    → EndsSo Feed bytes new → Refuses checker line why → Judges limit old new (Invalid number why)
wrong_next laws limit left old now new checker number line bytes why along taken begins ended refused =
    none_after limit left old now new along.prefix bytes number why along.so_far (not_whole laws limit left old now checker number along) taken
    (inl (feed_is_over bytes new ended)) along.number_is (refused.wrong along.prefix bytes [] along.checker_is begins)

no_memory_next : (limit left : ℕ) (old now new : Option (List ℕ)) (checker : Checker) (number : ℕ) (line : Line) (bytes : List ℕ)
    → IsAlong limit left old now checker number → TakesBytes left now new bytes → BeginsReadable bytes line [] → Allows checker line
    → StopsAfter limit old new
no_memory_next limit left old now new checker number line bytes along taken begins allows =
    let begun = allows.right along.prefix begins.0 along.checker_is in
    stops_after limit (left - length bytes) old new (along.prefix ++ line ∷ [])
    (after_one_more limit left old now new along.prefix line bytes along.so_far taken begins (inr (inl begun))) begun

-- ---- After the last line

prefix_at_end : (checker : Checker) (prefix : List Line) → IsCheckerOf checker prefix → all_due checker ≡ marks_due []
    → IsTracePrefix checker.version checker.world.count checker.world.start checker.world.moves (marks_due []) prefix
prefix_at_end checker prefix checker_is none =
    subst (λ ms. IsTracePrefix checker.version checker.world.count checker.world.start checker.world.moves ms prefix) none checker_is.prefix

-- no mark of the run is still to come
all_marks : (checker : Checker) (prefix : List Line) → IsCheckerOf checker prefix → all_due checker ≡ marks_due []
    → marks_in prefix ≡ marks_of checker.world.moves
all_marks checker prefix checker_is none =
    let w = checker.world in
    sym (append-nil (marks_in prefix))
    ∙ marks_so_far checker.version w.count w.start w.moves (marks_due []) prefix (prefix_at_end checker prefix checker_is none)

done_by : (limit left : ℕ) (old now new : Option (List ℕ)) (checker : Checker) (number : ℕ) (bytes : List ℕ)
    → IsAlong limit left old now checker number → TakesBytes left now new bytes → BeginsReadable bytes Last [] → all_due checker ≡ marks_due []
    → IsDone limit (left - length bytes) old new checker (number + 1)
done_by limit left old now new checker number bytes along taken begins none =
    let w = checker.world in
    let (lines, trace) = prefix_and_last checker.version w.count w.start w.moves along.prefix (prefix_at_end checker along.prefix along.checker_is none) in
    record {
      prefix = along.prefix ++ Last ∷ [];
      so_far =
          after_one_more limit left old now new along.prefix Last bytes along.so_far taken begins
          (inr (inr (checker.version, w.count, w.start, w.moves, trace, lines)));
      number_is = omega (arith, along.number_is, length-append along.prefix (Last ∷ []));
      trace = trace;
      lines = lines;
      table = subst (λ (marks : List Mark). TableRun marks checker.table) (all_marks checker along.prefix along.checker_is none) along.checker_is.table;
    }

done_by_last : (limit left : ℕ) (old now new : Option (List ℕ)) (checker after : Checker) (number : ℕ) (bytes : List ℕ)
    → IsAlong limit left old now checker number → TakesBytes left now new bytes → BeginsReadable bytes Last [] → Takes checker Last after
    → IsDone limit (left - length bytes) old new after (number + 1)
done_by_last limit left old now new checker after number bytes along taken begins takes =
    subst (λ (c : Checker). IsDone limit (left - length bytes) old new c (number + 1)) (sym takes.0)
    (done_by limit left old now new checker number bytes along taken begins takes.1)

-- what the line comes to that was read
pub turns_by : LawsBelow → (limit left : ℕ) (old now new : Option (List ℕ)) (checker after : Checker) (number : ℕ) (line : Line) (bytes : List ℕ)
    (result : Result Judgement TraceError) → IsAlong limit left old now checker number → TakesBytes left now new bytes → BeginsReadable bytes line []
    → EndsSo Feed bytes new → Judged checker line after result → Turns limit left old new after number (length bytes) result
turns_by laws limit left old now new checker after number line bytes (Ok Judgement.Right) along taken begins ended is =
    along_more limit left old now new checker after number line bytes along taken begins is.0 is.1
turns_by laws limit left old now new checker after number line bytes (Ok Judgement.Last) along taken begins ended is =
    done_by_last limit left old now new checker after number bytes along taken (subst (λ (l : Line). BeginsReadable bytes l []) is.0 begins)
    (subst (λ (l : Line). Takes checker l after) is.0 is.1)
turns_by laws limit left old now new checker after number line bytes (Ok (Judgement.Wrong why)) along taken begins ended is =
    wrong_next laws limit left old now new checker number line bytes why along taken begins ended is
turns_by laws limit left old now new checker after number line bytes (Err fault) along taken begins ended is =
    subst (λ (why : TraceError). Answers limit old new (Err why)) (sym is.0)
    (no_memory_next limit left old now new checker number line bytes along taken begins is.1)

-- such a line took some bytes
pub some_taken_by : (left : ℕ) (now new : Option (List ℕ)) (bytes : List ℕ) (result : Result Judgement TraceError) → TakesBytes left now new bytes
    → EndsSo Feed bytes new → IfOk result (λ next. SomeTaken left (length bytes) next)
some_taken_by left now new bytes (Ok Judgement.Right) taken ended = (some_bytes_at_feed bytes new ended, taken.1)
some_taken_by left now new bytes (Ok Judgement.Last) taken ended = (some_bytes_at_feed bytes new ended, taken.1)
some_taken_by left now new bytes (Ok (Judgement.Wrong why)) taken ended = tt
some_taken_by left now new bytes (Err fault) taken ended = tt

nothing_is_open : (prefix : List Line) → IsOpen prefix []
nothing_is_open prefix = ((All-nil (λ byte. byte ≢ 10), omega arith), λ whole. refl)

-- nothing is after it
valid_at_end : (limit left : ℕ) (old now new : Option (List ℕ)) (checker : Checker) (number : ℕ) → IsDone limit left old now checker number
    → Consumes now new [] → IsAtEnd new
    → Judges limit old new (Valid (requests_in (marks_of checker.world.moves)) (length (sent_by checker.world.moves)))
valid_at_end limit left old now new checker number done taken ended =
    let w = checker.world in (
      done.prefix,
      [],
      has_read limit left old now new done.prefix [] done.so_far taken (omega arith),
      inr (nothing_is_open done.prefix, ended),
      (refl, (checker.version, w.count, w.start, w.moves, done.trace, refl, refl)),
    )

-- something does
wrong_after_end : (limit left : ℕ) (old now new : Option (List ℕ)) (checker : Checker) (number byte : ℕ)
    → IsDone limit left old now checker number → 1 ≤ left → Consumes now new (byte ∷ []) → Judges limit old new (Invalid number cause.Line)
wrong_after_end limit left old now new checker number byte done some taken =
    let w = checker.world in
    let whole : IsWhole done.prefix = (checker.version, w.count, w.start, w.moves, done.trace, done.lines) in
    let more : byte ∷ [] ≢ [] = λ e. cc in (
      done.prefix,
      byte ∷ [],
      has_read limit left old now new done.prefix (byte ∷ []) done.so_far taken some,
      inl ([], byte, nothing_is_open done.prefix, refl, inr (inr whole)),
      (done.number_is, inr (inr (checker.version, w.count, w.start, w.moves, done.trace, done.lines, more))),
    )

fails_at_end : (limit left : ℕ) (old now new : Option (List ℕ)) (checker : Checker) (number : ℕ) (fault : TraceError)
    → IsDone limit left old now checker number → FailsWithin left now new [] fault → Answers limit old new (Err fault)
fails_at_end limit left old now new checker number fault done failed =
    fails_after limit left old now new done.prefix [] fault done.so_far (λ whole. refl) failed

-- what comes after the last line decides
pub answers_at_end : (limit left : ℕ) (old now new : Option (List ℕ)) (checker : Checker) (number : ℕ) (result : Result Verdict TraceError)
    → IsDone limit left old now checker number → EndsText left now new checker number result → Answers limit old new result
answers_at_end limit left old now new checker number (Ok (Valid requests messages)) done (taken, ended, is, are) =
    subst (λ (n : ℕ). Judges limit old new (Valid n messages)) (sym is)
    (subst (λ (n : ℕ). Judges limit old new (Valid (requests_in (marks_of checker.world.moves)) n)) (sym are)
    (valid_at_end limit left old now new checker number done taken ended))
answers_at_end limit left old now new checker number (Ok (Invalid line why)) done (byte, some, taken, is, because) =
    subst (λ (n : ℕ). Judges limit old new (Invalid n why)) (sym is)
    (subst (λ (w : Cause). Judges limit old new (Invalid number w)) (sym because)
    (wrong_after_end limit left old now new checker number byte done some taken))
answers_at_end limit left old now new checker number (Err Read) done failed = fails_at_end limit left old now new checker number Read done failed
answers_at_end limit left old now new checker number (Err Limit) done failed = fails_at_end limit left old now new checker number Limit done failed
answers_at_end limit left old now new checker number (Err Memory) done none = absurd none

-- ---- From line to line

-- what is left if it is neither wrong nor the last
pub right_turns : (limit left : ℕ) (old new : Option (List ℕ)) (after : Checker) (number count : ℕ) (next : Judgement)
    → Turns limit left old new after number count (Ok next) → ((why : Cause) → next ≡ Judgement.Wrong why → ⊥) → (next ≡ Judgement.Last → ⊥)
    → IsAlong limit (left - count) old new after (number + 1)
right_turns limit left old new after number count Judgement.Right turns wrong last = turns
right_turns limit left old new after number count Judgement.Last turns wrong last = absurd (last refl)
right_turns limit left old new after number count (Judgement.Wrong why) turns wrong last = absurd (wrong why refl)

pub some_taken : (left count : ℕ) (next : Judgement) → SomeTaken left count next → ((why : Cause) → next ≡ Judgement.Wrong why → ⊥)
    → (1 ≤ count) × (count ≤ left)
some_taken left count Judgement.Right some wrong = some
some_taken left count Judgement.Last some wrong = some
some_taken left count (Judgement.Wrong why) some wrong = absurd (wrong why refl)

pub at_first : (limit taken : ℕ) → 2 + (limit - taken) ≤ limit + 2
at_first limit taken = omega arith

module _ (left taken : ℕ) (some : (1 ≤ taken) × (taken ≤ left)) where
  pub few_taken : taken ≤ left
  few_taken = some.1

  pub fewer_left : left - taken < left
  fewer_left = omega (arith, some.0, some.1)

  -- no more lines than bytes
  pub still_short : (number limit : ℕ) → number + left ≤ limit + 2 → (number + 1) + (left - taken) ≤ limit + 2
  still_short number limit short = omega (arith, some.0, some.1, short)
