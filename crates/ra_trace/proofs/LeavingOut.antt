-- How far a check has come that tells each wrong line of a mark log.
use Rattle.std.proofs.Common.{◌≡◌, ◌≢◌, ℕ, ◌+◌, ◌-◌, ◌<◌, ◌≤◌, Bool, true, false, List, [], ◌∷◌, ◌++◌, length, All, Option, Some, None, Ok, Err, refl, sym, ap, subst, ◌∙◌, inl, inr, arith, append_assoc, length-append}
use Rattle.std.specs.Prelude.{Result, IfSome, nat_lt, ◌&&◌}
use Rattle.std.specs.Io.KnownBytes.{Consumes, IsAtEnd}
use Rattle.std.proofs.lemmas.Bool.{false≢true}
use Rattle.std.proofs.lemmas.List.{append-nil, nil_from_length}
use Rattle.std.proofs.lemmas.List.Elements.{All-nil}
use Rattle.ra_stamp.specs.declared.entry.Mark.{Mark}
use Rattle.ra_table.specs.Idle.{is_idle}
use Rattle.ra_table.specs.Table.{TableRun, empty_table}
use Rattle.ra_trace.specs.declared.error.TraceError.{TraceError}
use Rattle.ra_trace.specs.declared.error.TraceError.TheVariants.{Read, Limit, Memory}
use Rattle.ra_trace.specs.declared.line.Line.{Line}
use Rattle.ra_trace.specs.declared.line.Line.TheVariants as line
use Rattle.ra_trace.specs.declared.line.version.Version.TheVariants.{Three}
use Rattle.ra_trace.specs.declared.mark_log.MarkLog.{MarkLog}
use Rattle.ra_trace.specs.declared.mark_log.marks_verdict.MarkCause.{MarkCause}
use Rattle.ra_trace.specs.declared.mark_log.marks_watcher.MarksSoFar.{MarksSoFar}
use Rattle.ra_trace.specs.declared.mark_log.wrong_lines.WrongLine.{WrongLine}
use Rattle.ra_trace.specs.Forms.{BeginsReadable}
use Rattle.ra_trace.specs.LeftOut.{AreWrong, ChecksAll, HasName, IsFirstWrong, IsWholeLine, PassesWithout, TellsAll}
use Rattle.ra_trace.specs.LeftOutAlong.{AddsWrong, EndsWhole, IsAllTaken, IsAlongAll, IsNoMark, IsReadAs, IsWrongFor, LeavesOut, PassesBy, ReadsWhole, name_in}
use Rattle.ra_trace.specs.Marks.{BeginsWithMark, IsMarkRun, IsWrongMark, marks_text}
use Rattle.ra_trace.specs.MarksAlong.{IsLogOf, TableLaws, TakesMark}
use Rattle.ra_trace.specs.NextLine.{TakesBytes}
use Rattle.ra_trace.specs.TraceText.{IsMarkLine, line_text}
use Rattle.ra_trace.proofs.Along.{consumed_both, nothing_taken}
use Rattle.ra_trace.proofs.Complete.{whole}
use Rattle.ra_trace.proofs.Ends.{NoFeed}
use Rattle.ra_trace.proofs.Lines.{begins_once}
use Rattle.ra_trace.proofs.MarksAlong.{few_grants, few_requests, log_more, one_more, run_of}

-- ---- Why a line is wrong

begins_more : (bytes more : List ℕ) (given : Line) → BeginsReadable bytes given [] → BeginsReadable (bytes ++ more) given more
begins_more bytes more given begins =
    (begins.0, ap (λ (bs : List ℕ). bs ++ more) (begins.1 ∙ append-nil (line_text given)))

-- what is no mark begins with none
no_mark_begins : (has_feed : Bool) (bytes rest : List ℕ) (read : Option Line) → IsReadAs has_feed bytes read → (has_feed ≡ false → rest ≡ [])
    → IsNoMark read → (mark : Mark) (later : List ℕ) → BeginsWithMark (bytes ++ rest) mark later → ⊥
no_mark_begins has_feed bytes rest None is follows other mark later begins = is rest follows (line.Marked mark) later begins
no_mark_begins has_feed bytes rest (Some given) is follows other mark later begins =
    let once = begins_once (bytes ++ rest) given (line.Marked mark) rest later (begins_more bytes rest given is.1) begins in
    other mark (ap Some once.0)

mark_begins : (has_feed : Bool) (bytes rest : List ℕ) (read : Option Line) (mark : Mark) → IsReadAs has_feed bytes read
    → read ≡ Some (line.Marked mark) → BeginsWithMark (bytes ++ rest) mark rest
mark_begins has_feed bytes rest read mark is marked =
    let given = subst (IsReadAs has_feed bytes) marked is in begins_more bytes rest (line.Marked mark) given.1

why_wrong : (has_feed : Bool) (log : MarkLog) (kept : List Mark) (bytes rest : List ℕ) (read : Option Line) (why : MarkCause) → IsLogOf log kept
    → IsReadAs has_feed bytes read → (has_feed ≡ false → rest ≡ []) → bytes ++ rest ≢ [] → IsWrongFor log read why
    → IsWrongMark kept (bytes ++ rest) why
why_wrong has_feed log kept bytes rest read why so_far is follows some (inl (line_is, other)) =
    inl (line_is, some, no_mark_begins has_feed bytes rest read is follows other)
why_wrong has_feed log kept bytes rest read why so_far is follows some (inr (mark, marked, refused)) =
    inr (log.table, so_far.run, mark, rest, mark_begins has_feed bytes rest read mark is marked, refused)

-- on which name it is
has_name : (has_feed : Bool) (bytes rest : List ℕ) (read : Option Line) → IsReadAs has_feed bytes read → (has_feed ≡ false → rest ≡ [])
    → HasName (bytes ++ rest) (name_in read)
has_name has_feed bytes rest None is follows = no_mark_begins has_feed bytes rest None is follows (λ mark e. cc)
has_name has_feed bytes rest (Some (line.Marked mark)) is follows =
    (mark, rest, mark_begins has_feed bytes rest (Some (line.Marked mark)) mark is refl, refl)
has_name has_feed bytes rest (Some (line.First version nodes start)) is follows =
    no_mark_begins has_feed bytes rest (Some (line.First version nodes start)) is follows (λ mark e. cc)
has_name has_feed bytes rest (Some (line.Stepped step)) is follows =
    no_mark_begins has_feed bytes rest (Some (line.Stepped step)) is follows (λ mark e. cc)
has_name has_feed bytes rest (Some (line.Sent message)) is follows =
    no_mark_begins has_feed bytes rest (Some (line.Sent message)) is follows (λ mark e. cc)
has_name has_feed bytes rest (Some line.Last) is follows = no_mark_begins has_feed bytes rest (Some line.Last) is follows (λ mark e. cc)

-- ---- Which line it is

whole_line : (has_feed : Bool) (bytes rest : List ℕ) (new : Option (List ℕ)) → EndsWhole has_feed bytes new → (has_feed ≡ false → rest ≡ [])
    → bytes ≢ [] → IsWholeLine bytes rest
whole_line true bytes rest new ends follows some = inl ends
whole_line false bytes rest new ends follows some = inr (ends.0, some, follows refl)

some_left : (bytes rest : List ℕ) → bytes ≢ [] → bytes ++ rest ≢ []
some_left [] rest some none = some refl
some_left (b ∷ bytes) rest some none = absurd cc

-- the next line is the first wrong one
first_wrong : (has_feed : Bool) (log : MarkLog) (kept : List Mark) (bytes rest : List ℕ) (new : Option (List ℕ)) (read : Option Line) (why : MarkCause)
    (out number : ℕ) → IsLogOf log kept → EndsWhole has_feed bytes new → IsReadAs has_feed bytes read → (has_feed ≡ false → rest ≡ []) → bytes ≢ []
    → IsWrongFor log read why → number ≡ length kept + out + 1
    → IsFirstWrong (marks_text kept ++ (bytes ++ rest)) out (record { line = number; cause = why; name = name_in read }) kept rest
first_wrong has_feed log kept bytes rest new read why out number so_far ends is follows some wrong count = record {
  line = bytes;
  run = run_of log kept so_far;
  text_is = refl;
  whole = whole_line has_feed bytes rest new ends follows some;
  why = why_wrong has_feed log kept bytes rest read why so_far is follows (some_left bytes rest some) wrong;
  name = has_name has_feed bytes rest read is follows;
  number = count;
}

-- ---- Line by line

pub nothing_left_out : TableLaws → (limit : ℕ) (old : Option (List ℕ)) (log : MarkLog) (wrong : List WrongLine)
    → log ≡ record { table = empty_table; requests = 0; grants = 0 } → wrong ≡ [] → IsAlongAll limit old old log wrong 0 limit
nothing_left_out laws limit old log wrong log_is wrong_is = record {
  taken = [];
  consumed = nothing_taken old;
  room = omega arith;
  kept = [];
  so_far = record {
    lines = All-nil (IsMarkLine Three);
    run = subst (λ (l : MarkLog). TableRun [] l.table) (sym log_is) laws.empty;
    requests_is = ap (λ (l : MarkLog). l.requests) log_is;
    grants_is = ap (λ (l : MarkLog). l.grants) log_is;
  };
  lines_is = omega (arith, ap length wrong_is);
  few = omega arith;
  goes_on = λ rest others final are.
      subst (λ (ls : List WrongLine). AreWrong rest 0 (ls ++ others) final) (sym wrong_is)
      (subst (λ (ls : List WrongLine). AreWrong rest (length ls) others final) wrong_is are);
}

module _ (laws : TableLaws) (limit left : ℕ) (old now new : Option (List ℕ)) (log after : MarkLog) (wrong more : List WrongLine) (lines count : ℕ)
    (read : Option Line) (along : IsAlongAll limit old now log wrong lines left) (some : count ≢ 0) where
  -- a line that is kept
  kept_more : (bytes : List ℕ) (mark : Mark) → count ≡ length bytes → TakesBytes left now new bytes → IsReadAs true bytes read
      → read ≡ Some (line.Marked mark) → TakesMark log mark after → more ≡ wrong → IsAlongAll limit old new after more (lines + 1) (left - count)
  kept_more bytes mark long taken is marked takes same =
      let given = subst (IsReadAs true bytes) marked is in
      let text : marks_text along.kept ++ bytes ≡ marks_text (along.kept ++ mark ∷ []) = one_more along.kept mark bytes given.1.1 in
      record {
        taken = along.taken ++ bytes;
        consumed = consumed_both old now new along.taken bytes along.consumed taken.0;
        room = omega (arith, along.room, length-append along.taken bytes, long, taken.1);
        kept = along.kept ++ mark ∷ [];
        so_far = log_more laws log after along.kept mark along.so_far given.1.0 takes;
        lines_is = omega (arith, along.lines_is, length-append along.kept (mark ∷ []), ap length same);
        few = omega (arith, along.few, length-append along.taken bytes, long, some);
        goes_on = λ rest others final are.
            let here : marks_text (along.kept ++ mark ∷ []) ++ rest ≡ marks_text along.kept ++ (bytes ++ rest) =
            ap (λ (bs : List ℕ). bs ++ rest) (sym text) ∙ append_assoc (marks_text along.kept) bytes rest in
            let there = along.goes_on (bytes ++ rest) others final
            (subst (λ (bs : List ℕ). AreWrong bs (length wrong) others final) here
            (subst (λ (ls : List WrongLine). AreWrong (marks_text (along.kept ++ mark ∷ []) ++ rest) (length ls) others final) same are)) in
            subst (λ (bs : List ℕ). AreWrong bs 0 (more ++ others) final) (sym (append_assoc along.taken bytes rest))
            (subst (λ (ls : List WrongLine). AreWrong (along.taken ++ (bytes ++ rest)) 0 (ls ++ others) final) (sym same) there);
      }

  filled : (bytes : List ℕ) → count ≡ length bytes → bytes ≢ []
  filled bytes long none = some (long ∙ ap length none)

  -- a line that is left out
  out_more : (bytes : List ℕ) (why : MarkCause) → count ≡ length bytes → TakesBytes left now new bytes → EndsWhole true bytes new
      → IsReadAs true bytes read → IsWrongFor log read why → after ≡ log
      → more ≡ wrong ++ record { line = lines + 1; cause = why; name = name_in read } ∷ []
      → IsAlongAll limit old new after more (lines + 1) (left - count)
  out_more bytes why long taken ends is because same added =
      let this : WrongLine = record { line = lines + 1; cause = why; name = name_in read } in
      let longer : length more ≡ length wrong + 1 = omega (arith, ap length added, length-append wrong (this ∷ [])) in
      record {
        taken = along.taken ++ bytes;
        consumed = consumed_both old now new along.taken bytes along.consumed taken.0;
        room = omega (arith, along.room, length-append along.taken bytes, long, taken.1);
        kept = along.kept;
        so_far = subst (λ (l : MarkLog). IsLogOf l along.kept) (sym same) along.so_far;
        lines_is = omega (arith, along.lines_is, longer);
        few = omega (arith, along.few, length-append along.taken bytes, long, some);
        goes_on = λ rest others final are.
            let first = first_wrong true log along.kept bytes rest new read why (length wrong) (lines + 1) along.so_far ends is
            (λ e. absurd (false≢true (sym e))) (filled bytes long) because (omega (arith, along.lines_is)) in
            let there = along.goes_on (bytes ++ rest) (this ∷ others) final
            (along.kept, rest, first, subst (λ (n : ℕ). AreWrong (marks_text along.kept ++ rest) n others final) longer are) in
            let all : more ++ others ≡ wrong ++ this ∷ others = ap (λ (ls : List WrongLine). ls ++ others) added ∙ append_assoc wrong (this ∷ []) others in
            subst (λ (bs : List ℕ). AreWrong bs 0 (more ++ others) final) (sym (append_assoc along.taken bytes rest))
            (subst (λ (ls : List WrongLine). AreWrong (along.taken ++ (bytes ++ rest)) 0 ls final) (sym all) there);
      }

  pub line_more : ReadsWhole left now new count read (Ok true) → AddsWrong log wrong read (lines + 1) after more
      → IsAlongAll limit old new after more (lines + 1) (left - count)
  line_more (bytes, long, taken, ends, is) (inl (mark, marked, takes, same)) = kept_more bytes mark long taken is marked takes same
  line_more (bytes, long, taken, ends, is) (inr (why, because, same, added)) = out_more bytes why long taken ends is because same added

  no_line_at_end : (bytes : List ℕ) (given : Line) → IsReadAs false bytes read → read ≡ Some given → ⊥
  no_line_at_end bytes given is marked = false≢true (subst (IsReadAs false bytes) marked is).0

  -- the last line, which has no line feed
  pub cut_line : ReadsWhole left now new count read (Ok false) → AddsWrong log wrong read (lines + 1) after more
      → IsAllTaken limit old new after more (lines + 1)
  cut_line (bytes, long, taken, ends, is) (inl (mark, marked, takes, same)) = absurd (no_line_at_end bytes (line.Marked mark) is marked)
  cut_line (bytes, long, taken, ends, is) (inr (why, because, same, added)) =
      let this : WrongLine = record { line = lines + 1; cause = why; name = name_in read } in
      let all : Consumes old new (along.taken ++ bytes) = consumed_both old now new along.taken bytes along.consumed taken.0 in
      let first = first_wrong false log along.kept bytes [] new read why (length wrong) (lines + 1) along.so_far ends is
      (λ e. refl) (filled bytes long) because (omega (arith, along.lines_is)) in
      let here = subst (λ (bs : List ℕ). IsFirstWrong (marks_text along.kept ++ bs) (length wrong) this along.kept []) (append-nil bytes) first in
      let there = along.goes_on bytes (this ∷ []) along.kept
      (along.kept, [], here, (run_of log along.kept along.so_far, append-nil (marks_text along.kept))) in
      record {
        taken = along.taken ++ bytes;
        consumed = all;
        at_most = omega (arith, along.room, length-append along.taken bytes, taken.1);
        whole = whole old new (along.taken ++ bytes) all ends.1;
        kept = along.kept;
        so_far = subst (λ (l : MarkLog). IsLogOf l along.kept) (sym same) along.so_far;
        lines_is = omega (arith, along.lines_is, ap length added, length-append wrong (this ∷ []));
        are_wrong = subst (λ (ls : List WrongLine). AreWrong (along.taken ++ bytes) 0 ls along.kept) (sym added) there;
      }

  -- memory ran out at a line
  pub stopped_at : (has_feed : Bool) → ReadsWhole left now new count read (Ok has_feed)
      → (taken : List ℕ) × Consumes old new taken × (length taken ≤ limit)
  stopped_at has_feed (bytes, long, taken, ends, is) = (
    along.taken ++ bytes,
    consumed_both old now new along.taken bytes along.consumed taken.0,
    omega (arith, along.room, length-append along.taken bytes, taken.1),
  )

-- no byte is left
nothing_at_feed : (bytes : List ℕ) (new : Option (List ℕ)) → EndsWhole true bytes new → length bytes ≡ 0 → ⊥
nothing_at_feed bytes new (before, none, is) zero = omega (arith, zero, ap length is, length-append before (10 ∷ []))

pub no_line_left : (limit left : ℕ) (old now new : Option (List ℕ)) (log : MarkLog) (wrong : List WrongLine) (lines count : ℕ) (read : Option Line)
    (has_feed : Bool) → IsAlongAll limit old now log wrong lines left → ReadsWhole left now new count read (Ok has_feed) → count ≡ 0
    → IsAllTaken limit old new log wrong lines
no_line_left limit left old now new log wrong lines count read true along (bytes, long, taken, ends, is) zero =
    absurd (nothing_at_feed bytes new ends (sym long ∙ zero))
no_line_left limit left old now new log wrong lines count read false along (bytes, long, taken, ends, is) zero =
    let none : bytes ≡ [] = nil_from_length bytes (sym long ∙ zero) in
    let same : along.taken ++ bytes ≡ along.taken = ap (λ (bs : List ℕ). along.taken ++ bs) none ∙ append-nil along.taken in
    let all : Consumes old new along.taken = subst (Consumes old new) same (consumed_both old now new along.taken bytes along.consumed taken.0) in
    let there = along.goes_on [] [] along.kept (run_of log along.kept along.so_far, append-nil (marks_text along.kept)) in
    record {
      taken = along.taken;
      consumed = all;
      at_most = omega (arith, along.room);
      whole = whole old new along.taken all ends.1;
      kept = along.kept;
      so_far = along.so_far;
      lines_is = along.lines_is;
      are_wrong =
          subst (λ (ls : List WrongLine). AreWrong along.taken 0 ls along.kept) (append-nil wrong)
          (subst (λ (bs : List ℕ). AreWrong bs 0 (wrong ++ []) along.kept) (append-nil along.taken) there);
    }

-- nothing came of a line
pub fault_at : (limit left : ℕ) (old now new : Option (List ℕ)) (log after : MarkLog) (wrong more : List WrongLine) (lines count : ℕ) (read : Option Line)
    (fault : TraceError) → IsAlongAll limit old now log wrong lines left → ReadsWhole left now new count read (Err fault)
    → LeavesOut limit old new after more (Err fault)
fault_at limit left old now new log after wrong more lines count read Read along (bytes, taken) = (
  along.taken ++ bytes,
  consumed_both old now new along.taken bytes along.consumed taken.0,
  omega (arith, along.room, length-append along.taken bytes, taken.1),
)
fault_at limit left old now new log after wrong more lines count read Limit along (bytes, byte, taken, full) = (
  along.taken ++ (bytes ++ byte ∷ []),
  consumed_both old now new along.taken (bytes ++ byte ∷ []) along.consumed taken,
  omega (arith, along.room, length-append along.taken (bytes ++ byte ∷ []), length-append bytes (byte ∷ []), full),
)
fault_at limit left old now new log after wrong more lines count read Memory along failed = absurd failed

pub memory_at : (limit : ℕ) (old new : Option (List ℕ)) (log : MarkLog) (wrong : List WrongLine) (fault : TraceError) → fault ≡ Memory
    → (taken : List ℕ) × Consumes old new taken × (length taken ≤ limit) → LeavesOut limit old new log wrong (Err fault)
memory_at limit old new log wrong fault is stopped = subst (λ (f : TraceError). LeavesOut limit old new log wrong (Err f)) (sym is) stopped

-- ---- Counts

pub record IsFewAll (limit : ℕ) (log : MarkLog) (wrong : List WrongLine) (lines : ℕ) : Type 0 where
  pub requests : log.requests ≤ limit
  pub grants : log.grants ≤ limit
  pub wrong_lines : length wrong ≤ limit
  pub lines_are : lines ≤ limit

pub few_all : (limit left : ℕ) (old now : Option (List ℕ)) (log : MarkLog) (wrong : List WrongLine) (lines : ℕ)
    → IsAlongAll limit old now log wrong lines left → IsFewAll limit log wrong lines
few_all limit left old now log wrong lines along =
    let so_far = along.so_far in
    record {
      requests = omega (arith, so_far.requests_is, few_requests along.kept, along.lines_is, along.few, along.room);
      grants = omega (arith, so_far.grants_is, few_grants along.kept, along.lines_is, along.few, along.room);
      wrong_lines = omega (arith, along.lines_is, along.few, along.room);
      lines_are = omega (arith, along.few, along.room);
    }

pub count_within : (left : ℕ) (now new : Option (List ℕ)) (count : ℕ) (read : Option Line) (has_feed : Bool)
    → ReadsWhole left now new count read (Ok has_feed) → count ≤ left
count_within left now new count read has_feed (bytes, long, taken, ends, is) = omega (arith, long, taken.1)

-- ---- What the answer says

passes_of : (demanded passes : Bool) (log : MarkLog) (wrong : List WrongLine) (kept : List Mark) → IsLogOf log kept → PassesBy demanded log wrong passes
    → PassesWithout demanded wrong kept passes
passes_of demanded passes log (first ∷ wrong) kept so_far by = by
passes_of false passes log [] kept so_far by = by
passes_of true passes log [] kept so_far by =
    (log.table, so_far.run, by ∙ ap (λ (n : ℕ). nat_lt 0 n && is_idle log.table) so_far.requests_is)

tells_all : (limit : ℕ) (demanded passes : Bool) (old new : Option (List ℕ)) (log : MarkLog) (wrong : List WrongLine) (lines : ℕ)
    → (all : IsAllTaken limit old new log wrong lines) → PassesBy demanded log wrong passes
    → TellsAll demanded all.taken wrong (record { lines = lines; requests = log.requests; grants = log.grants }) passes
tells_all limit demanded passes old new log wrong lines all by = record {
  kept = all.kept;
  are_wrong = all.are_wrong;
  lines_is = all.lines_is;
  requests_is = all.so_far.requests_is;
  grants_is = all.so_far.grants_is;
  passes_is = passes_of demanded passes log wrong all.kept all.so_far by;
}

of_known : (P : List ℕ → Type 0) (old new : Option (List ℕ)) (taken : List ℕ) → IfSome old (λ input. input ≡ taken) → Consumes old new taken → P taken
    → IfSome old (λ input. P input × Consumes old new input)
of_known P None new taken is all holds = tt
of_known P (Some input) new taken is all holds = (subst P (sym is) holds, subst (Consumes (Some input) new) (sym is) all)

pub checks_all : (limit : ℕ) (demanded passes : Bool) (old new : Option (List ℕ)) (log : MarkLog) (wrong : List WrongLine) (lines : ℕ)
    → IsAllTaken limit old new log wrong lines → PassesBy demanded log wrong passes
    → ChecksAll limit demanded old new wrong (Ok (record { lines = lines; requests = log.requests; grants = log.grants })) passes
checks_all limit demanded passes old new log wrong lines all by =
    let counts : MarksSoFar = record { lines = lines; requests = log.requests; grants = log.grants } in
    let tells = tells_all limit demanded passes old new log wrong lines all by in
    record {
      ok = of_known (λ text. TellsAll demanded text wrong counts passes) old new all.taken all.whole all.consumed tells;
      alone = (all.taken, tells, all.at_most, all.consumed);
      failed = λ is. absurd cc;
      limit = λ is. absurd cc;
      memory = λ is. absurd cc;
    }

pub refuses_all : (limit : ℕ) (demanded passes : Bool) (old new : Option (List ℕ)) (log : MarkLog) (wrong : List WrongLine) (fault : TraceError)
    → LeavesOut limit old new log wrong (Err fault) → ChecksAll limit demanded old new wrong (Err fault) passes
refuses_all limit demanded passes old new log wrong Read stopped =
    record { ok = tt; alone = tt; failed = λ is. stopped; limit = λ is. absurd cc; memory = λ is. absurd cc }
refuses_all limit demanded passes old new log wrong Limit stopped =
    record { ok = tt; alone = tt; failed = λ is. absurd cc; limit = λ is. stopped; memory = λ is. absurd cc }
refuses_all limit demanded passes old new log wrong Memory stopped =
    record { ok = tt; alone = tt; failed = λ is. absurd cc; limit = λ is. absurd cc; memory = λ is. stopped }

-- there is no memory for a log
pub refused_at_once : (limit : ℕ) (demanded passes : Bool) (old : Option (List ℕ)) (wrong : List WrongLine)
    → ChecksAll limit demanded old old wrong (Err Memory) passes
refused_at_once limit demanded passes old wrong = record {
  ok = tt;
  alone = tt;
  failed = λ is. absurd cc;
  limit = λ is. absurd cc;
  memory = λ is. ([], nothing_taken old, omega arith);
}
