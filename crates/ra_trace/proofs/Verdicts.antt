-- Each text has one verdict.
use Rattle.std.proofs.Common.{◌≡◌, ◌≢◌, ◌⊎◌, ℕ, ◌+◌, List, [], ◌∷◌, ◌++◌, length, refl, sym, ap, ◌∙◌, subst, inl, inr, append_assoc}
use Rattle.std.specs.Prelude.{All, flat_map}
use Rattle.std.proofs.lemmas.List.{append-nil}
use Rattle.std.proofs.lemmas.List.Elements.{All-head, All-tail, All-nil, All-weaker}
use Rattle.ra_stamp.specs.declared.entry.Mark.{Mark}
use Rattle.ra_stamp.specs.declared.entry.Mark.TheVariants.{Requested, Entered, Left, Withdrawn}
use Rattle.ra_text.specs.Lines.{mark_line}
use Rattle.ra_world.specs.declared.step.Step.{Step}
use Rattle.ra_world.specs.declared.step.Step.TheVariants.{Ask, Leave, Cancel, Deliver, Lose, Repeat, Forget}
use Rattle.ra_world.specs.Traffic.{Move, sent_by}
use Rattle.ra_world.specs.Run.{GoesOn, marks_of}
use Rattle.ra_world.specs.Quiet.{requests_in}
use Rattle.ra_trace.specs.declared.line.Line.{Line}
use Rattle.ra_trace.specs.declared.line.Line.TheVariants.{First, Stepped, Sent, Marked, Last}
use Rattle.ra_trace.specs.declared.checker.verdict.Cause.{Cause}
use Rattle.ra_trace.specs.declared.checker.verdict.Cause.TheVariants as cause
use Rattle.ra_trace.specs.declared.checker.verdict.Verdict.{Verdict}
use Rattle.ra_trace.specs.declared.checker.verdict.Verdict.TheVariants.{Valid, Invalid}
use Rattle.ra_trace.specs.declared.line.version.Version.{Version}
use Rattle.ra_trace.specs.Forms.{IsReadable, BeginsReadable}
use Rattle.ra_trace.specs.TraceText.{IsLine, IsTraceIn, BeginsWith, step_line, line_text, trace_lines}
use Rattle.ra_trace.specs.Verdict.{Due, IsTracePrefix, marks_due, TableGoesOn, IsOfClient, IsOfMessage, IsFirst, HasNoLine, IsUnsent, IsUndue, IsWrong, IsVerdict, marks_in}
use Rattle.ra_trace.specs.Below.{LawsBelow}
use Rattle.ra_trace.proofs.Lines.{begins_once, begins_in_one}
use Rattle.ra_trace.proofs.Versions.{readable}
use Rattle.ra_trace.proofs.Prefixes.{MayFollow, not_empty, one_prefix, in_prefix, next_in_trace, no_trace, one_trace}

-- ---- What is wrong with a line that was read

-- no message is still to be told, and the line has its form and its place, but is wrong for this cause
abbrev BlameMarks : ℕ → ℕ → List Move → List Mark → List Line → Line → Cause → Type 0
BlameMarks n start moves due prefix (First named nodes from) why = ⊥
BlameMarks n start moves due prefix (Stepped step) why =
    ((due ≢ []) × (why ≡ cause.Marks))
    ⊎ ((due ≡ []) × (GoesOn n start moves step → ⊥) × IsOfClient step × (why ≡ cause.Refused))
    ⊎ ((due ≡ []) × (GoesOn n start moves step → ⊥) × IsOfMessage step × (why ≡ cause.NotUnderWay))
BlameMarks n start moves due prefix (Sent message) why = ⊥
BlameMarks n start moves due prefix (Marked mark) why =
    ((TableGoesOn (marks_in prefix) mark → ⊥) × (why ≡ cause.Table))
    ⊎ (TableGoesOn (marks_in prefix) mark × ((others : List Mark) → due ≢ mark ∷ others) × (why ≡ cause.Marks))
BlameMarks n start moves due prefix Last why = (due ≢ []) × (why ≡ cause.Marks)

-- the line has its form and its place, but is wrong for this cause
abbrev pub Blame : ℕ → ℕ → List Move → Due → List Line → Line → Cause → Type 0
Blame n start moves due prefix line why =
    (IsUnsent due.sends line × (why ≡ cause.Sends)) ⊎ ((due.sends ≡ []) × BlameMarks n start moves due.marks prefix line why)

record Blamed (prefix : List Line) (text : List ℕ) (why : Cause) : Type 0 where
  version : Version
  n : ℕ
  start : ℕ
  moves : List Move
  due : Due
  so_far : IsTracePrefix version n start moves due prefix
  line : Line
  rest : List ℕ
  begins : BeginsWith version text line rest
  blame : Blame n start moves due prefix line why

undue : (n start : ℕ) (moves : List Move) (due : List Mark) (prefix : List Line) (line : Line) → IsUndue (marks_in prefix) due line
    → BlameMarks n start moves due prefix line cause.Marks
undue n start moves due prefix (First named nodes from) u = u
undue n start moves due prefix (Stepped step) u = inl (u, refl)
undue n start moves due prefix (Sent message) u = u
undue n start moves due prefix (Marked mark) u = inr (u.0, u.1, refl)
undue n start moves due prefix Last u = (u, refl)

blamed : (prefix : List Line) (text : List ℕ) (why : Cause) → IsWrong prefix text why
    → ((why ≡ cause.Line) × HasNoLine prefix text) ⊎ Blamed prefix text why
blamed prefix text cause.Line w = inl (refl, w)
blamed prefix text cause.Sends (version, n, start, moves, due, so_far, line, rest, begins, unsent) =
    inr (record { version = version; n = n; start = start; moves = moves; due = due; so_far = so_far; line = line; rest = rest; begins = begins; blame = inl (unsent, refl) })
blamed prefix text cause.Table (version, n, start, moves, due, so_far, mark, rest, begins, refused) =
    inr (record {
      version = version;
      n = n;
      start = start;
      moves = moves;
      due = marks_due due;
      so_far = so_far;
      line = Marked mark;
      rest = rest;
      begins = begins;
      blame = inr (refl, inl (refused, refl));
    })
blamed prefix text cause.Marks (version, n, start, moves, due, so_far, line, rest, begins, u) =
    inr (record {
      version = version;
      n = n;
      start = start;
      moves = moves;
      due = marks_due due;
      so_far = so_far;
      line = line;
      rest = rest;
      begins = begins;
      blame = inr (refl, undue n start moves due prefix line u);
    })
blamed prefix text cause.Refused (version, n, start, moves, so_far, step, rest, begins, of_client, stops) =
    inr (record {
      version = version;
      n = n;
      start = start;
      moves = moves;
      due = marks_due [];
      so_far = so_far;
      line = Stepped step;
      rest = rest;
      begins = begins;
      blame = inr (refl, inr (inl (refl, stops, of_client, refl)));
    })
blamed prefix text cause.NotUnderWay (version, n, start, moves, so_far, step, rest, begins, takes, stops) =
    inr (record {
      version = version;
      n = n;
      start = start;
      moves = moves;
      due = marks_due [];
      so_far = so_far;
      line = Stepped step;
      rest = rest;
      begins = begins;
      blame = inr (refl, inr (inr (refl, stops, takes, refl)));
    })

not_both : (step : Step) → IsOfClient step → IsOfMessage step → ⊥
not_both (Ask node client name mode) a b = b
not_both (Leave node client name) a b = b
not_both (Cancel node client name) a b = b
not_both (Deliver message) a b = a
not_both (Lose message) a b = a
not_both (Repeat message) a b = a
not_both (Forget node) a b = b

first_is_not_blamed : (n start : ℕ) (moves : List Move) (due : Due) (prefix : List Line) (line : Line) (why : Cause) → IsFirst line
    → Blame n start moves due prefix line why → ⊥
first_is_not_blamed n start moves due prefix (First named nodes from) why first (inl b) = b.0
first_is_not_blamed n start moves due prefix (First named nodes from) why first (inr b) = b.1
first_is_not_blamed n start moves due prefix (Stepped step) why first b = first
first_is_not_blamed n start moves due prefix (Sent message) why first b = first
first_is_not_blamed n start moves due prefix (Marked mark) why first b = first
first_is_not_blamed n start moves due prefix Last why first b = first

step_blamed_once : (n start : ℕ) (moves : List Move) (due : List Mark) (prefix : List Line) (step : Step) (why other : Cause)
    → BlameMarks n start moves due prefix (Stepped step) why → BlameMarks n start moves due prefix (Stepped step) other → why ≡ other
step_blamed_once n start moves due prefix step why other (inl a) (inl b) = a.1 ∙ sym b.1
step_blamed_once n start moves due prefix step why other (inl a) (inr (inl b)) = absurd (a.0 b.0)
step_blamed_once n start moves due prefix step why other (inl a) (inr (inr b)) = absurd (a.0 b.0)
step_blamed_once n start moves due prefix step why other (inr (inl a)) (inl b) = absurd (b.0 a.0)
step_blamed_once n start moves due prefix step why other (inr (inl a)) (inr (inl b)) = a.3 ∙ sym b.3
step_blamed_once n start moves due prefix step why other (inr (inl a)) (inr (inr b)) = absurd (not_both step a.2 b.2)
step_blamed_once n start moves due prefix step why other (inr (inr a)) (inl b) = absurd (b.0 a.0)
step_blamed_once n start moves due prefix step why other (inr (inr a)) (inr (inl b)) = absurd (not_both step b.2 a.2)
step_blamed_once n start moves due prefix step why other (inr (inr a)) (inr (inr b)) = a.3 ∙ sym b.3

mark_blamed_once : (n start : ℕ) (moves : List Move) (due : List Mark) (prefix : List Line) (mark : Mark) (why other : Cause)
    → BlameMarks n start moves due prefix (Marked mark) why → BlameMarks n start moves due prefix (Marked mark) other → why ≡ other
mark_blamed_once n start moves due prefix mark why other (inl a) (inl b) = a.1 ∙ sym b.1
mark_blamed_once n start moves due prefix mark why other (inl a) (inr b) = absurd (a.0 b.0)
mark_blamed_once n start moves due prefix mark why other (inr a) (inl b) = absurd (b.0 a.0)
mark_blamed_once n start moves due prefix mark why other (inr a) (inr b) = a.2 ∙ sym b.2

marks_blamed_once : (n start : ℕ) (moves : List Move) (due : List Mark) (prefix : List Line) (line : Line) (why other : Cause)
    → BlameMarks n start moves due prefix line why → BlameMarks n start moves due prefix line other → why ≡ other
marks_blamed_once n start moves due prefix (First named nodes from) why other a b = absurd a
marks_blamed_once n start moves due prefix (Stepped step) why other a b = step_blamed_once n start moves due prefix step why other a b
marks_blamed_once n start moves due prefix (Sent message) why other a b = absurd a
marks_blamed_once n start moves due prefix (Marked mark) why other a b = mark_blamed_once n start moves due prefix mark why other a b
marks_blamed_once n start moves due prefix Last why other a b = a.1 ∙ sym b.1

-- a line that is wrong for a message is not wrong if none is still to be told
not_sends_and_marks : (n start : ℕ) (moves : List Move) (due : Due) (prefix : List Line) (line : Line) (why : Cause)
    → IsUnsent due.sends line → due.sends ≡ [] → BlameMarks n start moves due.marks prefix line why → ⊥
not_sends_and_marks n start moves due prefix (First named nodes from) why unsent none b = b
not_sends_and_marks n start moves due prefix (Stepped step) why unsent none b = unsent none
not_sends_and_marks n start moves due prefix (Sent message) why unsent none b = b
not_sends_and_marks n start moves due prefix (Marked mark) why unsent none b = unsent none
not_sends_and_marks n start moves due prefix Last why unsent none b = unsent none

blamed_once : (n start : ℕ) (moves : List Move) (due : Due) (prefix : List Line) (line : Line) (why other : Cause)
    → Blame n start moves due prefix line why → Blame n start moves due prefix line other → why ≡ other
blamed_once n start moves due prefix line why other (inl a) (inl b) = a.1 ∙ sym b.1
blamed_once n start moves due prefix line why other (inl a) (inr b) = absurd (not_sends_and_marks n start moves due prefix line other a.0 b.0 b.1)
blamed_once n start moves due prefix line why other (inr a) (inl b) = absurd (not_sends_and_marks n start moves due prefix line why b.0 a.0 a.1)
blamed_once n start moves due prefix line why other (inr a) (inr b) = marks_blamed_once n start moves due.marks prefix line why other a.1 b.1

-- ---- One cause

no_line_is_not_blamed : LawsBelow → (prefix : List Line) (text : List ℕ) (why : Cause) → HasNoLine prefix text → Blamed prefix text why → ⊥
no_line_is_not_blamed laws prefix text why (inl none) b = not_empty b.version b.n b.start b.moves b.due prefix b.so_far none.0
no_line_is_not_blamed laws prefix text why (inr (inl (version, n, start, moves, due, so_far, any))) b =
    let same = one_prefix laws b.version b.n b.start b.moves b.due version n start moves due prefix b.so_far so_far in
    let begins : BeginsWith version text b.line b.rest = subst (λ (v : Version). BeginsWith v text b.line b.rest) same.named b.begins in
    first_is_not_blamed b.n b.start b.moves b.due prefix b.line why (any b.line b.rest begins) b.blame
no_line_is_not_blamed laws prefix text why (inr (inr (version, n, start, moves, trace, whole, some))) b =
    no_trace laws b.version b.n b.start b.moves b.due version n start moves prefix b.so_far whole

one_blame : LawsBelow → (prefix : List Line) (text : List ℕ) (why other : Cause) → Blamed prefix text why → Blamed prefix text other → why ≡ other
one_blame laws prefix text why other a b =
    let same = one_prefix laws b.version b.n b.start b.moves b.due a.version a.n a.start a.moves a.due prefix b.so_far a.so_far in
    let line = (begins_in_one b.version a.version text b.line a.line b.rest a.rest b.begins a.begins).0 in
    let there : Blame a.n a.start a.moves a.due prefix a.line other =
    subst (λ (l : Line). Blame a.n a.start a.moves a.due prefix l other) line
    (subst (λ (d : Due). Blame a.n a.start a.moves d prefix b.line other) same.left
    (subst (λ (ms : List Move). Blame a.n a.start ms b.due prefix b.line other) same.run
    (subst (λ (s : ℕ). Blame a.n s b.moves b.due prefix b.line other) same.from
    (subst (λ (m : ℕ). Blame m b.start b.moves b.due prefix b.line other) same.count b.blame)))) in
    blamed_once a.n a.start a.moves a.due prefix a.line why other a.blame there

one_cause : LawsBelow → (prefix : List Line) (text : List ℕ) (why other : Cause) → IsWrong prefix text why → IsWrong prefix text other → why ≡ other
one_cause laws prefix text why other p q =
    elim (blamed prefix text why p) [
      | inl a ↦ elim (blamed prefix text other q) [
        | inl b ↦ a.0 ∙ sym b.0
        | inr b ↦ absurd (no_line_is_not_blamed laws prefix text other a.1 b)
      ]
      | inr a ↦ elim (blamed prefix text other q) [
        | inl b ↦ absurd (no_line_is_not_blamed laws prefix text why b.1 a)
        | inr b ↦ one_blame laws prefix text why other a b
      ]
    ]

-- ---- A line that may come next is not wrong

-- what is after a line that may come next
after_next : (version : Version) (prefix : List Line) (line : Line) → MayFollow version prefix line
    → (IsFirst line × (prefix ≡ [])) ⊎ ((n start : ℕ) × (moves : List Move) × (due : Due) × IsTracePrefix version n start moves due prefix)
after_next version prefix (First named nodes from) next = inl (tt, next)
after_next version prefix (Stepped step) (n, start, moves, so_far, goes) = inr (n, start, moves, marks_due [], so_far)
after_next version prefix (Sent message) (n, start, moves, others, marks, so_far) = inr (n, start, moves, record { sends = message ∷ others; marks = marks }, so_far)
after_next version prefix (Marked mark) (n, start, moves, others, so_far, goes) = inr (n, start, moves, marks_due (mark ∷ others), so_far)
after_next version prefix Last (n, start, moves, so_far) = inr (n, start, moves, marks_due [], so_far)

-- a first line has none before it
first_after_nothing : (version : Version) (prefix : List Line) (line : Line) → MayFollow version prefix line → IsFirst line → prefix ≡ []
first_after_nothing version prefix (First named nodes from) next first = next
first_after_nothing version prefix (Stepped step) next first = absurd first
first_after_nothing version prefix (Sent message) next first = absurd first
first_after_nothing version prefix (Marked mark) next first = absurd first
first_after_nothing version prefix Last next first = absurd first

goes_on_too : (n start : ℕ) (moves : List Move) (n' start' : ℕ) (moves' : List Move) (step : Step) → n ≡ n' → start ≡ start' → moves ≡ moves'
    → GoesOn n start moves step → GoesOn n' start' moves' step
goes_on_too n start moves n' start' moves' step p q r g =
    subst (λ (ms : List Move). GoesOn n' start' ms step) r (subst (λ (s : ℕ). GoesOn n' s moves step) q (subst (λ (m : ℕ). GoesOn m start moves step) p g))

-- what is due in one way is due in any other
same_sends : {a b : Due} → a ≡ b → a.sends ≡ b.sends
same_sends same = ap (λ (d : Due). d.sends) same

same_marks : {a b : Due} → a ≡ b → a.marks ≡ b.marks
same_marks same = ap (λ (d : Due). d.marks) same

next_is_not_blamed : LawsBelow → (version second : Version) (n start : ℕ) (moves : List Move) (due : Due) (prefix : List Line) (line : Line) (why : Cause)
    → IsTracePrefix second n start moves due prefix → MayFollow version prefix line → Blame n start moves due prefix line why → ⊥
next_is_not_blamed laws version second n start moves due prefix (First named nodes from) why so_far next b =
    elim b [ inl unsent ↦ unsent.0 | inr marks ↦ marks.1 ]
next_is_not_blamed laws version second n start moves due prefix (Stepped step) why so_far (n', start', moves', there, goes) b =
    let same = one_prefix laws version n' start' moves' (marks_due []) second n start moves due prefix there so_far in
    let on = goes_on_too n' start' moves' n start moves step same.count same.from same.run goes in
    elim b [
      | inl unsent ↦ unsent.0 (sym (same_sends same.left))
      | inr rest ↦ elim rest.1 [
        | inl marks ↦ marks.0 (sym (same_marks same.left))
        | inr other ↦ elim other [ inl refused ↦ refused.1 on | inr gone ↦ gone.1 on ]
      ]
    ]
next_is_not_blamed laws version second n start moves due prefix (Sent message) why so_far (n', start', moves', others, marks, there) b =
    let same = one_prefix laws version n' start' moves' (record { sends = message ∷ others; marks = marks }) second n start moves due prefix there so_far in
    elim b [ inl unsent ↦ unsent.0 others (sym (same_sends same.left)) | inr rest ↦ rest.1 ]
next_is_not_blamed laws version second n start moves due prefix (Marked mark) why so_far (n', start', moves', others, there, goes) b =
    let same = one_prefix laws version n' start' moves' (marks_due (mark ∷ others)) second n start moves due prefix there so_far in
    elim b [
      | inl unsent ↦ unsent.0 (sym (same_sends same.left))
      | inr rest ↦ elim rest.1 [
        | inl table ↦ table.0 goes
        | inr wrong ↦ wrong.1 others (sym (same_marks same.left))
      ]
    ]
next_is_not_blamed laws version second n start moves due prefix Last why so_far (n', start', moves', there) b =
    let same = one_prefix laws version n' start' moves' (marks_due []) second n start moves due prefix there so_far in
    elim b [ inl unsent ↦ unsent.0 (sym (same_sends same.left)) | inr rest ↦ rest.1.0 (sym (same_marks same.left)) ]

next_has_line : LawsBelow → (version : Version) (prefix : List Line) (line : Line) (text rest : List ℕ) → MayFollow version prefix line
    → BeginsWith version text line rest → HasNoLine prefix text → ⊥
next_has_line laws version prefix line text rest next begins (inl (none, no_first)) =
    elim (after_next version prefix line next) [
      | inl first ↦ no_first version line rest begins first.0
      | inr (n, start, moves, due, so_far) ↦ not_empty version n start moves due prefix so_far none
    ]
next_has_line laws version prefix line text rest next begins (inr (inl (second, n, start, moves, due, so_far, any))) =
    elim (after_next version prefix line next) [
      | inl first ↦ not_empty second n start moves due prefix so_far first.1
      | inr (n', start', moves', due', there) ↦
          let same = one_prefix laws version n' start' moves' due' second n start moves due prefix there so_far in
          let again = subst (λ (v : Version). BeginsWith v text line rest) same.named begins in
          not_empty second n start moves due prefix so_far (first_after_nothing version prefix line next (any line rest again))
    ]
next_has_line laws version prefix line text rest next begins (inr (inr (second, n, start, moves, trace, whole, some))) =
    elim (after_next version prefix line next) [
      | inl (first, none) ↦ let empty : [] ≡ trace_lines second n start moves = sym none ∙ whole in cc
      | inr (n', start', moves', due, so_far) ↦ no_trace laws version n' start' moves' due second n start moves prefix so_far whole
    ]

next_is_not_wrong : LawsBelow → (version : Version) (prefix : List Line) (line : Line) (text rest : List ℕ) (why : Cause) → MayFollow version prefix line
    → BeginsWith version text line rest → IsWrong prefix text why → ⊥
next_is_not_wrong laws version prefix line text rest why next begins w =
    elim (blamed prefix text why w) [
      | inl none ↦ next_has_line laws version prefix line text rest next begins none.1
      | inr b ↦
          let same = (begins_in_one b.version version text b.line line b.rest rest b.begins begins).0 in
          next_is_not_blamed laws version b.version b.n b.start b.moves b.due prefix line why b.so_far next
          (subst (λ (l : Line). Blame b.n b.start b.moves b.due prefix l why) same b.blame)
    ]

-- ---- Two prefixes of one text

-- the lines in front of a wrong one, and the lines of a trace
abbrev pub AreRight : List Line → Type 0
AreRight lines =
    (lines ≡ [])
    ⊎ ((version : Version) × (n start : ℕ) × (moves : List Move) × (due : Due) × IsTracePrefix version n start moves due lines)
    ⊎ ((version : Version) × (n start : ℕ) × (moves : List Move) × (text : List ℕ) × IsTraceIn version n start moves text
    × (lines ≡ trace_lines version n start moves))

wrong_after_right : (prefix : List Line) (text : List ℕ) (why : Cause) → IsWrong prefix text why → AreRight prefix
wrong_after_right prefix text cause.Line (inl none) = inl none.0
wrong_after_right prefix text cause.Line (inr (inl (version, n, start, moves, due, so_far, any))) = inr (inl (version, n, start, moves, due, so_far))
wrong_after_right prefix text cause.Line (inr (inr (version, n, start, moves, trace, whole, some))) =
    inr (inr (version, n, start, moves, flat_map line_text prefix, trace, whole))
wrong_after_right prefix text cause.Sends w = inr (inl (w.0, w.1, w.2, w.3, w.4, w.5))
wrong_after_right prefix text cause.Table w = inr (inl (w.0, w.1, w.2, w.3, marks_due w.4, w.5))
wrong_after_right prefix text cause.Marks w = inr (inl (w.0, w.1, w.2, w.3, marks_due w.4, w.5))
wrong_after_right prefix text cause.Refused w = inr (inl (w.0, w.1, w.2, w.3, marks_due [], w.4))
wrong_after_right prefix text cause.NotUnderWay w = inr (inl (w.0, w.1, w.2, w.3, marks_due [], w.4))

all_readable : (version : Version) (lines : List Line) → All (IsLine version) lines → All IsReadable lines
all_readable version lines each = All-weaker (IsLine version) IsReadable (readable version) lines each

right_lines : (lines : List Line) → AreRight lines → All IsReadable lines
right_lines lines (inl none) = subst (All IsReadable) (sym none) (All-nil IsReadable)
right_lines lines (inr (inl (version, n, start, moves, due, so_far))) = all_readable version lines so_far.each
right_lines lines (inr (inr (version, n, start, moves, text, trace, are))) =
    all_readable version lines (subst (All (IsLine version)) (sym are) trace.lines)

-- a line among right ones may come next at its place, and its version allows it
record StandsThere (prefix : List Line) (line : Line) : Type 0 where
  version : Version
  next : MayFollow version prefix line
  ranges : IsLine version line

All-at : (P : Line → Type 0) (prefix : List Line) (line : Line) (rest : List Line) → All P (prefix ++ line ∷ rest) → P line
All-at P [] line rest h = All-head P line rest h
All-at P (x ∷ prefix) line rest h = All-at P prefix line rest (All-tail P x (prefix ++ line ∷ rest) h)

next_in_right : LawsBelow → (prefix : List Line) (line : Line) (rest : List Line) → AreRight (prefix ++ line ∷ rest) → StandsThere prefix line
next_in_right laws prefix line rest (inl none) = absurd (something prefix none)
  where
    something : (prefix : List Line) → prefix ++ line ∷ rest ≡ [] → ⊥
    something [] e = cc
    something (x ∷ prefix) e = cc
next_in_right laws prefix line rest (inr (inl (version, n, start, moves, due, so_far))) = record {
  version = version;
  next = (in_prefix laws version n start moves due prefix line rest so_far).next;
  ranges = All-at (IsLine version) prefix line rest so_far.each;
}
next_in_right laws prefix line rest (inr (inr (version, n, start, moves, text, trace, are))) = record {
  version = version;
  next = next_in_trace laws version n start moves text prefix line rest trace are;
  ranges = All-at (IsLine version) prefix line rest (subst (All (IsLine version)) (sym are) trace.lines);
}

-- of two lists of lines that begin a text, one begins the other
record Longer (shorter longer : List Line) (left right : List ℕ) : Type 0 where
  more : List Line
  longer_is : longer ≡ shorter ++ more
  left_is : left ≡ flat_map line_text more ++ right

longer_or_not : (a b : List Line) (r s : List ℕ) → All IsReadable a → All IsReadable b → flat_map line_text a ++ r ≡ flat_map line_text b ++ s
    → Longer a b r s ⊎ Longer b a s r
longer_or_not [] b r s p q e = inl (record { more = b; longer_is = refl; left_is = e })
longer_or_not (x ∷ a) [] r s p q e = inr (record { more = x ∷ a; longer_is = refl; left_is = sym e })
longer_or_not (x ∷ a) (y ∷ b) r s p q e =
    let here : BeginsReadable (flat_map line_text (x ∷ a) ++ r) x (flat_map line_text a ++ r) =
    (All-head IsReadable x a p, append_assoc (line_text x) (flat_map line_text a) r) in
    let there : BeginsReadable (flat_map line_text (x ∷ a) ++ r) y (flat_map line_text b ++ s) =
    (All-head IsReadable y b q, e ∙ append_assoc (line_text y) (flat_map line_text b) s) in
    let same = begins_once (flat_map line_text (x ∷ a) ++ r) x y (flat_map line_text a ++ r) (flat_map line_text b ++ s) here there in
    let first : x ≡ y = same.0 in
    elim (longer_or_not a b r s (All-tail IsReadable x a p) (All-tail IsReadable y b q) same.1) [
      | inl h ↦ inl (record { more = h.more; longer_is = let is = h.longer_is in cc; left_is = h.left_is })
      | inr h ↦ inr (record { more = h.more; longer_is = let is = h.longer_is in cc; left_is = h.left_is })
    ]

-- right lines end at a line that is wrong
record SameEnd (a b : List Line) (r s : List ℕ) : Type 0 where
  lines : a ≡ b
  rest : r ≡ s

no_more : LawsBelow → (prefix lines : List Line) (r s : List ℕ) (why : Cause) → IsWrong prefix r why → AreRight lines → Longer prefix lines r s
    → SameEnd prefix lines r s
no_more laws prefix lines r s why w right h = at h.more h.longer_is h.left_is
  where
    at : (more : List Line) → lines ≡ prefix ++ more → r ≡ flat_map line_text more ++ s → SameEnd prefix lines r s
    at [] is left = record { lines = sym (is ∙ append-nil prefix); rest = left }
    at (x ∷ more) is left =
        let there = next_in_right laws prefix x more (subst AreRight is right) in
        absurd (next_is_not_wrong laws there.version prefix x r (flat_map line_text more ++ s) why there.next
        (there.ranges, left ∙ append_assoc (line_text x) (flat_map line_text more) s) w)

-- ---- A whole trace

-- what begins with a byte is not empty
some_byte : (byte : ℕ) (bytes : List ℕ) → [] ≡ byte ∷ bytes → ⊥
some_byte byte bytes e = cc

mark_has_bytes : (mark : Mark) (rest : List ℕ) → [] ≡ mark_line mark ++ rest → ⊥
mark_has_bytes (Requested entry) rest e = some_byte _ _ e
mark_has_bytes (Entered entry) rest e = some_byte _ _ e
mark_has_bytes (Left entry) rest e = some_byte _ _ e
mark_has_bytes (Withdrawn entry) rest e = some_byte _ _ e

step_has_bytes : (step : Step) (rest : List ℕ) → [] ≡ step_line step ++ rest → ⊥
step_has_bytes (Ask node client name mode) rest e = some_byte _ _ e
step_has_bytes (Leave node client name) rest e = some_byte _ _ e
step_has_bytes (Deliver message) rest e = some_byte _ _ e
step_has_bytes (Lose message) rest e = some_byte _ _ e
step_has_bytes (Cancel node client name) rest e = some_byte _ _ e
step_has_bytes (Repeat message) rest e = some_byte _ _ e
step_has_bytes (Forget node) rest e = some_byte _ _ e

pub line_has_bytes : (line : Line) (rest : List ℕ) → [] ≡ line_text line ++ rest → ⊥
line_has_bytes (First version nodes start) rest e = some_byte _ _ e
line_has_bytes (Stepped step) rest e = step_has_bytes step rest e
line_has_bytes (Sent message) rest e = some_byte _ _ e
line_has_bytes (Marked mark) rest e = mark_has_bytes mark rest e
line_has_bytes Last rest e = some_byte _ _ e

-- if nothing is left there are no more lines
nothing_left : (prefix lines : List Line) (s : List ℕ) → Longer prefix lines [] s → SameEnd prefix lines [] s
nothing_left prefix lines s h = at h.more h.longer_is h.left_is
  where
    at : (more : List Line) → lines ≡ prefix ++ more → [] ≡ flat_map line_text more ++ s → SameEnd prefix lines [] s
    at [] is left = record { lines = sym (is ∙ append-nil prefix); rest = left }
    at (x ∷ more) is left =
        absurd (line_has_bytes x (flat_map line_text more ++ s) (left ∙ append_assoc (line_text x) (flat_map line_text more) s))

trace_is_right : (version : Version) (n start : ℕ) (moves : List Move) (text : List ℕ) → IsTraceIn version n start moves text
    → AreRight (trace_lines version n start moves)
trace_is_right version n start moves text trace = inr (inr (version, n, start, moves, text, trace, refl))

trace_is_not_wrong : LawsBelow → (version : Version) (n start : ℕ) (moves : List Move) (rest : List ℕ) (why : Cause)
    → rest ≡ [] → IsWrong (trace_lines version n start moves) rest why → ⊥
trace_is_not_wrong laws version n start moves rest why nothing w =
    let lines = trace_lines version n start moves in
    elim (blamed lines rest why w) [
      | inl (is, none) ↦ elim none [
        | inl (empty, no_first) ↦ cc
        | inr other ↦ elim other [
          | inl (second, m, from, others, due, so_far, any) ↦ no_trace laws second m from others due version n start moves lines so_far refl
          | inr (second, m, from, others, trace, whole, some) ↦ some nothing
        ]
      ]
      | inr b ↦ no_trace laws b.version b.n b.start b.moves b.due version n start moves lines b.so_far refl
    ]

-- ---- One verdict

both_valid : LawsBelow → (text : List ℕ) (requests messages requests' messages' : ℕ) → IsVerdict text (Valid requests messages)
    → IsVerdict text (Valid requests' messages') → Valid requests messages ≡ Valid requests' messages'
both_valid laws text requests messages requests' messages' (version, n, start, moves, a, r, m) (version', n', start', moves', b, r', m') =
    let p = trace_lines version n start moves in
    let q = trace_lines version' n' start' moves' in
    let texts : flat_map line_text p ++ [] ≡ flat_map line_text q ++ [] =
    append-nil (flat_map line_text p) ∙ sym a.text_is ∙ b.text_is ∙ sym (append-nil (flat_map line_text q)) in
    let lines : p ≡ q =
    elim (longer_or_not p q [] [] (all_readable version p a.lines) (all_readable version' q b.lines) texts) [
      | inl h ↦ (nothing_left p q [] h).lines
      | inr h ↦ sym (nothing_left q p [] h).lines
    ] in
    let same = (one_trace laws version n start moves text version' n' start' moves' text a b lines).run in
    let requests_are : requests ≡ requests' = r ∙ ap (λ (ms : List Move). requests_in (marks_of ms)) same ∙ sym r' in
    let messages_are : messages ≡ messages' = m ∙ ap (λ (ms : List Move). length (sent_by ms)) same ∙ sym m' in
    cc

not_valid_and_invalid : LawsBelow → (text : List ℕ) (requests messages line : ℕ) (why : Cause) → IsVerdict text (Valid requests messages)
    → IsVerdict text (Invalid line why) → ⊥
not_valid_and_invalid laws text requests messages line why (version, n, start, moves, a, r, m) (prefix, rest, is, at, w) =
    let p = trace_lines version n start moves in
    let texts : flat_map line_text p ++ [] ≡ flat_map line_text prefix ++ rest = append-nil (flat_map line_text p) ∙ sym a.text_is ∙ is in
    let same : SameEnd p prefix [] rest =
    elim (longer_or_not p prefix [] rest (all_readable version p a.lines) (right_lines prefix (wrong_after_right prefix rest why w)) texts) [
      | inl h ↦ nothing_left p prefix rest h
      | inr h ↦
          let end = no_more laws prefix p rest [] why w (trace_is_right version n start moves text a) h in
          record { lines = sym end.lines; rest = sym end.rest }
    ] in
    trace_is_not_wrong laws version n start moves rest why (sym same.rest) (subst (λ (ls : List Line). IsWrong ls rest why) (sym same.lines) w)

both_invalid : LawsBelow → (text : List ℕ) (line : ℕ) (why : Cause) (line' : ℕ) (why' : Cause) → IsVerdict text (Invalid line why)
    → IsVerdict text (Invalid line' why') → Invalid line why ≡ Invalid line' why'
both_invalid laws text line why line' why' (prefix, rest, is, at, w) (prefix', rest', is', at', w') =
    let right = wrong_after_right prefix rest why w in
    let right' = wrong_after_right prefix' rest' why' w' in
    let same : SameEnd prefix prefix' rest rest' =
    elim (longer_or_not prefix prefix' rest rest' (right_lines prefix right) (right_lines prefix' right') (sym is ∙ is')) [
      | inl h ↦ no_more laws prefix prefix' rest rest' why w right' h
      | inr h ↦ let end = no_more laws prefix' prefix rest' rest why' w' right h in record { lines = sym end.lines; rest = sym end.rest }
    ] in
    let there : IsWrong prefix rest why' =
    subst (λ (ls : List Line). IsWrong ls rest why') (sym same.lines) (subst (λ (bs : List ℕ). IsWrong prefix' bs why') (sym same.rest) w') in
    let causes : why ≡ why' = one_cause laws prefix rest why why' w there in
    let lines : line ≡ line' = at ∙ ap (λ (ls : List Line). length ls + 1) same.lines ∙ sym at' in
    cc

pub one_verdict : LawsBelow → (text : List ℕ) (a b : Verdict) → IsVerdict text a → IsVerdict text b → a ≡ b
one_verdict laws text (Valid r m) (Valid r' m') p q = both_valid laws text r m r' m' p q
one_verdict laws text (Valid r m) (Invalid line why) p q = absurd (not_valid_and_invalid laws text r m line why p q)
one_verdict laws text (Invalid line why) (Valid r m) p q = absurd (not_valid_and_invalid laws text r m line why q p)
one_verdict laws text (Invalid line why) (Invalid line' why') p q = both_invalid laws text line why line' why' p q
