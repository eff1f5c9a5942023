-- Prefixes of a trace: which line may come next, which lines are in one, and that the lines tell the run.
use Rattle.std.proofs.Common.{◌≡◌, ◌≢◌, ◌⊎◌, ℕ, List, [], ◌∷◌, ◌++◌, map, refl, sym, ap, ◌∙◌, subst, inl, inr, append_assoc}
use Rattle.std.specs.Prelude.{All, flat_map}
use Rattle.std.proofs.lemmas.List.{append-nil, append_cancel_left, append_cancel_right}
use Rattle.std.proofs.lemmas.Grind.{flat_map-append}
use Rattle.std.proofs.lemmas.List.Elements.{All-head, All-tail, All-nil, All-cons, All-push}
use Rattle.ra_stamp.specs.NodeId.{IsNodeNumber}
use Rattle.ra_stamp.specs.declared.entry.Mark.{Mark}
use Rattle.ra_stamp.specs.declared.message.Message.{Message}
use Rattle.ra_table.specs.Table.{LockTable, TableRun}
use Rattle.ra_world.specs.declared.step.Step.{Step}
use Rattle.ra_world.specs.Traffic.{Move}
use Rattle.ra_world.specs.Run.{IsRun, GoesOn, marks_of}
use Rattle.ra_trace.specs.declared.line.Line.{Line}
use Rattle.ra_trace.specs.declared.line.Line.TheVariants.{First, Stepped, Sent, Marked, Last}
use Rattle.ra_trace.specs.declared.line.version.Version.{Version}
use Rattle.ra_trace.specs.declared.line.version.Version.TheVariants.{One, Two, Three, ThreeWithSends}
use Rattle.ra_trace.specs.TraceText.{IsLine, IsTraceIn, line_text, sent_lines, move_lines, trace_lines}
use Rattle.ra_trace.specs.Verdict.{Due, IsTracePrefix, marks_due, due_lines, TableGoesOn, marks_in_line, marks_in}
use Rattle.ra_trace.specs.Below.{LawsBelow}

-- ---- The steps and the marks that are in lines

abbrev pub steps_in_line : Line → List Step
steps_in_line (First version nodes start) = []
steps_in_line (Stepped step) = step ∷ []
steps_in_line (Sent message) = []
steps_in_line (Marked mark) = []
steps_in_line Last = []

abbrev pub steps_in : List Line → List Step
steps_in lines = flat_map steps_in_line lines

-- and the messages that the trace tells
abbrev sent_in_line : Line → List Message
sent_in_line (First version nodes start) = []
sent_in_line (Stepped step) = []
sent_in_line (Sent message) = message ∷ []
sent_in_line (Marked mark) = []
sent_in_line Last = []

abbrev sent_in : List Line → List Message
sent_in lines = flat_map sent_in_line lines

marks_in-marked : (marks : List Mark) → marks_in (map Marked marks) ≡ marks
marks_in-marked [] = refl
marks_in-marked (mark ∷ marks) = ap (λ (ms : List Mark). mark ∷ ms) (marks_in-marked marks)

steps_in-marked : (marks : List Mark) → steps_in (map Marked marks) ≡ []
steps_in-marked [] = refl
steps_in-marked (mark ∷ marks) = steps_in-marked marks

sent_in-marked : (marks : List Mark) → sent_in (map Marked marks) ≡ []
sent_in-marked [] = refl
sent_in-marked (mark ∷ marks) = sent_in-marked marks

marks_in-sent : (sends : List Message) → marks_in (map Sent sends) ≡ []
marks_in-sent [] = refl
marks_in-sent (m ∷ sends) = marks_in-sent sends

steps_in-sent : (sends : List Message) → steps_in (map Sent sends) ≡ []
steps_in-sent [] = refl
steps_in-sent (m ∷ sends) = steps_in-sent sends

sent_in-sent : (sends : List Message) → sent_in (map Sent sends) ≡ sends
sent_in-sent [] = refl
sent_in-sent (m ∷ sends) = ap (λ (ms : List Message). m ∷ ms) (sent_in-sent sends)

-- what is due after a step
abbrev pub due_after : Version → Move → Due
due_after One move = marks_due move.marks
due_after Two move = marks_due move.marks
due_after Three move = marks_due move.marks
due_after ThreeWithSends move = record { sends = move.sends; marks = move.marks }

pub lines_after : (version : Version) (move : Move) → sent_lines version move.sends ++ map Marked move.marks ≡ due_lines (due_after version move)
lines_after One move = refl
lines_after Two move = refl
lines_after Three move = refl
lines_after ThreeWithSends move = refl

pub marks_after : (version : Version) (move : Move) → (due_after version move).marks ≡ move.marks
marks_after One move = refl
marks_after Two move = refl
marks_after Three move = refl
marks_after ThreeWithSends move = refl

pub lines_of_move : (version : Version) (move : Move) → move_lines version move ≡ Stepped move.step ∷ due_lines (due_after version move)
lines_of_move version move = ap (λ (ls : List Line). Stepped move.step ∷ ls) (lines_after version move)

marks_in-due : (due : Due) → marks_in (due_lines due) ≡ due.marks
marks_in-due due =
    flat_map-append marks_in_line (map Sent due.sends) (map Marked due.marks) ∙ ap (λ (ms : List Mark). ms ++ marks_in (map Marked due.marks)) (marks_in-sent due.sends)
    ∙ marks_in-marked due.marks

steps_in-due : (due : Due) → steps_in (due_lines due) ≡ []
steps_in-due due =
    flat_map-append steps_in_line (map Sent due.sends) (map Marked due.marks) ∙ ap (λ (ss : List Step). ss ++ steps_in (map Marked due.marks)) (steps_in-sent due.sends)
    ∙ steps_in-marked due.marks

sent_in-due : (due : Due) → sent_in (due_lines due) ≡ due.sends
sent_in-due due =
    flat_map-append sent_in_line (map Sent due.sends) (map Marked due.marks) ∙ ap (λ (ms : List Message). ms ++ sent_in (map Marked due.marks)) (sent_in-sent due.sends)
    ∙ ap (λ (ms : List Message). due.sends ++ ms) (sent_in-marked due.marks) ∙ append-nil due.sends

pub marks_in-moves : (version : Version) (moves : List Move) → marks_in (flat_map (move_lines version) moves) ≡ marks_of moves
marks_in-moves version [] = refl
marks_in-moves version (move ∷ moves) =
    let so_far = flat_map (move_lines version) moves in
    let own = marks_in-due (due_after version move) ∙ marks_after version move in
    ap (λ (ls : List Line). marks_in (ls ++ so_far)) (lines_of_move version move)
    ∙ flat_map-append marks_in_line (due_lines (due_after version move)) so_far ∙ ap (λ (ms : List Mark). ms ++ marks_in so_far) own
    ∙ ap (λ (ms : List Mark). move.marks ++ ms) (marks_in-moves version moves)

pub steps_in-moves : (version : Version) (moves : List Move) → steps_in (flat_map (move_lines version) moves) ≡ map (λ move. move.step) moves
steps_in-moves version [] = refl
steps_in-moves version (move ∷ moves) =
    let so_far = flat_map (move_lines version) moves in
    ap (λ (ls : List Line). steps_in (ls ++ so_far)) (lines_of_move version move)
    ∙ ap (λ (ss : List Step). move.step ∷ ss)
    (flat_map-append steps_in_line (due_lines (due_after version move)) so_far ∙ ap (λ (ss : List Step). ss ++ steps_in so_far) (steps_in-due (due_after version move))
    ∙ steps_in-moves version moves)

-- the marks in a prefix, and then those that are due, are the marks of its run
pub marks_so_far : (version : Version) (n start : ℕ) (moves : List Move) (due : Due) (lines : List Line) → IsTracePrefix version n start moves due lines
    → marks_in lines ++ due.marks ≡ marks_of moves
marks_so_far version n start moves due lines prefix =
    ap (λ (ms : List Mark). marks_in lines ++ ms) (sym (marks_in-due due)) ∙ sym (flat_map-append marks_in_line lines (due_lines due))
    ∙ ap marks_in prefix.lines_are ∙ marks_in-moves version moves

steps_so_far : (version : Version) (n start : ℕ) (moves : List Move) (due : Due) (lines : List Line) → IsTracePrefix version n start moves due lines
    → steps_in lines ≡ map (λ move. move.step) moves
steps_so_far version n start moves due lines prefix =
    sym (append-nil (steps_in lines)) ∙ ap (λ (ss : List Step). steps_in lines ++ ss) (sym (steps_in-due due))
    ∙ sym (flat_map-append steps_in_line lines (due_lines due)) ∙ ap steps_in prefix.lines_are ∙ steps_in-moves version moves

-- lines of what is due tell it
pub one_due : (a b : Due) → due_lines a ≡ due_lines b → a ≡ b
one_due a b same =
    let sends : a.sends ≡ b.sends = sym (sent_in-due a) ∙ ap sent_in same ∙ sent_in-due b in
    let marks : a.marks ≡ b.marks = sym (marks_in-due a) ∙ ap marks_in same ∙ marks_in-due b in
    (λ i. record { sends = sends i; marks = marks i })

-- ---- A prefix begins with the first line, and tells its run

pub record Begins (version : Version) (n start : ℕ) (rest : List Line) (due : Due) (lines : List Line) : Type 0 where
  pub tail : List Line
  pub lines_are : lines ≡ First version n start ∷ tail
  pub tail_is : tail ++ due_lines due ≡ rest

-- what is due is no first line
due_is_not_first : (sends : List Message) (marks : List Mark) (version : Version) (n start : ℕ) (rest : List Line)
    → map Sent sends ++ map Marked marks ≡ First version n start ∷ rest → ⊥
due_is_not_first [] [] version n start rest e = cc
due_is_not_first [] (mark ∷ marks) version n start rest e = cc
due_is_not_first (m ∷ sends) marks version n start rest e = cc

pub begins : (version : Version) (n start : ℕ) (rest : List Line) (due : Due) (lines : List Line) → lines ++ due_lines due ≡ First version n start ∷ rest
    → Begins version n start rest due lines
begins version n start rest due [] e = absurd (due_is_not_first due.sends due.marks version n start rest e)
begins version n start rest due (line ∷ lines) e =
    let same : line ≡ First version n start = cc in
    record { tail = lines; lines_are = ap (λ (l : Line). l ∷ lines) same; tail_is = cc }

pub not_empty : (version : Version) (n start : ℕ) (moves : List Move) (due : Due) (lines : List Line) → IsTracePrefix version n start moves due lines → lines ≡ [] → ⊥
not_empty version n start moves due lines prefix none =
    let b = begins version n start (flat_map (move_lines version) moves) due lines prefix.lines_are in
    let is : [] ≡ First version n start ∷ b.tail = sym none ∙ b.lines_are in cc

pub record SamePrefix (version : Version) (n start : ℕ) (moves : List Move) (due : Due) (version' : Version) (n' start' : ℕ) (moves' : List Move)
    (due' : Due) : Type 0 where
  pub named : version ≡ version'
  pub count : n ≡ n'
  pub from : start ≡ start'
  pub run : moves ≡ moves'
  pub left : due ≡ due'

pub one_prefix : LawsBelow → (version : Version) (n start : ℕ) (moves : List Move) (due : Due) (version' : Version) (n' start' : ℕ) (moves' : List Move)
    (due' : Due) (lines : List Line) → IsTracePrefix version n start moves due lines → IsTracePrefix version' n' start' moves' due' lines
    → SamePrefix version n start moves due version' n' start' moves' due'
one_prefix laws version n start moves due version' n' start' moves' due' lines a b =
    let p = begins version n start (flat_map (move_lines version) moves) due lines a.lines_are in
    let q = begins version' n' start' (flat_map (move_lines version') moves') due' lines b.lines_are in
    let heads : First version n start ∷ p.tail ≡ First version' n' start' ∷ q.tail = sym p.lines_are ∙ q.lines_are in
    let named : version ≡ version' = cc in
    let count : n ≡ n' = cc in
    let from : start ≡ start' = cc in
    let steps = sym (steps_so_far version n start moves due lines a) ∙ steps_so_far version' n' start' moves' due' lines b in
    let run' : IsRun n start moves' = subst (λ (s : ℕ). IsRun n s moves') (sym from) (subst (λ (m : ℕ). IsRun m start' moves') (sym count) b.run) in
    let same = laws.determined n start moves moves' a.count a.run run' steps in
    let whole = a.lines_are ∙ (λ i. First (named i) (count i) (from i) ∷ flat_map (move_lines (named i)) (same i)) ∙ sym b.lines_are in
    record { named = named; count = count; from = from; run = same; left = one_due due due' (append_cancel_left lines (due_lines due) (due_lines due') whole) }

-- ---- The place of a line among the lines of moves

-- a step's line, after the lines of the moves before
pub record AtStep (version : Version) (moves : List Move) (prefix : List Line) (line : Line) : Type 0 where
  pub before : List Move
  pub move : Move
  pub after : List Move
  pub moves_are : moves ≡ before ++ move ∷ after
  pub prefix_is : prefix ≡ flat_map (move_lines version) before
  pub line_is : line ≡ Stepped move.step

-- the line of a send or a mark, after the lines of the moves before and the first ones of its own move
pub record AtDue (version : Version) (moves : List Move) (prefix : List Line) (line : Line) : Type 0 where
  pub before : List Move
  pub move : Move
  pub after : List Move
  pub moves_are : moves ≡ before ++ move ∷ after
  pub come : List Line
  pub due : Due
  pub others : List Line
  pub own_are : due_lines (due_after version move) ≡ come ++ due_lines due
  pub prefix_is : prefix ≡ flat_map (move_lines version) before ++ Stepped move.step ∷ come
  pub next_is : due_lines due ≡ line ∷ others

-- the line is one of these, or it is after them
record Among (own prefix : List Line) (line : Line) : Type 0 where
  others : List Line
  own_are : own ≡ prefix ++ line ∷ others

record Behind (own so_far prefix : List Line) (line : Line) (rest : List Line) : Type 0 where
  more : List Line
  prefix_is : prefix ≡ own ++ more
  after_is : so_far ≡ more ++ line ∷ rest

among : (own so_far prefix : List Line) (line : Line) (rest : List Line)
    → own ++ so_far ≡ prefix ++ line ∷ rest → Among own prefix line ⊎ Behind own so_far prefix line rest
among [] so_far prefix line rest e = inr (record { more = prefix; prefix_is = refl; after_is = e })
among (x ∷ own) so_far [] line rest e =
    let same : x ≡ line = cc in
    inl (record { others = own; own_are = ap (λ (l : Line). l ∷ own) same })
among (x ∷ own) so_far (y ∷ prefix) line rest e =
    let first : x ≡ y = cc in
    elim (among own so_far prefix line rest cc) [
      | inl h ↦ inl (record { others = h.others; own_are = let are = h.own_are in cc })
      | inr h ↦ inr (record { more = h.more; prefix_is = let is = h.prefix_is in cc; after_is = h.after_is })
    ]

-- what is left of lines that are due is due
record Left (come : List Line) (line : Line) (others : List Line) : Type 0 where
  due : Due
  lines_are : line ∷ others ≡ due_lines due

left_due : (sends : List Message) (marks : List Mark) (come : List Line) (line : Line) (others : List Line)
    → map Sent sends ++ map Marked marks ≡ come ++ line ∷ others → Left come line others
left_due sends marks [] line others e = record { due = record { sends = sends; marks = marks }; lines_are = sym e }
left_due (m ∷ sends) marks (x ∷ come) line others e = let h = left_due sends marks come line others cc in record { due = h.due; lines_are = h.lines_are }
left_due [] (mark ∷ marks) (x ∷ come) line others e = let h = left_due [] marks come line others cc in record { due = h.due; lines_are = h.lines_are }
left_due [] [] (x ∷ come) line others e = absurd cc

nothing_in : {X : Type 0} (prefix : List X) (x : X) (rest : List X) → [] ≡ prefix ++ x ∷ rest → ⊥
nothing_in [] x rest e = cc
nothing_in (y ∷ prefix) x rest e = cc

step_further : (version : Version) (move : Move) (moves : List Move) (x : Line) (prefix more : List Line) (line : Line) → x ≡ Stepped move.step
    → prefix ≡ due_lines (due_after version move) ++ more → AtStep version moves more line → AtStep version (move ∷ moves) (x ∷ prefix) line
step_further version move moves x prefix more line first is s = record {
  before = move ∷ s.before;
  move = s.move;
  after = s.after;
  moves_are = ap (λ (ms : List Move). move ∷ ms) s.moves_are;
  prefix_is =
      (λ i. first i ∷ is i) ∙ ap (λ (ls : List Line). Stepped move.step ∷ due_lines (due_after version move) ++ ls) s.prefix_is
      ∙ ap (λ (ls : List Line). ls ++ flat_map (move_lines version) s.before) (sym (lines_of_move version move));
  line_is = s.line_is;
}

due_further : (version : Version) (move : Move) (moves : List Move) (x : Line) (prefix more : List Line) (line : Line) → x ≡ Stepped move.step
    → prefix ≡ due_lines (due_after version move) ++ more → AtDue version moves more line → AtDue version (move ∷ moves) (x ∷ prefix) line
due_further version move moves x prefix more line first is m = record {
  before = move ∷ m.before;
  move = m.move;
  after = m.after;
  moves_are = ap (λ (ms : List Move). move ∷ ms) m.moves_are;
  come = m.come;
  due = m.due;
  others = m.others;
  own_are = m.own_are;
  prefix_is =
      let own = Stepped m.move.step ∷ m.come in
      (λ i. first i ∷ is i) ∙ ap (λ (ls : List Line). Stepped move.step ∷ due_lines (due_after version move) ++ ls) m.prefix_is
      ∙ ap (λ (ls : List Line). ls ++ (flat_map (move_lines version) m.before ++ own)) (sym (lines_of_move version move))
      ∙ sym (append_assoc (move_lines version move) (flat_map (move_lines version) m.before) own);
  next_is = m.next_is;
}

pub place_in : (version : Version) (moves : List Move) (prefix : List Line) (line : Line) (rest : List Line)
    → flat_map (move_lines version) moves ≡ prefix ++ line ∷ rest → AtStep version moves prefix line ⊎ AtDue version moves prefix line
place_in version [] prefix line rest e = absurd (nothing_in prefix line rest e)
place_in version (move ∷ moves) [] line rest e =
    inl (record { before = []; move = move; after = moves; moves_are = refl; prefix_is = refl; line_is = cc })
place_in version (move ∷ moves) (x ∷ prefix) line rest e =
    let own = due_lines (due_after version move) in
    let all : Stepped move.step ∷ own ++ flat_map (move_lines version) moves ≡ x ∷ prefix ++ line ∷ rest =
    ap (λ (ls : List Line). ls ++ flat_map (move_lines version) moves) (sym (lines_of_move version move)) ∙ e in
    let first : x ≡ Stepped move.step = cc in
    elim (among own (flat_map (move_lines version) moves) prefix line rest cc) [
      | inl h ↦
          let left = left_due (due_after version move).sends (due_after version move).marks prefix line h.others h.own_are in
          inr (record {
            before = [];
            move = move;
            after = moves;
            moves_are = refl;
            come = prefix;
            due = left.due;
            others = h.others;
            own_are = h.own_are ∙ ap (λ (ls : List Line). prefix ++ ls) left.lines_are;
            prefix_is = ap (λ (l : Line). l ∷ prefix) first;
            next_is = sym left.lines_are;
          })
      | inr h ↦ elim (place_in version moves h.more line rest h.after_is) [
        | inl s ↦ inl (step_further version move moves x prefix h.more line first h.prefix_is s)
        | inr m ↦ inr (due_further version move moves x prefix h.more line first h.prefix_is m)
      ]
    ]

-- ---- What is right after a prefix

-- the line may come next after these lines, which are a prefix in this version if they are not empty
abbrev pub MayFollow : Version → List Line → Line → Type 0
MayFollow version prefix (First named nodes start) = prefix ≡ []
MayFollow version prefix (Stepped step) =
    (n start : ℕ) × (moves : List Move) × IsTracePrefix version n start moves (marks_due []) prefix × GoesOn n start moves step
MayFollow version prefix (Sent message) =
    (n start : ℕ) × (moves : List Move) × (others : List Message) × (marks : List Mark)
    × IsTracePrefix version n start moves (record { sends = message ∷ others; marks = marks }) prefix
MayFollow version prefix (Marked mark) =
    (n start : ℕ) × (moves : List Move) × (others : List Mark) × IsTracePrefix version n start moves (marks_due (mark ∷ others)) prefix × TableGoesOn (marks_in prefix) mark
MayFollow version prefix Last = (n start : ℕ) × (moves : List Move) × IsTracePrefix version n start moves (marks_due []) prefix

-- a part of the marks of a run is a run of the lock table
pub table_of_part : LawsBelow → (n start : ℕ) (moves : List Move) (prefix suffix : List Mark) → IsNodeNumber n → IsRun n start moves
    → prefix ++ suffix ≡ marks_of moves → (table : LockTable) × TableRun prefix table
table_of_part laws n start moves prefix suffix count run is =
    let (table, whole) = laws.has_table n start moves count run in
    let (part, so_far, _) = laws.splits prefix suffix _ table (subst (λ (ms : List Mark). TableRun ms table) (sym is) whole) in
    (part, so_far)

-- the next mark that is due is one that the lock table allows
pub due_marks_go_on : LawsBelow → (version : Version) (n start : ℕ) (moves : List Move) (mark : Mark) (others : List Mark) (lines : List Line)
    → IsTracePrefix version n start moves (marks_due (mark ∷ others)) lines → TableGoesOn (marks_in lines) mark
due_marks_go_on laws version n start moves mark others lines prefix =
    table_of_part laws n start moves (marks_in lines ++ mark ∷ []) others prefix.count prefix.run
    (append_assoc (marks_in lines) (mark ∷ []) others ∙ marks_so_far version n start moves (marks_due (mark ∷ others)) lines prefix)

run_of_prefix : LawsBelow → (n start : ℕ) (moves before : List Move) (move : Move) (after : List Move) → IsRun n start moves
    → moves ≡ before ++ move ∷ after → IsRun n start (before ++ move ∷ [])
run_of_prefix laws n start moves before move after run are =
    laws.prefixes n start (before ++ move ∷ []) after
    (subst (IsRun n start) (are ∙ sym (append_assoc before (move ∷ []) after)) run)

All-prefix : (P : Line → Type 0) (prefix : List Line) (rest : List Line) → All P (prefix ++ rest) → All P prefix
All-prefix P [] rest h = All-nil P
All-prefix P (line ∷ prefix) rest h =
    All-cons P line prefix (All-head P line (prefix ++ rest) h) (All-prefix P prefix rest (All-tail P line (prefix ++ rest) h))

next_step : LawsBelow → (version : Version) (n start : ℕ) (moves : List Move) (prefix : List Line) (line : Line) → IsNodeNumber n → IsRun n start moves
    → All (IsLine version) (First version n start ∷ prefix) → AtStep version moves prefix line → MayFollow version (First version n start ∷ prefix) line
next_step laws version n start moves prefix line count run each s =
    subst (MayFollow version (First version n start ∷ prefix)) (sym s.line_is) (
      n,
      start,
      s.before,
      record {
        count = count;
        run = laws.prefixes n start s.before (s.move ∷ s.after) (subst (IsRun n start) s.moves_are run);
        each = each;
        lines_are = append-nil (First version n start ∷ prefix) ∙ ap (λ (ls : List Line). First version n start ∷ ls) s.prefix_is;
      },
      (s.move.sends, s.move.marks, run_of_prefix laws n start moves s.before s.move s.after run s.moves_are),
    )

lines_at_due : (version : Version) (moves : List Move) (prefix : List Line) (line : Line) (m : AtDue version moves prefix line)
    → prefix ++ due_lines m.due ≡ flat_map (move_lines version) (m.before ++ m.move ∷ [])
lines_at_due version moves prefix line m =
    let before = flat_map (move_lines version) m.before in
    let left = due_lines m.due in
    let own : Stepped m.move.step ∷ m.come ++ left ≡ move_lines version m.move ++ [] =
    ap (λ (ls : List Line). Stepped m.move.step ∷ ls) (sym m.own_are) ∙ sym (lines_of_move version m.move) ∙ sym (append-nil (move_lines version m.move)) in
    ap (λ (ls : List Line). ls ++ left) m.prefix_is ∙ append_assoc before (Stepped m.move.step ∷ m.come) left
    ∙ ap (λ (ls : List Line). before ++ ls) own ∙ sym (flat_map-append (move_lines version) m.before (m.move ∷ []))

-- the first line of what is due may come next
next_of_due : LawsBelow → (version : Version) (n start : ℕ) (moves : List Move) (sends : List Message) (marks : List Mark) (prefix : List Line) (line : Line) (others : List Line)
    → IsTracePrefix version n start moves (record { sends = sends; marks = marks }) prefix → map Sent sends ++ map Marked marks ≡ line ∷ others → MayFollow version prefix line
next_of_due laws version n start moves (m ∷ sends) marks prefix line others here next =
    let is : Sent m ≡ line = cc in
    subst (MayFollow version prefix) is (n, start, moves, sends, marks, here)
next_of_due laws version n start moves [] (mark ∷ marks) prefix line others here next =
    let is : Marked mark ≡ line = cc in
    subst (MayFollow version prefix) is (n, start, moves, marks, here, due_marks_go_on laws version n start moves mark marks prefix here)
next_of_due laws version n start moves [] [] prefix line others here next = absurd cc

next_due : LawsBelow → (version : Version) (n start : ℕ) (moves : List Move) (prefix : List Line) (line : Line) → IsNodeNumber n → IsRun n start moves
    → All (IsLine version) (First version n start ∷ prefix) → AtDue version moves prefix line → MayFollow version (First version n start ∷ prefix) line
next_due laws version n start moves prefix line count run each m =
    let here : IsTracePrefix version n start (m.before ++ m.move ∷ []) m.due (First version n start ∷ prefix) = record {
      count = count;
      run = run_of_prefix laws n start moves m.before m.move m.after run m.moves_are;
      each = each;
      lines_are = ap (λ (ls : List Line). First version n start ∷ ls) (lines_at_due version moves prefix line m);
    } in
    next_of_due laws version n start (m.before ++ m.move ∷ []) m.due.sends m.due.marks (First version n start ∷ prefix) line m.others here m.next_is

-- the last line is not a line that is due
last_is_not_due : (sends : List Message) (marks : List Mark) (others : List Line) → map Sent sends ++ map Marked marks ≡ Last ∷ others → ⊥
last_is_not_due (m ∷ sends) marks others e = cc
last_is_not_due [] (mark ∷ marks) others e = cc
last_is_not_due [] [] others e = cc

-- a line of a prefix may come next at its place, and is not the last one
pub record InPrefix (version : Version) (prefix : List Line) (line : Line) : Type 0 where
  pub next : MayFollow version prefix line
  pub not_last : line ≢ Last

pub in_prefix : LawsBelow → (version : Version) (n start : ℕ) (moves : List Move) (due : Due) (prefix : List Line) (line : Line) (rest : List Line)
    → IsTracePrefix version n start moves due (prefix ++ line ∷ rest) → InPrefix version prefix line
in_prefix laws version n start moves due [] line rest whole =
    let b = begins version n start (flat_map (move_lines version) moves) due (line ∷ rest) whole.lines_are in
    let first : line ≡ First version n start = let is = b.lines_are in cc in
    record { next = subst (MayFollow version []) (sym first) refl; not_last = λ last. let both : First version n start ≡ Last = sym first ∙ last in cc }
in_prefix laws version n start moves due (x ∷ prefix) line rest whole =
    let are = whole.lines_are in
    let first : x ≡ First version n start = cc in
    let so_far : flat_map (move_lines version) moves ≡ (prefix ++ line ∷ rest) ++ due_lines due = cc in
    let each : All (IsLine version) (First version n start ∷ prefix) =
    subst (λ (l : Line). All (IsLine version) (l ∷ prefix)) first (All-prefix (IsLine version) (x ∷ prefix) (line ∷ rest) whole.each) in
    elim (place_in version moves prefix line (rest ++ due_lines due) (so_far ∙ append_assoc prefix (line ∷ rest) (due_lines due))) [
      | inl s ↦ record {
        next = subst (λ (l : Line). MayFollow version (l ∷ prefix) line) (sym first) (next_step laws version n start moves prefix line whole.count whole.run each s);
        not_last = λ last. let both : Stepped s.move.step ≡ Last = sym s.line_is ∙ last in cc;
      }
      | inr m ↦ record {
        next = subst (λ (l : Line). MayFollow version (l ∷ prefix) line) (sym first) (next_due laws version n start moves prefix line whole.count whole.run each m);
        not_last = λ last. last_is_not_due m.due.sends m.due.marks m.others (m.next_is ∙ ap (λ (l : Line). l ∷ m.others) last);
      }
    ]

-- ---- Whole traces

pub prefix_of_trace : (version : Version) (n start : ℕ) (moves : List Move) (text : List ℕ) → IsTraceIn version n start moves text
    → IsTracePrefix version n start moves (marks_due []) (First version n start ∷ flat_map (move_lines version) moves)
prefix_of_trace version n start moves text trace = record {
  count = trace.count;
  run = trace.run;
  each = All-prefix (IsLine version) (First version n start ∷ flat_map (move_lines version) moves) (Last ∷ []) trace.lines;
  lines_are = append-nil (First version n start ∷ flat_map (move_lines version) moves);
}

-- a place in a list with another element at its end: the last place, or one before it
record AtEnd (prefix : List Line) (line : Line) (lines : List Line) (last : Line) : Type 0 where
  prefix_is : prefix ≡ lines
  line_is : line ≡ last

record BeforeEnd (prefix : List Line) (line : Line) (lines : List Line) : Type 0 where
  rest : List Line
  lines_are : lines ≡ prefix ++ line ∷ rest

place_before_end : (prefix : List Line) (line : Line) (rest lines : List Line) (last : Line) → prefix ++ line ∷ rest ≡ lines ++ last ∷ []
    → AtEnd prefix line lines last ⊎ BeforeEnd prefix line lines
place_before_end [] line rest [] final e = inl (record { prefix_is = refl; line_is = cc })
place_before_end [] line rest (x ∷ lines) final e =
    let same : line ≡ x = cc in inr (record { rest = lines; lines_are = ap (λ (l : Line). l ∷ lines) (sym same) })
place_before_end (y ∷ prefix) line rest [] final e = let none : [] ≡ prefix ++ line ∷ rest = cc in absurd (nothing_in prefix line rest none)
place_before_end (y ∷ prefix) line rest (x ∷ lines) final e =
    let same : y ≡ x = cc in
    elim (place_before_end prefix line rest lines final cc) [
      | inl h ↦ inl (record { prefix_is = let is = h.prefix_is in cc; line_is = h.line_is })
      | inr h ↦ inr (record { rest = h.rest; lines_are = let are = h.lines_are in cc })
    ]

-- a line of a trace may come next at its place
pub next_in_trace : LawsBelow → (version : Version) (n start : ℕ) (moves : List Move) (text : List ℕ) (prefix : List Line) (line : Line) (rest : List Line)
    → IsTraceIn version n start moves text → prefix ++ line ∷ rest ≡ trace_lines version n start moves → MayFollow version prefix line
next_in_trace laws version n start moves text prefix line rest trace e =
    let whole = prefix_of_trace version n start moves text trace in
    elim (place_before_end prefix line rest (First version n start ∷ flat_map (move_lines version) moves) Last e) [
      | inl h ↦ subst (λ (l : Line). MayFollow version prefix l) (sym h.line_is)
          (n, start, moves, subst (IsTracePrefix version n start moves (marks_due [])) (sym h.prefix_is) whole)
      | inr h ↦ (in_prefix laws version n start moves (marks_due []) prefix line h.rest (subst (IsTracePrefix version n start moves (marks_due [])) h.lines_are whole)).next
    ]

-- no prefix has the last line
pub no_trace : LawsBelow → (version : Version) (n start : ℕ) (moves : List Move) (due : Due) (version' : Version) (n' start' : ℕ) (moves' : List Move)
    (lines : List Line)
    → IsTracePrefix version n start moves due lines → lines ≡ trace_lines version' n' start' moves' → ⊥
no_trace laws version n start moves due version' n' start' moves' lines prefix is =
    (in_prefix laws version n start moves due (First version' n' start' ∷ flat_map (move_lines version') moves') Last [] (subst (IsTracePrefix version n start moves due) is prefix)).not_last refl

-- the lines of a trace tell its run
pub record SameTrace (version : Version) (n start : ℕ) (moves : List Move) (version' : Version) (n' start' : ℕ) (moves' : List Move) : Type 0 where
  pub named : version ≡ version'
  pub count : n ≡ n'
  pub from : start ≡ start'
  pub run : moves ≡ moves'

pub one_trace : LawsBelow → (version : Version) (n start : ℕ) (moves : List Move) (text : List ℕ) (version' : Version) (n' start' : ℕ) (moves' : List Move)
    (text' : List ℕ) → IsTraceIn version n start moves text → IsTraceIn version' n' start' moves' text'
    → trace_lines version n start moves ≡ trace_lines version' n' start' moves' → SameTrace version n start moves version' n' start' moves'
one_trace laws version n start moves text version' n' start' moves' text' a b e =
    let lines = append_cancel_right (First version n start ∷ flat_map (move_lines version) moves) (First version' n' start' ∷ flat_map (move_lines version') moves') (Last ∷ []) e in
    let same = one_prefix laws version n start moves (marks_due []) version' n' start' moves' (marks_due []) (First version n start ∷ flat_map (move_lines version) moves)
    (prefix_of_trace version n start moves text a)
    (subst (IsTracePrefix version' n' start' moves' (marks_due [])) (sym lines) (prefix_of_trace version' n' start' moves' text' b)) in
    record { named = same.named; count = same.count; from = same.from; run = same.run }

-- ---- A prefix goes on

-- by a step, and then all its lines are due
pub prefix_and_step : (version : Version) (n start : ℕ) (moves : List Move) (lines : List Line) (move : Move) → IsTracePrefix version n start moves (marks_due []) lines
    → IsRun n start (moves ++ move ∷ []) → IsLine version (Stepped move.step)
    → IsTracePrefix version n start (moves ++ move ∷ []) (due_after version move) (lines ++ Stepped move.step ∷ [])
prefix_and_step version n start moves lines move prefix run ranges = record {
  count = prefix.count;
  run = run;
  each = All-push (IsLine version) lines (Stepped move.step) prefix.each ranges;
  lines_are =
      append_assoc lines (Stepped move.step ∷ []) (due_lines (due_after version move))
      ∙ ap (λ (ls : List Line). lines ++ ls) (sym (lines_of_move version move))
      ∙ ap (λ (ls : List Line). ls ++ move_lines version move) (sym (append-nil lines) ∙ prefix.lines_are)
      ∙ ap (λ (ls : List Line). First version n start ∷ ls)
      (ap (λ (ls : List Line). flat_map (move_lines version) moves ++ ls) (sym (append-nil (move_lines version move)))
      ∙ sym (flat_map-append (move_lines version) moves (move ∷ [])));
}

-- by the message that is to be told next
pub prefix_and_send : (version : Version) (n start : ℕ) (moves : List Move) (message : Message) (others : List Message) (marks : List Mark) (lines : List Line)
    → IsTracePrefix version n start moves (record { sends = message ∷ others; marks = marks }) lines → IsLine version (Sent message)
    → IsTracePrefix version n start moves (record { sends = others; marks = marks }) (lines ++ Sent message ∷ [])
prefix_and_send version n start moves message others marks lines prefix ranges = record {
  count = prefix.count;
  run = prefix.run;
  each = All-push (IsLine version) lines (Sent message) prefix.each ranges;
  lines_are = append_assoc lines (Sent message ∷ []) (due_lines (record { sends = others; marks = marks })) ∙ prefix.lines_are;
}

-- by the mark that is due
pub prefix_and_mark : (version : Version) (n start : ℕ) (moves : List Move) (mark : Mark) (others : List Mark) (lines : List Line)
    → IsTracePrefix version n start moves (marks_due (mark ∷ others)) lines → IsLine version (Marked mark)
    → IsTracePrefix version n start moves (marks_due others) (lines ++ Marked mark ∷ [])
prefix_and_mark version n start moves mark others lines prefix ranges = record {
  count = prefix.count;
  run = prefix.run;
  each = All-push (IsLine version) lines (Marked mark) prefix.each ranges;
  lines_are = append_assoc lines (Marked mark ∷ []) (map Marked others) ∙ prefix.lines_are;
}

-- by the last line, which completes a trace
pub prefix_and_last : (version : Version) (n start : ℕ) (moves : List Move) (lines : List Line) → IsTracePrefix version n start moves (marks_due []) lines
    → (lines ++ Last ∷ [] ≡ trace_lines version n start moves) × IsTraceIn version n start moves (flat_map line_text (lines ++ Last ∷ []))
prefix_and_last version n start moves lines prefix =
    let are : lines ≡ First version n start ∷ flat_map (move_lines version) moves = sym (append-nil lines) ∙ prefix.lines_are in
    let whole = ap (λ (ls : List Line). ls ++ Last ∷ []) are in (
      whole,
      record {
        count = prefix.count;
        run = prefix.run;
        lines = subst (All (IsLine version)) whole (All-push (IsLine version) lines Last prefix.each tt);
        text_is = ap (flat_map line_text) whole;
      },
    )
