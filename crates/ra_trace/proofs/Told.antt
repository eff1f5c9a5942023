-- The text of a trace tells its run.
use Rattle.std.proofs.Common.{◌≡◌, ℕ, List, [], ◌∷◌, ◌++◌, map, flat_map, length, codes, All, refl, sym, ap, subst, ◌∙◌, arith, append_assoc}
use Rattle.std.proofs.lemmas.Grind.{flat_map-append}
use Rattle.std.proofs.lemmas.List.{length-append, append-nil}
use Rattle.std.proofs.lemmas.List.Elements.{All-head, All-tail, All-weaker}
use Rattle.ra_stamp.specs.NodeId.{IsNodeNumber}
use Rattle.ra_stamp.specs.declared.entry.Mark.{Mark}
use Rattle.ra_stamp.specs.declared.message.Message.{Message}
use Rattle.ra_world.specs.Run.{IsRun}
use Rattle.ra_world.specs.Traffic.{Move}
use Rattle.ra_trace.specs.declared.line.Line.{Line}
use Rattle.ra_trace.specs.declared.line.Line.TheVariants.{First, Stepped, Sent, Marked, Last}
use Rattle.ra_trace.specs.declared.line.version.Version.{Version}
use Rattle.ra_trace.specs.declared.line.version.Version.TheVariants.{Two}
use Rattle.ra_trace.specs.Forms.{IsReadable}
use Rattle.ra_trace.specs.TraceText.{line_text, move_lines, trace_lines, trace_text, IsLine, IsTraceIn}
use Rattle.ra_trace.specs.Verdict.{Due, due_lines}
use Rattle.ra_trace.proofs.Lines.{begins_once}
use Rattle.ra_trace.proofs.Prefixes.{steps_in_line, steps_in, steps_in-moves, due_after, marks_after, lines_of_move}
use Rattle.ra_trace.proofs.Rows.{body, has_body}
use Rattle.ra_trace.proofs.Versions.{readable}

-- a line has some bytes
some_text : (line : Line) → IsReadable line → (rest : List ℕ) → line_text line ++ rest ≡ [] → ⊥
some_text line is rest none =
    let long = has_body line is in
    absurd (omega (arith, ap length none, length-append (line_text line) rest, ap length long.text_is, length-append (body line) (codes "\n")))

-- no two lists of lines have one text
pub same_lines : (a b : List Line) → All IsReadable a → All IsReadable b → flat_map line_text a ≡ flat_map line_text b → a ≡ b
same_lines [] [] g h e = refl
same_lines [] (y ∷ b) g h e = absurd (some_text y (All-head IsReadable y b h) (flat_map line_text b) (sym e))
same_lines (x ∷ a) [] g h e = absurd (some_text x (All-head IsReadable x a g) (flat_map line_text a) e)
same_lines (x ∷ a) (y ∷ b) g h e =
    let once = begins_once (flat_map line_text (x ∷ a)) x y (flat_map line_text a) (flat_map line_text b) (All-head IsReadable x a g, refl) (All-head IsReadable y b h, e) in
    ap (λ (line : Line). line ∷ a) once.0 ∙ ap (λ (lines : List Line). y ∷ lines) (same_lines a b (All-tail IsReadable x a g) (All-tail IsReadable y b h) once.1)

steps_told : (version : Version) (n start : ℕ) (moves : List Move)
    → steps_in (trace_lines version n start moves) ≡ map (λ move. move.step) moves
steps_told version n start moves =
    flat_map-append steps_in_line (flat_map (move_lines version) moves) (Last ∷ []) ∙ (append-nil _ ∙ steps_in-moves version moves)

abbrev version_of : List Line → Version
version_of [] = Two
version_of (First version nodes start ∷ lines) = version
version_of (Stepped step ∷ lines) = Two
version_of (Sent message ∷ lines) = Two
version_of (Marked mark ∷ lines) = Two
version_of (Last ∷ lines) = Two

abbrev nodes_of : List Line → ℕ
nodes_of [] = 0
nodes_of (First version nodes start ∷ lines) = nodes
nodes_of (Stepped step ∷ lines) = 0
nodes_of (Sent message ∷ lines) = 0
nodes_of (Marked mark ∷ lines) = 0
nodes_of (Last ∷ lines) = 0

abbrev start_of : List Line → ℕ
start_of [] = 0
start_of (First version nodes start ∷ lines) = start
start_of (Stepped step ∷ lines) = 0
start_of (Sent message ∷ lines) = 0
start_of (Marked mark ∷ lines) = 0
start_of (Last ∷ lines) = 0

-- the marks before the first step of the lines, and the marks of each step
abbrev marks_by_step : List Line → List Mark × List (List Mark)
marks_by_step [] = ([], [])
marks_by_step (First version nodes start ∷ lines) = marks_by_step lines
marks_by_step (Stepped step ∷ lines) = ([], (marks_by_step lines).0 ∷ (marks_by_step lines).1)
marks_by_step (Sent message ∷ lines) = marks_by_step lines
marks_by_step (Marked mark ∷ lines) = (mark ∷ (marks_by_step lines).0, (marks_by_step lines).1)
marks_by_step (Last ∷ lines) = ([], [])

marks_before : (marks : List Mark) (lines : List Line)
    → marks_by_step (map Marked marks ++ lines) ≡ (marks ++ (marks_by_step lines).0, (marks_by_step lines).1)
marks_before [] lines = refl
marks_before (mark ∷ marks) lines =
    ap (λ (told : List Mark × List (List Mark)). (mark ∷ told.0, told.1)) (marks_before marks lines)

sent_before : (sends : List Message) (lines : List Line) → marks_by_step (map Sent sends ++ lines) ≡ marks_by_step lines
sent_before [] lines = refl
sent_before (message ∷ sends) lines = sent_before sends lines

due_before : (due : Due) (lines : List Line)
    → marks_by_step (due_lines due ++ lines) ≡ (due.marks ++ (marks_by_step lines).0, (marks_by_step lines).1)
due_before due lines =
    ap marks_by_step (append_assoc (map Sent due.sends) (map Marked due.marks) lines) ∙ (sent_before due.sends (map Marked due.marks ++ lines) ∙ marks_before due.marks lines)

marks_told : (version : Version) (moves : List Move)
    → marks_by_step (flat_map (move_lines version) moves ++ Last ∷ []) ≡ ([], map (λ move. move.marks) moves)
marks_told version [] = refl
marks_told version (move ∷ moves) =
    let others = flat_map (move_lines version) moves in
    let due = due_after version move in
    let lines = ap marks_by_step (append_assoc (due_lines due) others (Last ∷ [])) in
    let told = lines ∙ (due_before due (others ++ Last ∷ [])
    ∙ ap (λ (t : List Mark × List (List Mark)). (due.marks ++ t.0, t.1)) (marks_told version moves)) in
    let whole = told ∙ ap (λ (marks : List Mark). (marks, map (λ move. move.marks) moves)) (append-nil due.marks ∙ marks_after version move) in
    ap (λ (ls : List Line). marks_by_step ((ls ++ others) ++ Last ∷ [])) (lines_of_move version move)
    ∙ ap (λ (t : List Mark × List (List Mark)). ([], t.0 ∷ t.1)) whole

pub told_lines : (version second : Version) (n m start other : ℕ) (moves others : List Move)
    → All (IsLine version) (trace_lines version n start moves) → All (IsLine second) (trace_lines second m other others)
    → trace_text version n start moves ≡ trace_text second m other others
    → (version ≡ second) × (n ≡ m) × (start ≡ other) × (map (λ move. move.step) moves ≡ map (λ move. move.step) others)
    × (map (λ move. move.marks) moves ≡ map (λ move. move.marks) others)
told_lines version second n m start other moves others g h text =
    let a = trace_lines version n start moves in
    let b = trace_lines second m other others in
    let lines = same_lines a b (All-weaker (IsLine version) IsReadable (readable version) a g) (All-weaker (IsLine second) IsReadable (readable second) b h) text in
    let steps = sym (steps_told version n start moves) ∙ (ap steps_in lines ∙ steps_told second m other others) in
    let marks = ap (λ (t : List Mark × List (List Mark)). t.1) (sym (marks_told version moves) ∙ (ap marks_by_step lines ∙ marks_told second others)) in
    (ap version_of lines, ap nodes_of lines, ap start_of lines, steps, marks)

pub told : ((n start : ℕ) (a b : List Move) → IsNodeNumber n → IsRun n start a → IsRun n start b → map (λ move. move.step) a ≡ map (λ move. move.step) b → a ≡ b)
    → (version second : Version) (n m start other : ℕ) (moves others : List Move) (text : List ℕ) → IsTraceIn version n start moves text
    → IsTraceIn second m other others text → (version ≡ second) × (n ≡ m) × (start ≡ other) × (moves ≡ others)
told determined version second n m start other moves others text g h =
    let (names, nodes, first, steps, marks) = told_lines version second n m start other moves others g.lines h.lines (sym g.text_is ∙ h.text_is) in
    let run : IsRun n start others = subst (λ (k : ℕ). IsRun k start others) (sym nodes) (subst (λ (s : ℕ). IsRun m s others) (sym first) h.run) in
    (names, nodes, first, determined n start moves others g.count g.run run steps)
