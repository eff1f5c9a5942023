-- A line that a checker takes, and why one is wrong.
use Rattle.std.proofs.Common.{◌≡◌, ◌≢◌, ◌⊎◌, ℕ, ◌+◌, Bool, true, false, cond, List, [], ◌∷◌, ◌++◌, drop, refl, sym, ap, ◌∙◌, subst, inl, inr}
use Rattle.std.proofs.lemmas.Bool.{and_parts}
use Rattle.std.proofs.lemmas.List.{append-nil}
use Rattle.std.proofs.lemmas.List.Elements.{All-nil, All-cons}
use Rattle.std.proofs.lemmas.Grind.{flat_map-append}
use Rattle.ra_stamp.specs.Sequence.{Listed}
use Rattle.ra_stamp.specs.declared.entry.Mark.{Mark}
use Rattle.ra_stamp.specs.declared.message.Message.{Message}
use Rattle.ra_table.specs.Table.{LockTable, TableStep, TableRun}
use Rattle.ra_table.specs.Laws.{AllowsMark}
use Rattle.ra_world.specs.declared.step.Step.{Step}
use Rattle.ra_world.specs.declared.step.Step.TheVariants.{Ask, Leave, Cancel, Deliver, Lose, Repeat, Forget}
use Rattle.ra_world.specs.declared.error.NodeRefusal.{NodeRefusal}
use Rattle.ra_world.specs.declared.error.StepError.TheVariants.{NoNode, NotUnderWay, Node}
use Rattle.ra_world.specs.Traffic.{Move}
use Rattle.ra_world.specs.Run.{IsRun, GoesOn}
use Rattle.ra_world.specs.World.{WorldState, with_move, HasCause}
use Rattle.ra_trace.specs.declared.line.Line.{Line}
use Rattle.ra_trace.specs.declared.line.Line.TheVariants.{First, Stepped, Sent, Marked, Last}
use Rattle.ra_trace.specs.declared.checker.verdict.Cause.{Cause}
use Rattle.ra_trace.specs.declared.checker.verdict.Cause.TheVariants as cause
use Rattle.ra_trace.specs.declared.checker.Checker.{Checker}
use Rattle.ra_trace.specs.declared.line.version.Version.{Version}
use Rattle.ra_trace.specs.declared.line.version.Version.TheVariants.{One, Two, Three, ThreeWithSends}
use Rattle.ra_trace.specs.Version.{IsNodeIn, has_sends}
use Rattle.ra_trace.specs.Forms.{IsReadable, BeginsReadable, has_node, allows_message, allows_step, allows_sent, allows_mark}
use Rattle.ra_trace.specs.TraceText.{IsLine, BeginsWith}
use Rattle.ra_trace.specs.Verdict.{Due, IsTracePrefix, marks_due, IsFirst, IsOfClient, IsOfMessage, marks_in_line, marks_in}
use Rattle.ra_trace.specs.Checking.{unsent_of, due_of, all_due, IsOpening, IsCheckerOf, TakesOn, Refuses, Allows}
use Rattle.ra_trace.specs.Reading.{HasBegun}
use Rattle.ra_trace.specs.Below.{LawsBelow}
use Rattle.ra_trace.proofs.Prefixes.{due_after, prefix_and_step, prefix_and_send, prefix_and_mark}
use Rattle.ra_trace.proofs.Lines.{begins_once}
use Rattle.ra_trace.proofs.Versions.{node_is, node_is_not, step_is, step_is_not, sent_is, sent_is_not, mark_is, mark_is_not, begins_readable}

-- ---- The first line

first_prefix : (version : Version) (nodes start : ℕ) → IsRun nodes start [] → IsReadable (First version nodes start) → has_node version nodes ≡ true
    → IsTracePrefix version nodes start [] (marks_due []) (First version nodes start ∷ [])
first_prefix version nodes start run ranges has = record {
  count = ranges.0;
  run = run;
  each = All-cons (IsLine version) (First version nodes start) [] (refl, node_is version nodes ranges.0 has, ranges.1) (All-nil (IsLine version));
  lines_are = refl;
}

pub opens : LawsBelow → (version : Version) (nodes start : ℕ) (checker : Checker) → IsOpening version nodes start checker → has_node version nodes ≡ true
    → IsReadable (First version nodes start) → IsCheckerOf checker (First version nodes start ∷ [])
opens laws version nodes start checker is has ranges =
    let line = First version nodes start ∷ [] in
    let run = subst (λ (w : WorldState). IsRun w.count w.start w.moves) is.world_is is.run in
    let prefix = first_prefix version nodes start run ranges has in
    record {
      prefix = subst (λ (v : Version). IsTracePrefix v checker.world.count checker.world.start checker.world.moves (all_due checker) line) (sym is.version_is)
          (subst (λ (due : Due). IsTracePrefix version checker.world.count checker.world.start checker.world.moves due line) (sym is.none)
          (subst (λ (w : WorldState). IsTracePrefix version w.count w.start w.moves (marks_due []) line) (sym is.world_is) prefix));
      table = subst (TableRun []) (sym is.table_is) laws.empty;
    }

-- no message and no mark is due
pub nothing_due : (tells : Bool) (sends : List Message) (marks : List Mark) → sends ≡ [] → marks ≡ []
    → ◌≡◌ {A = Due} (record { sends = cond tells sends []; marks = marks }) (marks_due [])
nothing_due true sends marks told come = λ i. record { sends = told i; marks = come i }
nothing_due false sends marks told come = λ i. record { sends = []; marks = come i }

-- its version does not have this many nodes
pub opens_not : (version : Version) (nodes start : ℕ) → has_node version nodes ≡ false → (any : Version) → IsLine any (First version nodes start) → ⊥
opens_not version nodes start not_so any is =
    node_is_not version nodes not_so (subst (λ (v : Version). IsNodeIn v nodes) (sym is.0) is.1)

-- ---- A line that the version does not allow

not_of_version : (checker : Checker) (line : Line) → (IsLine checker.version line → ⊥) → Refuses checker line cause.Line
not_of_version checker line not = record {
  wrong = λ lines text rest checker_is begins.
      let w = checker.world in
      inr (inl (
        checker.version,
        w.count,
        w.start,
        w.moves,
        all_due checker,
        checker_is.prefix,
        λ other later there.
            let same = (begins_once text other line later rest (begins_readable checker.version text other later there) begins).0 in
            absurd (not (subst (IsLine checker.version) same there.0)),
      ));
}

pub step_not_allowed : (checker : Checker) (step : Step) → allows_step checker.version step ≡ false → Refuses checker (Stepped step) cause.Line
step_not_allowed checker step not_so = not_of_version checker (Stepped step) (step_is_not checker.version step not_so)

pub sent_not_allowed : (checker : Checker) (message : Message) → allows_sent checker.version message ≡ false → Refuses checker (Sent message) cause.Line
sent_not_allowed checker message not_so = not_of_version checker (Sent message) (sent_is_not checker.version message not_so)

pub mark_not_allowed : (checker : Checker) (mark : Mark) → allows_mark checker.version mark ≡ false → Refuses checker (Marked mark) cause.Line
mark_not_allowed checker mark not_so = not_of_version checker (Marked mark) (mark_is_not checker.version mark not_so)

-- ---- Steps

prefix_of : (checker : Checker) (lines : List Line) (due : Due) → all_due checker ≡ due → IsCheckerOf checker lines
    → IsTracePrefix checker.version checker.world.count checker.world.start checker.world.moves due lines
prefix_of checker lines due is checker_is =
    subst (λ (d : Due). IsTracePrefix checker.version checker.world.count checker.world.start checker.world.moves d lines) is checker_is.prefix

-- the checker after a step
abbrev stepped : Checker → Listed Message → Listed Mark → WorldState → Checker
stepped old sends marks world =
    record { version = old.version; world = world; table = old.table; sends = sends; told = 0; marks = marks; come = 0 }

-- all that the version tells of the step is due then
due_then : (version : Version) (step : Step) (sends : List Message) (marks : List Mark)
    → due_after version (record { step = step; sends = sends; marks = marks }) ≡ record { sends = cond (has_sends version) sends []; marks = marks }
due_then One step sends marks = refl
due_then Two step sends marks = refl
due_then Three step sends marks = refl
due_then ThreeWithSends step sends marks = refl

taken_by_step : (old : Checker) (step : Step) (sends : Listed Message) (marks : Listed Mark) (world : WorldState) → all_due old ≡ marks_due []
    → world ≡ with_move old.world step sends.items marks.items → IsRun world.count world.start world.moves
    → (lines : List Line) → IsLine old.version (Stepped step) → IsCheckerOf old lines → IsCheckerOf (stepped old sends marks world) (lines ++ Stepped step ∷ [])
taken_by_step old step sends marks world none is run lines ranges checker_is =
    let move : Move = record { step = step; sends = sends.items; marks = marks.items } in
    let moves : world.moves ≡ old.world.moves ++ move ∷ [] = ap (λ (w : WorldState). w.moves) is in
    let count : world.count ≡ old.world.count = ap (λ (w : WorldState). w.count) is in
    let start : world.start ≡ old.world.start = ap (λ (w : WorldState). w.start) is in
    let goes : IsRun old.world.count old.world.start (old.world.moves ++ move ∷ []) =
    subst (λ (ms : List Move). IsRun old.world.count old.world.start ms) moves
    (subst (λ (s : ℕ). IsRun old.world.count s world.moves) start (subst (λ (n : ℕ). IsRun n world.start world.moves) count run)) in
    let after : Due = all_due (stepped old sends marks world) in
    let longer = lines ++ Stepped step ∷ [] in
    let prefix : IsTracePrefix old.version old.world.count old.world.start (old.world.moves ++ move ∷ []) after longer =
    subst (λ (d : Due). IsTracePrefix old.version old.world.count old.world.start (old.world.moves ++ move ∷ []) d longer)
    (due_then old.version step sends.items marks.items)
    (prefix_and_step old.version old.world.count old.world.start old.world.moves lines move (prefix_of old lines (marks_due []) none checker_is) goes ranges) in
    record {
      prefix =
          subst (λ (ms : List Move). IsTracePrefix old.version world.count world.start ms after longer) (sym moves)
          (subst (λ (s : ℕ). IsTracePrefix old.version world.count s (old.world.moves ++ move ∷ []) after longer) (sym start)
          (subst (λ (n : ℕ). IsTracePrefix old.version n old.world.start (old.world.moves ++ move ∷ []) after longer) (sym count) prefix));
      table = subst (λ (ms : List Mark). TableRun ms old.table)
          (sym (flat_map-append marks_in_line lines (Stepped step ∷ []) ∙ append-nil (marks_in lines))) checker_is.table;
    }

pub step_is_taken : (old : Checker) (step : Step) (sends : Listed Message) (marks : Listed Mark) (world : WorldState) → all_due old ≡ marks_due []
    → world ≡ with_move old.world step sends.items marks.items → IsRun world.count world.start world.moves → allows_step old.version step ≡ true
    → TakesOn old (Stepped step) (record { version = old.version; world = world; table = old.table; sends = sends; told = 0; marks = marks; come = 0 })
step_is_taken old step sends marks world none is run allowed =
    record { on = λ lines ranges checker_is. taken_by_step old step sends marks world none is run lines (step_is old.version step ranges allowed) checker_is }

-- a step that the version allows begins the text
step_begins : (checker : Checker) (step : Step) (text rest : List ℕ) → allows_step checker.version step ≡ true → BeginsReadable text (Stepped step) rest
    → BeginsWith checker.version text (Stepped step) rest
step_begins checker step text rest allowed begins = (step_is checker.version step begins.0 allowed, begins.1)

-- why a step or the last line comes too early
abbrev pub ComesEarly : Checker → Cause → Type 0
ComesEarly checker why =
    ((why ≡ cause.Sends) × (unsent_of checker ≢ [])) ⊎ ((why ≡ cause.Marks) × (all_due checker ≡ marks_due (due_of checker)) × (due_of checker ≢ []))

-- something is due in front of the step
pub step_comes_early : (checker : Checker) (step : Step) (why : Cause) → allows_step checker.version step ≡ true → ComesEarly checker why
    → Refuses checker (Stepped step) why
step_comes_early checker step why allowed (inl (is, some)) =
    subst (Refuses checker (Stepped step)) (sym is) (record {
      wrong = λ lines text rest checker_is begins. (
        checker.version,
        checker.world.count,
        checker.world.start,
        checker.world.moves,
        all_due checker,
        checker_is.prefix,
        Stepped step,
        rest,
        step_begins checker step text rest allowed begins,
        some,
      );
    })
step_comes_early checker step why allowed (inr (is, due, some)) =
    subst (Refuses checker (Stepped step)) (sym is) (record {
      wrong = λ lines text rest checker_is begins. (
        checker.version,
        checker.world.count,
        checker.world.start,
        checker.world.moves,
        due_of checker,
        prefix_of checker lines (marks_due (due_of checker)) due checker_is,
        Stepped step,
        rest,
        step_begins checker step text rest allowed begins,
        some,
      );
    })

pub step_is_refused : (checker : Checker) (step : Step) → allows_step checker.version step ≡ true → all_due checker ≡ marks_due [] → IsOfClient step
    → (GoesOn checker.world.count checker.world.start checker.world.moves step → ⊥) → Refuses checker (Stepped step) cause.Refused
step_is_refused checker step allowed none of_client stops =
    record {
      wrong = λ lines text rest checker_is begins. (
        checker.version,
        checker.world.count,
        checker.world.start,
        checker.world.moves,
        prefix_of checker lines (marks_due []) none checker_is,
        step,
        rest,
        step_begins checker step text rest allowed begins,
        of_client,
        stops,
      );
    }

pub step_is_not_under_way : (checker : Checker) (step : Step) → allows_step checker.version step ≡ true → all_due checker ≡ marks_due [] → IsOfMessage step
    → (GoesOn checker.world.count checker.world.start checker.world.moves step → ⊥) → Refuses checker (Stepped step) cause.NotUnderWay
step_is_not_under_way checker step allowed none of_message stops =
    record {
      wrong = λ lines text rest checker_is begins. (
        checker.version,
        checker.world.count,
        checker.world.start,
        checker.world.moves,
        prefix_of checker lines (marks_due []) none checker_is,
        step,
        rest,
        step_begins checker step text rest allowed begins,
        of_message,
        stops,
      );
    }

-- whose step each cause refuses
pub no_node_is_of_client : (n start : ℕ) (moves : List Move) (step : Step) → HasCause n start moves step NoNode → IsOfClient step
no_node_is_of_client n start moves (Ask node client name mode) h = tt
no_node_is_of_client n start moves (Leave node client name) h = tt
no_node_is_of_client n start moves (Cancel node client name) h = tt
no_node_is_of_client n start moves (Forget node) h = tt
no_node_is_of_client n start moves (Deliver message) h = h
no_node_is_of_client n start moves (Lose message) h = h
no_node_is_of_client n start moves (Repeat message) h = h

pub node_is_of_client : (n start : ℕ) (moves : List Move) (step : Step) (why : NodeRefusal) → HasCause n start moves step (Node why) → IsOfClient step
node_is_of_client n start moves (Ask node client name mode) why h = tt
node_is_of_client n start moves (Leave node client name) why h = tt
node_is_of_client n start moves (Cancel node client name) why h = tt
node_is_of_client n start moves (Forget node) why h = tt
node_is_of_client n start moves (Deliver message) why h = h
node_is_of_client n start moves (Lose message) why h = h
node_is_of_client n start moves (Repeat message) why h = h

pub not_under_way_is_of_message : (n start : ℕ) (moves : List Move) (step : Step) → HasCause n start moves step NotUnderWay → IsOfMessage step
not_under_way_is_of_message n start moves (Ask node client name mode) h = h
not_under_way_is_of_message n start moves (Leave node client name) h = h
not_under_way_is_of_message n start moves (Cancel node client name) h = h
not_under_way_is_of_message n start moves (Forget node) h = h
not_under_way_is_of_message n start moves (Deliver message) h = tt
not_under_way_is_of_message n start moves (Lose message) h = tt
not_under_way_is_of_message n start moves (Repeat message) h = tt

-- ---- Marks

mark_begins : (checker : Checker) (mark : Mark) (text rest : List ℕ) → allows_mark checker.version mark ≡ true → BeginsReadable text (Marked mark) rest
    → BeginsWith checker.version text (Marked mark) rest
mark_begins checker mark text rest allowed begins = (mark_is checker.version mark begins.0 allowed, begins.1)

taken_by_mark : LawsBelow → (old : Checker) (mark : Mark) (table : LockTable) → TableStep old.table mark table → unsent_of old ≡ []
    → due_of old ≡ mark ∷ drop (old.come + 1) old.marks.items → (lines : List Line) → IsLine old.version (Marked mark) → IsCheckerOf old lines
    → IsCheckerOf (record { version = old.version; world = old.world; table = table; sends = old.sends; told = old.told; marks = old.marks; come = old.come + 1 }) (lines ++ Marked mark ∷ [])
taken_by_mark laws old mark table step told due lines ranges checker_is =
    let left = drop (old.come + 1) old.marks.items in
    let longer = lines ++ Marked mark ∷ [] in
    record {
      prefix = subst (λ (ms : List Message). IsTracePrefix old.version old.world.count old.world.start old.world.moves (record { sends = ms; marks = left }) longer) (sym told)
          (prefix_and_mark old.version old.world.count old.world.start old.world.moves mark left lines
          (prefix_of old lines (marks_due (mark ∷ left)) (λ i. record { sends = told i; marks = due i }) checker_is) ranges);
      table = subst (λ (ms : List Mark). TableRun ms table) (sym (flat_map-append marks_in_line lines (Marked mark ∷ [])))
          (laws.steps_on (marks_in lines) mark old.table table checker_is.table step);
    }

pub mark_is_taken : LawsBelow → (old : Checker) (mark : Mark) (table : LockTable) → allows_mark old.version mark ≡ true → TableStep old.table mark table → unsent_of old ≡ []
    → due_of old ≡ mark ∷ drop (old.come + 1) old.marks.items
    → TakesOn old (Marked mark) (record { version = old.version; world = old.world; table = table; sends = old.sends; told = old.told; marks = old.marks; come = old.come + 1 })
mark_is_taken laws old mark table allowed step told due =
    record { on = λ lines ranges checker_is. taken_by_mark laws old mark table step told due lines (mark_is old.version mark ranges allowed) checker_is }

-- if no message is still to be told, these marks are all that is due
only_marks_due : (checker : Checker) → unsent_of checker ≡ [] → all_due checker ≡ marks_due (due_of checker)
only_marks_due checker told = λ i. record { sends = told i; marks = due_of checker }

-- the lock table refuses the mark
pub table_refuses : LawsBelow → (checker : Checker) (mark : Mark) → allows_mark checker.version mark ≡ true → unsent_of checker ≡ [] → (AllowsMark checker.table mark → ⊥)
    → Refuses checker (Marked mark) cause.Table
table_refuses laws checker mark allowed told refused =
    record {
      wrong = λ lines text rest checker_is begins. (
        checker.version,
        checker.world.count,
        checker.world.start,
        checker.world.moves,
        due_of checker,
        prefix_of checker lines (marks_due (due_of checker)) (only_marks_due checker told) checker_is,
        mark,
        rest,
        mark_begins checker mark text rest allowed begins,
        λ on. refused ((laws.goes_on (marks_in lines) mark checker.table checker_is.table).1 on),
      );
    }

-- the lock table allows the mark, but another one is due, or none
mark_is_not_due : LawsBelow → (checker : Checker) (mark : Mark) (table : LockTable) → allows_mark checker.version mark ≡ true → unsent_of checker ≡ []
    → TableStep checker.table mark table → ((others : List Mark) → due_of checker ≢ mark ∷ others) → Refuses checker (Marked mark) cause.Marks
mark_is_not_due laws checker mark table allowed told step other =
    record {
      wrong = λ lines text rest checker_is begins. (
        checker.version,
        checker.world.count,
        checker.world.start,
        checker.world.moves,
        due_of checker,
        prefix_of checker lines (marks_due (due_of checker)) (only_marks_due checker told) checker_is,
        Marked mark,
        rest,
        mark_begins checker mark text rest allowed begins,
        ((table, laws.steps_on (marks_in lines) mark checker.table table checker_is.table step), other),
      );
    }

pub wrong_mark : LawsBelow → (checker : Checker) (mark : Mark) (why : Cause) → allows_mark checker.version mark ≡ true → unsent_of checker ≡ []
    → ((others : List Mark) → due_of checker ≢ mark ∷ others)
    → ((why ≡ cause.Marks) × AllowsMark checker.table mark) ⊎ ((why ≡ cause.Table) × (AllowsMark checker.table mark → ⊥))
    → Refuses checker (Marked mark) why
wrong_mark laws checker mark why allowed told other (inl (is, (table, step))) =
    subst (Refuses checker (Marked mark)) (sym is) (mark_is_not_due laws checker mark table allowed told step other)
wrong_mark laws checker mark why allowed told other (inr (is, refused)) =
    subst (Refuses checker (Marked mark)) (sym is) (table_refuses laws checker mark allowed told refused)

-- a message is still to be told in front of the mark
pub mark_comes_early : (checker : Checker) (mark : Mark) → allows_mark checker.version mark ≡ true → unsent_of checker ≢ [] → Refuses checker (Marked mark) cause.Sends
mark_comes_early checker mark allowed some =
    record {
      wrong = λ lines text rest checker_is begins. (
        checker.version,
        checker.world.count,
        checker.world.start,
        checker.world.moves,
        all_due checker,
        checker_is.prefix,
        Marked mark,
        rest,
        mark_begins checker mark text rest allowed begins,
        some,
      );
    }

-- ---- Messages

sent_begins : (checker : Checker) (message : Message) (text rest : List ℕ) → allows_sent checker.version message ≡ true → BeginsReadable text (Sent message) rest
    → BeginsWith checker.version text (Sent message) rest
sent_begins checker message text rest allowed begins = (sent_is checker.version message begins.0 allowed, begins.1)

-- a version that has such a line tells what is sent
tells_sends : (version : Version) (message : Message) → allows_sent version message ≡ true → has_sends version ≡ true
tells_sends version message allowed = (and_parts (has_sends version) (allows_message version message) allowed).0

-- so the messages of the step that have not come are still to be told
pub all_are_told : (version : Version) (message : Message) (sends : List Message) → allows_sent version message ≡ true → cond (has_sends version) sends [] ≡ sends
all_are_told version message sends allowed = ap (λ (tells : Bool). cond tells sends []) (tells_sends version message allowed)

-- the message is not the next one that the step sends
pub sent_is_not_next : (checker : Checker) (message : Message) → allows_sent checker.version message ≡ true
    → ((others : List Message) → unsent_of checker ≢ message ∷ others) → Refuses checker (Sent message) cause.Sends
sent_is_not_next checker message allowed other =
    record {
      wrong = λ lines text rest checker_is begins. (
        checker.version,
        checker.world.count,
        checker.world.start,
        checker.world.moves,
        all_due checker,
        checker_is.prefix,
        Sent message,
        rest,
        sent_begins checker message text rest allowed begins,
        other,
      );
    }

taken_by_sent : (old : Checker) (message : Message) (left : List Message) → unsent_of old ≡ message ∷ left
    → cond (has_sends old.version) (drop (old.told + 1) old.sends.items) [] ≡ left → (lines : List Line) → IsLine old.version (Sent message) → IsCheckerOf old lines
    → IsCheckerOf (record { version = old.version; world = old.world; table = old.table; sends = old.sends; told = old.told + 1; marks = old.marks; come = old.come }) (lines ++ Sent message ∷ [])
taken_by_sent old message left now then lines ranges checker_is =
    let longer = lines ++ Sent message ∷ [] in
    record {
      prefix = subst (λ (ms : List Message). IsTracePrefix old.version old.world.count old.world.start old.world.moves (record { sends = ms; marks = due_of old }) longer) (sym then)
          (prefix_and_send old.version old.world.count old.world.start old.world.moves message left (due_of old) lines
          (prefix_of old lines (record { sends = message ∷ left; marks = due_of old }) (λ i. record { sends = now i; marks = due_of old }) checker_is) ranges);
      table = subst (λ (ms : List Mark). TableRun ms old.table)
          (sym (flat_map-append marks_in_line lines (Sent message ∷ []) ∙ append-nil (marks_in lines))) checker_is.table;
    }

pub sent_is_taken : (old : Checker) (message : Message) (left : List Message) → allows_sent old.version message ≡ true → unsent_of old ≡ message ∷ left
    → cond (has_sends old.version) (drop (old.told + 1) old.sends.items) [] ≡ left
    → TakesOn old (Sent message) (record { version = old.version; world = old.world; table = old.table; sends = old.sends; told = old.told + 1; marks = old.marks; come = old.come })
sent_is_taken old message left allowed now then =
    record { on = λ lines ranges checker_is. taken_by_sent old message left now then lines (sent_is old.version message ranges allowed) checker_is }

-- ---- Lines that are right, but memory for them is lacking

pub first_may_come : LawsBelow → (version : Version) (nodes start : ℕ) → has_node version nodes ≡ true → IsReadable (First version nodes start)
    → HasBegun (First version nodes start ∷ [])
first_may_come laws version nodes start has ranges =
    (version, nodes, start, [], marks_due [], first_prefix version nodes start (laws.none nodes start) ranges has)

pub step_may_come : (checker : Checker) (step : Step) → allows_step checker.version step ≡ true → all_due checker ≡ marks_due []
    → GoesOn checker.world.count checker.world.start checker.world.moves step → Allows checker (Stepped step)
step_may_come checker step allowed none (sends, marks, run) =
    let w = checker.world in
    let move : Move = record { step = step; sends = sends; marks = marks } in
    record {
      right = λ lines ranges checker_is. (
        checker.version,
        w.count,
        w.start,
        w.moves ++ move ∷ [],
        due_after checker.version move,
        prefix_and_step checker.version w.count w.start w.moves lines move (prefix_of checker lines (marks_due []) none checker_is) run
            (step_is checker.version step ranges allowed),
      );
    }

pub mark_may_come : (checker : Checker) (mark : Mark) (others : List Mark) → allows_mark checker.version mark ≡ true → unsent_of checker ≡ []
    → due_of checker ≡ mark ∷ others → Allows checker (Marked mark)
mark_may_come checker mark others allowed told due =
    let w = checker.world in
    record {
      right = λ lines ranges checker_is. (
        checker.version,
        w.count,
        w.start,
        w.moves,
        marks_due others,
        prefix_and_mark checker.version w.count w.start w.moves mark others lines (prefix_of checker lines (marks_due (mark ∷ others)) (λ i. record { sends = told i; marks = due i }) checker_is)
            (mark_is checker.version mark ranges allowed),
      );
    }

-- ---- Other lines

pub last_comes_early : (checker : Checker) (why : Cause) → ComesEarly checker why → Refuses checker Last why
last_comes_early checker why (inl (is, some)) =
    subst (Refuses checker Last) (sym is) (record {
      wrong = λ lines text rest checker_is begins. (
        checker.version,
        checker.world.count,
        checker.world.start,
        checker.world.moves,
        all_due checker,
        checker_is.prefix,
        Last,
        rest,
        begins,
        some,
      );
    })
last_comes_early checker why (inr (is, due, some)) =
    subst (Refuses checker Last) (sym is) (record {
      wrong = λ lines text rest checker_is begins. (
        checker.version,
        checker.world.count,
        checker.world.start,
        checker.world.moves,
        due_of checker,
        prefix_of checker lines (marks_due (due_of checker)) due checker_is,
        Last,
        rest,
        begins,
        some,
      );
    })

-- the first line may not come again
pub first_comes_again : (checker : Checker) (version : Version) (nodes start : ℕ) → Refuses checker (First version nodes start) cause.Line
first_comes_again checker version nodes start =
    record {
      wrong = λ lines text rest checker_is begins.
          let w = checker.world in
          inr (inl (
            checker.version,
            w.count,
            w.start,
            w.moves,
            all_due checker,
            checker_is.prefix,
            λ other later there.
                let same = (begins_once text other (First version nodes start) later rest (begins_readable checker.version text other later there) begins).0 in
                subst IsFirst (sym same) tt,
          ));
    }

-- a line of a step or of a mark is not the last one
pub step_is_not_last : (step : Step) → Stepped step ≡ Last → ⊥
step_is_not_last step e = cc

pub sent_is_not_last : (message : Message) → Sent message ≡ Last → ⊥
sent_is_not_last message e = cc

pub mark_is_not_last : (mark : Mark) → Marked mark ≡ Last → ⊥
mark_is_not_last mark e = cc
