-- A world, and the text of its steps so far, which grows with them.
use Rattle.std.proofs.Common.{◌≡◌, ◌≢◌, ◌↔◌, ◌⊎◌, ◌^◌, ◌<◌, ◌≤◌, arith, inl, inr, ℕ, ◌+◌, true, false, if◌then◌else◌, Contains, List, [], ◌∷◌, ◌++◌, map, flat_map, length, get_or, take, drop, All, codes, refl, sym, ap, subst, ◌∙◌, append_assoc}
use Rattle.std.proofs.lemmas.Grind.{flat_map-append}
use Rattle.std.proofs.lemmas.Bool.{cases_Bool, false≢true}
use Rattle.std.proofs.lemmas.List.{append-nil, map-append, take_more, get_or_default, at_drop_more}
use Rattle.std.proofs.lemmas.List.Elements.{All-nil, All-cons, All-append, All-head, All-tail, All-push, Contains-append_left, Contains-append_right}
use Rattle.ra_stamp.specs.NodeId.{IsNodeNumber}
use Rattle.ra_stamp.specs.Message.{seq_of}
use Rattle.ra_stamp.specs.declared.message.Message.{Message}
use Rattle.ra_stamp.specs.declared.message.Message.TheVariants.{Request, Reply}
use Rattle.ra_stamp.specs.declared.entry.Entry.{Entry}
use Rattle.ra_stamp.specs.declared.entry.Mark.{Mark}
use Rattle.ra_stamp.specs.declared.mode.Mode.{Mode}
use Rattle.ra_stamp.specs.declared.entry.Mark.TheVariants.{Requested, Entered, Left, Withdrawn}
use Rattle.ra_world.specs.declared.step.Step.{Step}
use Rattle.ra_world.specs.declared.step.Step.TheVariants.{Ask, Leave, Cancel, Deliver, Lose, Repeat, Forget}
use Rattle.ra_text.specs.Drafting.{Adds, Says}
use Rattle.ra_text.specs.declared.draft.Draft.{Draft}
use Rattle.ra_text.specs.Lines.{mark_line}
use Rattle.ra_world.specs.Numbers.{IsNumberedMark, IsNumberedMessage}
use Rattle.ra_world.specs.declared.error.RunError.TheVariants.{Refused}
use Rattle.ra_world.specs.declared.error.StepError.{StepError}
use Rattle.ra_world.specs.declared.error.StepError.TheVariants as cause
use Rattle.ra_world.specs.Run.{IsRun, WorldRun, GoesOn, IsFit, AreFit, marks_of}
use Rattle.ra_world.specs.Traffic.{Move, TakesEach, put_in, sent_by, taken_in, taken_by, repeated_in, repeated_by, IsUnderWay}
use Rattle.ra_world.specs.Asked.{cancels_in, cancels_by}
use Rattle.ra_world.specs.Quiet.{withdrawn_in}
use Rattle.ra_world.specs.World.{WorldState, HasCause, HasMade, with_move}
use Rattle.ra_world.proofs.Moves.{allows_all, withdrawn_both}
use Rattle.ra_world.proofs.Outcomes.{is_traffic}
use Rattle.ra_world.proofs.Reached.{Reached, under_way_more, was_under_way}
use Rattle.ra_world.proofs.RequestCounts.{asks_counted}
use Rattle.ra_world.proofs.Runs.{prefixes, every_run}
use Rattle.ra_world.proofs.WorldLaws.{laws_below}
use Rattle.ra_world.proofs.Refusing.{memory_or_not, no_run, refused_there}
use Rattle.ra_trace.specs.declared.error.WriteTraceError.{WriteTraceError}
use Rattle.ra_trace.specs.declared.error.WriteTraceError.TheVariants.{Run, Memory}
use Rattle.ra_trace.specs.declared.line.Line.{Line}
use Rattle.ra_trace.specs.declared.line.Line.TheVariants.{First, Stepped, Sent, Marked, Last}
use Rattle.ra_trace.specs.declared.line.version.Version.{Version}
use Rattle.ra_trace.specs.declared.line.version.Version.TheVariants.{One, Two, Three, ThreeWithSends}
use Rattle.ra_trace.specs.Version.{has_sends, last_node, IsNodeIn, IsModeIn, MayRepeat, MayCancel, TellsSends}
use Rattle.ra_trace.specs.Ranges.{StepFits, MarkFits, MessageFits}
use Rattle.ra_trace.specs.Writing.{CanWrite, MoveFits, prefix_text, HasTraced, IsOpened, StopsIn}
use Rattle.ra_trace.specs.TraceText.{step_line, send_line, line_text, sent_lines, move_lines, IsEntryLine, IsMessageLine, IsStepLine, IsLine, IsTraceIn, needs_third, plain_version}

-- nothing was added
pub adds_nothing : {a : Draft} → Adds a [] a
adds_nothing = record { says = λ before is kept. is kept ∙ sym (append-nil before) }

made_of : (version : Version) (n start : ℕ) (steps : List Step) (world : WorldState) (text : Draft) → HasTraced version n start steps world text → HasMade n start steps world
made_of version n start steps world text traced =
    record { number = traced.number; count = traced.count; start_is = traced.start_is; made = traced.made; run = traced.run }

pub traced_none : (version : Version) (n start : ℕ) (world : WorldState) (text : Draft) → IsOpened n start world → Says text (line_text (First version n start)) → HasTraced version n start [] world text
traced_none version n start world text opened says =
    subst (λ w. HasTraced version n start [] w text) (sym opened.is) (record {
      number = opened.number;
      count = refl;
      start_is = refl;
      made = refl;
      run = subst (λ (w : WorldState). IsRun w.count w.start w.moves) opened.is opened.run;
      says = subst (Says text) (sym (append-nil (line_text (First version n start)))) says;
      fit = All-nil (MoveFits version);
    })

-- the lines of what is sent, if the version tells it
pub told_lines : (version : Version) (sends : List Message) → has_sends version ≡ true → flat_map line_text (sent_lines version sends) ≡ flat_map send_line sends
told_lines One sends tells = absurd (false≢true tells)
told_lines Two sends tells = absurd (false≢true tells)
told_lines Three sends tells = absurd (false≢true tells)
told_lines ThreeWithSends [] tells = refl
told_lines ThreeWithSends (message ∷ sends) tells = ap (λ (xs : List ℕ). send_line message ++ xs) (told_lines ThreeWithSends sends tells)

pub untold_lines : (version : Version) (sends : List Message) → has_sends version ≡ false → flat_map line_text (sent_lines version sends) ≡ []
untold_lines One sends tells = refl
untold_lines Two sends tells = refl
untold_lines Three sends tells = refl
untold_lines ThreeWithSends sends tells = absurd (false≢true (sym tells))

marked : (marks : List Mark) → flat_map line_text (map Marked marks) ≡ flat_map mark_line marks
marked [] = refl
marked (mark ∷ marks) = ap (λ (xs : List ℕ). mark_line mark ++ xs) (marked marks)

-- the text of the lines of a move
abbrev pub move_text : Version → Step → List Message → List Mark → List ℕ
move_text version step sends marks = step_line step ++ flat_map line_text (sent_lines version sends) ++ flat_map mark_line marks

move_lines_text : (version : Version) (move : Move) → flat_map line_text (move_lines version move) ≡ move_text version move.step move.sends move.marks
move_lines_text version move =
    let sent = sent_lines version move.sends in
    ap (λ (xs : List ℕ). step_line move.step ++ xs)
    (flat_map-append line_text sent (map Marked move.marks) ∙ ap (λ (xs : List ℕ). flat_map line_text sent ++ xs) (marked move.marks))
    ∙ sym (append_assoc (step_line move.step) (flat_map line_text sent) (flat_map mark_line move.marks))

-- the lines of another move
prefix_more : (version : Version) (n start : ℕ) (moves : List Move) (move : Move) → prefix_text version n start (moves ++ move ∷ []) ≡ prefix_text version n start moves ++ move_text version move.step move.sends move.marks
prefix_more version n start moves move =
    let first = line_text (First version n start) in
    let lines_of : Move → List Line = move_lines version in
    let before = flat_map line_text (flat_map lines_of moves) in
    let text = move_text version move.step move.sends move.marks in
    let lines : flat_map lines_of (moves ++ move ∷ []) ≡ flat_map lines_of moves ++ lines_of move =
    flat_map-append lines_of moves (move ∷ []) ∙ ap (λ (xs : List Line). flat_map lines_of moves ++ xs) (append-nil (lines_of move)) in
    let texts : flat_map line_text (flat_map lines_of (moves ++ move ∷ [])) ≡ before ++ text =
    ap (flat_map line_text) lines ∙ (flat_map-append line_text (flat_map lines_of moves) (lines_of move) ∙ ap (λ (xs : List ℕ). before ++ xs) (move_lines_text version move)) in
    ap (λ (xs : List ℕ). first ++ xs) texts
    ∙ sym (append_assoc first before text)

pub traced_more : (version : Version) (n start place : ℕ) (steps : List Step) (step : Step) (world next : WorldState) (sends : List Message) (marks : List Mark) (text longer : Draft)
    → HasTraced version n start (take place steps) world text → place < length steps → step ≡ get_or steps place step → next ≡ with_move world step sends marks
    → IsRun next.count next.start next.moves → Adds text (move_text version step sends marks) longer → StepFits step × All MarkFits marks × (TellsSends version → All MessageFits sends)
    → HasTraced version n start (take (place + 1) steps) next longer
traced_more version n start place steps step world next sends marks text longer traced inside is next_is run adds fits =
    let move : Move = record { step = step; sends = sends; marks = marks } in
    let run' : IsRun world.count world.start (world.moves ++ move ∷ []) = subst (λ (w : WorldState). IsRun w.count w.start w.moves) next_is run in
    let run'' : IsRun n start (world.moves ++ move ∷ []) =
    subst (λ (s : ℕ). IsRun n s (world.moves ++ move ∷ [])) traced.start_is (subst (λ (k : ℕ). IsRun k world.start (world.moves ++ move ∷ [])) traced.count run') in
    subst (λ (w : WorldState). HasTraced version n start (take (place + 1) steps) w longer) (sym next_is) (record {
      number = traced.number;
      count = traced.count;
      start_is = traced.start_is;
      made = map-append (λ (m : Move). m.step) world.moves (move ∷ [])
          ∙ (ap (λ (prefix : List Step). prefix ++ step ∷ []) traced.made
          ∙ (ap (λ (s : Step). take place steps ++ s ∷ []) is ∙ sym (take_more steps place step inside)));
      run = run'';
      says = subst (Says longer) (sym (prefix_more version n start world.moves move)) (adds.says (prefix_text version n start world.moves) traced.says);
      fit = All-push (MoveFits version) world.moves move traced.fit fits;
    })

-- why the steps stop at this one
pub stops_by : ((n start : ℕ) (prefix suffix : List Step) → WorldRun n start (prefix ++ suffix) → WorldRun n start prefix)
    → ((n start : ℕ) (moves : List Move) (step : Step) → IsNodeNumber n → IsRun n start moves
    → WorldRun n start (map (λ (move : Move). move.step) moves ++ step ∷ []) ↔ GoesOn n start moves step)
    → (version : Version) (n start place : ℕ) (steps : List Step) (step : Step) (world : WorldState) (text : Draft) (why : StepError) (fault : WriteTraceError)
    → HasTraced version n start (take place steps) world text → place < length steps → step ≡ get_or steps place step
    → (why ≢ cause.Memory → HasCause world.count world.start world.moves step why)
    → (GoesOn world.count world.start world.moves step → why ≡ cause.Memory)
    → (why ≡ cause.Memory → fault ≡ Memory) → (why ≢ cause.Memory → fault ≡ Run (Refused (place + 1) why)) → StopsIn n start steps fault
stops_by prefixes goes_on version n start place steps step world text why fault traced inside is because on memory refused =
    let made = made_of version n start (take place steps) world text traced in
    elim (memory_or_not why) [
      | inl same ↦ subst (StopsIn n start steps) (sym (memory same)) tt
      | inr other ↦
          let stuck = λ (goes : GoesOn world.count world.start world.moves step). other (on goes) in
          subst (StopsIn n start steps) (sym (refused other)) (
            refused_there prefixes goes_on n start place steps step world made inside is stuck why (because other),
            no_run prefixes goes_on n start place steps step world made inside is stuck,
          )
    ]

-- a run that goes on with the next of these steps is one up to it
pub goes_there : ((n start : ℕ) (moves : List Move) (step : Step) → IsNodeNumber n → IsRun n start moves
    → WorldRun n start (map (λ (move : Move). move.step) moves ++ step ∷ []) ↔ GoesOn n start moves step)
    → (version : Version) (n start place : ℕ) (steps : List Step) (step : Step) (world : WorldState) (text : Draft)
    → HasTraced version n start (take place steps) world text → place < length steps → step ≡ get_or steps place step
    → GoesOn world.count world.start world.moves step → WorldRun n start (take (place + 1) steps)
goes_there goes_on version n start place steps step world text traced inside is goes =
    let here : GoesOn n start world.moves step =
    subst (λ (s : ℕ). GoesOn n s world.moves step) traced.start_is (subst (λ (k : ℕ). GoesOn k world.start world.moves step) traced.count goes) in
    let more : take (place + 1) steps ≡ map (λ (move : Move). move.step) world.moves ++ step ∷ [] =
    take_more steps place step inside
    ∙ (ap (λ (s : Step). take place steps ++ s ∷ []) (sym is) ∙ ap (λ (prefix : List Step). prefix ++ step ∷ []) (sym traced.made)) in
    subst (WorldRun n start) (sym more) ((goes_on n start world.moves step traced.number traced.run).1 here)

-- each part of a list
All-parts : {A : Type 0} (P : A → Type 0) (xs ys : List A) → All P (xs ++ ys) → All P xs × All P ys
All-parts P [] ys all = (All-nil P, all)
All-parts P (x ∷ xs) ys all =
    let rest = All-parts P xs ys (All-tail P x (xs ++ ys) all) in
    (All-cons P x xs (All-head P x (xs ++ ys) all) rest.0, rest.1)

-- ---- Each line is one of the version

-- what version 2 and the later ones have
record IsWide (version : Version) : Type 0 where
  nodes : last_node version ≡ 64
  modes : (mode : Mode) → IsModeIn version mode
  repeats : MayRepeat version

wide_of : (version : Version) (steps : List Step) → CanWrite version steps → IsWide version
wide_of One steps may = absurd may
wide_of Two steps may = record { nodes = refl; modes = λ mode. refl; repeats = refl }
wide_of Three steps may = record { nodes = refl; modes = λ mode. refl; repeats = refl }
wide_of ThreeWithSends steps may = record { nodes = refl; modes = λ mode. refl; repeats = refl }

-- the version has cancels, or none of the steps needs them
third_of : (version : Version) (steps : List Step) → CanWrite version steps → MayCancel version ⊎ (plain_version steps ≡ Two)
third_of One steps may = absurd may
third_of Two steps may = inr may
third_of Three steps may = inl refl
third_of ThreeWithSends steps may = inl refl

three_is_not_two : Three ≡ Two → ⊥
three_is_not_two e = cc

-- so does each of them
module _ (step : Step) (steps : List Step) (plain : plain_version (step ∷ steps) ≡ Two) where
  not_third : needs_third step ≡ false
  not_third = elim (cases_Bool (needs_third step)) [
    | inl needs ↦ absurd (three_is_not_two (sym (ap (λ b. if b then Three else plain_version steps) needs) ∙ plain))
    | inr not ↦ not
  ]

  others_plain : plain_version steps ≡ Two
  others_plain = sym (ap (λ b. if b then Three else plain_version steps) not_third) ∙ plain

-- one step after the other
module _ (items : List Step) (i : ℕ) (step : Step) (within : i < length items) (is : step ≡ get_or items i step) where
  first_of_rest : plain_version (drop i items) ≡ (if needs_third step then Three else plain_version (drop (i + 1) items))
  first_of_rest = at_drop_more plain_version items i step within ∙ ap (λ (x : Step). if needs_third x then Three else plain_version (drop (i + 1) items)) (sym is)

  pub third_here : needs_third step ≡ true → plain_version (drop i items) ≡ Three
  third_here needs = first_of_rest ∙ ap (λ b. if b then Three else plain_version (drop (i + 1) items)) needs

  pub third_later : needs_third step ≡ false → plain_version (drop (i + 1) items) ≡ plain_version (drop i items)
  third_later not = sym (first_of_rest ∙ ap (λ b. if b then Three else plain_version (drop (i + 1) items)) not)

module _ (version : Version) (wide : IsWide version) where
  node_fits : (n : ℕ) → IsNodeIn Three n → IsNodeIn version n
  node_fits n h = (h.0, omega (arith, h.1, wide.nodes))

  message_line_fits : (message : Message) → IsMessageLine Three message → IsMessageLine version message
  message_line_fits (Request from to name mode seq) h = (node_fits from h.0, node_fits to h.1, h.2, wide.modes mode, h.4)
  message_line_fits (Reply from to name seq) h = (node_fits from h.0, node_fits to h.1, h.2, h.3)

  step_line_fits : (step : Step) → MayCancel version ⊎ (needs_third step ≡ false) → StepFits step → All IsNumberedMessage (taken_in step) → All IsNumberedMessage (repeated_in step) → IsStepLine version step
  step_line_fits (Ask node client name mode) may fits taken repeated = (node_fits node fits.0, fits.1, fits.2, wide.modes mode)
  step_line_fits (Leave node client name) may fits taken repeated = (node_fits node fits.0, fits.1, fits.2)
  step_line_fits (Cancel node client name) may fits taken repeated = elim may [ inl has ↦ (has, node_fits node fits.1, fits.2, fits.3) | inr none ↦ absurd (false≢true (sym none)) ]
  step_line_fits (Deliver message) may fits taken repeated = message_line_fits message (fits (All-head IsNumberedMessage message [] taken))
  step_line_fits (Lose message) may fits taken repeated = message_line_fits message (fits (All-head IsNumberedMessage message [] taken))
  step_line_fits (Repeat message) may fits taken repeated = (wide.repeats, message_line_fits message (fits (All-head IsNumberedMessage message [] repeated)))
  step_line_fits (Forget node) may fits taken repeated = elim may [ inl has ↦ (has, node_fits node fits.1) | inr none ↦ absurd (false≢true (sym none)) ]

  entry_line_fits : (entry : Entry) → IsEntryLine Three entry → IsEntryLine version entry
  entry_line_fits entry h = (node_fits entry.stamp.node h.0, h.1, h.2, wide.modes entry.mode, h.4)

  marks_fit : (marks : List Mark) → MayCancel version ⊎ (withdrawn_in marks ≡ 0) → All MarkFits marks → All IsNumberedMark marks → All (IsLine version) (map Marked marks)
  marks_fit [] may fits numbers = All-nil (IsLine version)
  marks_fit (Requested entry ∷ marks) may fits numbers =
      All-cons (IsLine version) (Marked (Requested entry)) (map Marked marks) (entry_line_fits entry (All-head MarkFits (Requested entry) marks fits (All-head IsNumberedMark (Requested entry) marks numbers)))
      (marks_fit marks may (All-tail MarkFits (Requested entry) marks fits) (All-tail IsNumberedMark (Requested entry) marks numbers))
  marks_fit (Entered entry ∷ marks) may fits numbers =
      All-cons (IsLine version) (Marked (Entered entry)) (map Marked marks) (entry_line_fits entry (All-head MarkFits (Entered entry) marks fits (All-head IsNumberedMark (Entered entry) marks numbers)))
      (marks_fit marks may (All-tail MarkFits (Entered entry) marks fits) (All-tail IsNumberedMark (Entered entry) marks numbers))
  marks_fit (Left entry ∷ marks) may fits numbers =
      All-cons (IsLine version) (Marked (Left entry)) (map Marked marks) (entry_line_fits entry (All-head MarkFits (Left entry) marks fits (All-head IsNumberedMark (Left entry) marks numbers)))
      (marks_fit marks may (All-tail MarkFits (Left entry) marks fits) (All-tail IsNumberedMark (Left entry) marks numbers))
  marks_fit (Withdrawn entry ∷ marks) may fits numbers = elim may [
    | inl has ↦
        All-cons (IsLine version) (Marked (Withdrawn entry)) (map Marked marks)
        (has, entry_line_fits entry (All-head MarkFits (Withdrawn entry) marks fits (All-head IsNumberedMark (Withdrawn entry) marks numbers)))
        (marks_fit marks (inl has) (All-tail MarkFits (Withdrawn entry) marks fits) (All-tail IsNumberedMark (Withdrawn entry) marks numbers))
    | inr none ↦ absurd (omega (arith, none))
  ]

-- the lines of messages that are sent, if the version tells them
sends_fit : (version : Version) (sends : List Message) → (TellsSends version → All MessageFits sends) → All IsNumberedMessage sends → All (IsLine version) (sent_lines version sends)
sends_fit One sends fits numbers = All-nil (IsLine One)
sends_fit Two sends fits numbers = All-nil (IsLine Two)
sends_fit Three sends fits numbers = All-nil (IsLine Three)
sends_fit ThreeWithSends sends fits numbers = each sends (fits refl) numbers
  where
    each : (ms : List Message) → All MessageFits ms → All IsNumberedMessage ms → All (IsLine ThreeWithSends) (map Sent ms)
    each [] fits numbers = All-nil (IsLine ThreeWithSends)
    each (m ∷ ms) fits numbers =
        All-cons (IsLine ThreeWithSends) (Sent m) (map Sent ms)
        (refl, message_line_fits ThreeWithSends (wide_of ThreeWithSends [] tt) m (All-head MessageFits m ms fits (All-head IsNumberedMessage m ms numbers)))
        (each ms (All-tail MessageFits m ms fits) (All-tail IsNumberedMessage m ms numbers))

-- the numbers of what a run takes, repeats, sends and marks
pub record AreNumbered (moves : List Move) : Type 0 where
  pub marks : All IsNumberedMark (marks_of moves)
  pub taken : All IsNumberedMessage (taken_by moves)
  pub repeated : All IsNumberedMessage (repeated_by moves)
  pub sent : All IsNumberedMessage (sent_by moves)

lines_fit : (version : Version) → IsWide version → (moves : List Move) → MayCancel version ⊎ ((plain_version (map (λ (move : Move). move.step) moves) ≡ Two) × (withdrawn_in (marks_of moves) ≡ 0))
    → All (MoveFits version) moves → AreNumbered moves → All (IsLine version) (flat_map (move_lines version) moves)
lines_fit version wide [] may fits numbers = All-nil (IsLine version)
lines_fit version wide (move ∷ moves) may fits numbers =
    let steps = map (λ (m : Move). m.step) moves in
    let here = All-head (MoveFits version) move moves fits in
    let marks = All-parts IsNumberedMark move.marks (marks_of moves) numbers.marks in
    let takes = All-parts IsNumberedMessage (taken_in move.step) (taken_by moves) numbers.taken in
    let repeats = All-parts IsNumberedMessage (repeated_in move.step) (repeated_by moves) numbers.repeated in
    let sends = All-parts IsNumberedMessage move.sends (sent_by moves) numbers.sent in
    let step_may : MayCancel version ⊎ (needs_third move.step ≡ false) = elim may [ inl has ↦ inl has | inr plain ↦ inr (not_third move.step steps plain.0) ] in
    let marks_may : MayCancel version ⊎ (withdrawn_in move.marks ≡ 0) = elim may [ inl has ↦ inl has | inr plain ↦ inr (omega (arith, plain.1, withdrawn_both move.marks (marks_of moves))) ] in
    let rest_may : MayCancel version ⊎ ((plain_version steps ≡ Two) × (withdrawn_in (marks_of moves) ≡ 0)) =
    elim may [ inl has ↦ inl has | inr plain ↦ inr (others_plain move.step steps plain.0, omega (arith, plain.1, withdrawn_both move.marks (marks_of moves))) ] in
    All-append (IsLine version) (move_lines version move) (flat_map (move_lines version) moves)
    (All-cons (IsLine version) (Stepped move.step) (sent_lines version move.sends ++ map Marked move.marks) (step_line_fits version wide move.step step_may here.0 takes.0 repeats.0)
    (All-append (IsLine version) (sent_lines version move.sends) (map Marked move.marks) (sends_fit version move.sends here.2 sends.0) (marks_fit version wide move.marks marks_may here.1 marks.0)))
    (lines_fit version wide moves rest_may (All-tail (MoveFits version) move moves fits) (record { marks = marks.1; taken = takes.1; repeated = repeats.1; sent = sends.1 }))

-- steps without a cancel
none_cancels : (moves : List Move) → plain_version (map (λ (move : Move). move.step) moves) ≡ Two → cancels_by moves ≡ 0
none_cancels [] plain = refl
none_cancels (move ∷ moves) plain =
    let steps = map (λ (m : Move). m.step) moves in
    omega (arith, none_here move.step (not_third move.step steps plain), none_cancels moves (others_plain move.step steps plain))
  where
    none_here : (step : Step) → needs_third step ≡ false → cancels_in step ≡ 0
    none_here (Ask node client name mode) none = refl
    none_here (Leave node client name) none = refl
    none_here (Cancel node client name) none = absurd (false≢true (sym none))
    none_here (Deliver message) none = refl
    none_here (Lose message) none = refl
    none_here (Repeat message) none = refl
    none_here (Forget node) none = refl

-- each message that a run repeats has a number, as it is under way then
module _ (prefixes : (n start : ℕ) (prefix suffix : List Move) → IsRun n start (prefix ++ suffix) → IsRun n start prefix)
    (numbers : (n start : ℕ) (moves : List Move) (message : Message) → IsNodeNumber n → IsRun n start moves → IsUnderWay moves message → 1 ≤ seq_of message)
    (n start : ℕ) (count : IsNodeNumber n) where
  repeat_is_numbered : (prefix : List Move) (step : Step) (sends : List Message) (marks : List Mark) → IsRun n start prefix → IsFit n prefix step sends marks
      → All IsNumberedMessage (repeated_in step)
  repeat_is_numbered prefix (Ask node client name mode) sends marks run fit = All-nil IsNumberedMessage
  repeat_is_numbered prefix (Leave node client name) sends marks run fit = All-nil IsNumberedMessage
  repeat_is_numbered prefix (Cancel node client name) sends marks run fit = All-nil IsNumberedMessage
  repeat_is_numbered prefix (Deliver message) sends marks run fit = All-nil IsNumberedMessage
  repeat_is_numbered prefix (Lose message) sends marks run fit = All-nil IsNumberedMessage
  repeat_is_numbered prefix (Repeat message) sends marks run fit =
      All-cons IsNumberedMessage message [] (numbers n start prefix message count run fit.0) (All-nil IsNumberedMessage)
  repeat_is_numbered prefix (Forget node) sends marks run fit = All-nil IsNumberedMessage

  repeats_after : (suffix prefix : List Move) → IsRun n start (prefix ++ suffix) → AreFit n prefix suffix → All IsNumberedMessage (repeated_by suffix)
  repeats_after [] prefix run fit = All-nil IsNumberedMessage
  repeats_after (move ∷ suffix) prefix run fit =
      All-append IsNumberedMessage (repeated_in move.step) (repeated_by suffix)
      (repeat_is_numbered prefix move.step move.sends move.marks (prefixes n start prefix (move ∷ suffix) run) fit.0)
      (repeats_after suffix (prefix ++ move ∷ []) (subst (IsRun n start) (sym (append_assoc prefix (move ∷ []) suffix)) run) fit.1)

  pub repeats_are_numbered : (moves : List Move) → IsRun n start moves → All IsNumberedMessage (repeated_by moves)
  repeats_are_numbered moves run = repeats_after moves [] run run.each_fits

-- and so has each message that it sends, as it is under way then
sends_are_numbered : (n start : ℕ) → IsNodeNumber n → (suffix prefix : List Move) → IsRun n start (prefix ++ suffix) → AreFit n prefix suffix → All IsNumberedMessage (sent_by suffix)
sends_are_numbered n start count [] prefix run fit = All-nil IsNumberedMessage
sends_are_numbered n start count (move ∷ suffix) prefix run fit =
    let again = subst (IsRun n start) (sym (append_assoc prefix (move ∷ []) suffix)) run in
    let here = prefixes laws_below.splits n start suffix (prefix ++ move ∷ []) again in
    let before = every_run laws_below n start prefix (allows_all prefix) count (prefixes laws_below.splits n start (move ∷ suffix) prefix run) in
    let left = taken_there prefix move.sends move.marks before move.step fit.0 in
    let under_way = under_way_more prefix move before.bag left.0 before.under_way left.1 in
    All-append IsNumberedMessage move.sends (sent_by suffix)
    (λ k d within.
    let message = get_or move.sends k d in
    let there : Contains (left.0 ++ put_in move) message =
    Contains-append_right left.0 (put_in move) message (Contains-append_left move.sends (repeated_in move.step) message (k, within, get_or_default move.sends k message d within)) in
    (is_traffic laws_below n start (prefix ++ move ∷ []) count here message (left.0 ++ put_in move, under_way, there)).numbered)
    (sends_are_numbered n start count suffix (prefix ++ move ∷ []) again fit.1)
  where
    -- what the step takes was under way
    taken_there : (ms : List Move) (sends : List Message) (marks : List Mark) (before : Reached (Unit {0}) (Unit {0}) n start ms) (step : Step) → IsFit n ms step sends marks
        → (next : List Message) × TakesEach before.bag (taken_in step) next
    taken_there ms sends marks before (Ask node client name mode) fit = (before.bag, refl)
    taken_there ms sends marks before (Leave node client name) fit = (before.bag, refl)
    taken_there ms sends marks before (Cancel node client name) fit = (before.bag, refl)
    taken_there ms sends marks before (Deliver message) fit = let was = was_under_way laws_below n start ms before message fit in (was.rest, (was.rest, was.takes, refl))
    taken_there ms sends marks before (Lose message) fit = let was = was_under_way laws_below n start ms before message fit.0 in (was.rest, (was.rest, was.takes, refl))
    taken_there ms sends marks before (Repeat message) fit = (before.bag, refl)
    taken_there ms sends marks before (Forget node) fit = (before.bag, refl)

-- all of them
pub all_numbered : (n start : ℕ) (moves : List Move) → IsNodeNumber n → IsRun n start moves → All IsNumberedMark (marks_of moves) → All IsNumberedMessage (taken_by moves) → AreNumbered moves
all_numbered n start moves count run marks taken =
    record {
      marks = marks;
      taken = taken;
      repeated = repeats_are_numbered (λ n start prefix rest. prefixes laws_below.splits n start rest prefix)
          (λ n start moves message count run was. (is_traffic laws_below n start moves count run message was).numbered) n start count moves run;
      sent = sends_are_numbered n start count moves [] run run.each_fits;
    }

pub traced_all : (version : Version) (n start : ℕ) (steps : List Step) (world : WorldState) (text : Draft) → CanWrite version steps → HasTraced version n start steps world text → start < 2 ^ 64
    → AreNumbered world.moves → IsTraceIn version n start world.moves (prefix_text version n start world.moves ++ codes "end\n")
traced_all version n start steps world text may traced small numbers =
    let wide = wide_of version steps may in
    let lines = flat_map (move_lines version) world.moves in
    let all_may : MayCancel version ⊎ ((plain_version (map (λ (move : Move). move.step) world.moves) ≡ Two) × (withdrawn_in (marks_of world.moves) ≡ 0)) =
    elim (third_of version steps may) [
      | inl has ↦ inl has
      | inr plain ↦
          let plain' : plain_version (map (λ (move : Move). move.step) world.moves) ≡ Two = ap plain_version traced.made ∙ plain in
          inr (plain', omega (arith, none_cancels world.moves plain', (asks_counted laws_below n start traced.number world.moves traced.run).few))
    ] in
    record {
      count = traced.number;
      run = traced.run;
      lines = All-cons (IsLine version) (First version n start) (lines ++ Last ∷ []) (refl, node_fits version wide n traced.number, small)
          (All-append (IsLine version) lines (Last ∷ []) (lines_fit version wide world.moves all_may traced.fit numbers) (All-cons (IsLine version) Last [] tt (All-nil (IsLine version))));
      text_is = append_assoc (line_text (First version n start)) (flat_map line_text lines) (codes "end\n")
          ∙ ap (λ (xs : List ℕ). line_text (First version n start) ++ xs) (sym (flat_map-append line_text lines (Last ∷ [])));
    }
