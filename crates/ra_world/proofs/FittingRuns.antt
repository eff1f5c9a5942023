-- Steps that fit together are a run: going through them in order, each is the next event of its node, and a message
-- that it takes is under way.
use Rattle.std.proofs.Common.{◌≡◌, ◌≢◌, ℕ, suc, Bool, ◌≤◌, List, [], ◌∷◌, ◌++◌, map, take, length, All, Contains, refl, sym, ap, ◌∙◌, subst, append_assoc, arith, inl, inr}
use Rattle.std.specs.Prelude.{flat_map, IsTrue, ◌↔◌}
use Rattle.std.proofs.lemmas.List.{append-nil, length-append, length_push, length-map, map_push, take_all, flat_map_more, get_or_append_left, get_or_at}
use Rattle.std.proofs.lemmas.List.Concat.{flat_map-append}
use Rattle.std.proofs.lemmas.List.Elements.{All-nil, All-cons, All-head, All-contains, Contains-append_right}
use Rattle.ra_stamp.specs.declared.message.Message.{Message}
use Rattle.ra_stamp.specs.declared.entry.Mark.{Mark}
use Rattle.ra_stamp.specs.Message.{from_of, to_of}
use Rattle.ra_stamp.specs.NodeId.{IsNodeNumber}
use Rattle.ra_automaton.specs.State.{IsOtherNode}
use Rattle.ra_automaton.proofs.Apart.{cases_same}
use Rattle.ra_node.specs.Node.{NodeState, opening_node}
use Rattle.ra_node.specs.Events.{Event, Happening, NodeEvent, NodeEvents}
use Rattle.ra_node.specs.Events.{Event as acts}
use Rattle.ra_world.specs.declared.step.Step.{Step}
use Rattle.ra_world.specs.declared.step.Step.TheVariants.{Ask, Leave, Cancel, Deliver, Lose, Repeat, Forget}
use Rattle.ra_world.specs.Traffic.{Move, LeavesUnderWay, IsUnderWay, put_by, taken_in, taken_by, repeated_in}
use Rattle.ra_world.specs.Run.{IsFit, IsRun, EndsWith, events_at, happened_at, with_node}
use Rattle.ra_world.specs.Fitting.{sent_in, happened_by, WasSentBy, NamesNode, FitTogether, TellsApart, IsLeftBy, FitWithCopies}
use Rattle.ra_world.proofs.Lists.{head_of, tail_of, none_some}
use Rattle.ra_world.proofs.Moves.{happens, happened_more, at_node, only_at}
use Rattle.ra_world.proofs.DifferentLists.{AreDifferent}
use Rattle.ra_world.proofs.Protocol.{IsNode}
use Rattle.ra_world.proofs.Nodes.{happens_here}
use Rattle.ra_world.proofs.Times.{times, times_append, some_there, there_once, never_there, times_each, times_put, times_sent, repeated_of}
use Rattle.ra_world.proofs.Runs.{nothing_happened}

-- ---- The next happening of a node

-- this many happenings of a list are before one of this event
record IsNextEvent (happenings : List Happening) (before : ℕ) (event : Event) : Type 0 where
  this : Happening
  later : List Happening
  is : this.event ≡ event
  parts : happenings ≡ take before happenings ++ this ∷ later
  with_this : take (suc before) happenings ≡ take before happenings ++ this ∷ []

next_of : (events : List Event) (event : Event) (more : List Event) (happenings : List Happening)
    → map (λ h. h.event) happenings ≡ events ++ event ∷ more → IsNextEvent happenings (length events) event
next_of [] event more [] e = absurd (none_some e)
next_of [] event more (h ∷ hs) e = record { this = h; later = hs; is = head_of e; parts = refl; with_this = refl }
next_of (x ∷ events) event more [] e = absurd (none_some e)
next_of (x ∷ events) event more (h ∷ hs) e =
    let rest = next_of events event more hs (tail_of e) in
    record {
      this = rest.this;
      later = rest.later;
      is = rest.is;
      parts = ap (λ (ys : List Happening). h ∷ ys) rest.parts;
      with_this = ap (λ (ys : List Happening). h ∷ ys) rest.with_this;
    }

-- ---- What the next step adds

events_more : (i : ℕ) (prefix : List Step) (step : Step) → flat_map (events_at i) (prefix ++ step ∷ []) ≡ flat_map (events_at i) prefix ++ events_at i step
events_more i prefix step = sym (flat_map_more (events_at i) [] prefix step)

-- to what its node did
done_more : (happenings : List Happening) (i : ℕ) (prefix : List Step) (step : Step) (event : Event) → events_at i step ≡ event ∷ []
    → (next : IsNextEvent happenings (length (flat_map (events_at i) prefix)) event)
    → happened_by happenings i (prefix ++ step ∷ []) ≡ happened_by happenings i prefix ++ next.this ∷ []
done_more happenings i prefix step event here next =
    let events = flat_map (events_at i) prefix in
    let more : flat_map (events_at i) (prefix ++ step ∷ []) ≡ events ++ event ∷ [] = events_more i prefix step ∙ ap (λ (es : List Event). events ++ es) here in
    let many : length (flat_map (events_at i) (prefix ++ step ∷ [])) ≡ suc (length events) = omega (arith, ap length more, length_push events event) in
    ap (λ (k : ℕ). take k happenings) many ∙ next.with_this

-- and to what another one did
done_same : (happenings : List Happening) (i : ℕ) (prefix : List Step) (step : Step) → events_at i step ≡ []
    → happened_by happenings i (prefix ++ step ∷ []) ≡ happened_by happenings i prefix
done_same happenings i prefix step none =
    let events = flat_map (events_at i) prefix in
    ap (λ (es : List Event). take (length es) happenings) (events_more i prefix step ∙ ap (λ (es : List Event). events ++ es) none ∙ append-nil events)

-- a move that is no event at a node adds nothing there
nothing_more : (i : ℕ) (moves : List Move) (move : Move) → events_at i move.step ≡ [] → happened_at i (moves ++ move ∷ []) ≡ happened_at i moves
nothing_more i moves move none =
    happened_more i moves move
    ∙ ap (λ (es : List Event). happened_at i moves ++ map (λ event. record { event = event; sends = move.sends; marks = move.marks }) es) none
    ∙ append-nil (happened_at i moves)

-- ---- What is under way

-- what the moves took their steps took
taken_of : (moves : List Move) → taken_by moves ≡ flat_map taken_in (map (λ move. move.step) moves)
taken_of [] = refl
taken_of (move ∷ moves) = ap (λ (ms : List Message). taken_in move.step ++ ms) (taken_of moves)

-- of different messages those before one are not that one
others_before : (prefix suffix : List Message) (message : Message) → AreDifferent (prefix ++ message ∷ suffix) → All (λ m. m ≢ message) prefix
others_before prefix suffix message different k d within is =
    different k (length prefix) d within (omega (arith, length-append prefix (message ∷ suffix)))
    (get_or_append_left prefix (message ∷ suffix) d k within ∙ is ∙ sym (get_or_at prefix message suffix d (length prefix) refl))

-- steps that fit together fit with copies: no message was taken before, and none is repeated
not_none : (xs : List Message) (x : Message) (ys : List Message) → xs ++ x ∷ ys ≡ [] → ⊥
not_none xs x ys e = omega (arith, ap length e, length-append xs (x ∷ ys))

module _ (n start : ℕ) (steps : List Step) (happened : ℕ → List Happening) (fit : FitTogether n start steps happened) where
  module _ (prefix : List Step) (step : Step) (suffix : List Step) (parts : steps ≡ prefix ++ step ∷ suffix) where
    none_repeated_here : repeated_in step ≡ []
    none_repeated_here = by_parts (flat_map repeated_in prefix) (repeated_in step) (flat_map repeated_in suffix)
        (sym (ap (flat_map repeated_in) parts ∙ flat_map-append repeated_in prefix (step ∷ suffix)) ∙ fit.unrepeated)
      where
        by_parts : (xs ys zs : List Message) → xs ++ (ys ++ zs) ≡ [] → ys ≡ []
        by_parts xs [] zs e = refl
        by_parts xs (y ∷ ys) zs e = absurd (not_none xs y (ys ++ zs) e)

    left_once : (m : Message) → taken_in step ≡ m ∷ [] → IsLeftBy n happened prefix m
    left_once m takes =
        let was = All-head (WasSentBy n happened prefix) m [] (subst (All (WasSentBy n happened prefix)) takes (fit.sent prefix step suffix parts)) in
        let whole : flat_map taken_in steps ≡ flat_map taken_in prefix ++ m ∷ flat_map taken_in suffix =
        ap (flat_map taken_in) parts ∙ flat_map-append taken_in prefix (step ∷ suffix)
        ∙ ap (λ (ms : List Message). flat_map taken_in prefix ++ (ms ++ flat_map taken_in suffix)) takes
        in
        let others = others_before (flat_map taken_in prefix) (flat_map taken_in suffix) m (subst AreDifferent whole fit.once) in (
          was.0,
          was.1,
          was.2,
          λ is tells.
              let none = never_there is m (flat_map taken_in prefix) tells others in
              let some = there_once is m (sent_in (happened_by (happened was.0) was.0 prefix)) tells was.3 in
              let both = times_append is (sent_in (happened_by (happened was.0) was.0 prefix)) (flat_map repeated_in prefix) in
              omega (arith, none, some, both),
        )

    all_left_once : All (IsLeftBy n happened prefix) (taken_in step ++ repeated_in step)
    all_left_once = subst (λ (ms : List Message). All (IsLeftBy n happened prefix) (taken_in step ++ ms)) (sym none_repeated_here)
        (subst (All (IsLeftBy n happened prefix)) (sym (append-nil (taken_in step))) (by_list (taken_in step) refl (one_taken step)))
      where
        by_list : (ms : List Message) → taken_in step ≡ ms → length ms ≤ 1 → All (IsLeftBy n happened prefix) ms
        by_list [] e few = All-nil (IsLeftBy n happened prefix)
        by_list (m ∷ []) e few = All-cons (IsLeftBy n happened prefix) m [] (left_once m e) (All-nil (IsLeftBy n happened prefix))
        by_list (m ∷ x ∷ ms) e few = absurd (omega (arith, few))

        one_taken : (s : Step) → length (taken_in s) ≤ 1
        one_taken (Ask node client name mode) = omega arith
        one_taken (Leave node client name) = omega arith
        one_taken (Cancel node client name) = omega arith
        one_taken (Forget node) = omega arith
        one_taken (Deliver message) = omega arith
        one_taken (Lose message) = omega arith
        one_taken (Repeat message) = omega arith

  pub fit_with_copies : FitWithCopies n start steps happened
  fit_with_copies = record { nodes = fit.nodes; events = fit.events; named = fit.named; left = all_left_once }

-- ---- Step by step

-- moves with these steps are a run, and in it happened at each node as much of this as there are events of it in the steps
record GoneBy (n start : ℕ) (happened : ℕ → List Happening) (steps : List Step) : Type 0 where
  moves : List Move
  steps_are : map (λ move. move.step) moves ≡ steps
  run : IsRun n start moves
  nodes : ℕ → NodeState
  ends : EndsWith n start moves nodes
  each : (i : ℕ) → 1 ≤ i → i ≤ n → happened_at i moves ≡ happened_by (happened i) i steps

none_gone : (n start : ℕ) (happened : ℕ → List Happening) → GoneBy n start happened []
none_gone n start happened = record {
  moves = [];
  steps_are = refl;
  run = nothing_happened n start;
  nodes = λ i. opening_node i n start;
  ends = λ i low high. refl;
  each = λ i low high. refl;
}

module _
    (splits : (prefix suffix : List Happening) (a c : NodeState) → NodeEvents a (prefix ++ suffix) c → (b : NodeState) × NodeEvents a prefix b × NodeEvents b suffix c)
    (one_end : (old a b : NodeState) (happened : List Happening) → NodeEvents old happened a → NodeEvents old happened b → a ≡ b)
    (exist : (n start : ℕ) (moves : List Move) → IsNodeNumber n → IsRun n start moves → (left : List Message) × LeavesUnderWay moves left)
    (between : (n start : ℕ) (moves : List Move) (message : Message) → IsNodeNumber n → IsRun n start moves → IsUnderWay moves message
    → ((1 ≤ to_of message) × (to_of message ≤ n)) × IsOtherNode (to_of message) n (from_of message))
    (by_event : (n start : ℕ) (moves : List Move) (nodes : ℕ → NodeState) (i : ℕ) (event : Event) (move : Move) (new : NodeState)
    → IsNodeNumber n → IsRun n start moves → EndsWith n start moves nodes
    → 1 ≤ i → i ≤ n → IsFit n moves move.step move.sends move.marks → events_at i move.step ≡ event ∷ []
    → NodeEvent (nodes i) event move.sends move.marks new
    → IsRun n start (moves ++ move ∷ []) × EndsWith n start (moves ++ move ∷ []) (with_node nodes i new))
    (by_loss : (n start : ℕ) (moves : List Move) (nodes : ℕ → NodeState) (message : Message)
    → IsRun n start moves → EndsWith n start moves nodes → IsUnderWay moves message
    → IsRun n start (moves ++ record { step = Lose message; sends = []; marks = [] } ∷ [])
    × EndsWith n start (moves ++ record { step = Lose message; sends = []; marks = [] } ∷ []) nodes)
    (by_copy : (n start : ℕ) (moves : List Move) (nodes : ℕ → NodeState) (message : Message)
    → IsRun n start moves → EndsWith n start moves nodes → IsUnderWay moves message
    → IsRun n start (moves ++ record { step = Repeat message; sends = []; marks = [] } ∷ [])
    × EndsWith n start (moves ++ record { step = Repeat message; sends = []; marks = [] } ∷ []) nodes)
    (eq : Message → Message → Bool) (tells_same : (a b : Message) → IsTrue (eq a b) ↔ (a ≡ b))
    (n start : ℕ) (steps : List Step) (happened : ℕ → List Happening) (count : IsNodeNumber n) (fit : FitWithCopies n start steps happened)
  where
    module _ (prefix : List Step) (step : Step) (suffix : List Step) (parts : steps ≡ prefix ++ step ∷ suffix) (before : GoneBy n start happened prefix) where
      names : NamesNode n step
      names = All-contains (NamesNode n) (prefix ++ step ∷ suffix) step (subst (All (NamesNode n)) parts fit.named)
          (Contains-append_right prefix (step ∷ suffix) step (0, omega arith, refl))

      -- a message that the step takes or repeats is under way
      under_way : (message : Message) → Contains (taken_in step ++ repeated_in step) message → IsUnderWay before.moves message
      under_way message touched =
          let was = All-contains (IsLeftBy n happened prefix) (taken_in step ++ repeated_in step) message (fit.left prefix step suffix parts) touched in
          let i = was.0 in
          let moves = before.moves in
          let left = exist n start moves count before.run in
          let is : Message → Bool = λ m. eq m message in
          let tells : TellsApart is message = λ m. tells_same m message in
          let more = was.3 is tells in
          let sends = sent_in (happened_by (happened i) i prefix) in
          let puts = times_append is sends (flat_map repeated_in prefix) in
          let sent = times_sent is i moves in
          let same = ap (λ (hs : List Happening). times is (sent_in hs)) (before.each i was.1 was.2) in
          let copies = ap (times is) (repeated_of moves ∙ ap (flat_map repeated_in) before.steps_are) in
          let takes = ap (times is) (taken_of moves ∙ ap (flat_map taken_in) before.steps_are) in
          let all = times_put is moves in
          let each = times_each is (put_by moves) (taken_by moves) left.0 left.1 in
          (left.0, left.1, some_there is message left.0 tells (omega (arith, more, puts, sent, same, copies, takes, all, each)))

      -- the step is the next event of a node
      module _ (p : ℕ) (within : IsNode n p) (event : Event) (here : events_at p step ≡ event ∷ []) where
        next : IsNextEvent (happened p) (length (flat_map (events_at p) prefix)) event
        next = next_of (flat_map (events_at p) prefix) event (flat_map (events_at p) suffix) (happened p)
            (fit.events p within.0 within.1 ∙ ap (flat_map (events_at p)) parts ∙ flat_map-append (events_at p) prefix (step ∷ suffix)
            ∙ ap (λ (es : List Event). flat_map (events_at p) prefix ++ (es ++ flat_map (events_at p) suffix)) here)

        abbrev move : Move
        move = record { step = step; sends = next.this.sends; marks = next.this.marks }

        happening : (new : NodeState) × NodeEvent (before.nodes p) event next.this.sends next.this.marks new
        happening =
            let opening = opening_node p n start in
            let done = happened_by (happened p) p prefix in
            let history = fit.nodes p within.0 within.1 in
            let cut = splits done (next.this ∷ next.later) opening history.0 (subst (λ (hs : List Happening). NodeEvents opening hs history.0) next.parts history.1) in
            let same : cut.0 ≡ before.nodes p = one_end opening cut.0 (before.nodes p) done cut.1
            (subst (λ (hs : List Happening). NodeEvents opening hs (before.nodes p)) (before.each p within.0 within.1) (before.ends p within.0 within.1))
            in
            let new = cut.2.0 in
            let at : NodeEvent (before.nodes p) next.this.event next.this.sends next.this.marks new =
            subst (λ (s : NodeState). NodeEvent s next.this.event next.this.sends next.this.marks new) same cut.2.1
            in
            (new, subst (λ (e : Event). NodeEvent (before.nodes p) e next.this.sends next.this.marks new) next.is at)

        happens_this : happens p move ≡ next.this ∷ []
        happens_this = happens_here p move event here
            ∙ ap (λ (e : Event). record { event = e; sends = next.this.sends; marks = next.this.marks } ∷ []) (sym next.is)

        at_this : happened_at p (before.moves ++ move ∷ []) ≡ happened_by (happened p) p (prefix ++ step ∷ [])
        at_this = happened_more p before.moves move ∙ (λ i. before.each p within.0 within.1 i ++ happens_this i)
            ∙ sym (done_more (happened p) p prefix step event here next)

        at_each : (i : ℕ) → 1 ≤ i → i ≤ n → happened_at i (before.moves ++ move ∷ []) ≡ happened_by (happened i) i (prefix ++ step ∷ [])
        at_each i low high = elim (cases_same i p) [
          | inl same ↦ subst (λ (k : ℕ). happened_at k (before.moves ++ move ∷ []) ≡ happened_by (happened k) k (prefix ++ step ∷ [])) (sym same) at_this
          | inr apart ↦
              let none = only_at p i step event here apart in
              nothing_more i before.moves move none ∙ before.each i low high ∙ sym (done_same (happened i) i prefix step none)
        ]

        on_by_event : ((sends : List Message) (marks : List Mark) → IsFit n before.moves step sends marks) → GoneBy n start happened (prefix ++ step ∷ [])
        on_by_event fits =
            let on = by_event n start before.moves before.nodes p event move happening.0 count before.run before.ends within.0 within.1
            (fits move.sends move.marks) here happening.1
            in
            record {
              moves = before.moves ++ move ∷ [];
              steps_are = map_push (λ (m : Move). m.step) before.moves move ∙ ap (λ (ss : List Step). ss ++ step ∷ []) before.steps_are;
              run = on.0;
              nodes = with_node before.nodes p happening.0;
              ends = on.1;
              each = at_each;
            }

    on_by_loss : (prefix : List Step) (message : Message) (suffix : List Step) → steps ≡ prefix ++ Lose message ∷ suffix → GoneBy n start happened prefix
        → GoneBy n start happened (prefix ++ Lose message ∷ [])
    on_by_loss prefix message suffix parts before =
        let move : Move = record { step = Lose message; sends = []; marks = [] } in
        let on = by_loss n start before.moves before.nodes message before.run before.ends (under_way prefix (Lose message) suffix parts before message (0, omega arith, refl)) in
        record {
          moves = before.moves ++ move ∷ [];
          steps_are = map_push (λ (m : Move). m.step) before.moves move ∙ ap (λ (ss : List Step). ss ++ Lose message ∷ []) before.steps_are;
          run = on.0;
          nodes = before.nodes;
          ends = on.1;
          each = λ i low high. nothing_more i before.moves move refl ∙ before.each i low high ∙ sym (done_same (happened i) i prefix (Lose message) refl);
        }

    on_by_copy : (prefix : List Step) (message : Message) (suffix : List Step) → steps ≡ prefix ++ Repeat message ∷ suffix → GoneBy n start happened prefix
        → GoneBy n start happened (prefix ++ Repeat message ∷ [])
    on_by_copy prefix message suffix parts before =
        let move : Move = record { step = Repeat message; sends = []; marks = [] } in
        let on = by_copy n start before.moves before.nodes message before.run before.ends (under_way prefix (Repeat message) suffix parts before message (0, omega arith, refl)) in
        record {
          moves = before.moves ++ move ∷ [];
          steps_are = map_push (λ (m : Move). m.step) before.moves move ∙ ap (λ (ss : List Step). ss ++ Repeat message ∷ []) before.steps_are;
          run = on.0;
          nodes = before.nodes;
          ends = on.1;
          each = λ i low high. nothing_more i before.moves move refl ∙ before.each i low high ∙ sym (done_same (happened i) i prefix (Repeat message) refl);
        }

    -- one more step of any kind
    one_on : (prefix : List Step) (step : Step) (suffix : List Step) → steps ≡ prefix ++ step ∷ suffix → GoneBy n start happened prefix
        → GoneBy n start happened (prefix ++ step ∷ [])
    one_on prefix (Ask node client name mode) suffix parts before =
        let step = Ask node client name mode in
        let event = acts.Ask client name mode in
        let within = names prefix step suffix parts before in
        on_by_event prefix step suffix parts before node within event (at_node node event) (λ _ _. within)
    one_on prefix (Leave node client name) suffix parts before =
        let step = Leave node client name in
        let event = acts.Leave client name in
        let within = names prefix step suffix parts before in
        on_by_event prefix step suffix parts before node within event (at_node node event) (λ _ _. within)
    one_on prefix (Cancel node client name) suffix parts before =
        let step = Cancel node client name in
        let event = acts.Cancel client name in
        let within = names prefix step suffix parts before in
        on_by_event prefix step suffix parts before node within event (at_node node event) (λ _ _. within)
    one_on prefix (Forget node) suffix parts before =
        let step = Forget node in
        let within = names prefix step suffix parts before in
        on_by_event prefix step suffix parts before node within acts.Forget (at_node node acts.Forget) (λ _ _. within)
    one_on prefix (Deliver message) suffix parts before =
        let step = Deliver message in
        let event = acts.Receive message in
        let was = under_way prefix step suffix parts before message (0, omega arith, refl) in
        let within = (between n start before.moves message count before.run was).0 in
        on_by_event prefix step suffix parts before (to_of message) within event (at_node (to_of message) event) (λ _ _. was)
    one_on prefix (Lose message) suffix parts before = on_by_loss prefix message suffix parts before
    one_on prefix (Repeat message) suffix parts before = on_by_copy prefix message suffix parts before

    all_on : (suffix prefix : List Step) → steps ≡ prefix ++ suffix → GoneBy n start happened prefix → GoneBy n start happened (prefix ++ suffix)
    all_on [] prefix parts before = subst (GoneBy n start happened) (sym (append-nil prefix)) before
    all_on (step ∷ suffix) prefix parts before =
        let again : prefix ++ step ∷ suffix ≡ (prefix ++ step ∷ []) ++ suffix = sym (append_assoc prefix (step ∷ []) suffix) in
        subst (GoneBy n start happened) (sym again) (all_on suffix (prefix ++ step ∷ []) (parts ∙ again) (one_on prefix step suffix parts before))

    all_gone : GoneBy n start happened steps
    all_gone = all_on steps [] refl (none_gone n start happened)

    -- all that happened at a node is what its events in the steps did
    all_done : (i : ℕ) → 1 ≤ i → i ≤ n → happened_by (happened i) i steps ≡ happened i
    all_done i low high =
        take_all (length (flat_map (events_at i) steps)) (happened i)
        (omega (arith, ap length (fit.events i low high), length-map (happened i) (λ (h : Happening). h.event)))

    pub fit_is_run : (moves : List Move) × (map (λ move. move.step) moves ≡ steps) × IsRun n start moves
        × ((i : ℕ) → 1 ≤ i → i ≤ n → happened_at i moves ≡ happened i)
    fit_is_run =
        (all_gone.moves, all_gone.steps_are, all_gone.run, λ i low high. all_gone.each i low high ∙ all_done i low high)
