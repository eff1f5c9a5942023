-- In a run whose clients take names in order, a client that waits for a name holds all other names that it has asked
-- for, and each of them is below that name.
use Rattle.std.proofs.Common.{◌≡◌, ◌≢◌, ℕ, List, [], ◌∷◌, ◌++◌, Contains, refl, sym, ap, ◌∙◌, subst, append_assoc, inl, inr}
use Rattle.std.proofs.lemmas.Bool.{cases_eq}
use Rattle.std.proofs.lemmas.List.{append-nil}
use Rattle.std.proofs.lemmas.List.Elements.{Contains-append_left, Contains-push}
use Rattle.ra_stamp.specs.declared.message.Message.{Message}
use Rattle.ra_stamp.specs.declared.mode.Mode.{Mode}
use Rattle.ra_stamp.specs.Message.{from_of, to_of, name_of}
use Rattle.ra_stamp.specs.NodeId.{IsNodeNumber}
use Rattle.ra_automaton.specs.State.{IsOtherNode}
use Rattle.ra_node.specs.Resource.{Resource, IsBusy}
use Rattle.ra_node.specs.Node.{NodeState, opening_node, resource_at}
use Rattle.ra_node.specs.Events.{Event, IsNamed, name_of_event, IsForThisNode}
use Rattle.ra_node.specs.Events.{Event as acts}
use Rattle.ra_node.proofs.Lookups.{same_or_apart}
use Rattle.ra_node.proofs.Updates.{received_turn}
use Rattle.ra_world.specs.declared.step.Step.{Step}
use Rattle.ra_world.specs.declared.step.Step.TheVariants.{Ask, Leave, Cancel, Deliver, Lose, Repeat, Forget}
use Rattle.ra_world.specs.Traffic.{Move}
use Rattle.ra_world.specs.Run.{IsRun, IsFit, EndsWith, events_at}
use Rattle.ra_world.proofs.Moves.{at_node, fits_split}
use Rattle.ra_schedule.specs.LockOrder.{IsBelow}
use Rattle.ra_schedule.specs.Orderly.{HoldsName, WaitsForName, IsInOrder, TakeNamesInOrder}
use Rattle.ra_schedule.specs.BelowFinishing.{LawsOfNodes, LawsOfRuns}
use Rattle.ra_schedule.proofs.ClientTurns.{HasIt, StaysBy, has_or_not, others_ask, leaver_gone, others_leave, canceller_gone, others_cancel, all_receive}
use Rattle.ra_schedule.proofs.MovedNodes.{IsNode, Moved, moved, stays}
use Rattle.ra_schedule.proofs.Standing.{Untouched}
use Rattle.ra_schedule.proofs.StandingRuns.{IsThere, nobody_there, untouched, forgot_untouched, leads, elsewhere, each_then, ask_turn, leave_turn, cancel_turn}

-- ---- The names that were asked for

abbrev name_asked : Step → List (List ℕ)
name_asked (Ask node client name mode) = name ∷ []
name_asked (Leave node client name) = []
name_asked (Cancel node client name) = []
name_asked (Deliver message) = []
name_asked (Lose message) = []
name_asked (Repeat message) = []
name_asked (Forget node) = []

abbrev pub names_asked : List Move → List (List ℕ)
names_asked [] = []
names_asked (move ∷ moves) = name_asked move.step ++ names_asked moves

one_more_name : (moves : List Move) (move : Move) → names_asked (moves ++ move ∷ []) ≡ names_asked moves ++ name_asked move.step
one_more_name [] move = append-nil (name_asked move.step)
one_more_name (m ∷ moves) move =
    ap (λ (ns : List (List ℕ)). name_asked m.step ++ ns) (one_more_name moves move)
    ∙ sym (append_assoc (name_asked m.step) (names_asked moves) (name_asked move.step))

-- ---- A client that waits

-- at each node: a client that waits for a name holds all other names that it has asked for, each below that name
pub record AllAscend (n start : ℕ) (moves : List Move) : Type 0 where
  pub nodes : ℕ → NodeState
  pub ends : EndsWith n start moves nodes
  pub each : (i : ℕ) → IsNode n i → IsThere n i (nodes i)
  pub known : (i client : ℕ) (name : List ℕ) → IsNode n i → IsBusy (resource_at (nodes i) name) client → Contains (names_asked moves) name
  pub above : (i client : ℕ) (name other : List ℕ) → IsNode n i → WaitsForName (nodes i) client name
      → IsBusy (resource_at (nodes i) other) client → other ≢ name → HoldsName (nodes i) client other × IsBelow other name

nothing_yet : LawsOfNodes → (n start : ℕ) → IsNodeNumber n → AllAscend n start []
nothing_yet laws n start count = record {
  nodes = λ i. opening_node i n start;
  ends = λ i low high. refl;
  each = λ i at. record { consistent = laws.opens i n start count at; me_is = refl; nodes_is = refl };
  known = λ i client name at busy. absurd (nobody_there i n start name client busy);
  above = λ i client name other at waits busy apart. absurd (nobody_there i n start name client waits.0);
}

module _ (nodes_laws : LawsOfNodes) (laws : LawsOfRuns) (n start : ℕ) (count : IsNodeNumber n) (moves : List Move) (move : Move)
    (old : AllAscend n start moves) (before : IsRun n start moves) (run : IsRun n start (moves ++ move ∷ [])) where
  abbrev nodes' : ℕ → NodeState
  nodes' = run.ends.0

  -- what a name that was known is known by, and the name of an ask
  still_known : (name : List ℕ) → Contains (names_asked moves) name → Contains (names_asked (moves ++ move ∷ [])) name
  still_known name has =
      subst (λ (ns : List (List ℕ)). Contains ns name) (sym (one_more_name moves move)) (Contains-append_left (names_asked moves) (name_asked move.step) name has)

  new_known : (node client : ℕ) (name : List ℕ) (mode : Mode) → move.step ≡ Ask node client name mode → Contains (names_asked (moves ++ move ∷ [])) name
  new_known node client name mode step =
      subst (λ (ns : List (List ℕ)). Contains ns name) (sym (one_more_name moves move ∙ ap (λ (s : Step). names_asked moves ++ name_asked s) step))
      (Contains-push (names_asked moves) name)

  -- a client that keeps what it has, and is nowhere else
  kept_above : (client : ℕ) → Untouched n client move.marks old.nodes nodes' → (i : ℕ) (name other : List ℕ) → IsNode n i → WaitsForName (nodes' i) client name
      → IsBusy (resource_at (nodes' i) other) client → other ≢ name → HoldsName (nodes' i) client other × IsBelow other name
  kept_above client un i name other at waits busy apart =
      let keeps : (r : List ℕ) → HoldsName (old.nodes i) client r → HoldsName (nodes' i) client r = λ r h.
      elim un.holds [ inl kept ↦ (kept.1 i r at).0 h | inr came ↦ came.1.kept i r at h ] in
      let was = old.above i client name other at ((un.stands i name at).1 waits.0, λ h. waits.1 (keeps name h)) ((un.stands i other at).1 busy) apart in
      (keeps other was.0, was.1)

  -- a node that stays
  same_above : (i client : ℕ) → nodes' i ≡ old.nodes i → (name other : List ℕ) → IsNode n i → WaitsForName (nodes' i) client name
      → IsBusy (resource_at (nodes' i) other) client → other ≢ name → HoldsName (nodes' i) client other × IsBelow other name
  same_above i client same name other at waits busy apart =
      subst (λ (s : NodeState). HoldsName s client other × IsBelow other name) (sym same)
      (old.above i client name other at (subst (λ (s : NodeState). WaitsForName s client name) same waits)
      (subst (λ (s : NodeState). IsBusy (resource_at s other) client) same busy) apart)

  -- a move that no client makes
  by_nobody : ((i : ℕ) → IsNode n i → IsThere n i (nodes' i)) → ((client : ℕ) → Untouched n client move.marks old.nodes nodes') → AllAscend n start (moves ++ move ∷ [])
  by_nobody each un = record {
    nodes = nodes';
    ends = run.ends.1;
    each = each;
    known = λ i client name at busy. still_known name (old.known i client name at (((un client).stands i name at).1 busy));
    above = λ i client. kept_above client (un client) i;
  }

  deliver : (message : Message) → IsFit n moves (Deliver message) move.sends move.marks → move.step ≡ Deliver message → AllAscend n start (moves ++ move ∷ [])
  deliver message under_way step =
      let p = to_of message in
      let between = laws.between_nodes n start moves message count before under_way in
      let event = acts.Receive message in
      let here : events_at p move.step ≡ event ∷ [] = ap (events_at p) step ∙ at_node p event in
      let went = moved nodes_laws n start moves move old.nodes nodes' old.ends run.ends.1 p event between.0 here in
      let there = old.each p between.0 in
      let for : IsForThisNode (old.nodes p) event =
      record {
        to = sym there.me_is;
        from = subst (λ (k : ℕ). IsOtherNode k (old.nodes p).nodes (from_of message)) (sym there.me_is)
            (subst (λ (k : ℕ). IsOtherNode p k (from_of message)) (sym there.nodes_is) between.1);
      } in
      by_nobody (each_then nodes_laws n old.nodes nodes' move p event went old.each for)
      (λ client. untouched n client move.marks old.nodes nodes' p (name_of message) between.0 (elsewhere nodes_laws n old.nodes nodes' move p event went old.each tt)
      (all_receive client (resource_at (old.nodes p) (name_of message)) message move.sends move.marks (resource_at (nodes' p) (name_of message))
      (received_turn (old.nodes p) (nodes' p) message move.sends move.marks went.happened) (leads nodes_laws n old.nodes nodes' move p event went old.each)))

  -- a loss or a copy
  nothing_happens : ((i : ℕ) → events_at i move.step ≡ []) → AllAscend n start (moves ++ move ∷ [])
  nothing_happens none =
      let same : (i : ℕ) → IsNode n i → nodes' i ≡ old.nodes i = λ i at. stays nodes_laws n start moves move old.nodes nodes' old.ends run.ends.1 i at (none i) in
      record {
        nodes = nodes';
        ends = run.ends.1;
        each = λ i at. subst (IsThere n i) (sym (same i at)) (old.each i at);
        known = λ i client name at busy. still_known name (old.known i client name at (subst (λ (s : NodeState). IsBusy (resource_at s name) client) (same i at) busy));
        above = λ i client name other at. same_above i client (same i at) name other at;
      }

  -- a move that one client makes, at one node
  by_client : (p client : ℕ) (event : Event) → Moved n old.nodes nodes' move p event → ((i : ℕ) → IsNode n i → IsThere n i (nodes' i))
      → ((c : ℕ) → client ≢ c → Untouched n c move.marks old.nodes nodes')
      → ((name : List ℕ) → IsBusy (resource_at (nodes' p) name) client → Contains (names_asked (moves ++ move ∷ [])) name)
      → ((name other : List ℕ) → WaitsForName (nodes' p) client name → IsBusy (resource_at (nodes' p) other) client → other ≢ name
      → HoldsName (nodes' p) client other × IsBelow other name) → AllAscend n start (moves ++ move ∷ [])
  by_client p client event went each un own_known own_above = record {
    nodes = nodes';
    ends = run.ends.1;
    each = each;
    known = λ i c name at busy. elim (cases_eq client c) [
      | inr others ↦ still_known name (old.known i c name at (((un c others).stands i name at).1 busy))
      | inl mine ↦ elim (cases_eq i p) [
        | inr away ↦ still_known name (old.known i c name at (subst (λ (s : NodeState). IsBusy (resource_at s name) c) (went.others i at away) busy))
        | inl here ↦ own_known name (subst (λ (k : ℕ). IsBusy (resource_at (nodes' k) name) client) here
            (subst (λ (k : ℕ). IsBusy (resource_at (nodes' i) name) k) (sym mine) busy))
      ]
    ];
    above = λ i c name other at waits busy apart. elim (cases_eq client c) [
      | inr others ↦ kept_above c (un c others) i name other at waits busy apart
      | inl mine ↦ elim (cases_eq i p) [
        | inr away ↦ same_above i c (went.others i at away) name other at waits busy apart
        | inl here ↦
            subst (λ (k : ℕ). HoldsName (nodes' k) c other × IsBelow other name) (sym here)
            (subst (λ (k : ℕ). HoldsName (nodes' p) k other × IsBelow other name) mine
            (own_above name other
            (subst (λ (k : ℕ). WaitsForName (nodes' k) client name) here (subst (λ (k : ℕ). WaitsForName (nodes' i) k name) (sym mine) waits))
            (subst (λ (k : ℕ). IsBusy (resource_at (nodes' k) other) client) here (subst (λ (k : ℕ). IsBusy (resource_at (nodes' i) other) k) (sym mine) busy))
            apart))
      ]
    ];
  }

  -- a client that asks waited for nothing, so it waits for this name if for any
  asker_above : (p client : ℕ) (asked name other : List ℕ) → IsInOrder (old.nodes p) client asked
      → ((r : List ℕ) → r ≢ asked → resource_at (nodes' p) r ≡ resource_at (old.nodes p) r) → WaitsForName (nodes' p) client name
      → IsBusy (resource_at (nodes' p) other) client → other ≢ name → HoldsName (nodes' p) client other × IsBelow other name
  asker_above p client asked name other ordered there waits busy apart = elim (same_or_apart name asked) [
    | inr away ↦
        let e = there name away in
        absurd (ordered.free name (subst (λ (x : Resource). IsBusy x client) e waits.0, λ h. waits.1 (subst (λ (x : Resource). HasIt x client) (sym e) h)))
    | inl same ↦
        let e = there other (λ is. apart (is ∙ sym same)) in
        elim (has_or_not (resource_at (old.nodes p) other) client) [
          | inl has ↦ (subst (λ (x : Resource). HasIt x client) (sym e) has, subst (λ (x : List ℕ). IsBelow other x) (sym same) (ordered.ascends other has))
          | inr not ↦ absurd (ordered.free other (subst (λ (x : Resource). IsBusy x client) e busy, not))
        ]
  ]

  ask : (p client : ℕ) (name : List ℕ) (mode : Mode) → IsNode n p → move.step ≡ Ask p client name mode → IsInOrder (old.nodes p) client name
      → AllAscend n start (moves ++ move ∷ [])
  ask p client name mode within step ordered =
      let event = acts.Ask client name mode in
      let here : events_at p move.step ≡ event ∷ [] = ap (events_at p) step ∙ at_node p event in
      let went = moved nodes_laws n start moves move old.nodes nodes' old.ends run.ends.1 p event within here in
      let turn = ask_turn (old.nodes p) (nodes' p) client name mode move.sends move.marks went.happened in
      let lead = leads nodes_laws n old.nodes nodes' move p event went old.each in
      let away = elsewhere nodes_laws n old.nodes nodes' move p event went old.each tt in
      let s = old.nodes p in
      let was = resource_at s name in
      let is = resource_at (nodes' p) name in
      let consistent = (old.each p within).consistent.each name in
      let there : (r : List ℕ) → r ≢ name → resource_at (nodes' p) r ≡ resource_at s r = λ r other. away p r within (λ _ same. other same) in
      by_client p client event went (each_then nodes_laws n old.nodes nodes' move p event went old.each tt)
      (λ c others. untouched n c move.marks old.nodes nodes' p name within away
      (others_ask s.me s.nodes s.start name was client mode move.sends move.marks is consistent turn lead c others))
      (λ r busy. elim (same_or_apart r name) [
        | inl same ↦ subst (λ (x : List ℕ). Contains (names_asked (moves ++ move ∷ [])) x) (sym same) (new_known p client name mode step)
        | inr other ↦ still_known r (old.known p client r within (subst (λ (x : Resource). IsBusy x client) (there r other) busy))
      ])
      (λ r other. asker_above p client name r other ordered there)

  -- a client that is at the name no more, since it leaves or gives up
  goes : (p client : ℕ) (event : Event) → Moved n old.nodes nodes' move p event → IsNamed event → IsForThisNode (old.nodes p) event
      → (IsBusy (resource_at (nodes' p) (name_of_event event)) client → ⊥)
      → ((c : ℕ) → client ≢ c → StaysBy c move.marks (resource_at (old.nodes p) (name_of_event event)) (resource_at (nodes' p) (name_of_event event)))
      → AllAscend n start (moves ++ move ∷ [])
  goes p client event went named for gone stays =
      let name = name_of_event event in
      let within = went.within in
      let away = elsewhere nodes_laws n old.nodes nodes' move p event went old.each named in
      let there : (r : List ℕ) → IsBusy (resource_at (nodes' p) r) client → resource_at (nodes' p) r ≡ resource_at (old.nodes p) r = λ r busy.
      away p r within (λ _ same. gone (subst (λ (x : List ℕ). IsBusy (resource_at (nodes' p) x) client) same busy)) in
      by_client p client event went (each_then nodes_laws n old.nodes nodes' move p event went old.each for)
      (λ c others. untouched n c move.marks old.nodes nodes' p name within away (stays c others))
      (λ r busy. still_known r (old.known p client r within (subst (λ (x : Resource). IsBusy x client) (there r busy) busy)))
      (λ r other waits busy apart.
      let e = there r waits.0 in
      let f = there other busy in
      let was = old.above p client r other within
      (subst (λ (x : Resource). IsBusy x client) e waits.0, λ h. waits.1 (subst (λ (x : Resource). HasIt x client) (sym e) h))
      (subst (λ (x : Resource). IsBusy x client) f busy) apart in
      (subst (λ (x : Resource). HasIt x client) (sym f) was.0, was.1))

  leave : (p client : ℕ) (name : List ℕ) → IsNode n p → move.step ≡ Leave p client name → AllAscend n start (moves ++ move ∷ [])
  leave p client name within step =
      let event = acts.Leave client name in
      let here : events_at p move.step ≡ event ∷ [] = ap (events_at p) step ∙ at_node p event in
      let went = moved nodes_laws n start moves move old.nodes nodes' old.ends run.ends.1 p event within here in
      let turn = leave_turn (old.nodes p) (nodes' p) client name move.sends move.marks went.happened in
      let lead = leads nodes_laws n old.nodes nodes' move p event went old.each in
      let was = resource_at (old.nodes p) name in
      let is = resource_at (nodes' p) name in
      let once = ((old.each p within).consistent.each name).once in
      goes p client event went tt tt (leaver_gone was client move.sends move.marks is once turn lead) (others_leave was client move.sends move.marks is once turn lead)

  cancel : (p client : ℕ) (name : List ℕ) → IsNode n p → move.step ≡ Cancel p client name → AllAscend n start (moves ++ move ∷ [])
  cancel p client name within step =
      let event = acts.Cancel client name in
      let here : events_at p move.step ≡ event ∷ [] = ap (events_at p) step ∙ at_node p event in
      let went = moved nodes_laws n start moves move old.nodes nodes' old.ends run.ends.1 p event within here in
      let turn = cancel_turn (old.nodes p) (nodes' p) client name move.sends move.marks went.happened in
      let lead = leads nodes_laws n old.nodes nodes' move p event went old.each in
      let was = resource_at (old.nodes p) name in
      let is = resource_at (nodes' p) name in
      let once = ((old.each p within).consistent.each name).once in
      goes p client event went tt tt (canceller_gone was client move.sends move.marks is once turn lead) (others_cancel was client move.sends move.marks is once turn lead)

  -- to forget changes nothing of the clients
  forget : (p : ℕ) → IsNode n p → move.step ≡ Forget p → AllAscend n start (moves ++ move ∷ [])
  forget p within step =
      let here : events_at p move.step ≡ acts.Forget ∷ [] = ap (events_at p) step ∙ at_node p acts.Forget in
      let went = moved nodes_laws n start moves move old.nodes nodes' old.ends run.ends.1 p acts.Forget within here in
      by_nobody (each_then nodes_laws n old.nodes nodes' move p acts.Forget went old.each tt)
      (λ client. forgot_untouched n client move.sends move.marks old.nodes nodes' p went.others went.happened)

  -- ---- One more move

  fits_here : IsFit n moves move.step move.sends move.marks
  fits_here = (fits_split n [] moves (move ∷ []) run.each_fits).1.0

  fits_as : (step : Step) → move.step ≡ step → IsFit n moves step move.sends move.marks
  fits_as step is = subst (λ (s : Step). IsFit n moves s move.sends move.marks) is fits_here

  by_step : (step : Step) → move.step ≡ step
      → ((node client : ℕ) (name : List ℕ) (mode : Mode) → move.step ≡ Ask node client name mode → IsInOrder (old.nodes node) client name)
      → AllAscend n start (moves ++ move ∷ [])
  by_step (Ask node client name mode) is ordered = ask node client name mode (fits_as (Ask node client name mode) is) is (ordered node client name mode is)
  by_step (Leave node client name) is ordered = leave node client name (fits_as (Leave node client name) is) is
  by_step (Cancel node client name) is ordered = cancel node client name (fits_as (Cancel node client name) is) is
  by_step (Forget node) is ordered = forget node (fits_as (Forget node) is) is
  by_step (Deliver message) is ordered = deliver message (fits_as (Deliver message) is) is
  by_step (Lose message) is ordered = nothing_happens (λ i. ap (events_at i) is)
  by_step (Repeat message) is ordered = nothing_happens (λ i. ap (events_at i) is)

  pub one_more : ((node client : ℕ) (name : List ℕ) (mode : Mode) → move.step ≡ Ask node client name mode → IsInOrder (old.nodes node) client name)
      → AllAscend n start (moves ++ move ∷ [])
  one_more ordered = by_step move.step refl ordered

-- ---- All moves

module _ (nodes_laws : LawsOfNodes) (laws : LawsOfRuns) (n start : ℕ) (count : IsNodeNumber n) where
  further : (rest moves : List Move) → AllAscend n start moves → IsRun n start (moves ++ rest) → TakeNamesInOrder n start (moves ++ rest) → AllAscend n start (moves ++ rest)
  further [] moves old run ordered = subst (AllAscend n start) (sym (append-nil moves)) old
  further (move ∷ rest) moves old run ordered =
      let again : moves ++ move ∷ rest ≡ (moves ++ move ∷ []) ++ rest = sym (append_assoc moves (move ∷ []) rest) in
      let one : IsRun n start (moves ++ move ∷ []) = laws.prefixes n start (moves ++ move ∷ []) rest (subst (IsRun n start) again run) in
      let next = one_more nodes_laws laws n start count moves move old (laws.prefixes n start moves (move ∷ rest) run) one
      (λ node client name mode is. ordered moves rest move node client name mode old.nodes refl is old.ends) in
      subst (AllAscend n start) (sym again) (further rest (moves ++ move ∷ []) next (subst (IsRun n start) again run) (subst (TakeNamesInOrder n start) again ordered))

  pub all_ascend : (moves : List Move) → IsRun n start moves → TakeNamesInOrder n start moves → AllAscend n start moves
  all_ascend moves run ordered = further moves [] (nothing_yet nodes_laws n start count) run ordered
