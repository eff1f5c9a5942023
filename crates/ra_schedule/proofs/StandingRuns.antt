-- After each run in which the clients do what the script says, each of them is at the names at which it should be, and
-- nobody else is at any.
use Rattle.std.proofs.Common.{◌≡◌, ◌≢◌, ◌↔◌, ℕ, zero, suc, Some, List, [], ◌∷◌, ◌++◌, All, Contains, slice_get, refl, sym, ap, ◌∙◌, subst, append_assoc, arith, inl, inr}
use Rattle.std.specs.Prelude.{if◌then◌else◌}
use Rattle.std.proofs.lemmas.Bool.{cases_eq, eq-eqb}
use Rattle.std.proofs.lemmas.Option.{slice_get_within, get_or_from_slice_get}
use Rattle.std.proofs.lemmas.List.{append-nil}
use Rattle.std.proofs.lemmas.List.Elements.{All-nil}
use Rattle.ra_stamp.specs.declared.entry.Mark.{Mark}
use Rattle.ra_stamp.specs.declared.message.Message.{Message as Sent}
use Rattle.ra_stamp.specs.declared.mode.Mode.{Mode}
use Rattle.ra_stamp.specs.Message.{from_of, to_of, name_of}
use Rattle.ra_stamp.specs.NodeId.{IsNodeNumber}
use Rattle.ra_automaton.specs.State.{IsOtherNode}
use Rattle.ra_node.specs.Resource.{Resource, IsBusy, held_entry, use_of, clients_of, unmet}
use Rattle.ra_node.specs.Turns.{AskTurn, LeaveTurn, CancelTurn}
use Rattle.ra_node.specs.Node.{NodeState, opening_node, resource_at, IsConsistentNode}
use Rattle.ra_node.specs.Events.{Event, IsNamed, name_of_event, NodeEvent, ForgetEvent, IsForThisNode}
use Rattle.ra_node.specs.Events.{Event as acts}
use Rattle.ra_node.specs.Carried.{MarksLead}
use Rattle.ra_node.proofs.Lookups.{nothing_met, resource_changed}
use Rattle.ra_node.proofs.Updates.{received_turn}
use Rattle.ra_node.proofs.Forgetting.{forget_uses}
use Rattle.ra_world.specs.declared.step.Step.{Step}
use Rattle.ra_world.specs.declared.step.Step.TheVariants.{Ask, Leave, Deliver, Lose, Repeat}
use Rattle.ra_world.specs.Traffic.{Move, IsUnderWay}
use Rattle.ra_world.specs.Run.{IsRun, IsFit, EndsWith, events_at}
use Rattle.ra_world.proofs.Moves.{at_node, fits_split}
use Rattle.ra_schedule.specs.declared.script.Op.{Op}
use Rattle.ra_schedule.specs.declared.script.Op.TheVariants.{Lock, Unlock}
use Rattle.ra_schedule.specs.declared.choice.Choice.{Choice}
use Rattle.ra_schedule.specs.declared.choice.Choice.TheVariants.{Client, Message, Lost, Repeated}
use Rattle.ra_schedule.specs.Script.{ScriptClient, ScriptState, client_at, IsScript, IsScriptClient, IsHeldAfter}
use Rattle.ra_schedule.specs.Schedule.{steps_of, steps_in, steps_by, step_of, Asks, IsWaiting, IsAtPlace, StandsFor}
use Rattle.ra_schedule.specs.BelowFinishing.{LawsOfNodes, LawsOfRuns}
use Rattle.ra_schedule.specs.Performing.{Performs}
use Rattle.ra_schedule.proofs.Waiting.{nobody_waits}
use Rattle.ra_schedule.proofs.Elsewhere.{another's, asks_not}
use Rattle.ra_schedule.proofs.ClientTurns.{HasIt, IsSilent, StaysBy, holder_stands, asker_stands, asker_holds, others_ask, leaver_gone, others_leave, all_receive}
use Rattle.ra_schedule.proofs.MovedNodes.{IsNode, Moved, moved, stays}
use Rattle.ra_schedule.proofs.Standing.{ClientStands, Untouched, still, asked, left_it, where_is, at_same}

-- the node is what it should be
pub record IsThere (n i : ℕ) (node : NodeState) : Type 0 where
  pub consistent : IsConsistentNode node
  pub me_is : node.me ≡ i
  pub nodes_is : node.nodes ≡ n

pub record AllStand (script : ScriptState) (moves : List Move) : Type 0 where
  pub nodes : ℕ → NodeState
  pub ends : EndsWith script.nodes 0 moves nodes
  pub each : (i : ℕ) → IsNode script.nodes i → IsThere script.nodes i (nodes i)
  pub clients : (client : ℕ) (who : ScriptClient) → client_at script client ≡ Some who → ClientStands script.nodes moves nodes client who
  pub known : (i : ℕ) (name : List ℕ) (client : ℕ) → IsNode script.nodes i → IsBusy (resource_at (nodes i) name) client
      → (who : ScriptClient) × (client_at script client ≡ Some who)

-- ---- The clients of a script

in_list : (n : ℕ) (clients : List ScriptClient) (k : ℕ) (who : ScriptClient) → All (IsScriptClient n) clients → slice_get clients k ≡ Some who → IsScriptClient n who
in_list n clients k who all is =
    subst (IsScriptClient n) (get_or_from_slice_get clients k who who is) (all k who (slice_get_within clients k who is))

pub is_client : (script : ScriptState) (client : ℕ) (who : ScriptClient) → IsScript script → client_at script client ≡ Some who → IsScriptClient script.nodes who
is_client script zero who fit is = absurd cc
is_client script (suc k) who fit is = in_list script.nodes script.clients k who fit.each is

-- ---- At the start

pub nobody_there : (me nodes start : ℕ) (name : List ℕ) (client : ℕ) → IsBusy (resource_at (opening_node me nodes start) name) client → ⊥
nobody_there me nodes start name client busy =
    let none : IsBusy (unmet me nodes name start) client = subst (λ (r : Resource). IsBusy r client) (nothing_met me nodes start name) busy in
    omega (arith, none.1)

nothing_held : (name : List ℕ) → IsHeldAfter [] name → ⊥
nothing_held name ([], after, mode, is, none) = absurd cc
nothing_held name (x ∷ before, after, mode, is, none) = absurd cc

pub at_first : LawsOfNodes → (script : ScriptState) → IsNodeNumber script.nodes → AllStand script []
at_first laws script count =
    let nodes = λ (i : ℕ). opening_node i script.nodes 0 in
    record {
      nodes = nodes;
      ends = λ i low high. refl;
      each = λ i at. record { consistent = laws.opens i script.nodes 0 count at; me_is = refl; nodes_is = refl };
      clients = λ client who is. record {
        did = [];
        left = who.ops;
        ops_are = refl;
        done = refl;
        stands = λ i name at. (
          λ busy. absurd (nobody_there i script.nodes 0 name client busy),
          λ h. absurd (nothing_held name h.1),
        );
        kept_out = λ i name at busy out. absurd (nobody_there i script.nodes 0 name client busy);
        waits = λ w. absurd (nobody_waits client w);
      };
      known = λ i name client at busy. absurd (nobody_there i script.nodes 0 name client busy);
    }

-- ---- A client that takes no part

module _ (n client : ℕ) (marks : List Mark) (nodes nodes' : ℕ → NodeState) (p : ℕ) (r : List ℕ) (within : IsNode n p)
    (others : (i : ℕ) (name : List ℕ) → IsNode n i → (i ≡ p → name ≡ r → ⊥) → resource_at (nodes' i) name ≡ resource_at (nodes i) name)
    (here : StaysBy client marks (resource_at (nodes p) r) (resource_at (nodes' p) r)) where
  stands_still : (i : ℕ) (name : List ℕ) → IsNode n i → IsBusy (resource_at (nodes i) name) client ↔ IsBusy (resource_at (nodes' i) name) client
  stands_still i name at = elim (where_is i p name r) [
    | inl same ↦ (
      λ h. at_same nodes' (λ x. IsBusy x client) i p name r same.0 same.1
          (here.stands.0 (at_same nodes (λ x. IsBusy x client) p i r name (sym same.0) (sym same.1) h)),
      λ h. at_same nodes (λ x. IsBusy x client) i p name r same.0 same.1
          (here.stands.1 (at_same nodes' (λ x. IsBusy x client) p i r name (sym same.0) (sym same.1) h)),
    )
    | inr apart ↦
        let e = others i name at apart in
        (λ h. subst (λ (x : Resource). IsBusy x client) (sym e) h, λ h. subst (λ (x : Resource). IsBusy x client) e h)
  ]

  pub untouched : Untouched n client marks nodes nodes'
  untouched = record {
    stands = stands_still;
    holds = elim here.holds [
      | inl kept ↦ inl (
        kept.0,
        λ i name at. elim (where_is i p name r) [
          | inl same ↦ (
            λ h. at_same nodes' (λ x. HasIt x client) i p name r same.0 same.1
                (kept.1.0 (at_same nodes (λ x. HasIt x client) p i r name (sym same.0) (sym same.1) h)),
            λ h. at_same nodes (λ x. HasIt x client) i p name r same.0 same.1
                (kept.1.1 (at_same nodes' (λ x. HasIt x client) p i r name (sym same.0) (sym same.1) h)),
          )
          | inr apart ↦
              let e = others i name at apart in
              (λ h. subst (λ (x : Resource). HasIt x client) (sym e) h, λ h. subst (λ (x : Resource). HasIt x client) e h)
        ],
      )
      | inr came ↦ inr (
        came.0,
        record {
          i = p;
          name = r;
          within = within;
          before = came.1;
          after = came.2;
          kept = λ j other at h. elim (where_is j p other r) [
            | inl same ↦ absurd (came.1 (at_same nodes (λ x. HasIt x client) p j r other (sym same.0) (sym same.1) h))
            | inr apart ↦ subst (λ (x : Resource). HasIt x client) (sym (others j other at apart)) h
          ];
        },
      )
    ];
  }

-- if all nodes stay and there are no marks
all_untouched : (n client : ℕ) (marks : List Mark) (nodes nodes' : ℕ → NodeState) → marks ≡ [] → ((i : ℕ) → IsNode n i → nodes' i ≡ nodes i)
    → Untouched n client marks nodes nodes'
all_untouched n client marks nodes nodes' none same = record {
  stands = λ i name at. (
    λ h. subst (λ (s : NodeState). IsBusy (resource_at s name) client) (sym (same i at)) h,
    λ h. subst (λ (s : NodeState). IsBusy (resource_at s name) client) (same i at) h,
  );
  holds = inl (
    subst (IsSilent client) (sym none) (All-nil (λ mark. _)),
    λ i name at. (
      λ h. subst (λ (s : NodeState). HasIt (resource_at s name) client) (sym (same i at)) h,
      λ h. subst (λ (s : NodeState). HasIt (resource_at s name) client) (same i at) h,
    ),
  );
}

-- if one node forgets names, and all others stay
pub forgot_untouched : (n client : ℕ) (sends : List Sent) (marks : List Mark) (nodes nodes' : ℕ → NodeState) (p : ℕ) → ((k : ℕ) → IsNode n k → k ≢ p → nodes' k ≡ nodes k)
    → ForgetEvent (nodes p) sends marks (nodes' p) → Untouched n client marks nodes nodes'
forgot_untouched n client sends marks nodes nodes' p others event = record {
  stands = λ i name at. let same = clients_there i name at in
      (λ h. subst (λ (cs : List ℕ). Contains cs client) (sym same) h, λ h. subst (λ (cs : List ℕ). Contains cs client) same h);
  holds = inl (
    subst (IsSilent client) (sym event.marks_are) (All-nil (λ mark. _)),
    λ i name at. let same = use_there i name at in (
      λ (e, h). (e, record { granted = ap held_entry same ∙ h.granted; client_is = h.client_is }),
      λ (e, h). (e, record { granted = ap held_entry (sym same) ∙ h.granted; client_is = h.client_is }),
    ),
  );
}
  where
    clients_there : (i : ℕ) (name : List ℕ) → IsNode n i → clients_of (resource_at (nodes' i) name) ≡ clients_of (resource_at (nodes i) name)
    clients_there i name at = elim (cases_eq i p) [
      | inl same ↦ subst (λ (k : ℕ). clients_of (resource_at (nodes' k) name) ≡ clients_of (resource_at (nodes k) name)) (sym same) (ap clients_of (event.resources name))
      | inr apart ↦ ap (λ (s : NodeState). clients_of (resource_at s name)) (others i at apart)
    ]

    use_there : (i : ℕ) (name : List ℕ) → IsNode n i → use_of (resource_at (nodes' i) name) ≡ use_of (resource_at (nodes i) name)
    use_there i name at = elim (cases_eq i p) [
      | inl same ↦ subst (λ (k : ℕ). use_of (resource_at (nodes' k) name) ≡ use_of (resource_at (nodes k) name)) (sym same) (forget_uses (nodes p) (nodes' p) sends marks event name)
      | inr apart ↦ ap (λ (s : NodeState). use_of (resource_at s name)) (others i at apart)
    ]

-- ---- An event

module _ (laws : LawsOfNodes) (n : ℕ) (nodes nodes' : ℕ → NodeState) (move : Move) (p : ℕ) (event : Event) (went : Moved n nodes nodes' move p event)
    (each : (i : ℕ) → IsNode n i → IsThere n i (nodes i)) where
  abbrev r : List ℕ
  r = name_of_event event

  pub leads : MarksLead (use_of (resource_at (nodes p) r)) move.marks (use_of (resource_at (nodes' p) r))
  leads = laws.one_request (nodes p) (nodes' p) event move.sends move.marks went.happened

  pub elsewhere : IsNamed event → (i : ℕ) (name : List ℕ) → IsNode n i → (i ≡ p → name ≡ r → ⊥) → resource_at (nodes' i) name ≡ resource_at (nodes i) name
  elsewhere named i name at apart = elim (cases_eq i p) [
    | inl same ↦
        subst (λ (k : ℕ). resource_at (nodes' k) name ≡ resource_at (nodes k) name) (sym same)
        (laws.other_names (nodes p) (nodes' p) event move.sends move.marks name went.happened named (λ e. apart same e))
    | inr other ↦ ap (λ (s : NodeState). resource_at s name) (went.others i at other)
  ]

  pub each_then : IsForThisNode (nodes p) event → (i : ℕ) → IsNode n i → IsThere n i (nodes' i)
  each_then for i at = elim (cases_eq i p) [
    | inl same ↦
        let there = each p went.within in
        let id = laws.same_node (nodes p) (nodes' p) event move.sends move.marks went.happened in
        subst (λ (k : ℕ). IsThere n k (nodes' k)) (sym same) (record {
          consistent = laws.consistent (nodes p) (nodes' p) event move.sends move.marks there.consistent for went.happened;
          me_is = id.0 ∙ there.me_is;
          nodes_is = id.1 ∙ there.nodes_is;
        })
    | inr other ↦ subst (IsThere n i) (sym (went.others i at other)) (each i at)
  ]

-- the turn of an event, at the resources before and after it
pub ask_turn : (old new : NodeState) (client : ℕ) (name : List ℕ) (mode : Mode) (sends : List Sent) (marks : List Mark)
    → NodeEvent old (acts.Ask client name mode) sends marks new → AskTurn (resource_at old name) client mode sends marks (resource_at new name)
ask_turn old new client name mode sends marks e =
    subst (λ (x : Resource). AskTurn (resource_at old name) client mode sends marks x)
    (sym (ap (λ (s : NodeState). resource_at s name) e.new_is ∙ resource_changed old name e.resource)) e.turn

pub leave_turn : (old new : NodeState) (client : ℕ) (name : List ℕ) (sends : List Sent) (marks : List Mark)
    → NodeEvent old (acts.Leave client name) sends marks new → LeaveTurn (resource_at old name) client sends marks (resource_at new name)
leave_turn old new client name sends marks e =
    subst (λ (x : Resource). LeaveTurn (resource_at old name) client sends marks x)
    (sym (ap (λ (s : NodeState). resource_at s name) e.new_is ∙ resource_changed old name e.resource)) e.turn

pub cancel_turn : (old new : NodeState) (client : ℕ) (name : List ℕ) (sends : List Sent) (marks : List Mark)
    → NodeEvent old (acts.Cancel client name) sends marks new → CancelTurn (resource_at old name) client sends marks (resource_at new name)
cancel_turn old new client name sends marks e =
    subst (λ (x : Resource). CancelTurn (resource_at old name) client sends marks x)
    (sym (ap (λ (s : NodeState). resource_at s name) e.new_is ∙ resource_changed old name e.resource)) e.turn

pub own_step : (node client : ℕ) (op : Op) → steps_in client (step_of node client op) ≡ 1
own_step node client (Lock name mode) = ap (λ b. if b then 1 else 0) (eq-eqb client client refl)
own_step node client (Unlock name) = ap (λ b. if b then 1 else 0) (eq-eqb client client refl)

pub under_way_at : (moves : List Move) (place : ℕ) (message : Sent) → IsAtPlace moves place message → IsUnderWay moves message
under_way_at moves place message (left, leaves, is) =
    (left, leaves, (place, slice_get_within left place message is, get_or_from_slice_get left place message message is))

-- ---- One more move

module _ (nodes_laws : LawsOfNodes) (laws : LawsOfRuns) (script : ScriptState) (fit : IsScript script) (moves : List Move) (move : Move)
    (old : AllStand script moves) (before : IsRun script.nodes 0 moves) (run : IsRun script.nodes 0 (moves ++ move ∷ [])) where
  abbrev n : ℕ
  n = script.nodes

  abbrev nodes' : ℕ → NodeState
  nodes' = run.ends.0

  -- a move that no client makes
  by_nobody : ((i : ℕ) → IsNode n i → IsThere n i (nodes' i)) → ((client : ℕ) → steps_in client move.step ≡ 0) → ((client : ℕ) → Asks client move.step → ⊥)
      → ((client : ℕ) → Untouched n client move.marks old.nodes nodes') → AllStand script (moves ++ move ∷ [])
  by_nobody each none not_asks un = record {
    nodes = nodes';
    ends = run.ends.1;
    each = each;
    clients = λ client who is.
        let c = is_client script client who fit is in
        still n moves move old.nodes nodes' client who (c.first, c.last) (none client) (not_asks client) (un client) (old.clients client who is);
    known = λ i name client at busy. old.known i name client at (((un client).stands i name at).1 busy);
  }

  deliver : (message : Sent) → IsUnderWay moves message → move.step ≡ Deliver message → AllStand script (moves ++ move ∷ [])
  deliver message under_way step =
      let p = to_of message in
      let between = laws.between_nodes n 0 moves message fit.count before under_way in
      let event = acts.Receive message in
      let here : events_at p move.step ≡ event ∷ [] = ap (events_at p) step ∙ at_node p event in
      let went = moved nodes_laws n 0 moves move old.nodes nodes' old.ends run.ends.1 p event between.0 here in
      let there = old.each p between.0 in
      let for : IsForThisNode (old.nodes p) event =
      record {
        to = sym there.me_is;
        from = subst (λ (k : ℕ). IsOtherNode k (old.nodes p).nodes (from_of message)) (sym there.me_is)
            (subst (λ (k : ℕ). IsOtherNode p k (from_of message)) (sym there.nodes_is) between.1);
      } in
      by_nobody (each_then nodes_laws n old.nodes nodes' move p event went old.each for)
      (λ client. ap (steps_in client) step) (λ client asks. subst (Asks client) step asks)
      (λ client. untouched n client move.marks old.nodes nodes' p (name_of message) between.0 (elsewhere nodes_laws n old.nodes nodes' move p event went old.each tt)
      (all_receive client (resource_at (old.nodes p) (name_of message)) message move.sends move.marks (resource_at (nodes' p) (name_of message))
      (received_turn (old.nodes p) (nodes' p) message move.sends move.marks went.happened) (leads nodes_laws n old.nodes nodes' move p event went old.each)))

  -- a loss or a copy
  nothing_happens : ((i : ℕ) → events_at i move.step ≡ []) → move.marks ≡ [] → ((client : ℕ) → steps_in client move.step ≡ 0) → ((client : ℕ) → Asks client move.step → ⊥)
      → AllStand script (moves ++ move ∷ [])
  nothing_happens none no_marks no_steps not_asks =
      let same : (i : ℕ) → IsNode n i → nodes' i ≡ old.nodes i = λ i at. stays nodes_laws n 0 moves move old.nodes nodes' old.ends run.ends.1 i at (none i) in
      by_nobody (λ i at. subst (IsThere n i) (sym (same i at)) (old.each i at)) no_steps not_asks
      (λ client. all_untouched n client move.marks old.nodes nodes' no_marks same)

  fits_here : IsFit n moves move.step move.sends move.marks
  fits_here = (fits_split n [] moves (move ∷ []) run.each_fits).1.0

  lose : (message : Sent) → move.step ≡ Lose message → AllStand script (moves ++ move ∷ [])
  lose message step =
      let fits : IsFit n moves (Lose message) move.sends move.marks = subst (λ (s : Step). IsFit n moves s move.sends move.marks) step fits_here in
      nothing_happens (λ i. ap (events_at i) step) fits.2 (λ client. ap (steps_in client) step) (λ client asks. subst (Asks client) step asks)

  copy : (message : Sent) → move.step ≡ Repeat message → AllStand script (moves ++ move ∷ [])
  copy message step =
      let fits : IsFit n moves (Repeat message) move.sends move.marks = subst (λ (s : Step). IsFit n moves s move.sends move.marks) step fits_here in
      nothing_happens (λ i. ap (events_at i) step) fits.2 (λ client. ap (steps_in client) step) (λ client asks. subst (Asks client) step asks)

  -- a move that one client makes
  by_client : (client : ℕ) (who : ScriptClient) (op : Op) → client_at script client ≡ Some who → move.step ≡ step_of who.node client op
      → ((i : ℕ) → IsNode n i → IsThere n i (nodes' i)) → ((other : ℕ) → client ≢ other → Untouched n other move.marks old.nodes nodes')
      → ClientStands n (moves ++ move ∷ []) nodes' client who → AllStand script (moves ++ move ∷ [])
  by_client client who op at_it step each un own = record {
    nodes = nodes';
    ends = run.ends.1;
    each = each;
    clients = λ other him is. elim (cases_eq client other) [
      | inl same ↦
          let him_too : who ≡ him = let there : client_at script client ≡ client_at script other = ap (client_at script) same in cc in
          subst (λ (c : ℕ). ClientStands n (moves ++ move ∷ []) nodes' c him) same
          (subst (λ (w : ScriptClient). ClientStands n (moves ++ move ∷ []) nodes' client w) him_too own)
      | inr apart ↦
          let c = is_client script other him fit is in
          still n moves move old.nodes nodes' other him (c.first, c.last)
          (ap (steps_in other) step ∙ another's who.node client other op apart)
          (λ asks. asks_not who.node client other op apart (subst (Asks other) step asks))
          (un other apart) (old.clients other him is)
    ];
    known = λ i name other at busy. elim (cases_eq client other) [
      | inl same ↦ (who, ap (client_at script) (sym same) ∙ at_it)
      | inr apart ↦ old.known i name other at (((un other apart).stands i name at).1 busy)
    ];
  }

  ask : (client : ℕ) (who : ScriptClient) (name : List ℕ) (mode : Mode) → client_at script client ≡ Some who
      → slice_get who.ops (steps_by client (steps_of moves)) ≡ Some (Lock name mode) → move.step ≡ Ask who.node client name mode
      → (IsWaiting client moves → ⊥) → AllStand script (moves ++ move ∷ [])
  ask client who name mode at_it next step free =
      let p = who.node in
      let c = is_client script client who fit at_it in
      let within : IsNode n p = (c.first, c.last) in
      let event = acts.Ask client name mode in
      let here : events_at p move.step ≡ event ∷ [] = ap (events_at p) step ∙ at_node p event in
      let went = moved nodes_laws n 0 moves move old.nodes nodes' old.ends run.ends.1 p event within here in
      let turn = ask_turn (old.nodes p) (nodes' p) client name mode move.sends move.marks went.happened in
      let lead = leads nodes_laws n old.nodes nodes' move p event went old.each in
      let apart = elsewhere nodes_laws n old.nodes nodes' move p event went old.each tt in
      let s = old.nodes p in
      let was = resource_at s name in
      let is = resource_at (nodes' p) name in
      let consistent = (old.each p within).consistent.each name in
      by_client client who (Lock name mode) at_it step (each_then nodes_laws n old.nodes nodes' move p event went old.each tt)
      (λ other others. untouched n other move.marks old.nodes nodes' p name within apart
      (others_ask s.me s.nodes s.start name was client mode move.sends move.marks is consistent turn lead other others))
      (asked n moves move old.nodes nodes' client who within name (old.clients client who at_it) free apart mode next step
      (ap (steps_in client) step ∙ own_step p client (Lock name mode))
      (asker_stands s.me s.nodes s.start name was client mode move.sends move.marks is consistent turn lead)
      (λ has. turn.0.not_busy (holder_stands was client has))
      (asker_holds s.me s.nodes s.start name was client mode move.sends move.marks is consistent turn lead))

  leave : (client : ℕ) (who : ScriptClient) (name : List ℕ) → client_at script client ≡ Some who
      → slice_get who.ops (steps_by client (steps_of moves)) ≡ Some (Unlock name) → move.step ≡ Leave who.node client name
      → (IsWaiting client moves → ⊥) → AllStand script (moves ++ move ∷ [])
  leave client who name at_it next step free =
      let p = who.node in
      let c = is_client script client who fit at_it in
      let within : IsNode n p = (c.first, c.last) in
      let event = acts.Leave client name in
      let here : events_at p move.step ≡ event ∷ [] = ap (events_at p) step ∙ at_node p event in
      let went = moved nodes_laws n 0 moves move old.nodes nodes' old.ends run.ends.1 p event within here in
      let turn = leave_turn (old.nodes p) (nodes' p) client name move.sends move.marks went.happened in
      let lead = leads nodes_laws n old.nodes nodes' move p event went old.each in
      let apart = elsewhere nodes_laws n old.nodes nodes' move p event went old.each tt in
      let was = resource_at (old.nodes p) name in
      let is = resource_at (nodes' p) name in
      let once = ((old.each p within).consistent.each name).once in
      by_client client who (Unlock name) at_it step (each_then nodes_laws n old.nodes nodes' move p event went old.each tt)
      (λ other others. untouched n other move.marks old.nodes nodes' p name within apart
      (others_leave was client move.sends move.marks is once turn lead other others))
      (left_it n moves move old.nodes nodes' client who within name (old.clients client who at_it) free apart next step
      (ap (steps_in client) step ∙ own_step p client (Unlock name))
      (leaver_gone was client move.sends move.marks is once turn lead))

  by_op : (client : ℕ) (who : ScriptClient) (op : Op) → client_at script client ≡ Some who
      → slice_get who.ops (steps_by client (steps_of moves)) ≡ Some op → move.step ≡ step_of who.node client op
      → (IsWaiting client moves → ⊥) → AllStand script (moves ++ move ∷ [])
  by_op client who (Lock name mode) at_it next step free = ask client who name mode at_it next step free
  by_op client who (Unlock name) at_it next step free = leave client who name at_it next step free

  pub one_more : (choice : Choice) → StandsFor script moves choice move.step → AllStand script (moves ++ move ∷ [])
  one_more (Client client) means = let (who, op, at_it, is, made) = means.next in by_op client who op at_it is made means.free
  one_more (Message place) (message, at, is) = deliver message (under_way_at moves place message at) is
  one_more (Lost place) (message, at, is) = lose message is
  one_more (Repeated place) (message, at, is) = copy message is

-- ---- All moves

module _ (nodes_laws : LawsOfNodes) (laws : LawsOfRuns) (script : ScriptState) (fit : IsScript script) where
  further : (rest moves : List Move) → AllStand script moves → Performs script (moves ++ rest) → AllStand script (moves ++ rest)
  further [] moves old performs = subst (AllStand script) (sym (append-nil moves)) old
  further (move ∷ rest) moves old performs =
      let again : moves ++ move ∷ rest ≡ (moves ++ move ∷ []) ++ rest = sym (append_assoc moves (move ∷ []) rest) in
      let run : IsRun script.nodes 0 (moves ++ move ∷ []) = laws.prefixes script.nodes 0 (moves ++ move ∷ []) rest (subst (IsRun script.nodes 0) again performs.run) in
      let before : IsRun script.nodes 0 moves = laws.prefixes script.nodes 0 moves (move ∷ rest) performs.run in
      let (choice, means) = performs.each moves rest move refl in
      let next = one_more nodes_laws laws script fit moves move old before run choice means in
      subst (AllStand script) (sym again) (further rest (moves ++ move ∷ []) next (subst (Performs script) again performs))

  pub all_stand : (moves : List Move) → Performs script moves → AllStand script moves
  all_stand moves performs = further moves [] (at_first nodes_laws script fit.count) performs
