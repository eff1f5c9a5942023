-- After each run in which the clients do what the script says, the marks are the marks of what they did. So if a run is
-- finished, its marks meet the plan, and nothing is held that has to be given back.
use Rattle.std.proofs.Common.{◌≡◌, ◌≢◌, ℕ, List, [], ◌∷◌, ◌++◌, Option, Some, None, Contains, length, take, slice_get, refl, sym, ap, ◌∙◌, subst, append_assoc, arith, inl, inr}
use Rattle.std.proofs.lemmas.Bool.{cases_eq}
use Rattle.std.proofs.lemmas.List.{append-nil, length-append, take_at, take_all}
use Rattle.ra_stamp.specs.declared.entry.Entry.{Entry}
use Rattle.ra_stamp.specs.declared.entry.Mark.{Mark}
use Rattle.ra_stamp.specs.declared.message.Message.{Message as Sent}
use Rattle.ra_stamp.specs.declared.mode.Mode.{Mode}
use Rattle.ra_stamp.specs.Message.{to_of, name_of}
use Rattle.ra_node.specs.declared.queued_client.Queued.{Queued}
use Rattle.ra_node.specs.Resource.{Resource, use_of, IsBusy}
use Rattle.ra_node.specs.Resource.Use.{WaitsBy}
use Rattle.ra_node.specs.Node.{NodeState, opening_node, resource_at}
use Rattle.ra_node.specs.Events.{Event, IsNamed, name_of_event}
use Rattle.ra_node.specs.Events.{Event as acts}
use Rattle.ra_node.proofs.Updates.{received_turn}
use Rattle.ra_table.specs.Table.{LockTable, TableRun}
use Rattle.ra_world.specs.declared.step.Step.{Step}
use Rattle.ra_world.specs.declared.step.Step.TheVariants.{Deliver, Lose, Repeat}
use Rattle.ra_world.specs.declared.text.report.Report.{Report}
use Rattle.ra_world.specs.Traffic.{Move}
use Rattle.ra_world.specs.Run.{IsRun, IsFit, events_at, happened_at, marks_of}
use Rattle.ra_world.specs.AtNodes.{IsTableOf}
use Rattle.ra_world.specs.World.{Reports}
use Rattle.ra_world.proofs.Moves.{at_node, fits_split}
use Rattle.ra_schedule.specs.declared.script.Op.{Op}
use Rattle.ra_schedule.specs.declared.script.Op.TheVariants.{Lock, Unlock}
use Rattle.ra_schedule.specs.declared.choice.Choice.{Choice}
use Rattle.ra_schedule.specs.declared.choice.Choice.TheVariants.{Client, Message, Lost, Repeated}
use Rattle.ra_schedule.specs.Script.{ScriptClient, ScriptState, client_at, IsScript, IsHeldAfter}
use Rattle.ra_schedule.specs.Schedule.{steps_of, steps_in, steps_by, step_of, Asks, IsWaiting, StandsFor, IsFinished}
use Rattle.ra_schedule.specs.BelowFinishing.{LawsOfNodes, LawsOfRuns}
use Rattle.ra_schedule.specs.Performing.{Performs}
use Rattle.ra_schedule.specs.LockOrder.{IsUnreleased}
use Rattle.ra_schedule.specs.Plan.{marks_of_client, FollowsOps, MeetsPlanOf, MeetsPlan}
use Rattle.ra_schedule.proofs.Waiting.{steps_by-more, waited, nobody_waits}
use Rattle.ra_schedule.proofs.Elsewhere.{another's, asks_not}
use Rattle.ra_schedule.proofs.TurnMarks.{Befalls, others_ask, others_leave, all_receive, asker, leaver}
use Rattle.ra_schedule.proofs.MovedNodes.{IsNode, moved, stays}
use Rattle.ra_schedule.proofs.Standing.{ClientStands, goes_on_by}
use Rattle.ra_schedule.proofs.StandingRuns.{AllStand, is_client, at_first, leads, elsewhere, ask_turn, leave_turn, own_step, under_way_at, one_more as stand_on}
use Rattle.ra_schedule.proofs.NobodyQueued.{empty_queues}
use Rattle.ra_schedule.proofs.TableNames.{current_is_busy, holder_is_busy}
use Rattle.ra_schedule.proofs.ClientTurns.{use_waiter}
use Rattle.ra_schedule.proofs.PlannedMarks.{own_marks, own_same, own_more, IsAsked, IsPlanned, made, follows_unlock, request_there, queued_is_busy, is_free, befallen}

-- the operations that a client did
abbrev done_by : List Move → ℕ → ScriptClient → List Op
done_by moves client who = take (steps_by client (steps_of moves)) who.ops

did_is : (n : ℕ) (moves : List Move) (nodes : ℕ → NodeState) (client : ℕ) (who : ScriptClient) (s : ClientStands n moves nodes client who)
    → s.did ≡ done_by moves client who
did_is n moves nodes client who s =
    sym (ap (λ (k : ℕ). take k who.ops) (sym s.done) ∙ ap (take (length s.did)) s.ops_are ∙ take_at s.did s.left (length s.did) refl)

-- after one more operation
did_more : (n : ℕ) (moves : List Move) (move : Move) (nodes : ℕ → NodeState) (client : ℕ) (who : ScriptClient) (s : ClientStands n moves nodes client who) (op : Op)
    → slice_get who.ops (steps_by client (steps_of moves)) ≡ Some op → steps_in client move.step ≡ 1
    → s.did ++ op ∷ [] ≡ done_by (moves ++ move ∷ []) client who
did_more n moves move nodes client who s op next one =
    let more = goes_on_by client moves who s.did s.left op s.ops_are s.done next in
    let many : length (s.did ++ op ∷ []) ≡ steps_by client (steps_of (moves ++ move ∷ [])) =
    omega (arith, s.done, steps_by-more client moves move, one, length-append s.did (op ∷ [])) in
    sym (ap (take (steps_by client (steps_of (moves ++ move ∷ [])))) more.1 ∙ take_at (s.did ++ op ∷ []) more.0 (steps_by client (steps_of (moves ++ move ∷ []))) many)

-- what each client did is in the marks, and no other client is
pub record AllPlanned (script : ScriptState) (moves : List Move) (nodes : ℕ → NodeState) : Type 0 where
  pub clients : (client : ℕ) (who : ScriptClient) → client_at script client ≡ Some who → IsPlanned nodes moves client who (done_by moves client who)
  pub nobody : (client : ℕ) → client_at script client ≡ None → own_marks client moves ≡ []

-- ---- One more move

module _ (nodes_laws : LawsOfNodes) (laws : LawsOfRuns) (script : ScriptState) (fit : IsScript script) (moves : List Move) (move : Move)
    (old : AllStand script moves) (new : AllStand script (moves ++ move ∷ [])) (run : IsRun script.nodes 0 (moves ++ move ∷ []))
    (before : IsRun script.nodes 0 moves) (planned : AllPlanned script moves old.nodes) where
  abbrev n : ℕ
  n = script.nodes

  abbrev next : List Move
  next = moves ++ move ∷ []

  within : (client : ℕ) (who : ScriptClient) → client_at script client ≡ Some who → IsNode n who.node
  within client who at_it = let c = is_client script client who fit at_it in (c.first, c.last)

  as_stood : (client : ℕ) (who : ScriptClient) (at_it : client_at script client ≡ Some who) → IsPlanned old.nodes moves client who (old.clients client who at_it).did
  as_stood client who at_it =
      subst (IsPlanned old.nodes moves client who) (sym (did_is n moves old.nodes client who (old.clients client who at_it))) (planned.clients client who at_it)

  -- the same operations are done
  no_more : (client : ℕ) (who : ScriptClient) (at_it : client_at script client ≡ Some who) → steps_in client move.step ≡ 0
      → IsPlanned new.nodes next client who (old.clients client who at_it).did → IsPlanned new.nodes next client who (done_by next client who)
  no_more client who at_it none there =
      subst (IsPlanned new.nodes next client who)
      (did_is n moves old.nodes client who (old.clients client who at_it)
      ∙ ap (λ (k : ℕ). take k who.ops) (let more = steps_by-more client moves move in omega (arith, more, none))) there

  module _ (p : ℕ) (event : Event) (named : IsNamed event) (at : IsNode n p) (is_at : events_at p move.step ≡ event ∷ []) where
    abbrev r : List ℕ
    r = name_of_event event

    abbrev was : Resource
    was = resource_at (old.nodes p) r

    abbrev is : Resource
    is = resource_at (new.nodes p) r

    other_resources : (i : ℕ) (name : List ℕ) → IsNode n i → (i ≡ p → name ≡ r → ⊥) → resource_at (new.nodes i) name ≡ resource_at (old.nodes i) name
    other_resources = elsewhere nodes_laws n old.nodes new.nodes move p event (moved nodes_laws n 0 moves move old.nodes new.nodes old.ends new.ends p event at is_at) old.each named

    -- a client that takes no part
    by_another : (client : ℕ) (who : ScriptClient) (at_it : client_at script client ≡ Some who) → steps_in client move.step ≡ 0 → (Asks client move.step → ⊥)
        → Befalls client was move.marks is → IsPlanned new.nodes next client who (done_by next client who)
    by_another client who at_it none not_asks befalls =
        no_more client who at_it none
        (befallen n moves move old.nodes new.nodes client who (within client who at_it) (old.clients client who at_it) old.each new.each not_asks p r at other_resources befalls
        (as_stood client who at_it))

    -- a stranger is at no name
    stranger : (client : ℕ) → client_at script client ≡ None → Befalls client was move.marks is → own_marks client next ≡ []
    stranger client none befalls = elim befalls [
      | inl by ↦ own_same client moves move by.none ∙ planned.nobody client none
      | inr rest ↦ elim rest [
        | inl by ↦ absurd (known (queued_is_busy was client by.q by.client_is by.queued))
        | inr by ↦ absurd (known (current_is_busy was client (use_waiter was.state was.state.phase was.client by.e by.waited ∙ ap (λ (k : ℕ). Some k) by.of_client)))
      ]
    ]
      where
        known : IsBusy was client → ⊥
        known busy = let there = old.known p r client at busy in let is_one = there.1 in cc

    nobody_takes_part : ((client : ℕ) → steps_in client move.step ≡ 0) → ((client : ℕ) → Asks client move.step → ⊥)
        → ((client : ℕ) → Befalls client was move.marks is) → AllPlanned script next new.nodes
    nobody_takes_part none not_asks befalls = record {
      clients = λ client who at_it. by_another client who at_it (none client) (not_asks client) (befalls client);
      nobody = λ client absent. stranger client absent (befalls client);
    }

    one_takes_part : (client : ℕ) (who : ScriptClient) (op : Op) (at_it : client_at script client ≡ Some who) → move.step ≡ step_of who.node client op
        → slice_get who.ops (steps_by client (steps_of moves)) ≡ Some op
        → ((other : ℕ) → client ≢ other → Befalls other was move.marks is)
        → IsPlanned new.nodes next client who ((old.clients client who at_it).did ++ op ∷ []) → AllPlanned script next new.nodes
    one_takes_part client who op at_it step its befalls own = record {
      clients = λ other him him_at. elim (cases_eq client other) [
        | inl same ↦
            let him_too : who ≡ him = let there : client_at script client ≡ client_at script other = ap (client_at script) same in cc in
            let mine = subst (IsPlanned new.nodes next client who)
            (did_more n moves move old.nodes client who (old.clients client who at_it) op its (ap (steps_in client) step ∙ own_step who.node client op)) own in
            subst (λ (c : ℕ). IsPlanned new.nodes next c him (done_by next c him)) same
            (subst (λ (w : ScriptClient). IsPlanned new.nodes next client w (done_by next client w)) him_too mine)
        | inr apart ↦
            by_another other him him_at (ap (steps_in other) step ∙ another's who.node client other op apart)
            (λ asks. asks_not who.node client other op apart (subst (Asks other) step asks)) (befalls other apart)
      ];
      nobody = λ other absent. stranger other absent (befalls other (λ same. let there : client_at script client ≡ client_at script other = ap (client_at script) same in cc));
    }

  -- a loss or a copy
  nothing_happens : ((i : ℕ) → events_at i move.step ≡ []) → move.marks ≡ [] → ((client : ℕ) → steps_in client move.step ≡ 0) → ((client : ℕ) → Asks client move.step → ⊥)
      → AllPlanned script next new.nodes
  nothing_happens none no_marks no_steps not_asks =
      let unmarked = λ (client : ℕ). ap (marks_of_client client) no_marks in
      record {
        clients = λ client who at_it.
            let at = within client who at_it in
            let same : new.nodes who.node ≡ old.nodes who.node = stays nodes_laws n 0 moves move old.nodes new.nodes old.ends new.ends who.node at (none who.node) in
            no_more client who at_it (no_steps client) (elim (as_stood client who at_it) [
              | inl done ↦ inl (
                subst (FollowsOps who.node (old.clients client who at_it).did) (sym (own_same client moves move (unmarked client))) done.0,
                λ w. elim (waited client moves move w).1 [ inl asks ↦ not_asks client asks | inr was ↦ done.1 was ],
              )
              | inr owes ↦
                  let (before, name, mode, is, asked) = owes in
                  inr (
                    before,
                    name,
                    mode,
                    is,
                    subst (λ (ms : List Mark). IsAsked who.node client before mode ms (resource_at (new.nodes who.node) name))
                        (sym (own_same client moves move (unmarked client)))
                        (subst (λ (s : NodeState). IsAsked who.node client before mode (own_marks client moves) (resource_at s name)) (sym same) asked),
                  )
            ]);
        nobody = λ client absent. own_same client moves move (unmarked client) ∙ planned.nobody client absent;
      }

  deliver : (message : Sent) → IsNode n (to_of message) → move.step ≡ Deliver message → AllPlanned script next new.nodes
  deliver message at step =
      let p = to_of message in
      let event = acts.Receive message in
      let here : events_at p move.step ≡ event ∷ [] = ap (events_at p) step ∙ at_node p event in
      let went = moved nodes_laws n 0 moves move old.nodes new.nodes old.ends new.ends p event at here in
      nobody_takes_part p event tt at here (λ client. ap (steps_in client) step) (λ client asks. subst (Asks client) step asks)
      (λ client. all_receive client (resource_at (old.nodes p) (name_of message)) message move.sends move.marks (resource_at (new.nodes p) (name_of message))
      (received_turn (old.nodes p) (new.nodes p) message move.sends move.marks went.happened) (leads nodes_laws n old.nodes new.nodes move p event went old.each))

  by_op : (client : ℕ) (who : ScriptClient) (op : Op) → client_at script client ≡ Some who → slice_get who.ops (steps_by client (steps_of moves)) ≡ Some op
      → move.step ≡ step_of who.node client op → (IsWaiting client moves → ⊥) → AllPlanned script next new.nodes
  by_op client who (Lock name mode) at_it its step free =
      let p = who.node in
      let at = within client who at_it in
      let event = acts.Ask client name mode in
      let here : events_at p move.step ≡ event ∷ [] = ap (events_at p) step ∙ at_node p event in
      let went = moved nodes_laws n 0 moves move old.nodes new.nodes old.ends new.ends p event at here in
      let turn = ask_turn (old.nodes p) (new.nodes p) client name mode move.sends move.marks went.happened in
      let lead = leads nodes_laws n old.nodes new.nodes move p event went old.each in
      let was = resource_at (old.nodes p) name in
      let is = resource_at (new.nodes p) name in
      let stands = old.clients client who at_it in
      let follows = is_free n moves move old.nodes new.nodes client who at stands old.each new.each (as_stood client who at_it) free in
      one_takes_part p event tt at here client who (Lock name mode) at_it step its
      (λ other apart. inl (others_ask other client was mode move.sends move.marks is apart turn))
      (elim (asker client was mode move.sends move.marks is turn lead) [
        | inl queued ↦ inr (
          stands.did,
          name,
          mode,
          refl,
          inl (subst (FollowsOps p stands.did) (sym (own_same client moves move queued.0)) follows, queued.1),
        )
        | inr asks ↦
            let (entered, e, of, mode_is, marks_are, use_is) = asks in
            made n moves move new.nodes client who (new.each p at) stands.did name mode entered e follows of mode_is marks_are use_is
      ])
  by_op client who (Unlock name) at_it its step free =
      let p = who.node in
      let at = within client who at_it in
      let event = acts.Leave client name in
      let here : events_at p move.step ≡ event ∷ [] = ap (events_at p) step ∙ at_node p event in
      let went = moved nodes_laws n 0 moves move old.nodes new.nodes old.ends new.ends p event at here in
      let turn = leave_turn (old.nodes p) (new.nodes p) client name move.sends move.marks went.happened in
      let lead = leads nodes_laws n old.nodes new.nodes move p event went old.each in
      let was = resource_at (old.nodes p) name in
      let is = resource_at (new.nodes p) name in
      let stands = old.clients client who at_it in
      let follows = is_free n moves move old.nodes new.nodes client who at stands old.each new.each (as_stood client who at_it) free in
      let (e, holds, marks_are) = leaver client was move.sends move.marks is ((old.each p at).consistent.each name).once turn lead in
      one_takes_part p event tt at here client who (Unlock name) at_it step its
      (λ other apart. others_leave other client was move.sends move.marks is apart turn lead)
      (inl (
        subst (FollowsOps p (stands.did ++ Unlock name ∷ [])) (sym (own_more client moves move ∙ ap (λ (ms : List Mark). own_marks client moves ++ ms) marks_are))
            (follows_unlock p stands.did (own_marks client moves) name e follows (request_there n p (old.nodes p) name e (old.each p at) (inr holds))),
        λ w. elim (waited client moves move w).1 [ inl asks ↦ subst (Asks client) step asks | inr before ↦ free before ],
      ))

  fits_here : IsFit n moves move.step move.sends move.marks
  fits_here = (fits_split n [] moves (move ∷ []) run.each_fits).1.0

  pub one_more : (choice : Choice) → StandsFor script moves choice move.step → AllPlanned script next new.nodes
  one_more (Client client) means = let (who, op, at_it, is, made_by) = means.next in by_op client who op at_it is made_by means.free
  one_more (Message place) (message, at, is) = deliver message (laws.between_nodes n 0 moves message fit.count before (under_way_at moves place message at)).0 is
  one_more (Lost place) (message, at, is) =
      let fits : IsFit n moves (Lose message) move.sends move.marks = subst (λ (s : Step). IsFit n moves s move.sends move.marks) is fits_here in
      nothing_happens (λ i. ap (events_at i) is) fits.2 (λ client. ap (steps_in client) is) (λ client asks. subst (Asks client) is asks)
  one_more (Repeated place) (message, at, is) =
      let fits : IsFit n moves (Repeat message) move.sends move.marks = subst (λ (s : Step). IsFit n moves s move.sends move.marks) is fits_here in
      nothing_happens (λ i. ap (events_at i) is) fits.2 (λ client. ap (steps_in client) is) (λ client asks. subst (Asks client) is asks)

-- ---- All moves

abbrev BothOf : ScriptState → List Move → Type 0
BothOf script moves = (all : AllStand script moves) × AllPlanned script moves all.nodes

module _ (nodes_laws : LawsOfNodes) (laws : LawsOfRuns) (script : ScriptState) (fit : IsScript script) where
  first_of_all : BothOf script []
  first_of_all = (
    at_first nodes_laws script fit.count,
    record { clients = λ client who at_it. inl (tt, nobody_waits client); nobody = λ client absent. refl },
  )

  further : (rest moves : List Move) → BothOf script moves → Performs script (moves ++ rest) → BothOf script (moves ++ rest)
  further [] moves both performs = subst (BothOf script) (sym (append-nil moves)) both
  further (move ∷ rest) moves (all, planned) performs =
      let again : moves ++ move ∷ rest ≡ (moves ++ move ∷ []) ++ rest = sym (append_assoc moves (move ∷ []) rest) in
      let run : IsRun script.nodes 0 (moves ++ move ∷ []) = laws.prefixes script.nodes 0 (moves ++ move ∷ []) rest (subst (IsRun script.nodes 0) again performs.run) in
      let before : IsRun script.nodes 0 moves = laws.prefixes script.nodes 0 moves (move ∷ rest) performs.run in
      let (choice, means) = performs.each moves rest move refl in
      let new = stand_on nodes_laws laws script fit moves move all before run choice means in
      subst (BothOf script) (sym again)
      (further rest (moves ++ move ∷ []) (new, one_more nodes_laws laws script fit moves move all new run before planned choice means) (subst (Performs script) again performs))

  module _ (moves : List Move) (performs : Performs script moves) (report : Report) (reports : Reports script.nodes 0 moves report)
      (finished : IsFinished script (steps_of moves) report) where
    abbrev m : ℕ
    m = script.nodes

    both : BothOf script moves
    both = further moves [] first_of_all performs

    all : AllStand script moves
    all = both.0

    table : (t : LockTable) × TableRun (marks_of moves) t
    table = laws.table m 0 moves fit.count performs.run

    of_nodes : IsTableOf m all.nodes table.0
    of_nodes = laws.table_of m 0 moves all.nodes table.0 fit.count performs.run all.ends table.1

    no_entry_waits : (i : ℕ) (name : List ℕ) (e : Entry) → IsNode m i → use_of (resource_at (all.nodes i) name) ≡ WaitsBy e → ⊥
    no_entry_waits i name e at waits =
        let has = ((of_nodes.waiting i name e at.0 at.1).1 waits).0 in
        let few = laws.waiting m 0 moves reports.at_nodes.0 table.0 fit.count performs.run reports.at_nodes.1 table.1 in
        omega (arith, has.1, few, reports.at_nodes.2, finished.none_waits)

    nobody_in_queue : (i : ℕ) (name : List ℕ) (q : Queued) → IsNode m i → Contains (resource_at (all.nodes i) name).queue q → ⊥
    nobody_in_queue i name q at has =
        let nodes = reports.at_nodes.0 in
        let same : nodes i ≡ all.nodes i = nodes_laws.one_end (opening_node i m 0) (nodes i) (all.nodes i) (happened_at i moves) (reports.at_nodes.1 i at.0 at.1) (all.ends i at.0 at.1) in
        let empty = empty_queues m nodes (sym reports.at_nodes.3 ∙ finished.none_queued) i name at in
        omega (arith, has.1, ap (λ (s : NodeState). length (resource_at s name).queue) same, empty)

    is_done : (client : ℕ) (who : ScriptClient) → client_at script client ≡ Some who → done_by moves client who ≡ who.ops
    is_done client who at_it = take_all (steps_by client (steps_of moves)) who.ops (omega (arith, finished.all_done client who at_it))

    nothing_asked : (client : ℕ) (who : ScriptClient) → client_at script client ≡ Some who → (before : List Op) (name : List ℕ) (mode : Mode)
        → IsAsked who.node client before mode (own_marks client moves) (resource_at (all.nodes who.node) name) → ⊥
    nothing_asked client who at_it before name mode asked =
        let c = is_client script client who fit at_it in
        elim asked [
          | inl queued ↦ nobody_in_queue who.node name (record { client = client; mode = mode }) (c.first, c.last) queued.1
          | inr waits ↦ let (e, so_far, marks_are, follows, is, of, mode_is) = waits in no_entry_waits who.node name e (c.first, c.last) is
        ]

    by_client : (client : ℕ) (o : Option ScriptClient) → client_at script client ≡ o → MeetsPlanOf o (own_marks client moves)
    unfolding all both
    by_client client None absent = both.1.nobody client absent
    by_client client (Some who) at_it = elim (both.1.clients client who at_it) [
      | inl done ↦ subst (λ (ops : List Op). FollowsOps who.node ops (own_marks client moves)) (is_done client who at_it) done.0
      | inr owes ↦ let (before, name, mode, is, asked) = owes in absurd (nothing_asked client who at_it before name mode asked)
    ]

    pub meets_plan : MeetsPlan script report.marks.items
    meets_plan client =
        subst (λ (ms : List Mark). MeetsPlanOf (client_at script client) (marks_of_client client ms)) (sym reports.marks)
        (by_client client (client_at script client) refl)

    pub nothing_held : (IsUnreleased script → ⊥) → (t : LockTable) → TableRun report.marks.items t → t.holding ≡ []
    nothing_held released t marked =
        let run_of : TableRun (marks_of moves) t = subst (λ (ms : List Mark). TableRun ms t) reports.marks marked in
        nobody_in t.holding (λ e has.
        let (at, busy) = holder_is_busy laws script fit moves performs.run all t run_of e has in
        let (who, at_it) = all.known e.stamp.node e.name e.client at busy in
        let stands = all.clients e.client who at_it in
        let held = ((stands.stands e.stamp.node e.name at).0 busy).1 in
        let did_all : stands.did ≡ who.ops = did_is m moves all.nodes e.client who stands ∙ is_done e.client who at_it in
        released (e.client, (who, at_it, (e.name, subst (λ (ops : List Op). IsHeldAfter ops e.name) did_all held))))
      where
        nobody_in : (es : List Entry) → ((e : Entry) → Contains es e → ⊥) → es ≡ []
        nobody_in [] none = refl
        nobody_in (e ∷ es) none = absurd (none e (0, omega arith, refl))
