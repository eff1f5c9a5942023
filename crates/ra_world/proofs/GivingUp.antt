-- A client that has given up a name is neither waiting, nor queued, nor inside there, until it asks again. So it is granted the name again
-- only if it asks again.
use Rattle.std.proofs.Common.{◌≡◌, ◌≢◌, ◌⊎◌, ℕ, zero, suc, Bool, true, false, List, [], ◌∷◌, ◌++◌, All, Any, Contains, Option, Some, None, get_or, map, refl, sym, ap, ◌∙◌, subst, append_assoc, arith, inl, inr}
use Rattle.std.specs.Prelude.{if◌then◌else◌, ◌==◌, option_to_list}
use Rattle.std.proofs.lemmas.List.{append-nil, map-append}
use Rattle.std.proofs.lemmas.List.Elements.{All-nil, All-cons, All-same, All-contains, Contains-append_right, Contains-append_cases}
use Rattle.std.proofs.lemmas.Option.{same_Some, none-some}
use Rattle.ra_stamp.specs.declared.entry.Entry.{Entry}
use Rattle.ra_stamp.specs.declared.entry.Mark.{Mark}
use Rattle.ra_stamp.specs.declared.entry.Mark.TheVariants.{Requested, Entered, Left, Withdrawn}
use Rattle.ra_stamp.specs.declared.message.Message.{Message}
use Rattle.ra_stamp.specs.declared.mode.Mode.{Mode}
use Rattle.ra_stamp.specs.Message.{name_of, to_of}
use Rattle.ra_stamp.specs.NodeId.{IsNodeNumber}
use Rattle.ra_automaton.proofs.Apart.{cases_same}
use Rattle.ra_automaton.specs.declared.phase.Phase.{Phase}
use Rattle.ra_automaton.specs.declared.phase.Phase.TheVariants.{Idle, Waiting, Inside}
use Rattle.ra_automaton.specs.State.{State}
use Rattle.ra_node.specs.declared.queued_client.Queued.{Queued}
use Rattle.ra_node.specs.Resource.{Resource, use_in, held_entry, waiting_entry, clients_of, IsBusy}
use Rattle.ra_node.specs.Turns.{request_marks, next_entry, EntersBy, AskTurn, Leaves, Withdraws, EndTurn, CancelTurn, ReceiveTurn}
use Rattle.ra_node.specs.Node.{NodeState, opening_node, resource_at, IsConsistentNode}
use Rattle.ra_node.specs.Events.{Event, Happening, IsNamed, name_of_event, NodeEvent, NodeEvents}
use Rattle.ra_node.specs.Events.{Event as acts}
use Rattle.ra_node.specs.Carried.{IsMark}
use Rattle.ra_node.proofs.Distinct.{Once, standing, busy_is, queues_has, leaves_once, taken_apart}
use Rattle.ra_node.proofs.Endings.{AreEnded, leaves_ended, withdraws_ended}
use Rattle.ra_node.proofs.EventLemmas.{other_resource}
use Rattle.ra_node.proofs.HandOverStep.{handed_marks}
use Rattle.ra_node.proofs.Lookups.{same_or_apart}
use Rattle.ra_node.proofs.Updates.{updated_here, received_turn}
use Rattle.ra_table.proofs.Apart.{Contains-put, Contains-cons_cases}
use Rattle.ra_world.specs.declared.step.Step.{Step}
use Rattle.ra_world.specs.declared.step.Step.TheVariants.{Ask, Leave, Cancel, Deliver, Lose, Repeat, Forget}
use Rattle.ra_world.specs.Asked.{AsksIn, IsGrantedIn}
use Rattle.ra_world.specs.Below.{LawsBelow}
use Rattle.ra_world.specs.Traffic.{Move}
use Rattle.ra_world.specs.Run.{IsRun, IsFit, events_at, happened_at, marks_of, with_node}
use Rattle.ra_world.proofs.Lists.{head_of, none_some}
use Rattle.ra_world.proofs.MoveByMove.{longer, just_after, just_before, fits_here, by_its_event}
use Rattle.ra_world.proofs.Moves.{happens, happened_more, at_node, not_at}
use Rattle.ra_world.proofs.Nodes.{ends_after, happens_here, put_node}
use Rattle.ra_world.proofs.Numbered.{MarksOfNodes}
use Rattle.ra_world.proofs.Protocol.{IsNode}
use Rattle.ra_world.proofs.Reached.{event_happened}
use Rattle.ra_world.proofs.Runs.{prefixes}

-- ---- Who is at a resource after a turn

-- the client of a request that is granted is at the resource
abbrev IsInsideOf : Resource → Mark → Type 0
IsInsideOf r (Requested e) = Unit {0}
IsInsideOf r (Entered e) = IsBusy r e.client
IsInsideOf r (Left e) = Unit {0}
IsInsideOf r (Withdrawn e) = Unit {0}

-- the event is an ask of this client for this name
abbrev IsAskOf : Event → ℕ → List ℕ → Type 0
IsAskOf (acts.Ask c q mode) client name = (c ≡ client) × (q ≡ name)
IsAskOf (acts.Leave c q) client name = ⊥
IsAskOf (acts.Cancel c q) client name = ⊥
IsAskOf (acts.Receive message) client name = ⊥
IsAskOf acts.Forget client name = ⊥

holder_is : (s : State) (phase : Phase) (client : Option ℕ) (e : Entry) → held_entry (use_in s phase client) ≡ Some e → client ≡ Some e.client
holder_is s phase None e is = absurd (none-some e is)
holder_is s Idle (Some c) e is = absurd (none-some e is)
holder_is s (Waiting seq mode) (Some c) e is = absurd (none-some e is)
holder_is s (Inside seq mode) (Some c) e is = ap (λ (o : Option Entry). elim o [ None ↦ None | Some x ↦ Some x.client ]) is

waiter_is : (s : State) (phase : Phase) (client : Option ℕ) (e : Entry) → waiting_entry (use_in s phase client) ≡ Some e → client ≡ Some e.client
waiter_is s phase None e is = absurd (none-some e is)
waiter_is s Idle (Some c) e is = absurd (none-some e is)
waiter_is s (Inside seq mode) (Some c) e is = absurd (none-some e is)
waiter_is s (Waiting seq mode) (Some c) e is = ap (λ (o : Option Entry). elim o [ None ↦ None | Some x ↦ Some x.client ]) is

current_busy : (r : Resource) (c : ℕ) → r.client ≡ Some c → IsBusy r c
current_busy r c is = (busy_is r c).1 (inl is)

queued_busy : (r : Resource) (c : ℕ) → Contains (map (λ q. q.client) r.queue) c → IsBusy r c
queued_busy r c at = Contains-append_right (option_to_list r.client) (map (λ q. q.client) r.queue) c at

-- a client that is current is not queued
current_apart : (r : Resource) (c : ℕ) → Once (clients_of r) → r.client ≡ Some c → Contains (map (λ q. q.client) r.queue) c → ⊥
current_apart r c once is at =
    let alone = subst (λ (o : Option ℕ). Once (standing o r.queue)) is once in
    alone 0 (suc at.0) c (omega arith) (omega (arith, at.1)) (sym at.2)

module _ (before after : Resource) (sends : List Message) (marks : List Mark) (c : ℕ) where
  ask_busy : (client : ℕ) (mode : Mode) → AskTurn before client mode sends marks after → IsBusy after c → IsBusy before c ⊎ (client ≡ c)
  ask_busy client mode turn busy = elim turn.1 [
    | inl asks ↦ elim ((busy_is after c).0 busy) [
      | inl is ↦ inr (same_Some client c (sym asks.client_is ∙ is))
      | inr queued ↦ inl (queued_busy before c (subst (λ (qs : List Queued). Contains (map (λ q. q.client) qs) c) asks.queue_is (queues_has after.queue c queued)))
    ]
    | inr queues ↦ up (subst (λ (r : Resource). IsBusy r c) queues.new_is busy)
  ]
    where
      more : standing before.client (before.queue ++ record { client = client; mode = mode } ∷ []) ≡ clients_of before ++ client ∷ []
      more =
          ap (λ (xs : List ℕ). option_to_list before.client ++ xs) (map-append (λ (q : Queued). q.client) before.queue (record { client = client; mode = mode } ∷ []))
          ∙ sym (append_assoc (option_to_list before.client) (map (λ (q : Queued). q.client) before.queue) (client ∷ []))

      up : Contains (standing before.client (before.queue ++ record { client = client; mode = mode } ∷ [])) c → IsBusy before c ⊎ (client ≡ c)
      up at = elim (Contains-append_cases (clients_of before) (client ∷ []) c (subst (λ (xs : List ℕ). Contains xs c) more at)) [
        | inl there ↦ inl there
        | inr last ↦ elim (Contains-cons_cases client [] c last) [
          | inl same ↦ inr same
          | inr none ↦ absurd (omega (arith, none.1))
        ]
      ]

  -- whoever is at it after the end of a request was queued
  end_busy : (Ends : Entry → List Message → Resource → Type 0) (mark : Entry → Mark) → AreEnded before Ends → EndTurn Ends mark before sends marks after → IsBusy after c
      → Contains (map (λ q. q.client) before.queue) c
  end_busy Ends mark ended turn busy = elim turn [
    | inl nobody ↦
        let end = ended nobody.entry sends after nobody.ends in
        elim ((busy_is after c).0 busy) [
          | inl is ↦ absurd (none-some c (sym end.client_is ∙ is))
          | inr queued ↦ subst (λ (qs : List Queued). Contains (map (λ q. q.client) qs) c) end.queue_is (queues_has after.queue c queued)
        ]
    | inr hands ↦
        let whole = λ (at : Contains (map (λ q. q.client) (hands.next ∷ hands.rest)) c). subst (λ (qs : List Queued). Contains (map (λ q. q.client) qs) c) (sym hands.queue_was) at in
        elim ((busy_is after c).0 busy) [
          | inl is ↦ whole (0, omega arith, same_Some hands.next.client c (sym hands.asks.client_is ∙ is))
          | inr queued ↦
              let rest = subst (λ (qs : List Queued). Contains (map (λ q. q.client) qs) c) hands.asks.queue_is (queues_has after.queue c queued) in
              whole (suc rest.0, omega (arith, rest.1), rest.2)
        ]
  ]

  cancel_busy : (client : ℕ) → CancelTurn before client sends marks after → IsBusy after c → IsBusy before c
  cancel_busy client turn busy = elim turn [
    | inr ends ↦ queued_busy before c (end_busy (Withdraws before client) Withdrawn (withdraws_ended before client) ends busy)
    | inl goes ↦
        let rest : Resource = record before { queue = goes.before ++ goes.after } in
        elim ((busy_is rest c).0 (subst (λ (r : Resource). IsBusy r c) goes.new_is busy)) [
          | inl is ↦ current_busy before c is
          | inr queued ↦
              let at = subst (λ (cs : List ℕ). Contains cs c) (map-append (λ (q : Queued). q.client) goes.before goes.after) (queues_has (goes.before ++ goes.after) c queued) in
              let more = Contains-put (map (λ q. q.client) goes.before) (map (λ q. q.client) goes.after) goes.gone.client c at in
              let whole = subst (λ (cs : List ℕ). Contains cs c) (sym (map-append (λ (q : Queued). q.client) goes.before (goes.gone ∷ goes.after))) more in
              queued_busy before c (subst (λ (qs : List Queued). Contains (map (λ q. q.client) qs) c) (sym goes.queue_was) whole)
        ]
  ]

  -- the client that gives up is not at it afterwards
  gives_up : Once (clients_of before) → CancelTurn before c sends marks after → IsBusy after c → ⊥
  gives_up once turn busy = elim turn [
    | inr ends ↦
        let queued = end_busy (Withdraws before c) Withdrawn (withdraws_ended before c) ends busy in
        let current = λ (e : Entry) (waits : waiting_entry (use_in before.state before.state.phase before.client) ≡ Some e) (is : e.client ≡ c).
        waiter_is before.state before.state.phase before.client e waits ∙ ap (λ (k : ℕ). Some k) is
        in
        elim ends [
          | inl nobody ↦ current_apart before c once (current nobody.entry nobody.ends.waits.requested nobody.ends.waits.client_is) queued
          | inr hands ↦ current_apart before c once (current hands.entry hands.ends.waits.requested hands.ends.waits.client_is) queued
        ]
    | inl goes ↦
        let rest : Resource = record before { queue = goes.before ++ goes.after } in
        let parts : Once (standing before.client (goes.before ++ goes.gone ∷ goes.after)) = subst (λ (qs : List Queued). Once (standing before.client qs)) goes.queue_was once in
        elim ((busy_is rest c).0 (subst (λ (r : Resource). IsBusy r c) goes.new_is busy)) [
          | inl is ↦
              let at : Contains (map (λ q. q.client) (goes.before ++ goes.gone ∷ goes.after)) c =
              subst (λ (cs : List ℕ). Contains cs c) (sym (map-append (λ (q : Queued). q.client) goes.before (goes.gone ∷ goes.after)))
              (Contains-append_right (map (λ q. q.client) goes.before) (goes.gone.client ∷ map (λ q. q.client) goes.after) c (0, omega arith, goes.client_is))
              in
              current_apart before c once is (subst (λ (qs : List Queued). Contains (map (λ q. q.client) qs) c) (sym goes.queue_was) at)
          | inr queued ↦
              taken_apart goes.before goes.gone goes.after (leaves_once before.client (goes.before ++ goes.gone ∷ goes.after) parts)
              (subst (λ (k : ℕ). Contains (map (λ q. q.client) (goes.before ++ goes.after)) k) (sym goes.client_is) (queues_has (goes.before ++ goes.after) c queued))
        ]
  ]

-- ---- Who is inside after a turn

module _ (before after : Resource) (sends : List Message) (marks : List Mark) where
  requested_inside : (entered : Bool) (e : Entry) → after.client ≡ Some e.client → All (IsInsideOf after) (request_marks entered e)
  requested_inside false e is = All-cons (IsInsideOf after) (Requested e) [] tt (All-nil (IsInsideOf after))
  requested_inside true e is =
      All-cons (IsInsideOf after) (Requested e) (Entered e ∷ []) tt (All-cons (IsInsideOf after) (Entered e) [] (current_busy after e.client is) (All-nil (IsInsideOf after)))

  ask_inside : (client : ℕ) (mode : Mode) → AskTurn before client mode sends marks after → All (IsInsideOf after) marks
  ask_inside client mode turn = elim turn.1 [
    | inl asks ↦ All-same (IsInsideOf after) marks (request_marks asks.entered (next_entry before client mode)) asks.marks_are (requested_inside asks.entered (next_entry before client mode) asks.client_is)
    | inr queues ↦ All-same (IsInsideOf after) marks [] queues.marks_are (All-nil (IsInsideOf after))
  ]

  end_inside : (Ends : Entry → List Message → Resource → Type 0) (mark : Entry → Mark) → AreEnded before Ends → ((x : Entry) → IsInsideOf after (mark x)) → EndTurn Ends mark before sends marks after
      → All (IsInsideOf after) marks
  end_inside Ends mark ended free turn = elim turn [
    | inl nobody ↦ All-same (IsInsideOf after) marks (mark nobody.entry ∷ []) nobody.marks_are (All-cons (IsInsideOf after) (mark nobody.entry) [] (free nobody.entry) (All-nil (IsInsideOf after)))
    | inr hands ↦
        let e = next_entry before hands.next.client hands.next.mode in
        All-same (IsInsideOf after) marks (mark hands.entry ∷ request_marks hands.asks.entered e) (handed_marks Ends mark before ended sends marks after hands)
        (All-cons (IsInsideOf after) (mark hands.entry) (request_marks hands.asks.entered e) (free hands.entry) (requested_inside hands.asks.entered e hands.asks.client_is))
  ]

  cancel_inside : (client : ℕ) → CancelTurn before client sends marks after → All (IsInsideOf after) marks
  cancel_inside client turn = elim turn [
    | inl goes ↦ All-same (IsInsideOf after) marks [] goes.marks_are (All-nil (IsInsideOf after))
    | inr ends ↦ end_inside (Withdraws before client) Withdrawn (withdraws_ended before client) (λ x. tt) ends
  ]

  receive_inside : (m : Message) → ReceiveTurn before m sends marks after → All (IsInsideOf after) marks
  receive_inside m turn = entered_inside turn.entered turn.enters
    where
      entered_inside : (entered : Bool) → EntersBy entered after marks → All (IsInsideOf after) marks
      entered_inside false enters = All-same (IsInsideOf after) marks [] enters (All-nil (IsInsideOf after))
      entered_inside true enters =
          All-same (IsInsideOf after) marks (Entered enters.0 ∷ []) enters.2
          (All-cons (IsInsideOf after) (Entered enters.0) [] (current_busy after enters.0.client (holder_is after.state after.state.phase after.client enters.0 enters.1)) (All-nil (IsInsideOf after)))

-- ---- Events

event_inside : (old new : NodeState) (event : Event) (sends : List Message) (marks : List Mark) → NodeEvent old event sends marks new → All (IsInsideOf (resource_at new (name_of_event event))) marks
event_inside old new (acts.Ask client name mode) sends marks event =
    subst (λ (r : Resource). All (IsInsideOf r) marks) (sym (updated_here old new name event.resource (inr event.new_is))) (ask_inside (resource_at old name) event.resource sends marks client mode event.turn)
event_inside old new (acts.Leave client name) sends marks event =
    subst (λ (r : Resource). All (IsInsideOf r) marks) (sym (updated_here old new name event.resource (inr event.new_is)))
    (end_inside (resource_at old name) event.resource sends marks (Leaves (resource_at old name) client) Left (leaves_ended (resource_at old name) client) (λ x. tt) event.turn)
event_inside old new (acts.Cancel client name) sends marks event =
    subst (λ (r : Resource). All (IsInsideOf r) marks) (sym (updated_here old new name event.resource (inr event.new_is))) (cancel_inside (resource_at old name) event.resource sends marks client event.turn)
event_inside old new (acts.Receive message) sends marks event =
    receive_inside (resource_at old (name_of message)) (resource_at new (name_of message)) sends marks message (received_turn old new message sends marks event)
event_inside old new acts.Forget sends marks event = All-same (IsInsideOf (resource_at new [])) marks [] event.marks_are (All-nil (IsInsideOf (resource_at new [])))

module _ (old new : NodeState) (sends : List Message) (marks : List Mark) (c : ℕ) where
  -- at the name of an event
  busy_here : (event : Event) → NodeEvent old event sends marks new → IsNamed event → IsBusy (resource_at new (name_of_event event)) c
      → IsBusy (resource_at old (name_of_event event)) c ⊎ IsAskOf event c (name_of_event event)
  busy_here (acts.Ask client name mode) event named busy =
      elim (ask_busy (resource_at old name) event.resource sends marks c client mode event.turn (subst (λ (r : Resource). IsBusy r c) (updated_here old new name event.resource (inr event.new_is)) busy)) [
        | inl was ↦ inl was
        | inr same ↦ inr (same, refl)
      ]
  busy_here (acts.Leave client name) event named busy =
      inl (queued_busy (resource_at old name) c
      (end_busy (resource_at old name) event.resource sends marks c (Leaves (resource_at old name) client) Left (leaves_ended (resource_at old name) client) event.turn
      (subst (λ (r : Resource). IsBusy r c) (updated_here old new name event.resource (inr event.new_is)) busy)))
  busy_here (acts.Cancel client name) event named busy =
      inl (cancel_busy (resource_at old name) event.resource sends marks c client event.turn (subst (λ (r : Resource). IsBusy r c) (updated_here old new name event.resource (inr event.new_is)) busy))
  busy_here (acts.Receive message) event named busy =
      let turn = received_turn old new message sends marks event in
      inl (subst (λ (cs : List ℕ). Contains cs c) (λ i. standing (turn.client_is i) (turn.queue_is i)) busy)
  busy_here acts.Forget event named busy = absurd named

  busy_named : (event : Event) → NodeEvent old event sends marks new → IsNamed event → (name : List ℕ) → IsBusy (resource_at new name) c → IsBusy (resource_at old name) c ⊎ IsAskOf event c name
  busy_named event happened named name busy = elim (same_or_apart name (name_of_event event)) [
    | inr apart ↦ inl (subst (λ (r : Resource). IsBusy r c) (other_resource old new event sends marks name happened named apart) busy)
    | inl same ↦
        subst (λ (q : List ℕ). IsBusy (resource_at old q) c ⊎ IsAskOf event c q) (sym same)
        (busy_here event happened named (subst (λ (q : List ℕ). IsBusy (resource_at new q) c) same busy))
  ]

  -- whoever is at a name after an event was at it before, or asked for it
  was_busy : (event : Event) → NodeEvent old event sends marks new → (name : List ℕ) → IsBusy (resource_at new name) c → IsBusy (resource_at old name) c ⊎ IsAskOf event c name
  was_busy (acts.Ask client q mode) happened name busy = busy_named (acts.Ask client q mode) happened tt name busy
  was_busy (acts.Leave client q) happened name busy = busy_named (acts.Leave client q) happened tt name busy
  was_busy (acts.Cancel client q) happened name busy = busy_named (acts.Cancel client q) happened tt name busy
  was_busy (acts.Receive message) happened name busy = busy_named (acts.Receive message) happened tt name busy
  was_busy acts.Forget happened name busy = inl (subst (λ (r : Resource). IsBusy r c) (happened.resources name) busy)

  has_given_up : (name : List ℕ) → IsConsistentNode old → NodeEvent old (acts.Cancel c name) sends marks new → IsBusy (resource_at new name) c → ⊥
  has_given_up name consistent event busy =
      gives_up (resource_at old name) event.resource sends marks c (consistent.each name).once event.turn
      (subst (λ (r : Resource). IsBusy r c) (updated_here old new name event.resource (inr event.new_is)) busy)

-- ---- Steps

is_or_not : (xs : List ℕ) (y : ℕ) → Contains xs y ⊎ (Contains xs y → ⊥)
is_or_not [] y = inr (λ h. omega (arith, h.1))
is_or_not (x ∷ xs) y = elim (cases_same x y) [
  | inl same ↦ inl (0, omega arith, same)
  | inr apart ↦ elim (is_or_not xs y) [
    | inl later ↦ inl (suc later.0, omega (arith, later.1), later.2)
    | inr none ↦ inr (λ h. elim (Contains-cons_cases x xs y h) [ inl same ↦ apart same | inr there ↦ none there ])
  ]
]

here_or_not : (node p : ℕ) (event : Event) → ((if node == p then event ∷ [] else []) ≡ []) ⊎ ((e : Event) × ((if node == p then event ∷ [] else []) ≡ e ∷ []))
here_or_not node p event = elim (cases_same node p) [
  | inl same ↦ inr (event, subst (λ (k : ℕ). (if k == p then event ∷ [] else []) ≡ event ∷ []) (sym same) (at_node p event))
  | inr apart ↦ inl (not_at node p event (λ e. apart (sym e)))
]

-- a step is one event at a node, or none
one_event : (p : ℕ) (step : Step) → (events_at p step ≡ []) ⊎ ((event : Event) × (events_at p step ≡ event ∷ []))
one_event p (Ask node client name mode) = here_or_not node p (acts.Ask client name mode)
one_event p (Leave node client name) = here_or_not node p (acts.Leave client name)
one_event p (Cancel node client name) = here_or_not node p (acts.Cancel client name)
one_event p (Deliver message) = here_or_not (to_of message) p (acts.Receive message)
one_event p (Lose message) = inl refl
one_event p (Repeat message) = inl refl
one_event p (Forget node) = here_or_not node p acts.Forget

is_event : (node p : ℕ) (e event : Event) → (if node == p then e ∷ [] else []) ≡ event ∷ [] → (node ≡ p) × (e ≡ event)
is_event node p e event here = elim (cases_same node p) [
  | inl same ↦ (same, head_of (sym (subst (λ (k : ℕ). (if k == p then e ∷ [] else []) ≡ e ∷ []) (sym same) (at_node p e)) ∙ here))
  | inr apart ↦ absurd (none_some (sym (not_at node p e (λ x. apart (sym x))) ∙ here))
]

-- the step of an ask
asked_by : (p : ℕ) (step : Step) (event : Event) (client : ℕ) (name : List ℕ) → events_at p step ≡ event ∷ [] → IsAskOf event client name → (mode : Mode) × (step ≡ Ask p client name mode)
asked_by p (Ask node c q mode) event client name here is =
    let one = is_event node p (acts.Ask c q mode) event here in
    let parts : (c ≡ client) × (q ≡ name) = subst (λ (x : Event). IsAskOf x client name) (sym one.1) is in
    (mode, λ i. Ask (one.0 i) (parts.0 i) (parts.1 i) mode)
asked_by p (Leave node c q) event client name here is = absurd (subst (λ (x : Event). IsAskOf x client name) (sym (is_event node p (acts.Leave c q) event here).1) is)
asked_by p (Cancel node c q) event client name here is = absurd (subst (λ (x : Event). IsAskOf x client name) (sym (is_event node p (acts.Cancel c q) event here).1) is)
asked_by p (Deliver message) event client name here is = absurd (subst (λ (x : Event). IsAskOf x client name) (sym (is_event (to_of message) p (acts.Receive message) event here).1) is)
asked_by p (Lose message) event client name here is = absurd (none_some here)
asked_by p (Repeat message) event client name here is = absurd (none_some here)
asked_by p (Forget node) event client name here is = absurd (subst (λ (x : Event). IsAskOf x client name) (sym (is_event node p acts.Forget event here).1) is)

-- ---- Runs

module _ (laws : LawsBelow) (marks_law : MarksOfNodes) (n start : ℕ) (count : IsNodeNumber n) (p client : ℕ) (name : List ℕ) (at_p : IsNode n p) where
  -- the node after these moves, at whose name the client is not
  record IsFree (ms : List Move) : Type 0 where
    node : NodeState
    ends : NodeEvents (opening_node p n start) (happened_at p ms) node
    free : IsBusy (resource_at node name) client → ⊥

  asks_first : (m : Move) (suffix : List Move) (event : Event) (q : ℕ) → q ≡ p → events_at q m.step ≡ event ∷ [] → IsAskOf event client name → AsksIn (m ∷ suffix) p client name
  asks_first m suffix event q same here is =
      let asked = asked_by q m.step event client name here is in
      (asked.0, (0, omega arith, asked.1 ∙ ap (λ (k : ℕ). Ask k client name asked.0) same))

  module _ (m : Move) (suffix ms : List Move) (run : IsRun n start (ms ++ m ∷ suffix)) (was : IsFree ms) where
    -- the client asks in the next move, or is not at the name after it
    next_free : AsksIn (m ∷ suffix) p client name ⊎ IsFree (ms ++ m ∷ [])
    next_free =
        let shorter = prefixes laws.splits n start suffix (ms ++ m ∷ []) (longer laws n start count m suffix ms run) in
        let next = shorter.ends.0 p in
        let ends = shorter.ends.1 p at_p.0 at_p.1 in
        let parts = laws.splits (happened_at p ms) (happens p m) (opening_node p n start) next (subst (λ (hs : List Happening). NodeEvents (opening_node p n start) hs next) (happened_more p ms m) ends) in
        let same : parts.0 ≡ was.node = laws.one_end (opening_node p n start) parts.0 was.node (happened_at p ms) parts.1 was.ends in
        elim (is_or_not (clients_of (resource_at next name)) client) [
          | inr none ↦ inr (record { node = next; ends = ends; free = none })
          | inl busy ↦ elim (one_event p m.step) [
            | inl nothing ↦
                let still : next ≡ parts.0 = subst (λ (hs : List Happening). NodeEvents parts.0 hs next) (ap (map (λ e. record { event = e; sends = m.sends; marks = m.marks })) nothing) parts.2 in
                absurd (was.free (subst (λ (x : NodeState). IsBusy (resource_at x name) client) (still ∙ same) busy))
            | inr one ↦
                let happened = subst (λ (hs : List Happening). NodeEvents parts.0 hs next) (happens_here p m one.0 one.1) parts.2 in
                elim (was_busy parts.0 happened.0 m.sends m.marks client one.0 happened.1 name (subst (λ (x : NodeState). IsBusy (resource_at x name) client) happened.2 busy)) [
                  | inl before ↦ absurd (was.free (subst (λ (x : NodeState). IsBusy (resource_at x name) client) same before))
                  | inr asks ↦ inl (asks_first m suffix one.0 p refl one.1 asks)
                ]
          ]
        ]

    -- it is granted the name in the next move only if it asks in it
    granted_next : (e : Entry) → e.stamp.node ≡ p → e.client ≡ client → e.name ≡ name → Contains m.marks (Entered e) → AsksIn (m ∷ suffix) p client name
    granted_next e node_is client_is name_is at =
        let before = just_before laws n start count m suffix ms run in
        let P = λ (mark : Mark). mark ≡ Entered e → AsksIn (m ∷ suffix) p client name in
        let each = by_its_event laws n start count m suffix ms run P (λ q event new within for here happened k d lt is.
        let there = before.invariant.each q within in
        let mark : IsMark (before.nodes q).me (name_of_event event) (Entered e) =
        subst (IsMark (before.nodes q).me (name_of_event event)) is (marks_law (before.nodes q) new event m.sends m.marks there.consistent for happened k d lt)
        in
        let inside : IsBusy (resource_at new (name_of_event event)) e.client =
        subst (IsInsideOf (resource_at new (name_of_event event))) is (event_inside (before.nodes q) new event m.sends m.marks happened k d lt)
        in
        let here_is : q ≡ p = sym (mark.node_is ∙ there.me_is) ∙ node_is in
        let busy : IsBusy (resource_at new name) client =
        subst (λ (r : List ℕ). IsBusy (resource_at new r) client) (sym mark.name_is ∙ name_is) (subst (IsBusy (resource_at new (name_of_event event))) client_is inside)
        in
        elim (was_busy (before.nodes q) new m.sends m.marks client event happened name busy) [
          | inr asks ↦ asks_first m suffix event q here_is here asks
          | inl earlier ↦
              let same : before.nodes p ≡ was.node = laws.one_end (opening_node p n start) (before.nodes p) was.node (happened_at p ms) (before.ends p at_p.0 at_p.1) was.ends in
              absurd (was.free (subst (λ (x : NodeState). IsBusy (resource_at x name) client) (ap before.nodes here_is ∙ same) earlier))
        ])
        in
        All-contains P m.marks (Entered e) each at refl

  later_asks : (m : Move) (suffix : List Move) → AsksIn suffix p client name → AsksIn (m ∷ suffix) p client name
  later_asks m suffix asks = (asks.0, (suc asks.1.0, omega (arith, asks.1.1), asks.1.2))

  asks_again : (suffix ms : List Move) → IsRun n start (ms ++ suffix) → IsFree ms → IsGrantedIn (marks_of suffix) p client name → AsksIn suffix p client name
  asks_again [] ms run was granted = absurd (omega (arith, granted.enters.1))
  asks_again (m ∷ suffix) ms run was granted = elim (Contains-append_cases m.marks (marks_of suffix) (Entered granted.entry) granted.enters) [
    | inl here ↦ granted_next m suffix ms run was granted.entry granted.node_is granted.client_is granted.name_is here
    | inr later ↦ elim (next_free m suffix ms run was) [
      | inl asks ↦ asks
      | inr free ↦
          later_asks m suffix
          (asks_again suffix (ms ++ m ∷ []) (longer laws n start count m suffix ms run) free
          (record { entry = granted.entry; enters = later; node_is = granted.node_is; client_is = granted.client_is; name_is = granted.name_is }))
    ]
  ]

-- a client that gives up is granted the name again only if it asks again
pub granted_again : LawsBelow → MarksOfNodes → (n start : ℕ) (before later : List Move) (gives : Move) (p client : ℕ) (name : List ℕ) → IsNodeNumber n
    → IsRun n start (before ++ gives ∷ later) → gives.step ≡ Cancel p client name → IsGrantedIn (marks_of (gives ∷ later)) p client name → AsksIn later p client name
granted_again laws marks_law n start before later gives p client name count run is granted =
    let event = acts.Cancel client name in
    let at_p : IsNode n p = subst (λ (x : Step). IsFit n before x gives.sends gives.marks) is (fits_here laws n start count gives later before run) in
    let there = just_before laws n start count gives later before run in
    let here : events_at p gives.step ≡ event ∷ [] = subst (λ (x : Step). events_at p x ≡ event ∷ []) (sym is) (at_node p event) in
    let after = just_after laws n start count gives later before run in
    let happened = event_happened laws n start before gives there p at_p event here (after.ends.0 p, after.ends.1 p at_p.0 at_p.1) in
    let free = has_given_up (there.nodes p) happened.0 gives.sends gives.marks client name (there.invariant.each p at_p).consistent happened.1 in
    let is_free : IsFree laws marks_law n start count p client name at_p (before ++ gives ∷ []) = record {
      node = with_node there.nodes p happened.0 p;
      ends = ends_after laws.joins n start before gives there.nodes p event happened.0 there.ends here happened.1 p at_p.0 at_p.1;
      free = λ busy. free (subst (λ (x : NodeState). IsBusy (resource_at x name) client) (put_node there.nodes p happened.0).here busy);
    } in
    elim (Contains-append_cases gives.marks (marks_of later) (Entered granted.entry) granted.enters) [
      | inl now ↦
          let inside : IsBusy (resource_at happened.0 name) granted.entry.client =
          All-contains (IsInsideOf (resource_at happened.0 name)) gives.marks (Entered granted.entry) (event_inside (there.nodes p) happened.0 event gives.sends gives.marks happened.1) now
          in
          absurd (free (subst (IsBusy (resource_at happened.0 name)) granted.client_is inside))
      | inr then' ↦
          asks_again laws marks_law n start count p client name at_p later (before ++ gives ∷ []) (longer laws n start count gives later before run) is_free
          (record { entry = granted.entry; enters = then'; node_is = granted.node_is; client_is = granted.client_is; name_is = granted.name_is })
    ]
