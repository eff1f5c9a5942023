-- What a REQUEST raises that arrives at a node: from then on the node's own requests have greater numbers.
use Rattle.std.proofs.Common.{◌≡◌, ℕ, zero, suc, ◌≤◌, Bool, true, false, List, [], ◌∷◌, All, Contains, map, sym, ap, ◌∙◌, subst, arith, inl, inr}
use Rattle.std.proofs.lemmas.List.Elements.{All-nil, All-cons, All-same}
use Rattle.ra_stamp.specs.declared.entry.Entry.{Entry}
use Rattle.ra_stamp.specs.declared.entry.Mark.{Mark}
use Rattle.ra_stamp.specs.declared.entry.Mark.TheVariants.{Requested, Entered, Left, Withdrawn}
use Rattle.ra_stamp.specs.declared.message.Message.{Message}
use Rattle.ra_stamp.specs.declared.message.Message.TheVariants.{Request, Reply}
use Rattle.ra_stamp.specs.declared.mode.Mode.{Mode}
use Rattle.ra_stamp.specs.Message.{name_of}
use Rattle.ra_automaton.specs.State.{State}
use Rattle.ra_automaton.specs.Steps.{RequestStep}
use Rattle.ra_node.proofs.Endings.{AreEnded, leaves_ended, withdraws_ended}
use Rattle.ra_node.specs.Resource.{Resource}
use Rattle.ra_node.specs.Turns.{request_marks, next_entry, EntersBy, AskTurn, Leaves, Withdraws, EndTurn, LeaveTurn, CancelTurn, ReceiveTurn}
use Rattle.ra_node.specs.Node.{NodeState, resource_at, IsConsistentNode}
use Rattle.ra_node.specs.Events.{Event, Happening, IsNamed, name_of_event, NodeEvent, NodeEvents}
use Rattle.ra_node.specs.Events.{Event as acts}
use Rattle.ra_node.proofs.HandOverStep.{handed_step, handed_marks}
use Rattle.ra_node.proofs.Lookups.{same_or_apart}
use Rattle.ra_node.proofs.Updates.{updated_here, received_turn}
use Rattle.ra_node.proofs.EventLemmas.{other_resource}
use Rattle.ra_node.proofs.Chains.{events_split}
use Rattle.ra_world.specs.declared.step.Step.TheVariants.{Deliver}
use Rattle.ra_world.specs.Traffic.{Move}
use Rattle.ra_world.specs.Run.{events_at, happened_at}
use Rattle.ra_world.proofs.Moves.{happens, at_node}
use Rattle.ra_world.proofs.Nodes.{happens_here}
use Rattle.ra_world.proofs.Overtaking.{IsAbove}

-- ---- No event lowers a number

request_raises : (old new : State) (mode : Mode) (sends : List Message) (entered : Bool) → RequestStep old mode sends entered new → old.highest ≤ new.highest
request_raises old new mode sends entered step = elim step.begins [
  | inl asks ↦ omega (arith, ap (λ (x : State). x.highest) asks.new_is)
  | inr alone ↦ omega (arith, ap (λ (x : State). x.highest) alone.new_is)
]

module _ (before after : Resource) (sends : List Message) (marks : List Mark) where
  ask_raises : (client : ℕ) (mode : Mode) → AskTurn before client mode sends marks after → before.state.highest ≤ after.state.highest
  ask_raises client mode turn = elim turn.1 [
    | inl asks ↦ request_raises before.state after.state mode sends asks.entered asks.step
    | inr queues ↦ omega (arith, ap (λ (x : Resource). x.state.highest) queues.new_is)
  ]

  end_raises : (Ends : Entry → List Message → Resource → Type 0) (mark : Entry → Mark) (ended : AreEnded before Ends) → EndTurn Ends mark before sends marks after → before.state.highest ≤ after.state.highest
  end_raises Ends mark ended turn = elim turn [
    | inl nobody ↦ omega (arith, (ended nobody.entry sends after nobody.ends).step.highest_is)
    | inr hands ↦
        let step = handed_step Ends mark before ended sends marks after hands in
        omega (arith, step.ends.highest_is, request_raises step.between after.state hands.next.mode step.requests hands.asks.entered step.asks)
  ]

  leave_raises : (client : ℕ) → LeaveTurn before client sends marks after → before.state.highest ≤ after.state.highest
  leave_raises client turn = end_raises (Leaves before client) Left (leaves_ended before client) turn

  cancel_raises : (client : ℕ) → CancelTurn before client sends marks after → before.state.highest ≤ after.state.highest
  cancel_raises client turn = elim turn [
    | inl goes ↦ omega (arith, ap (λ (x : Resource). x.state.highest) goes.new_is)
    | inr ends ↦ end_raises (Withdraws before client) Withdrawn (withdraws_ended before client) ends
  ]

  receive_raises : (m : Message) → ReceiveTurn before m sends marks after → before.state.highest ≤ after.state.highest
  receive_raises (Request from to name mode seq) turn = elim turn.step.1 [
    | inl defers ↦ omega (arith, ap (λ (x : State). x.highest) defers.new_is)
    | inr replies ↦ omega (arith, ap (λ (x : State). x.highest) replies.new_is)
  ]
  receive_raises (Reply from to name seq) turn = elim turn.step.1 [
    | inl stray ↦ omega (arith, ap (λ (x : State). x.highest) stray.new_is)
    | inr awaited ↦ elim awaited.1 [
      | inl enters ↦ omega (arith, ap (λ (x : State). x.highest) enters.new_is)
      | inr on ↦ omega (arith, ap (λ (x : State). x.highest) on.new_is)
    ]
  ]

-- a REQUEST that comes raises it to its own number, whether it is deferred or answered
request_met : (before after : Resource) (sends : List Message) (marks : List Mark) (from to : ℕ) (name : List ℕ) (mode : Mode) (seq : ℕ)
    → ReceiveTurn before (Request from to name mode seq) sends marks after → seq ≤ after.state.highest
request_met before after sends marks from to name mode seq turn = elim turn.step.1 [
  | inl defers ↦ omega (arith, ap (λ (x : State). x.highest) defers.new_is)
  | inr replies ↦ omega (arith, ap (λ (x : State). x.highest) replies.new_is)
]

-- the resource of a name that an event is about
raises_here : (old new : NodeState) (event : Event) (sends : List Message) (marks : List Mark) → NodeEvent old event sends marks new → IsNamed event
    → (resource_at old (name_of_event event)).state.highest ≤ (resource_at new (name_of_event event)).state.highest
raises_here old new (acts.Ask client name mode) sends marks event named =
    subst (λ (r : Resource). (resource_at old name).state.highest ≤ r.state.highest) (sym (updated_here old new name event.resource (inr event.new_is)))
    (ask_raises (resource_at old name) event.resource sends marks client mode event.turn)
raises_here old new (acts.Leave client name) sends marks event named =
    subst (λ (r : Resource). (resource_at old name).state.highest ≤ r.state.highest) (sym (updated_here old new name event.resource (inr event.new_is)))
    (leave_raises (resource_at old name) event.resource sends marks client event.turn)
raises_here old new (acts.Cancel client name) sends marks event named =
    subst (λ (r : Resource). (resource_at old name).state.highest ≤ r.state.highest) (sym (updated_here old new name event.resource (inr event.new_is)))
    (cancel_raises (resource_at old name) event.resource sends marks client event.turn)
raises_here old new (acts.Receive message) sends marks event named =
    receive_raises (resource_at old (name_of message)) (resource_at new (name_of message)) sends marks message (received_turn old new message sends marks event)
raises_here old new acts.Forget sends marks event named = absurd named

named_raises : (old new : NodeState) (event : Event) (sends : List Message) (marks : List Mark) → NodeEvent old event sends marks new → IsNamed event → (name : List ℕ)
    → (resource_at old name).state.highest ≤ (resource_at new name).state.highest
named_raises old new event sends marks happened named name = elim (same_or_apart name (name_of_event event)) [
  | inl same ↦ subst (λ (r : List ℕ). (resource_at old r).state.highest ≤ (resource_at new r).state.highest) (sym same) (raises_here old new event sends marks happened named)
  | inr apart ↦ omega (arith, ap (λ (r : Resource). r.state.highest) (other_resource old new event sends marks name happened named apart))
]

pub event_raises : (old new : NodeState) (event : Event) (sends : List Message) (marks : List Mark) → NodeEvent old event sends marks new → (name : List ℕ)
    → (resource_at old name).state.highest ≤ (resource_at new name).state.highest
event_raises old new (acts.Ask client name mode) sends marks happened q = named_raises old new (acts.Ask client name mode) sends marks happened tt q
event_raises old new (acts.Leave client name) sends marks happened q = named_raises old new (acts.Leave client name) sends marks happened tt q
event_raises old new (acts.Cancel client name) sends marks happened q = named_raises old new (acts.Cancel client name) sends marks happened tt q
event_raises old new (acts.Receive message) sends marks happened q = named_raises old new (acts.Receive message) sends marks happened tt q
event_raises old new acts.Forget sends marks happened q = omega (arith, ap (λ (r : Resource). r.state.highest) (happened.resources q))

pub events_raise : (hs : List Happening) (old new : NodeState) → NodeEvents old hs new → (name : List ℕ) → (resource_at old name).state.highest ≤ (resource_at new name).state.highest
events_raise [] old new same name = omega (arith, ap (λ (x : NodeState). (resource_at x name).state.highest) same)
events_raise (h ∷ hs) old new events name =
    omega (arith, event_raises old events.0 h.event h.sends h.marks events.1 name, events_raise hs events.0 new events.2 name)

-- a node to which a REQUEST was delivered has met its number
pub arrived : (from to : ℕ) (name : List ℕ) (mode : Mode) (seq : ℕ) (ms : List Move) (old new : NodeState) → NodeEvents old (happened_at to ms) new
    → Contains (map (λ move. move.step) ms) (Deliver (Request from to name mode seq)) → seq ≤ (resource_at new name).state.highest
arrived from to name mode seq [] old new events at = absurd (omega (arith, at.1))
arrived from to name mode seq (m ∷ ms) old new events (zero, lt, is) =
    let message = Request from to name mode seq in
    let parts = events_split (happens to m) (happened_at to ms) old new events in
    let here = happens_here to m (acts.Receive message) (ap (events_at to) is ∙ at_node to (acts.Receive message)) in
    let one = subst (λ (hs : List Happening). NodeEvents old hs parts.0) here parts.1 in
    let met = request_met (resource_at old name) (resource_at one.0 name) m.sends m.marks from to name mode seq (received_turn old one.0 message m.sends m.marks one.1) in
    omega (arith, met, ap (λ (x : NodeState). (resource_at x name).state.highest) one.2, events_raise (happened_at to ms) parts.0 new parts.2 name)
arrived from to name mode seq (m ∷ ms) old new events (suc k, lt, is) =
    let parts = events_split (happens to m) (happened_at to ms) old new events in
    arrived from to name mode seq ms parts.0 new parts.2 (k, omega (arith, lt), is)

-- ---- Requests after that have greater numbers

module _ (At : ℕ → Type 0) (e : Entry) where
  next_above : (r : Resource) (client : ℕ) (mode : Mode) (entered : Bool) → (At r.state.me → r.state.name ≡ e.name → e.stamp.seq ≤ r.state.highest)
      → All (IsAbove At e) (request_marks entered (next_entry r client mode))
  next_above r client mode false low =
      All-cons (IsAbove At e) (Requested (next_entry r client mode)) [] (λ here same. omega (arith, low here same)) (All-nil (IsAbove At e))
  next_above r client mode true low =
      All-cons (IsAbove At e) (Requested (next_entry r client mode)) (Entered (next_entry r client mode) ∷ []) (λ here same. omega (arith, low here same))
      (All-cons (IsAbove At e) (Entered (next_entry r client mode)) [] tt (All-nil (IsAbove At e)))

  module _ (before after : Resource) (sends : List Message) (marks : List Mark) (low : At before.state.me → before.state.name ≡ e.name → e.stamp.seq ≤ before.state.highest) where
    ask_above : (client : ℕ) (mode : Mode) → AskTurn before client mode sends marks after → All (IsAbove At e) marks
    ask_above client mode turn = elim turn.1 [
      | inl asks ↦ All-same (IsAbove At e) marks (request_marks asks.entered (next_entry before client mode)) asks.marks_are (next_above before client mode asks.entered low)
      | inr queues ↦ All-same (IsAbove At e) marks [] queues.marks_are (All-nil (IsAbove At e))
    ]

    end_above : (Ends : Entry → List Message → Resource → Type 0) (mark : Entry → Mark) (ended : AreEnded before Ends) → ((x : Entry) → IsAbove At e (mark x)) → EndTurn Ends mark before sends marks after → All (IsAbove At e) marks
    end_above Ends mark ended none turn = elim turn [
      | inl nobody ↦ All-same (IsAbove At e) marks (mark nobody.entry ∷ []) nobody.marks_are (All-cons (IsAbove At e) (mark nobody.entry) [] (none nobody.entry) (All-nil (IsAbove At e)))
      | inr hands ↦
          let asked = request_marks hands.asks.entered (next_entry before hands.next.client hands.next.mode) in
          All-same (IsAbove At e) marks (mark hands.entry ∷ asked) (handed_marks Ends mark before ended sends marks after hands)
          (All-cons (IsAbove At e) (mark hands.entry) asked (none hands.entry) (next_above before hands.next.client hands.next.mode hands.asks.entered low))
    ]

    leave_above : (client : ℕ) → LeaveTurn before client sends marks after → All (IsAbove At e) marks
    leave_above client turn = end_above (Leaves before client) Left (leaves_ended before client) (λ x. tt) turn

    cancel_above : (client : ℕ) → CancelTurn before client sends marks after → All (IsAbove At e) marks
    cancel_above client turn = elim turn [
      | inl goes ↦ All-same (IsAbove At e) marks [] goes.marks_are (All-nil (IsAbove At e))
      | inr ends ↦ end_above (Withdraws before client) Withdrawn (withdraws_ended before client) (λ x. tt) ends
    ]

    receive_above : (m : Message) → ReceiveTurn before m sends marks after → All (IsAbove At e) marks
    receive_above m turn = entered_above turn.entered turn.enters
      where
        entered_above : (entered : Bool) → EntersBy entered after marks → All (IsAbove At e) marks
        entered_above false enters = All-same (IsAbove At e) marks [] enters (All-nil (IsAbove At e))
        entered_above true enters = All-same (IsAbove At e) marks (Entered enters.0 ∷ []) enters.2 (All-cons (IsAbove At e) (Entered enters.0) [] tt (All-nil (IsAbove At e)))

  -- the requests of an event, if its node has met the entry's number
  module _ (old new : NodeState) (sends : List Message) (marks : List Mark) (consistent : IsConsistentNode old) (met : At old.me → e.stamp.seq ≤ (resource_at old e.name).state.highest) where
    low : (name : List ℕ) → At (resource_at old name).state.me → (resource_at old name).state.name ≡ e.name → e.stamp.seq ≤ (resource_at old name).state.highest
    low name here same =
        let there = consistent.each name in
        subst (λ (r : List ℕ). e.stamp.seq ≤ (resource_at old r).state.highest) (sym same ∙ there.name_is) (met (subst At there.me_is here))

    pub event_above : (event : Event) → NodeEvent old event sends marks new → All (IsAbove At e) marks
    event_above (acts.Ask client name mode) asked = ask_above (resource_at old name) asked.resource sends marks (low name) client mode asked.turn
    event_above (acts.Leave client name) left = leave_above (resource_at old name) left.resource sends marks (low name) client left.turn
    event_above (acts.Cancel client name) cancelled = cancel_above (resource_at old name) cancelled.resource sends marks (low name) client cancelled.turn
    event_above acts.Forget forgot = All-same (IsAbove At e) marks [] forgot.marks_are (All-nil (IsAbove At e))
    event_above (acts.Receive message) received = receive_above (resource_at old (name_of message)) received.resource sends marks (low (name_of message)) message received.turn
