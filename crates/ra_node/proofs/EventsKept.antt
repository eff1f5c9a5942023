-- An event leads from a consistent node to a consistent one, since each step of an automaton keeps its state so.
use Rattle.std.proofs.Common.{◌≡◌, ℕ, ◌≤◌, Bool, List, [], All, sym, ap, subst, arith, inl, inr, length, refl}
use Rattle.std.proofs.lemmas.List.Elements.{All-weaker}
use Rattle.ra_stamp.specs.declared.mode.Mode.{Mode}
use Rattle.ra_stamp.specs.declared.message.Message.{Message}
use Rattle.ra_stamp.specs.declared.entry.Mark.{Mark}
use Rattle.ra_stamp.specs.Message.{from_of, name_of, seq_of}
use Rattle.ra_automaton.specs.State.{State, IsOther, IsConsistent}
use Rattle.ra_automaton.specs.Steps.{RequestStep, ReceiveStep, LeaveStep, WithdrawStep}
use Rattle.ra_automaton.proofs.Consistent.{consistent_request, consistent_receive, consistent_leave, consistent_withdraw}
use Rattle.ra_node.specs.Resource.{Resource, use_of}
use Rattle.ra_stamp.specs.declared.entry.Entry.{Entry}
use Rattle.ra_stamp.specs.declared.entry.Mark.TheVariants.{Left, Withdrawn}
use Rattle.ra_node.specs.Turns.{AskTurn, Leaves, Withdraws, EndTurn, LeaveTurn, CancelTurn}
use Rattle.ra_node.specs.Node.{NodeState, resource_at, IsConsistentNode}
use Rattle.ra_node.specs.Events.{Event, name_of_event, NodeEvent, IsForThisNode}
use Rattle.ra_node.specs.Events.Event.{Ask, Leave, Cancel, Receive, Forget}
use Rattle.ra_node.specs.Carried.{IsSend, IsMark, MarksLead, sends_at_most, marks_at_most}
use Rattle.ra_node.proofs.Kept.{ask_kept, leave_kept, cancel_kept, receive_kept}
use Rattle.ra_node.proofs.Forgetting.{forget_kept, forget_uses}
use Rattle.std.proofs.lemmas.List.Elements.{All-nil}
use Rattle.ra_node.proofs.NodeLemmas.{with_kept}
use Rattle.ra_node.proofs.Updates.{receive_updates, update_kept}
use Rattle.ra_node.proofs.EventLemmas.{addressed, ask_event_room, leave_event_room, cancel_event_room, receive_event_room, ask_event_sends, leave_event_sends, cancel_event_sends, receive_event_sends, ask_event_marks, leave_event_marks, cancel_event_marks, receive_event_marks, ask_event_leads, leave_event_leads, cancel_event_leads, receive_event_leads}

-- ---- Turns and events

module _
    (request : (old new : State) (mode : Mode) (sends : List Message) (entered : Bool) → IsConsistent old → RequestStep old mode sends entered new → IsConsistent new)
    (receive : (old new : State) (message : Message) (sends : List Message) (entered : Bool) → IsConsistent old → IsOther old (from_of message) → ReceiveStep old message sends entered new → IsConsistent new)
    (leave : (old new : State) (sends : List Message) → IsConsistent old → LeaveStep old sends new → IsConsistent new)
    (withdraw : (old new : State) (sends : List Message) → IsConsistent old → WithdrawStep old sends new → IsConsistent new)
  where
    asked : (old : Resource) (client : ℕ) (mode : Mode) (sends : List Message) (marks : List Mark) (new : Resource) → AskTurn old client mode sends marks new → IsConsistent old.state → IsConsistent new.state
    asked old client mode sends marks new turn h =
        elim turn.1 [
          | inl asks ↦ request old.state new.state mode sends asks.entered h asks.step
          | inr queues ↦ subst (λ (r : Resource). IsConsistent r.state) (sym queues.new_is) h
        ]

    ended : (Ends : Entry → List Message → Resource → Type 0) (mark : Entry → Mark) (old : Resource) → ((entry : Entry) (sends : List Message) (new : Resource) → Ends entry sends new → IsConsistent new.state)
        → (sends : List Message) (marks : List Mark) (new : Resource) → EndTurn Ends mark old sends marks new → IsConsistent new.state
    ended Ends mark old end sends marks new turn =
        elim turn [
          | inl nobody ↦ end nobody.entry sends new nobody.ends
          | inr hands ↦ request hands.between.state new.state hands.next.mode hands.requests hands.asks.entered (end hands.entry hands.replies hands.between hands.ends) hands.asks.step
        ]

    left : (old : Resource) (client : ℕ) (sends : List Message) (marks : List Mark) (new : Resource) → LeaveTurn old client sends marks new → IsConsistent old.state → IsConsistent new.state
    left old client sends marks new turn h = ended (Leaves old client) Left old (λ entry ms r leaves. leave old.state r.state ms h leaves.step) sends marks new turn

    cancelled : (old : Resource) (client : ℕ) (sends : List Message) (marks : List Mark) (new : Resource) → CancelTurn old client sends marks new → IsConsistent old.state → IsConsistent new.state
    cancelled old client sends marks new turn h =
        elim turn [
          | inl goes ↦ subst (λ (r : Resource). IsConsistent r.state) (sym goes.new_is) h
          | inr ends ↦ ended (Withdraws old client) Withdrawn old (λ entry ms r withdraws. withdraw old.state r.state ms h withdraws.step) sends marks new ends
        ]

    pub event_kept : (old new : NodeState) (event : Event) (sends : List Message) (marks : List Mark) → IsConsistentNode old → IsForThisNode old event → NodeEvent old event sends marks new → IsConsistentNode new
    event_kept old new (Ask client name mode) sends marks h for event =
        let here = h.each name in
        let turn = event.turn in
        subst IsConsistentNode (sym event.new_is) (with_kept old name event.resource h
        (ask_kept old.me old.nodes name old.start (resource_at old name) client mode sends marks event.resource turn
        (asked (resource_at old name) client mode sends marks event.resource turn here.state) here))
    event_kept old new (Leave client name) sends marks h for event =
        let here = h.each name in
        let turn = event.turn in
        subst IsConsistentNode (sym event.new_is) (with_kept old name event.resource h
        (leave_kept old.me old.nodes name old.start (resource_at old name) client sends marks event.resource turn
        (left (resource_at old name) client sends marks event.resource turn here.state) here))
    event_kept old new (Cancel client name) sends marks h for event =
        let here = h.each name in
        let turn = event.turn in
        subst IsConsistentNode (sym event.new_is) (with_kept old name event.resource h
        (cancel_kept old.me old.nodes name old.start (resource_at old name) client sends marks event.resource turn
        (cancelled (resource_at old name) client sends marks event.resource turn here.state) here))
    event_kept old new Forget sends marks h for event = forget_kept old new sends marks h event
    event_kept old new (Receive message) sends marks h for event =
        let name = name_of message in
        let here = h.each name in
        let turn = event.turn in
        let state = receive (resource_at old name).state event.resource.state message sends turn.entered here.state
        (addressed old message (resource_at old name).state here.me_is here.nodes_is for).from turn.step in
        update_kept old new name event.resource (receive_updates old new message sends marks event) h
        (receive_kept old.me old.nodes name old.start (resource_at old name) message sends marks event.resource turn state here)

-- the same, by what the crate of the automaton proves of each step
pub node_kept : (old new : NodeState) (event : Event) (sends : List Message) (marks : List Mark) → IsConsistentNode old → IsForThisNode old event → NodeEvent old event sends marks new → IsConsistentNode new
node_kept =
    event_kept (λ old new mode sends entered. consistent_request old mode sends entered new)
    (λ old new message sends entered. consistent_receive old message sends entered new)
    (λ old new sends. consistent_leave old sends new)
    (λ old new sends. consistent_withdraw old sends new)

-- ---- What an event sends and marks

-- a send, with what is known of its number
abbrev HasNumber : Event → Message → Type 0
HasNumber (Ask client name mode) m = 1 ≤ seq_of m
HasNumber (Leave client name) m = 1 ≤ seq_of m
HasNumber (Cancel client name) m = 1 ≤ seq_of m
HasNumber (Receive message) m = seq_of m ≡ seq_of message
HasNumber Forget m = 1 ≤ seq_of m

event_sends_all : (old new : NodeState) (event : Event) (sends : List Message) (marks : List Mark) → IsConsistentNode old → IsForThisNode old event → NodeEvent old event sends marks new
    → All (λ m. IsSend old.me old.nodes (name_of_event event) m × HasNumber event m) sends
event_sends_all old new (Ask client name mode) sends marks h for event = ask_event_sends old client name mode sends marks new h event
event_sends_all old new (Leave client name) sends marks h for event = leave_event_sends old client name sends marks new h event
event_sends_all old new (Cancel client name) sends marks h for event = cancel_event_sends old client name sends marks new h event
event_sends_all old new Forget sends marks h for event =
    subst (λ (ms : List Message). All (λ m. IsSend old.me old.nodes [] m × (1 ≤ seq_of m)) ms) (sym event.sends_are) (All-nil (λ m. IsSend old.me old.nodes [] m × (1 ≤ seq_of m)))
event_sends_all old new (Receive message) sends marks h for event = receive_event_sends old message sends marks new h for event

pub event_sends : (old new : NodeState) (event : Event) (sends : List Message) (marks : List Mark) → IsConsistentNode old → IsForThisNode old event → NodeEvent old event sends marks new
    → All (IsSend old.me old.nodes (name_of_event event)) sends
event_sends old new event sends marks h for happens =
    All-weaker (λ m. IsSend old.me old.nodes (name_of_event event) m × HasNumber event m) (IsSend old.me old.nodes (name_of_event event)) (λ m is. is.0) sends
    (event_sends_all old new event sends marks h for happens)

has_number : (event : Event) (m : Message) → HasNumber event m → ((message : Message) → event ≡ Receive message → 1 ≤ seq_of message) → 1 ≤ seq_of m
has_number (Ask client name mode) m is came = is
has_number (Leave client name) m is came = is
has_number (Cancel client name) m is came = is
has_number Forget m is came = is
has_number (Receive message) m is came = subst (λ (n : ℕ). 1 ≤ n) (sym is) (came message refl)

pub event_numbers : (old new : NodeState) (event : Event) (sends : List Message) (marks : List Mark) → IsConsistentNode old → IsForThisNode old event → NodeEvent old event sends marks new
    → ((message : Message) → event ≡ Receive message → 1 ≤ seq_of message) → All (λ m. 1 ≤ seq_of m) sends
event_numbers old new event sends marks h for happens came =
    All-weaker (λ m. IsSend old.me old.nodes (name_of_event event) m × HasNumber event m) (λ m. 1 ≤ seq_of m) (λ m is. has_number event m is.1 came) sends
    (event_sends_all old new event sends marks h for happens)

pub event_answers : (old new : NodeState) (message : Message) (sends : List Message) (marks : List Mark) → IsConsistentNode old → IsForThisNode old (Receive message)
    → NodeEvent old (Receive message) sends marks new → All (λ m. seq_of m ≡ seq_of message) sends
event_answers old new message sends marks h for event =
    All-weaker (λ m. IsSend old.me old.nodes (name_of message) m × (seq_of m ≡ seq_of message)) (λ m. seq_of m ≡ seq_of message) (λ m is. is.1) sends
    (receive_event_sends old message sends marks new h for event)

pub event_room : (old new : NodeState) (event : Event) (sends : List Message) (marks : List Mark) → IsConsistentNode old → NodeEvent old event sends marks new
    → (length sends ≤ sends_at_most old.nodes event) × (length marks ≤ marks_at_most event)
event_room old new (Ask client name mode) sends marks h event = ask_event_room old client name mode sends marks new h event
event_room old new (Leave client name) sends marks h event = leave_event_room old client name sends marks new h event
event_room old new (Cancel client name) sends marks h event = cancel_event_room old client name sends marks new h event
event_room old new Forget sends marks h event = (omega (arith, ap length event.sends_are), omega (arith, ap length event.marks_are))
event_room old new (Receive message) sends marks h event = receive_event_room old message sends marks new event

pub event_marks : (old new : NodeState) (event : Event) (sends : List Message) (marks : List Mark) → IsConsistentNode old → IsConsistentNode new → NodeEvent old event sends marks new
    → All (IsMark old.me (name_of_event event)) marks
event_marks old new (Ask client name mode) sends marks h after event = ask_event_marks old client name mode sends marks new h event
event_marks old new (Leave client name) sends marks h after event = leave_event_marks old client name sends marks new h event
event_marks old new (Cancel client name) sends marks h after event = cancel_event_marks old client name sends marks new h event
event_marks old new Forget sends marks h after event = subst (λ (ms : List Mark). All (IsMark old.me []) ms) (sym event.marks_are) (All-nil (IsMark old.me []))
event_marks old new (Receive message) sends marks h after event = receive_event_marks old message sends marks new h after event

pub event_leads : (old new : NodeState) (event : Event) (sends : List Message) (marks : List Mark) → NodeEvent old event sends marks new
    → MarksLead (use_of (resource_at old (name_of_event event))) marks (use_of (resource_at new (name_of_event event)))
event_leads old new (Ask client name mode) sends marks event = ask_event_leads old client name mode sends marks new event
event_leads old new (Leave client name) sends marks event = leave_event_leads old client name sends marks new event
event_leads old new (Cancel client name) sends marks event = cancel_event_leads old client name sends marks new event
event_leads old new Forget sends marks event =
    subst (λ (ms : List Mark). MarksLead (use_of (resource_at old [])) ms (use_of (resource_at new []))) (sym event.marks_are) (forget_uses old new sends marks event [])
event_leads old new (Receive message) sends marks event = receive_event_leads old message sends marks new event
