-- What one event requests: one request at most, whose number its node has met then.
use Rattle.std.proofs.Common.{◌≡◌, ℕ, ◌+◌, ◌≤◌, Bool, true, false, List, [], ◌∷◌, All, sym, ap, subst, arith, inl, inr}
use Rattle.std.proofs.lemmas.List.Elements.{All-nil, All-cons, All-same}
use Rattle.ra_stamp.specs.declared.entry.Entry.{Entry}
use Rattle.ra_stamp.specs.declared.entry.Mark.{Mark}
use Rattle.ra_stamp.specs.declared.entry.Mark.TheVariants.{Requested, Entered, Left, Withdrawn}
use Rattle.ra_stamp.specs.declared.message.Message.{Message}
use Rattle.ra_stamp.specs.declared.mode.Mode.{Mode}
use Rattle.ra_stamp.specs.Message.{name_of}
use Rattle.ra_automaton.specs.State.{State}
use Rattle.ra_automaton.specs.Steps.{RequestStep}
use Rattle.ra_node.specs.Resource.{Resource}
use Rattle.ra_node.specs.Turns.{request_marks, next_entry, EntersBy, AskTurn, Leaves, Withdraws, EndTurn, LeaveTurn, CancelTurn, ReceiveTurn}
use Rattle.ra_node.specs.Node.{NodeState, resource_at}
use Rattle.ra_node.specs.Events.{Event, name_of_event, NodeEvent}
use Rattle.ra_node.specs.Events.{Event as acts}
use Rattle.ra_node.proofs.Endings.{AreEnded, leaves_ended, withdraws_ended}
use Rattle.ra_node.proofs.HandOverStep.{handed_step, handed_marks}
use Rattle.ra_node.proofs.Updates.{updated_here}
use Rattle.ra_table.proofs.Apart.{Apart}
use Rattle.ra_world.proofs.Overtaking.{IsAbove}

-- after a request, each request of the same node on the same name has a greater number
abbrev pub Rises : Mark → Mark → Type 0
Rises (Requested e) mark = IsAbove (λ i. i ≡ e.stamp.node) e mark
Rises (Entered e) mark = Unit {0}
Rises (Left e) mark = Unit {0}
Rises (Withdrawn e) mark = Unit {0}

-- the resource has met the number of a request
abbrev pub IsMetIn : Resource → Mark → Type 0
IsMetIn r (Requested e) = e.stamp.seq ≤ r.state.highest
IsMetIn r (Entered e) = Unit {0}
IsMetIn r (Left e) = Unit {0}
IsMetIn r (Withdrawn e) = Unit {0}

-- ---- The marks of a request

requested_apart : (entered : Bool) (e : Entry) → Apart Rises (request_marks entered e)
requested_apart false e = (All-nil (Rises (Requested e)), tt)
requested_apart true e = (All-cons (Rises (Requested e)) (Entered e) [] tt (All-nil (Rises (Requested e))), (All-nil (Rises (Entered e)), tt))

requested_met : (r : Resource) (entered : Bool) (e : Entry) → e.stamp.seq ≤ r.state.highest → All (IsMetIn r) (request_marks entered e)
requested_met r false e met = All-cons (IsMetIn r) (Requested e) [] met (All-nil (IsMetIn r))
requested_met r true e met = All-cons (IsMetIn r) (Requested e) (Entered e ∷ []) met (All-cons (IsMetIn r) (Entered e) [] tt (All-nil (IsMetIn r)))

request_reaches : (old new : State) (mode : Mode) (sends : List Message) (entered : Bool) → RequestStep old mode sends entered new → old.highest + 1 ≤ new.highest
request_reaches old new mode sends entered step = elim step.begins [
  | inl asks ↦ omega (arith, ap (λ (x : State). x.highest) asks.new_is)
  | inr alone ↦ omega (arith, ap (λ (x : State). x.highest) alone.new_is)
]

-- ---- The marks of a turn

module _ (before after : Resource) (sends : List Message) (marks : List Mark) where
  ask_apart : (client : ℕ) (mode : Mode) → AskTurn before client mode sends marks after → Apart Rises marks
  ask_apart client mode turn = elim turn.1 [
    | inl asks ↦ subst (Apart Rises) (sym asks.marks_are) (requested_apart asks.entered (next_entry before client mode))
    | inr queues ↦ subst (Apart Rises) (sym queues.marks_are) tt
  ]

  ask_met : (client : ℕ) (mode : Mode) → AskTurn before client mode sends marks after → All (IsMetIn after) marks
  ask_met client mode turn = elim turn.1 [
    | inl asks ↦
        All-same (IsMetIn after) marks (request_marks asks.entered (next_entry before client mode)) asks.marks_are
        (requested_met after asks.entered (next_entry before client mode) (request_reaches before.state after.state mode sends asks.entered asks.step))
    | inr queues ↦ All-same (IsMetIn after) marks [] queues.marks_are (All-nil (IsMetIn after))
  ]

  module _ (Ends : Entry → List Message → Resource → Type 0) (mark : Entry → Mark) (ended : AreEnded before Ends) where
    end_apart : ((x : Entry) (ms : List Mark) → All (Rises (mark x)) ms) → EndTurn Ends mark before sends marks after → Apart Rises marks
    end_apart free turn = elim turn [
      | inl nobody ↦ subst (Apart Rises) (sym nobody.marks_are) (free nobody.entry [], tt)
      | inr hands ↦
          let asked = request_marks hands.asks.entered (next_entry before hands.next.client hands.next.mode) in
          subst (Apart Rises) (sym (handed_marks Ends mark before ended sends marks after hands))
          (free hands.entry asked, requested_apart hands.asks.entered (next_entry before hands.next.client hands.next.mode))
    ]

    end_met : ((x : Entry) → IsMetIn after (mark x)) → EndTurn Ends mark before sends marks after → All (IsMetIn after) marks
    end_met free turn = elim turn [
      | inl nobody ↦ All-same (IsMetIn after) marks (mark nobody.entry ∷ []) nobody.marks_are (All-cons (IsMetIn after) (mark nobody.entry) [] (free nobody.entry) (All-nil (IsMetIn after)))
      | inr hands ↦
          let e = next_entry before hands.next.client hands.next.mode in
          let step = handed_step Ends mark before ended sends marks after hands in
          let reached : e.stamp.seq ≤ after.state.highest =
          omega (arith, step.ends.highest_is, request_reaches step.between after.state hands.next.mode step.requests hands.asks.entered step.asks)
          in
          All-same (IsMetIn after) marks (mark hands.entry ∷ request_marks hands.asks.entered e) (handed_marks Ends mark before ended sends marks after hands)
          (All-cons (IsMetIn after) (mark hands.entry) (request_marks hands.asks.entered e) (free hands.entry) (requested_met after hands.asks.entered e reached))
    ]

  leave_apart : (client : ℕ) → LeaveTurn before client sends marks after → Apart Rises marks
  leave_apart client turn = end_apart (Leaves before client) Left (leaves_ended before client) (λ x ms k d lt. tt) turn

  leave_met : (client : ℕ) → LeaveTurn before client sends marks after → All (IsMetIn after) marks
  leave_met client turn = end_met (Leaves before client) Left (leaves_ended before client) (λ x. tt) turn

  cancel_apart : (client : ℕ) → CancelTurn before client sends marks after → Apart Rises marks
  cancel_apart client turn = elim turn [
    | inl goes ↦ subst (Apart Rises) (sym goes.marks_are) tt
    | inr ends ↦ end_apart (Withdraws before client) Withdrawn (withdraws_ended before client) (λ x ms k d lt. tt) ends
  ]

  cancel_met : (client : ℕ) → CancelTurn before client sends marks after → All (IsMetIn after) marks
  cancel_met client turn = elim turn [
    | inl goes ↦ All-same (IsMetIn after) marks [] goes.marks_are (All-nil (IsMetIn after))
    | inr ends ↦ end_met (Withdraws before client) Withdrawn (withdraws_ended before client) (λ x. tt) ends
  ]

  receive_apart : (m : Message) → ReceiveTurn before m sends marks after → Apart Rises marks
  receive_apart m turn = entered_apart turn.entered turn.enters
    where
      entered_apart : (entered : Bool) → EntersBy entered after marks → Apart Rises marks
      entered_apart false enters = subst (Apart Rises) (sym enters) tt
      entered_apart true enters = subst (Apart Rises) (sym enters.2) (All-nil (Rises (Entered enters.0)), tt)

  receive_met : (r : Resource) (m : Message) → ReceiveTurn before m sends marks after → All (IsMetIn r) marks
  receive_met r m turn = entered_met turn.entered turn.enters
    where
      entered_met : (entered : Bool) → EntersBy entered after marks → All (IsMetIn r) marks
      entered_met false enters = All-same (IsMetIn r) marks [] enters (All-nil (IsMetIn r))
      entered_met true enters = All-same (IsMetIn r) marks (Entered enters.0 ∷ []) enters.2 (All-cons (IsMetIn r) (Entered enters.0) [] tt (All-nil (IsMetIn r)))

-- ---- The marks of an event

pub event_apart : (old new : NodeState) (event : Event) (sends : List Message) (marks : List Mark) → NodeEvent old event sends marks new → Apart Rises marks
event_apart old new (acts.Ask client name mode) sends marks event = ask_apart (resource_at old name) event.resource sends marks client mode event.turn
event_apart old new (acts.Leave client name) sends marks event = leave_apart (resource_at old name) event.resource sends marks client event.turn
event_apart old new (acts.Cancel client name) sends marks event = cancel_apart (resource_at old name) event.resource sends marks client event.turn
event_apart old new (acts.Receive message) sends marks event = receive_apart (resource_at old (name_of message)) event.resource sends marks message event.turn
event_apart old new acts.Forget sends marks event = subst (Apart Rises) (sym event.marks_are) tt

pub event_met : (old new : NodeState) (event : Event) (sends : List Message) (marks : List Mark) → NodeEvent old event sends marks new
    → All (IsMetIn (resource_at new (name_of_event event))) marks
event_met old new (acts.Ask client name mode) sends marks event =
    subst (λ (r : Resource). All (IsMetIn r) marks) (sym (updated_here old new name event.resource (inr event.new_is))) (ask_met (resource_at old name) event.resource sends marks client mode event.turn)
event_met old new (acts.Leave client name) sends marks event =
    subst (λ (r : Resource). All (IsMetIn r) marks) (sym (updated_here old new name event.resource (inr event.new_is))) (leave_met (resource_at old name) event.resource sends marks client event.turn)
event_met old new (acts.Cancel client name) sends marks event =
    subst (λ (r : Resource). All (IsMetIn r) marks) (sym (updated_here old new name event.resource (inr event.new_is))) (cancel_met (resource_at old name) event.resource sends marks client event.turn)
event_met old new (acts.Receive message) sends marks event =
    receive_met (resource_at old (name_of message)) event.resource sends marks (resource_at new (name_of message)) message event.turn
event_met old new acts.Forget sends marks event = All-same (IsMetIn (resource_at new [])) marks [] event.marks_are (All-nil (IsMetIn (resource_at new [])))
