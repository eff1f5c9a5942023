-- An event at a node and its clock.
use Rattle.std.proofs.Common.{◌≡◌, ◌⊎◌, ◌↔◌, ℕ, ◌≤◌, ◌^◌, inl, inr, List, [], Result, Ok, Err, refl, sym, subst, ◌∙◌, arith}
use Rattle.std.specs.Prelude.{IsErrAnd, IsErrOf, IsOkUnless, MatchResult}
use Rattle.ra_stamp.specs.declared.entry.Mark.{Mark}
use Rattle.ra_stamp.specs.declared.message.Message.{Message}
use Rattle.ra_stamp.specs.declared.mode.Mode.{Mode}
use Rattle.ra_stamp.specs.Message.{seq_of}
use Rattle.ra_automaton.specs.Calls.{ChecksAddress}
use Rattle.ra_automaton.specs.State.{IsForNode}
use Rattle.ra_automaton.specs.declared.error.ReceiveError.{ReceiveError}
use Rattle.ra_automaton.specs.declared.error.ReceiveError.TheVariants as receive
use Rattle.ra_frame.specs.declared.frame.Frame.{Frame}
use Rattle.ra_node.specs.declared.error.AskError.{AskError}
use Rattle.ra_node.specs.declared.error.AskError.TheVariants as ask
use Rattle.ra_node.specs.declared.error.CancelError.{CancelError}
use Rattle.ra_node.specs.declared.error.CancelError.TheVariants as cancel
use Rattle.ra_node.specs.declared.error.LeaveError.{LeaveError}
use Rattle.ra_node.specs.declared.error.LeaveError.TheVariants as leave
use Rattle.ra_node.specs.declared.outcome.Outcome.{Outcome}
use Rattle.ra_node.specs.Calls.{AnswersLeave, AnswersCancel}
use Rattle.ra_node.specs.Faults.{IsAskRefusal}
use Rattle.ra_node.specs.Turns.{MayAsk}
use Rattle.ra_node.specs.Node.{NodeState, IsConsistentNode, resource_at}
use Rattle.ra_node.specs.Events.{ForgetEvent, NodeEvent, IsForThisNode}
use Rattle.ra_node.specs.Events.Event.{Receive}
use Rattle.ra_node.proofs.EventsKept.{event_sends, event_numbers}
use Rattle.ra_book.specs.declared.error.BookError.{BookError}
use Rattle.ra_book.specs.declared.error.BookError.TheVariants.{Memory}
use Rattle.ra_book.specs.declared.book.event.BookKind.{BookKind}
use Rattle.ra_book.specs.declared.book.event.BookKind.TheVariants as kinds
use Rattle.ra_book.specs.EventChecks.{MayTake, NodeRefuses}
use Rattle.ra_book.specs.History.{node_event, clock_after}
use Rattle.ra_book.specs.Refused.{refusal_of_ask, refusal_of_leave, refusal_of_cancel, refusal_of_receive}
use Rattle.ra_book.specs.Timed.{Timed, Takes, CanCome, FitAt, Refuses}

-- ---- An event that does not happen

-- the node does not take it, or there is no memory for it
abbrev Denies : NodeState → BookKind → BookError → Type 0
Denies node kind why = NodeRefuses node kind why ⊎ ((why ≡ Memory) × MayTake node kind)

asked : (node : NodeState) (client : ℕ) (name : List ℕ) (mode : Mode) (e : AskError)
    → IsErrOf {T = Outcome} (Err e) ask.Busy ↔ IsAskRefusal (resource_at node name) client ask.Busy
    → IsErrOf {T = Outcome} (Err e) ask.Exhausted ↔ IsAskRefusal (resource_at node name) client ask.Exhausted
    → IsOkUnless {T = Outcome} (Err e) ask.Memory ↔ MayAsk (resource_at node name) client → Denies node (kinds.Ask client name mode) (refusal_of_ask e)
asked node client name mode ask.Busy busy exhausted allowed = inl (inl (refl, busy.0 refl))
asked node client name mode ask.Exhausted busy exhausted allowed = let is = exhausted.0 refl in inl (inr (refl, is.0, is.1))
asked node client name mode ask.Memory busy exhausted allowed = inr (refl, allowed.0 refl)

left : (node new : NodeState) (client : ℕ) (name : List ℕ) (e : LeaveError) → AnswersLeave node client name (Err e) new
    → Denies node (kinds.Leave client name) (refusal_of_leave e)
left node new client name leave.NotHeld answers = inl (refl, answers.not_held.0 refl)
left node new client name leave.Memory answers = inr (refl, answers.allowed.0 refl)

cancelled : (node new : NodeState) (client : ℕ) (name : List ℕ) (e : CancelError) → AnswersCancel node client name (Err e) new
    → Denies node (kinds.Cancel client name) (refusal_of_cancel e)
cancelled node new client name cancel.NotWaiting answers = inl (refl, answers.not_waiting.0 refl)
cancelled node new client name cancel.Memory answers = inr (refl, answers.allowed.0 refl)

received : (node : NodeState) (frame : Frame) (e : ReceiveError) → ChecksAddress {T = Outcome} node.me node.nodes frame.message (Err e)
    → IsOkUnless {T = Outcome} (Err e) receive.Memory ↔ IsForNode node.me node.nodes frame.message → Denies node (kinds.Receive frame) (refusal_of_receive e)
received node frame receive.WrongNode address allowed = inl (inl (refl, address.wrong_node.0 refl))
received node frame receive.Stranger address allowed = let is = address.stranger.0 refl in inl (inr (refl, is.0, is.1))
received node frame receive.Memory address allowed = inr (refl, allowed.0 refl)

-- the event is this one
module _ (node : NodeState) (kind : BookKind) where
  pub ask_denied : (client : ℕ) (name : List ℕ) (mode : Mode) → kind ≡ kinds.Ask client name mode → (e : AskError)
      → IsErrOf {T = Outcome} (Err e) ask.Busy ↔ IsAskRefusal (resource_at node name) client ask.Busy
      → IsErrOf {T = Outcome} (Err e) ask.Exhausted ↔ IsAskRefusal (resource_at node name) client ask.Exhausted
      → IsOkUnless {T = Outcome} (Err e) ask.Memory ↔ MayAsk (resource_at node name) client → Denies node kind (refusal_of_ask e)
  ask_denied client name mode is e busy exhausted allowed =
      subst (λ (k : BookKind). Denies node k (refusal_of_ask e)) (sym is) (asked node client name mode e busy exhausted allowed)

  pub leave_denied : (new : NodeState) (client : ℕ) (name : List ℕ) → kind ≡ kinds.Leave client name → (e : LeaveError) → AnswersLeave node client name (Err e) new
      → Denies node kind (refusal_of_leave e)
  leave_denied new client name is e answers = subst (λ (k : BookKind). Denies node k (refusal_of_leave e)) (sym is) (left node new client name e answers)

  pub cancel_denied : (new : NodeState) (client : ℕ) (name : List ℕ) → kind ≡ kinds.Cancel client name → (e : CancelError) → AnswersCancel node client name (Err e) new
      → Denies node kind (refusal_of_cancel e)
  cancel_denied new client name is e answers = subst (λ (k : BookKind). Denies node k (refusal_of_cancel e)) (sym is) (cancelled node new client name e answers)

  pub receive_denied : (frame : Frame) → kind ≡ kinds.Receive frame → (e : ReceiveError) → ChecksAddress {T = Outcome} node.me node.nodes frame.message (Err e)
      → IsOkUnless {T = Outcome} (Err e) receive.Memory ↔ IsForNode node.me node.nodes frame.message → Denies node kind (refusal_of_receive e)
  receive_denied frame is e address allowed = subst (λ (k : BookKind). Denies node k (refusal_of_receive e)) (sym is) (received node frame e address allowed)

-- ---- The answer

same_timed : (a b : Timed) → a.node ≡ b.node → a.clock ≡ b.clock → a ≡ b
same_timed a b n c = λ i. record { node = n i; clock = c i }

-- what a node and its clock answer to an event
abbrev pub AnswersTake : Timed → BookKind → Timed → Result Outcome BookError → Type 0
AnswersTake old kind new answer =
    MatchResult answer (λ outcome. Takes old kind outcome.sends.items outcome.marks.items new) (λ why. (new ≡ old) × Refuses old kind why)

module _ (now at : Timed) (kind : BookKind) (is : at ≡ now) where
  -- there is a clock for it, and it is refused for this cause
  pub denied : (new : NodeState) (why : BookError) → new ≡ at.node → Denies at.node kind why → clock_after at.clock kind ≤ 2 ^ 62
      → (r : Result Outcome BookError) → IsErrAnd r (λ x. x ≡ why) → AnswersTake now kind (record { node = new; clock = at.clock }) r
  denied new why same cause low (Ok outcome) h = absurd h
  denied new why same cause low (Err x) h =
      let refuses : Refuses at kind why =
      elim cause [
        | inl refused ↦ inl refused
        | inr memory ↦ inr (inr (memory.0, memory.1, low))
      ]
      in (
        same_timed (record { node = new; clock = at.clock }) at same refl ∙ is,
        subst (λ (t : Timed). Refuses t kind x) is (subst (Refuses at kind) (sym h) refuses),
      )

  -- the node takes it
  pub taken : (new : NodeState) (next : ℕ) (outcome : Outcome) → IsForThisNode at.node (node_event kind)
      → NodeEvent at.node (node_event kind) outcome.sends.items outcome.marks.items new
      → (next ≡ clock_after at.clock kind) × (next ≤ 2 ^ 62) → AnswersTake now kind (record { node = new; clock = next }) (Ok outcome)
  taken new next outcome for_it happens comes =
      subst (λ (t : Timed). Takes t kind outcome.sends.items outcome.marks.items (record { node = new; clock = next })) is
      (record { for_this_node = for_it; event = happens; clock_is = comes.0; has_clock = comes.1 })

-- the node takes the event, with this outcome
pub record NodeTakes (old : NodeState) (kind : BookKind) (outcome : Outcome) (new : NodeState) : Type 0 where
  pub for_it : IsForThisNode old (node_event kind)
  pub event : NodeEvent old (node_event kind) outcome.sends.items outcome.marks.items new

pub taken_by : (old : NodeState) (kind at_kind : BookKind) (outcome at_outcome : Outcome) (new at_new : NodeState) → kind ≡ at_kind → outcome ≡ at_outcome → new ≡ at_new
    → IsForThisNode old (node_event at_kind) → NodeEvent old (node_event at_kind) at_outcome.sends.items at_outcome.marks.items at_new → NodeTakes old kind outcome new
taken_by old kind at_kind outcome at_outcome new at_new k o n for_it event =
    let by_kind = subst (λ (x : BookKind). NodeEvent old (node_event x) at_outcome.sends.items at_outcome.marks.items at_new) (sym k) event in
    let by_outcome = subst (λ (x : Outcome). NodeEvent old (node_event kind) x.sends.items x.marks.items at_new) (sym o) by_kind in
    record {
      for_it = subst (λ (x : BookKind). IsForThisNode old (node_event x)) (sym k) for_it;
      event = subst (NodeEvent old (node_event kind) outcome.sends.items outcome.marks.items) (sym n) by_outcome;
    }

-- to forget sends and marks nothing, so it is the same event with lists that are empty
pub forgets_as : (old new : NodeState) (sends : List Message) (marks : List Mark) → sends ≡ [] → marks ≡ [] → ForgetEvent old [] [] new → ForgetEvent old sends marks new
forgets_as old new sends marks none nothing event =
    subst (λ (ms : List Message). ForgetEvent old ms marks new) (sym none) (subst (λ (ms : List Mark). ForgetEvent old [] ms new) (sym nothing) event)

-- ---- What is sent fits

-- a frame that comes has a number
numbered_by : (kind : BookKind) (message : Message) → CanCome kind → node_event kind ≡ Receive message → 1 ≤ seq_of message
numbered_by (kinds.Ask client name mode) message fits is = absurd (cc)
numbered_by (kinds.Leave client name) message fits is = absurd (cc)
numbered_by (kinds.Cancel client name) message fits is = absurd (cc)
numbered_by kinds.Forget message fits is = absurd (cc)
numbered_by (kinds.Receive frame) message fits is =
    let same : frame.message ≡ message = cc in
    subst (λ (m : Message). 1 ≤ seq_of m) same fits.seq

clock_rises : (clock : ℕ) (kind : BookKind) → 1 ≤ clock_after clock kind
clock_rises clock (kinds.Ask client name mode) = omega arith
clock_rises clock (kinds.Leave client name) = omega arith
clock_rises clock (kinds.Cancel client name) = omega arith
clock_rises clock kinds.Forget = omega arith
clock_rises clock (kinds.Receive frame) = omega arith

-- what is sent fits
fit : (old new : NodeState) (clock : ℕ) (kind : BookKind) (sends : List Message) (marks : List Mark)
    → IsConsistentNode old → IsForThisNode old (node_event kind) → NodeEvent old (node_event kind) sends marks new
    → CanCome kind → clock_after clock kind ≤ 2 ^ 62 → FitAt (clock_after clock kind) sends
fit old new clock kind sends marks consistent for_it happens fits low =
    let event = node_event kind in
    let to = event_sends old new event sends marks consistent for_it happens in
    let number = event_numbers old new event sends marks consistent for_it happens (λ message is. numbered_by kind message fits is) in
    λ k d lt.
    let send = to k d lt in
    record {
      clock = (clock_rises clock kind, low);
      seq = number k d lt;
      apart = λ same. send.to.other (sym same ∙ send.from);
    }

-- at the clock of the event
pub fit_at : (old new : NodeState) (clock next : ℕ) (kind : BookKind) (sends : List Message) (marks : List Mark)
    → IsConsistentNode old → IsForThisNode old (node_event kind) → NodeEvent old (node_event kind) sends marks new
    → CanCome kind → (next ≡ clock_after clock kind) × (next ≤ 2 ^ 62) → FitAt next sends
fit_at old new clock next kind sends marks consistent for_it happens can comes =
    subst (λ (k : ℕ). FitAt k sends) (sym comes.0)
    (fit old new clock kind sends marks consistent for_it happens can (subst (λ (k : ℕ). k ≤ 2 ^ 62) comes.0 comes.1))
