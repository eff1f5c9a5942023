-- Each request that is made sends a REQUEST to each other node, which is then under way, delivered or lost.
use Rattle.std.proofs.Common.{◌≡◌, ◌⊎◌, ℕ, zero, suc, ◌+◌, Bool, true, false, List, [], ◌∷◌, All, Contains, map, refl, sym, ap, ◌∙◌, subst, arith, inl, inr}
use Rattle.std.proofs.lemmas.List.Elements.{All-nil, All-cons, All-same, All-contains, All-contains_itself, Contains-append_left, Contains-append_right, Contains-append_cases}
use Rattle.ra_stamp.specs.declared.entry.Entry.{Entry}
use Rattle.ra_stamp.specs.declared.entry.Mark.{Mark}
use Rattle.ra_stamp.specs.declared.entry.Mark.TheVariants.{Requested, Entered, Left, Withdrawn}
use Rattle.ra_stamp.specs.declared.message.Message.{Message}
use Rattle.ra_stamp.specs.declared.message.Message.TheVariants.{Request}
use Rattle.ra_stamp.specs.declared.mode.Mode.{Mode}
use Rattle.ra_stamp.specs.Message.{name_of}
use Rattle.ra_automaton.specs.State.{State, IsOtherNode}
use Rattle.ra_automaton.specs.Steps.{others_of, RequestStep}
use Rattle.ra_node.proofs.Endings.{AreEnded, leaves_ended, withdraws_ended}
use Rattle.ra_node.specs.Resource.{Resource}
use Rattle.ra_node.specs.Turns.{request_marks, next_entry, EntersBy, AskTurn, Leaves, Withdraws, EndTurn, LeaveTurn, CancelTurn, ReceiveTurn}
use Rattle.ra_node.specs.Node.{NodeState, resource_at, IsConsistentNode}
use Rattle.ra_node.specs.Events.{Event, NodeEvent}
use Rattle.ra_node.specs.Events.{Event as acts}
use Rattle.ra_world.specs.declared.step.Step.{Step}
use Rattle.ra_world.specs.declared.step.Step.TheVariants.{Ask, Leave, Cancel, Deliver, Lose, Repeat, Forget}
use Rattle.ra_world.specs.Fairness.{request_to}
use Rattle.ra_world.specs.Traffic.{Move, TakesEach, sent_by, taken_in, taken_by, lost_in, lost_by, repeated_in, put_in, put_by}
use Rattle.ra_world.proofs.Dialogs.{belongs, between, requests_to_one}
use Rattle.ra_world.proofs.Exchanges.{taken_or_left}
use Rattle.ra_world.proofs.Lists.{All-filter}

-- ---- What a request sends

-- if the mark is a request, a REQUEST of it to each other one of n nodes is among the messages
abbrev pub IsSentIn : ℕ → List Message → Mark → Type 0
IsSentIn n sends (Requested e) = (node : ℕ) → IsOtherNode e.stamp.node n node → Contains sends (request_to node e)
IsSentIn n sends (Entered e) = Unit {0}
IsSentIn n sends (Left e) = Unit {0}
IsSentIn n sends (Withdrawn e) = Unit {0}

pub more_sent : (n : ℕ) (fewer more : List Message) → ((m : Message) → Contains fewer m → Contains more m) → (mark : Mark) → IsSentIn n fewer mark → IsSentIn n more mark
more_sent n fewer more still (Requested e) sent = λ node other. still (request_to node e) (sent node other)
more_sent n fewer more still (Entered e) sent = tt
more_sent n fewer more still (Left e) sent = tt
more_sent n fewer more still (Withdrawn e) sent = tt

sent_to_one : (p node n : ℕ) (r : List ℕ) (mode : Mode) (seq : ℕ) → IsOtherNode p n node → Contains (map (λ o. Request p o r mode seq) (others_of p n)) (Request p node r mode seq)
sent_to_one p node n r mode seq other =
    let all = map (λ o. Request p o r mode seq) (others_of p n) in
    let one : between r p node all ≡ Request p node r mode seq ∷ [] = requests_to_one r p node n mode seq other.first other.last other.other in
    All-contains (Contains all) (between r p node all) (Request p node r mode seq) (All-filter (Contains all) (belongs r p node) all (All-contains_itself all))
    (subst (λ (ms : List Message). Contains ms (Request p node r mode seq)) (sym one) (0, omega arith, refl))

asked_all : (n : ℕ) (r : Resource) (client : ℕ) (mode : Mode) (sends : List Message) (entered : Bool) (new : State) → r.state.nodes ≡ n → RequestStep r.state mode sends entered new
    → IsSentIn n sends (Requested (next_entry r client mode))
asked_all n r client mode sends entered new nodes step node other =
    let s = r.state in
    subst (λ (ms : List Message). Contains ms (Request s.me node s.name mode (s.highest + 1))) (sym step.sends_are)
    (sent_to_one s.me node s.nodes s.name mode (s.highest + 1) (subst (λ (k : ℕ). IsOtherNode s.me k node) (sym nodes) other))

marks_sent : (n : ℕ) (sends : List Message) (e : Entry) (entered : Bool) → IsSentIn n sends (Requested e) → All (IsSentIn n sends) (request_marks entered e)
marks_sent n sends e false sent = All-cons (IsSentIn n sends) (Requested e) [] sent (All-nil (IsSentIn n sends))
marks_sent n sends e true sent = All-cons (IsSentIn n sends) (Requested e) (Entered e ∷ []) sent (All-cons (IsSentIn n sends) (Entered e) [] tt (All-nil (IsSentIn n sends)))

module _ (n : ℕ) (before after : Resource) (sends : List Message) (marks : List Mark) (nodes : before.state.nodes ≡ n) where
  ask_sent : (client : ℕ) (mode : Mode) → AskTurn before client mode sends marks after → All (IsSentIn n sends) marks
  ask_sent client mode turn = elim turn.1 [
    | inl asks ↦
        let e = next_entry before client mode in
        All-same (IsSentIn n sends) marks (request_marks asks.entered e) asks.marks_are (marks_sent n sends e asks.entered (asked_all n before client mode sends asks.entered after.state nodes asks.step))
    | inr queues ↦ All-same (IsSentIn n sends) marks [] queues.marks_are (All-nil (IsSentIn n sends))
  ]

  end_sent : (Ends : Entry → List Message → Resource → Type 0) (mark : Entry → Mark) (ended : AreEnded before Ends) → ((e : Entry) → IsSentIn n sends (mark e)) → EndTurn Ends mark before sends marks after → All (IsSentIn n sends) marks
  end_sent Ends mark ended none turn = elim turn [
    | inl nobody ↦ All-same (IsSentIn n sends) marks (mark nobody.entry ∷ []) nobody.marks_are (All-cons (IsSentIn n sends) (mark nobody.entry) [] (none nobody.entry) (All-nil (IsSentIn n sends)))
    | inr hands ↦
        let r = record hands.between { queue = hands.rest } in
        let e = next_entry r hands.next.client hands.next.mode in
        let step = (ended hands.entry hands.replies hands.between hands.ends).step in
        let asked = asked_all n r hands.next.client hands.next.mode hands.requests hands.asks.entered after.state (step.nodes_is ∙ nodes) hands.asks.step in
        let among = more_sent n hands.requests sends (λ m at. subst (λ (ms : List Message). Contains ms m) (sym hands.sends_are) (Contains-append_right hands.replies hands.requests m at)) (Requested e) asked in
        All-same (IsSentIn n sends) marks (mark hands.entry ∷ request_marks hands.asks.entered e) (hands.marks_are ∙ ap (λ (ms : List Mark). mark hands.entry ∷ ms) hands.asks.marks_are)
        (All-cons (IsSentIn n sends) (mark hands.entry) (request_marks hands.asks.entered e) (none hands.entry) (marks_sent n sends e hands.asks.entered among))
  ]

  leave_sent : (client : ℕ) → LeaveTurn before client sends marks after → All (IsSentIn n sends) marks
  leave_sent client turn = end_sent (Leaves before client) Left (leaves_ended before client) (λ e. tt) turn

  cancel_sent : (client : ℕ) → CancelTurn before client sends marks after → All (IsSentIn n sends) marks
  cancel_sent client turn = elim turn [
    | inl goes ↦ All-same (IsSentIn n sends) marks [] goes.marks_are (All-nil (IsSentIn n sends))
    | inr ends ↦ end_sent (Withdraws before client) Withdrawn (withdraws_ended before client) (λ e. tt) ends
  ]

  receive_sent : (m : Message) → ReceiveTurn before m sends marks after → All (IsSentIn n sends) marks
  receive_sent m turn = entered_sent turn.entered turn.enters
    where
      entered_sent : (entered : Bool) → EntersBy entered after marks → All (IsSentIn n sends) marks
      entered_sent false enters = All-same (IsSentIn n sends) marks [] enters (All-nil (IsSentIn n sends))
      entered_sent true enters = All-same (IsSentIn n sends) marks (Entered enters.0 ∷ []) enters.2 (All-cons (IsSentIn n sends) (Entered enters.0) [] tt (All-nil (IsSentIn n sends)))

pub event_sent : (n : ℕ) (old new : NodeState) (event : Event) (sends : List Message) (marks : List Mark) → IsConsistentNode old → old.nodes ≡ n → NodeEvent old event sends marks new → All (IsSentIn n sends) marks
event_sent n old new (acts.Ask client name mode) sends marks consistent nodes asked =
    ask_sent n (resource_at old name) asked.resource sends marks ((consistent.each name).nodes_is ∙ nodes) client mode asked.turn
event_sent n old new (acts.Leave client name) sends marks consistent nodes left =
    leave_sent n (resource_at old name) left.resource sends marks ((consistent.each name).nodes_is ∙ nodes) client left.turn
event_sent n old new (acts.Cancel client name) sends marks consistent nodes cancelled =
    cancel_sent n (resource_at old name) cancelled.resource sends marks ((consistent.each name).nodes_is ∙ nodes) client cancelled.turn
event_sent n old new acts.Forget sends marks consistent nodes forgot = All-same (IsSentIn n sends) marks [] forgot.marks_are (All-nil (IsSentIn n sends))
event_sent n old new (acts.Receive message) sends marks consistent nodes received =
    receive_sent n (resource_at old (name_of message)) received.resource sends marks ((consistent.each (name_of message)).nodes_is ∙ nodes) message received.turn

-- ---- What happens to a message that was sent

pub sent_is_put : (moves : List Move) (m : Message) → Contains (sent_by moves) m → Contains (put_by moves) m
sent_is_put [] m at = at
sent_is_put (move ∷ moves) m at = elim (Contains-append_cases move.sends (sent_by moves) m at) [
  | inl here ↦ Contains-append_left (put_in move) (put_by moves) m (Contains-append_left move.sends (repeated_in move.step) m here)
  | inr later ↦ Contains-append_right (put_in move) (put_by moves) m (sent_is_put moves m later)
]

pub taken_or_there : (old taken new : List Message) (m : Message) → TakesEach old taken new → Contains old m → Contains taken m ⊎ Contains new m
taken_or_there old [] new m takes at = inr (subst (λ (ms : List Message). Contains ms m) (sym takes) at)
taken_or_there old (x ∷ taken) new m (next, first, rest) at = elim (taken_or_left old x next m first at) [
  | inl is ↦ inl (0, omega arith, is)
  | inr there ↦ elim (taken_or_there next taken new m rest there) [
    | inl later ↦ inl (suc later.0, omega (arith, later.1), later.2)
    | inr left ↦ inr left
  ]
]

taken_in_step : (step : Step) (m : Message) → Contains (taken_in step) m → (step ≡ Deliver m) ⊎ Contains (lost_in step) m
taken_in_step (Ask node client name mode) m at = absurd (omega (arith, at.1))
taken_in_step (Leave node client name) m at = absurd (omega (arith, at.1))
taken_in_step (Cancel node client name) m at = absurd (omega (arith, at.1))
taken_in_step (Forget node) m at = absurd (omega (arith, at.1))
taken_in_step (Deliver message) m (zero, lt, is) = inl (ap (λ (x : Message). Deliver x) is)
taken_in_step (Deliver message) m (suc k, lt, is) = absurd (omega (arith, lt))
taken_in_step (Lose message) m at = inr at
taken_in_step (Repeat message) m at = absurd (omega (arith, at.1))

pub delivered_or_lost : (moves : List Move) (m : Message) → Contains (taken_by moves) m → Contains (map (λ move. move.step) moves) (Deliver m) ⊎ Contains (lost_by moves) m
delivered_or_lost [] m at = absurd (omega (arith, at.1))
delivered_or_lost (move ∷ moves) m at = elim (Contains-append_cases (taken_in move.step) (taken_by moves) m at) [
  | inl here ↦ elim (taken_in_step move.step m here) [
    | inl is ↦ inl (0, omega arith, is)
    | inr lost ↦ inr (Contains-append_left (lost_in move.step) (lost_by moves) m lost)
  ]
  | inr later ↦ elim (delivered_or_lost moves m later) [
    | inl at' ↦ inl (suc at'.0, omega (arith, at'.1), at'.2)
    | inr lost ↦ inr (Contains-append_right (lost_in move.step) (lost_by moves) m lost)
  ]
]
