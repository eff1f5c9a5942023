-- A state and an event determine the outcome.
use Rattle.std.proofs.Common.{◌≡◌, ℕ, suc, ◌<◌, ◌≤◌, ◌⊎◌, Bool, true, false, List, [], ◌∷◌, ◌++◌, Any, refl, sym, ap, ◌∙◌, subst, arith, inl, inr}
use Rattle.std.specs.FinSet as set
use Rattle.ra_stamp.specs.declared.entry.Entry.{Entry}
use Rattle.ra_stamp.specs.declared.entry.Mark.{Mark}
use Rattle.ra_stamp.specs.declared.entry.Mark.TheVariants.{Entered, Left, Withdrawn}
use Rattle.ra_stamp.specs.declared.message.Message.{Message}
use Rattle.ra_stamp.specs.declared.message.Message.TheVariants.{Request, Reply}
use Rattle.ra_stamp.specs.declared.mode.Mode.{Mode}
use Rattle.ra_automaton.specs.declared.phase.Phase.{Phase}
use Rattle.ra_automaton.specs.declared.phase.Phase.TheVariants.{Idle, Waiting, Inside}
use Rattle.ra_automaton.specs.State.{State}
use Rattle.ra_automaton.specs.Steps.{greatest_number, Begins, RequestStep, TakesReply, ReceiveStep}
use Rattle.ra_node.specs.declared.queued_client.Queued.{Queued}
use Rattle.ra_node.specs.Resource.{Resource, Waits}
use Rattle.ra_node.specs.Turns.{request_marks, next_entry, EntersBy, AsksAtOnce, AskTurn, Leaves, Withdraws, LeavesQueue, EndsToNext, EndTurn, LeaveTurn, CancelTurn, ReceiveTurn}
use Rattle.ra_node.specs.Node.{NodeState, resource_at, with_resource}
use Rattle.ra_stamp.specs.Message.{name_of}
use Rattle.ra_node.specs.Events.{Event, Happening, NodeEvent, NodeEvents}
use Rattle.ra_node.specs.Events.Event.{Ask, Leave, Cancel, Receive, Forget}
use Rattle.ra_node.proofs.Endings.{AreEnded, EndsOnce, leaves_ended, leaves_once, withdraws_ended, withdraws_once}
use Rattle.ra_node.proofs.Forgetting.{forget_one}
use Rattle.ra_node.proofs.Updates.{stray_or_not}
use Rattle.ra_node.proofs.Uses.{some_is}

-- ---- Steps of the automaton

begins_one : (old : State) (mode : Mode) (e f : Bool) (a b : State) → Begins old mode e a → Begins old mode f b → (e ≡ f) × (a ≡ b)
begins_one old mode e f a b p q =
    elim p [
      | inl x ↦ elim q [
        | inl y ↦ (x.entered_is ∙ sym y.entered_is, x.new_is ∙ sym y.new_is)
        | inr y ↦ absurd (omega (arith, x.others, y.alone))
      ]
      | inr x ↦ elim q [
        | inl y ↦ absurd (omega (arith, x.alone, y.others))
        | inr y ↦ (x.entered_is ∙ sym y.entered_is, x.new_is ∙ sym y.new_is)
      ]
    ]

-- the same messages, the same grant and the same state after
abbrev SameStep : List Message → Bool → State → List Message → Bool → State → Type 0
SameStep ms e a ns f b = (ms ≡ ns) × (e ≡ f) × (a ≡ b)

request_one : (old : State) (mode : Mode) (ms ns : List Message) (e f : Bool) (a b : State) → RequestStep old mode ms e a → RequestStep old mode ns f b → SameStep ms e a ns f b
request_one old mode ms ns e f a b p q =
    let begins = begins_one old mode e f a b p.begins q.begins in
    (p.sends_are ∙ sym q.sends_are, begins.0, begins.1)

waiting_mode : (seq : ℕ) (a b : Mode) → Waiting seq a ≡ Waiting seq b → a ≡ b
waiting_mode seq a b e = ap mode_in e
  where
    mode_in : Phase → Mode
    mode_in Idle = a
    mode_in (Waiting s m) = m
    mode_in (Inside s m) = m

reply_one : (old : State) (other number : ℕ) (e f : Bool) (a b : State) → TakesReply old other number e a → TakesReply old other number f b → (e ≡ f) × (a ≡ b)
reply_one old other number e f a b p q =
    elim p [
      | inl stray ↦ elim q [
        | inl stray' ↦ (stray.entered_is ∙ sym stray'.entered_is, stray.new_is ∙ sym stray'.new_is)
        | inr awaited ↦ elim awaited.1 [
          | inl enters ↦ absurd (stray.not_awaited awaited.0 enters.awaits)
          | inr waits ↦ absurd (stray.not_awaited awaited.0 waits.awaits)
        ]
      ]
      | inr first ↦ elim first.1 [
        | inl enters ↦ elim q [
          | inl stray ↦ absurd (stray.not_awaited first.0 enters.awaits)
          | inr second ↦ elim second.1 [
            | inl enters' ↦
                let mode : first.0 ≡ second.0 = waiting_mode number first.0 second.0 (sym enters.awaits.waits ∙ enters'.awaits.waits) in
                (enters.entered_is ∙ sym enters'.entered_is, enters.new_is ∙ (λ i. record old { phase = Inside number (mode i); awaited = set.empty }) ∙ sym enters'.new_is)
            | inr waits' ↦ absurd (waits'.not_last enters.last)
          ]
        ]
        | inr waits ↦ elim q [
          | inl stray ↦ absurd (stray.not_awaited first.0 waits.awaits)
          | inr second ↦ elim second.1 [
            | inl enters' ↦ absurd (waits.not_last enters'.last)
            | inr waits' ↦ (waits.entered_is ∙ sym waits'.entered_is, waits.new_is ∙ sym waits'.new_is)
          ]
        ]
      ]
    ]

receive_one : (old : State) (message : Message) (ms ns : List Message) (e f : Bool) (a b : State) → ReceiveStep old message ms e a → ReceiveStep old message ns f b → SameStep ms e a ns f b
receive_one old (Request from to name mode seq) ms ns e f a b p q =
    elim p.1 [
      | inl x ↦ elim q.1 [
        | inl y ↦ (x.sends_are ∙ sym y.sends_are, p.0 ∙ sym q.0, x.new_is ∙ sym y.new_is)
        | inr y ↦ absurd (y.not_first x.own_first)
      ]
      | inr x ↦ elim q.1 [
        | inl y ↦ absurd (x.not_first y.own_first)
        | inr y ↦ (x.sends_are ∙ sym y.sends_are, p.0 ∙ sym q.0, x.new_is ∙ sym y.new_is)
      ]
    ]
receive_one old (Reply from to name seq) ms ns e f a b p q =
    let taken = reply_one old from seq e f a b p.1 q.1 in
    (p.0 ∙ sym q.0, taken.0, taken.1)

-- ---- Turns

abbrev SameTurn : List Message → List Mark → Resource → List Message → List Mark → Resource → Type 0
SameTurn ms xs a ns ys b = (ms ≡ ns) × (xs ≡ ys) × (a ≡ b)

same_resource : (a b : Resource) → a.state ≡ b.state → a.client ≡ b.client → a.queue ≡ b.queue → a ≡ b
same_resource a b s c q = λ i. record { state = s i; client = c i; queue = q i }

asks_one : (old : Resource) (client : ℕ) (mode : Mode) (ms ns : List Message) (xs ys : List Mark) (a b : Resource) → AsksAtOnce old client mode ms xs a → AsksAtOnce old client mode ns ys b → SameTurn ms xs a ns ys b
asks_one old client mode ms ns xs ys a b x y =
    let step = request_one old.state mode ms ns x.entered y.entered a.state b.state x.step y.step in (
      step.0,
      x.marks_are ∙ ap (λ (t : Bool). request_marks t (next_entry old client mode)) step.1 ∙ sym y.marks_are,
      same_resource a b step.2 (x.client_is ∙ sym y.client_is) (x.queue_is ∙ sym y.queue_is),
    )

ask_one : (old : Resource) (client : ℕ) (mode : Mode) (ms ns : List Message) (xs ys : List Mark) (a b : Resource) → AskTurn old client mode ms xs a → AskTurn old client mode ns ys b → SameTurn ms xs a ns ys b
ask_one old client mode ms ns xs ys a b p q =
    elim p.1 [
      | inl x ↦ elim q.1 [
        | inl y ↦ asks_one old client mode ms ns xs ys a b x y
        | inr y ↦ absurd (y.in_use x.step.idle)
      ]
      | inr x ↦ elim q.1 [
        | inl y ↦ absurd (x.in_use y.step.idle)
        | inr y ↦ (x.sends_are ∙ sym y.sends_are, x.marks_are ∙ sym y.marks_are, x.new_is ∙ sym y.new_is)
      ]
    ]

not_empty : (q : Queued) (qs rs : List Queued) → rs ≡ [] → rs ≡ q ∷ qs → ⊥
not_empty q qs rs e is = subst IsEmpty (sym e ∙ is) tt
  where
    IsEmpty : List Queued → Type 0
    IsEmpty [] = Unit {0}
    IsEmpty (x ∷ xs) = ⊥

abbrev head_or : Queued → List Queued → Queued
head_or d [] = d
head_or d (q ∷ qs) = q

abbrev tail_of : List Queued → List Queued
tail_of [] = []
tail_of (q ∷ qs) = qs

nobody_or_next : (r : Resource) (next : Queued) (rest : List Queued) → (r.queue ≡ []) ⊎ (greatest_number ≤ r.state.highest) → r.queue ≡ next ∷ rest → r.state.highest < greatest_number → ⊥
nobody_or_next r next rest nobody queue number =
    elim nobody [
      | inl none ↦ not_empty next rest r.queue none queue
      | inr last ↦ absurd (omega (arith, last, number))
    ]

module _ (Ends : Entry → List Message → Resource → Type 0) (mark : Entry → Mark) (old : Resource) (ended : AreEnded old Ends) (once : EndsOnce Ends) where
  -- a number is left if a client is next
  left_number : (sends : List Message) (marks : List Mark) (new : Resource) → EndsToNext Ends mark old sends marks new → old.state.highest < greatest_number
  left_number sends marks new hands = omega (arith, hands.may.number_left, (ended hands.entry hands.replies hands.between hands.ends).step.highest_is)

  end_turn_one : (ms ns : List Message) (xs ys : List Mark) (a b : Resource) → EndTurn Ends mark old ms xs a → EndTurn Ends mark old ns ys b → SameTurn ms xs a ns ys b
  end_turn_one ms ns xs ys a b p q =
      elim p [
        | inl x ↦ elim q [
          | inl y ↦
              let same = once x.entry y.entry ms ns a b x.ends y.ends in
              (same.1, x.marks_are ∙ ap (λ (e : Entry). mark e ∷ []) same.0 ∙ sym y.marks_are, same.2)
          | inr y ↦ absurd (nobody_or_next old y.next y.rest x.nobody y.queue_was (left_number ns ys b y))
        ]
        | inr x ↦ elim q [
          | inl y ↦ absurd (nobody_or_next old x.next x.rest y.nobody x.queue_was (left_number ms xs a x))
          | inr y ↦
              let queues : x.next ∷ x.rest ≡ y.next ∷ y.rest = sym x.queue_was ∙ y.queue_was in
              let next : x.next ≡ y.next = ap (head_or x.next) queues in
              let rest : x.rest ≡ y.rest = ap tail_of queues in
              let same = once x.entry y.entry x.replies y.replies x.between y.between x.ends y.ends in
              let before : Resource = record y.between { queue = y.rest } in
              let asks : AsksAtOnce before y.next.client y.next.mode x.requests x.asked a =
              subst (λ (q : Queued). AsksAtOnce before q.client q.mode x.requests x.asked a) next
              (subst (λ (r : Resource). AsksAtOnce r x.next.client x.next.mode x.requests x.asked a) (λ i. record (same.2 i) { queue = rest i }) x.asks)
              in
              let asked = asks_one before y.next.client y.next.mode x.requests y.requests x.asked y.asked a b asks y.asks in (
                x.sends_are ∙ (λ i. same.1 i ++ asked.0 i) ∙ sym y.sends_are,
                x.marks_are ∙ (λ i. mark (same.0 i) ∷ asked.1 i) ∙ sym y.marks_are,
                asked.2,
              )
        ]
      ]

leave_turn_one : (old : Resource) (client : ℕ) (ms ns : List Message) (xs ys : List Mark) (a b : Resource) → LeaveTurn old client ms xs a → LeaveTurn old client ns ys b → SameTurn ms xs a ns ys b
leave_turn_one old client ms ns xs ys a b p q = end_turn_one (Leaves old client) Left old (leaves_ended old client) (leaves_once old client) ms ns xs ys a b p q

-- ---- A client that cancels

module _ (client : ℕ) where
  not_later : (x : Queued) (xs : List Queued) → (Any (λ q. q.client ≡ client) (x ∷ xs) → ⊥) → Any (λ q. q.client ≡ client) xs → ⊥
  not_later x xs none any = none (suc any.0, any.1, omega (arith, any.2), any.3, any.4)

  -- the queue without the client, by the parts around its first place
  same_rest : (b b' : List Queued) (g g' : Queued) (a a' : List Queued) → (Any (λ q. q.client ≡ client) b → ⊥) → (Any (λ q. q.client ≡ client) b' → ⊥) → g.client ≡ client → g'.client ≡ client
      → b ++ g ∷ a ≡ b' ++ g' ∷ a' → b ++ a ≡ b' ++ a'
  same_rest [] [] g g' a a' none none' here here' is = ap tail_of is
  same_rest [] (y ∷ ys) g g' a a' none none' here here' is = absurd (none' (0, y, omega arith, refl, sym (ap (λ (q : Queued). q.client) (ap (head_or g) is)) ∙ here))
  same_rest (x ∷ xs) [] g g' a a' none none' here here' is = absurd (none (0, x, omega arith, refl, ap (λ (q : Queued). q.client) (ap (head_or x) is) ∙ here'))
  same_rest (x ∷ xs) (y ∷ ys) g g' a a' none none' here here' is =
      λ i. head_or x (is i) ∷ same_rest xs ys g g' a a' (not_later x xs none) (not_later y ys none') here here' (ap tail_of is) i

leaves_queue_one : (old : Resource) (client : ℕ) (ms ns : List Message) (xs ys : List Mark) (a b : Resource) → LeavesQueue old client ms xs a → LeavesQueue old client ns ys b → SameTurn ms xs a ns ys b
leaves_queue_one old client ms ns xs ys a b p q =
    let rest = same_rest client p.before q.before p.gone q.gone p.after q.after p.not_before q.not_before p.client_is q.client_is (sym p.queue_was ∙ q.queue_was) in (
      p.sends_are ∙ sym q.sends_are,
      p.marks_are ∙ sym q.marks_are,
      p.new_is ∙ (λ i. record old { queue = rest i }) ∙ sym q.new_is,
    )

-- a client that withdraws waited
waited : (old : Resource) (client : ℕ) (sends : List Message) (marks : List Mark) (new : Resource) → EndTurn (Withdraws old client) Withdrawn old sends marks new → (entry : Entry) × Waits old client entry
waited old client sends marks new turn = elim turn [ inl nobody ↦ (nobody.entry, nobody.ends.waits) | inr hands ↦ (hands.entry, hands.ends.waits) ]

cancel_turn_one : (old : Resource) (client : ℕ) (ms ns : List Message) (xs ys : List Mark) (a b : Resource) → CancelTurn old client ms xs a → CancelTurn old client ns ys b → SameTurn ms xs a ns ys b
cancel_turn_one old client ms ns xs ys a b p q =
    elim p [
      | inl x ↦ elim q [
        | inl y ↦ leaves_queue_one old client ms ns xs ys a b x y
        | inr y ↦ let w = waited old client ns ys b y in absurd (x.waits_not w.0 w.1)
      ]
      | inr x ↦ elim q [
        | inl y ↦ let w = waited old client ms xs a x in absurd (y.waits_not w.0 w.1)
        | inr y ↦ end_turn_one (Withdraws old client) Withdrawn old (withdraws_ended old client) (withdraws_once old client) ms ns xs ys a b x y
      ]
    ]

enters_one : (e f : Bool) (a b : Resource) (xs ys : List Mark) → e ≡ f → a ≡ b → EntersBy e a xs → EntersBy f b ys → xs ≡ ys
enters_one e f a b xs ys same is p q = one f b xs ys (subst (λ (t : Bool). EntersBy t b xs) same (subst (λ (r : Resource). EntersBy e r xs) is p)) q
  where
    one : (e : Bool) (r : Resource) (xs ys : List Mark) → EntersBy e r xs → EntersBy e r ys → xs ≡ ys
    one false r xs ys p q = p ∙ sym q
    one true r xs ys p q = p.2 ∙ ap (λ (e : Entry). Entered e ∷ []) (some_is p.0 q.0 (sym p.1 ∙ q.1)) ∙ sym q.2

receive_turn_one : (old : Resource) (message : Message) (ms ns : List Message) (xs ys : List Mark) (a b : Resource) → ReceiveTurn old message ms xs a → ReceiveTurn old message ns ys b → SameTurn ms xs a ns ys b
receive_turn_one old message ms ns xs ys a b p q =
    let step = receive_one old.state message ms ns p.entered q.entered a.state b.state p.step q.step in
    let is = same_resource a b step.2 (p.client_is ∙ sym q.client_is) (p.queue_is ∙ sym q.queue_is) in
    (step.0, enters_one p.entered q.entered a b xs ys step.1 is p.enters q.enters, is)

-- ---- Events

abbrev pub SameOutcome : List Message → List Mark → NodeState → List Message → List Mark → NodeState → Type 0
SameOutcome ms xs a ns ys b = (ms ≡ ns) × (xs ≡ ys) × (a ≡ b)

same_outcome : (old : NodeState) (name : List ℕ) (ms ns : List Message) (xs ys : List Mark) (r t : Resource) (a b : NodeState) → SameTurn ms xs r ns ys t → a ≡ with_resource old name r → b ≡ with_resource old name t
    → SameOutcome ms xs a ns ys b
same_outcome old name ms ns xs ys r t a b same p q = (same.0, same.1, p ∙ ap (λ (x : Resource). with_resource old name x) same.2 ∙ sym q)

pub event_one : (old a b : NodeState) (event : Event) (ms ns : List Message) (xs ys : List Mark) → NodeEvent old event ms xs a → NodeEvent old event ns ys b → SameOutcome ms xs a ns ys b
event_one old a b (Ask client name mode) ms ns xs ys p q =
    same_outcome old name ms ns xs ys p.resource q.resource a b (ask_one (resource_at old name) client mode ms ns xs ys p.resource q.resource p.turn q.turn) p.new_is q.new_is
event_one old a b (Leave client name) ms ns xs ys p q =
    same_outcome old name ms ns xs ys p.resource q.resource a b (leave_turn_one (resource_at old name) client ms ns xs ys p.resource q.resource p.turn q.turn) p.new_is q.new_is
event_one old a b (Cancel client name) ms ns xs ys p q =
    same_outcome old name ms ns xs ys p.resource q.resource a b (cancel_turn_one (resource_at old name) client ms ns xs ys p.resource q.resource p.turn q.turn) p.new_is q.new_is
event_one old a b Forget ms ns xs ys p q = forget_one old a b ms ns xs ys p q
event_one old a b (Receive message) ms ns xs ys p q =
    let here = resource_at old (name_of message) in
    let same = receive_turn_one here message ms ns xs ys p.resource q.resource p.turn q.turn in
    elim (stray_or_not here message ms xs p.resource p.turn) [
      | inl stray ↦ (same.0, same.1, p.after_stray stray ∙ sym (q.after_stray stray))
      | inr other ↦ same_outcome old (name_of message) ms ns xs ys p.resource q.resource a b same (p.after_other other) (q.after_other other)
    ]

pub events_one : (hs : List Happening) (old a b : NodeState) → NodeEvents old hs a → NodeEvents old hs b → a ≡ b
events_one [] old a b p q = p ∙ sym q
events_one (h ∷ hs) old a b p q =
    let same = event_one old p.0 q.0 h.event h.sends h.sends h.marks h.marks p.1 q.1 in
    events_one hs q.0 a b (subst (λ (n : NodeState). NodeEvents n hs a) same.2 p.2) q.2
