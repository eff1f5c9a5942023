-- The frames that nodes sent in a run, and that no message was sent at two clocks.
use Rattle.std.proofs.Common.{◌≡◌, ◌≢◌, ◌⊎◌, ℕ, ◌+◌, ◌<◌, Bool, true, false, cond, eqb, List, [], ◌∷◌, ◌++◌, map, length, get_or, set, refl, sym, ap, ◌∙◌, subst, inl, inr, arith}
use Rattle.std.specs.Prelude.{All, Contains}
use Rattle.std.specs.List.{range_with_len}
use Rattle.std.proofs.lemmas.Bool.{cases_eq, eq-eqb, ne_eqb}
use Rattle.std.proofs.lemmas.List.{append-nil, append_assoc, length-map, length-set, get_or-map, get_or_default, get_or-set_same, get_or-set_other}
use Rattle.std.proofs.lemmas.List.Elements.{All-contains, Contains-append_left, Contains-append_right, Contains-append_cases}
use Rattle.ra_stamp.specs.declared.message.Message.{Message}
use Rattle.ra_stamp.specs.declared.entry.Mark.{Mark}
use Rattle.ra_stamp.specs.Message.{from_of, to_of}
use Rattle.ra_frame.specs.declared.frame.Frame.{Frame}
use Rattle.ra_node.specs.Events.{Event, Happening}
use Rattle.ra_node.specs.Events.{Event as acts}
use Rattle.ra_world.specs.declared.step.Step.{Step}
use Rattle.ra_world.specs.declared.step.Step.TheVariants.{Ask, Leave, Cancel, Forget, Deliver, Lose, Repeat}
use Rattle.ra_world.specs.Traffic.{Move, sent_by}
use Rattle.ra_world.specs.Run.{events_at, happened_at}
use Rattle.ra_world.specs.Fitting.{sent_in}
use Rattle.ra_world.proofs.Moves.{happened_more}
use Rattle.ra_book.specs.declared.book.event.BookEvent.{BookEvent}
use Rattle.ra_book.specs.History.{frames_at, node_event}
use Rattle.ra_book.specs.Settled.{step_at}
use Rattle.ra_book.proofs.Projections.{one_event}
use Rattle.ra_audit.specs.Audit.{ProgressState, HasSettled, IsForNumber, WasSentIn, frames_sent}
use Rattle.ra_audit.specs.AuditKeeping.{StaySent}
use Rattle.ra_audit.proofs.AuditSteps.{number_of}
use Rattle.ra_audit.proofs.UnderWay.{AreDifferent, across, different_right}

-- ---- The frames of one node

abbrev frame_of : ℕ → Message → Frame
frame_of clock message = record { clock = clock; message = message }

-- a frame that went out at a clock has it, and its message is one of those
at_clock : (clock : ℕ) (messages : List Message) (frame : Frame) → Contains (frames_at clock messages) frame → (frame.clock ≡ clock) × Contains messages frame.message
at_clock clock messages frame (k, low, is) =
    let within : k < length messages = omega (arith, low, length-map messages (frame_of clock)) in
    let there : record { clock = clock; message = get_or messages k frame.message } ≡ frame =
    sym (get_or-map (frame_of clock) messages k frame.message frame within) ∙ is
    in
    (ap (λ (f : Frame). f.clock) (sym there), (k, within, ap (λ (f : Frame). f.message) there))

pub goes_out : (clock : ℕ) (messages : List Message) (message : Message) → Contains messages message → Contains (frames_at clock messages) (record { clock = clock; message = message })
goes_out clock messages message (k, low, is) = (
  k,
  omega (arith, low, length-map messages (frame_of clock)),
  get_or-map (frame_of clock) messages k message (record { clock = clock; message = message }) low
      ∙ ap (frame_of clock) is,
)

-- another event sends its frames after the frames of the others
pub sent_more : (happened : List Happening) (events : List BookEvent) (h : Happening) (e : BookEvent) → length happened ≡ length events
    → frames_sent (happened ++ h ∷ []) (events ++ e ∷ []) ≡ frames_sent happened events ++ frames_at e.clock h.sends
sent_more [] [] h e same = append-nil (frames_at e.clock h.sends)
sent_more [] (x ∷ events) h e same = absurd (omega (arith, same))
sent_more (x ∷ happened) [] h e same = absurd (omega (arith, same))
sent_more (x ∷ happened) (y ∷ events) h e same =
    ap (λ (fs : List Frame). frames_at y.clock x.sends ++ fs) (sent_more happened events h e (omega (arith, same)))
    ∙ sym (append_assoc (frames_at y.clock x.sends) (frames_sent happened events) (frames_at e.clock h.sends))

-- what the last one sent is among what was sent
pub sent_last : (happened : List Happening) (h : Happening) (message : Message) → Contains h.sends message → Contains (sent_in (happened ++ h ∷ [])) message
sent_last [] h message at = Contains-append_left h.sends [] message at
sent_last (x ∷ happened) h message at = Contains-append_right x.sends (sent_in (happened ++ h ∷ [])) message (sent_last happened h message at)

-- ---- Of all different messages

-- a step is one event at a node, or none
one_at_most : (i : ℕ) (step : Step) → (events_at i step ≡ []) ⊎ ((event : Event) × (events_at i step ≡ event ∷ []))
one_at_most i step = at step
  where
    by_test : (b : Bool) (e : Event) → (cond b (e ∷ []) [] ≡ []) ⊎ ((event : Event) × (cond b (e ∷ []) [] ≡ event ∷ []))
    by_test true e = inr (e, refl)
    by_test false e = inl refl

    at : (s : Step) → (events_at i s ≡ []) ⊎ ((event : Event) × (events_at i s ≡ event ∷ []))
    at (Ask node client name mode) = by_test (eqb node i) (acts.Ask client name mode)
    at (Leave node client name) = by_test (eqb node i) (acts.Leave client name)
    at (Cancel node client name) = by_test (eqb node i) (acts.Cancel client name)
    at (Forget node) = by_test (eqb node i) acts.Forget
    at (Deliver message) = by_test (eqb (to_of message) i) (acts.Receive message)
    at (Lose message) = inl refl
    at (Repeat message) = inl refl

abbrev of_move : Move → Event → Happening
of_move move event = record { event = event; sends = move.sends; marks = move.marks }

-- the messages of frames that a node sent are among those that were sent
among_sent : (i : ℕ) (moves : List Move) (events : List BookEvent) (frame : Frame) → Contains (frames_sent (happened_at i moves) events) frame → Contains (sent_by moves) frame.message
among_sent i [] events frame at = absurd (omega (arith, at.1))
among_sent i (m ∷ moves) events frame at = elim (one_at_most i m.step) [
  | inl none ↦
      Contains-append_right m.sends (sent_by moves) frame.message
      (among_sent i moves events frame (subst (λ (es : List Event). Contains (frames_sent (map (of_move m) es ++ happened_at i moves) events) frame) none at))
  | inr one ↦ by_event (λ es. among_sent i moves es frame) one.0 events (subst (λ (es : List Event). Contains (frames_sent (map (of_move m) es ++ happened_at i moves) events) frame) one.1 at)
]
  where
    by_event : ((es : List BookEvent) → Contains (frames_sent (happened_at i moves) es) frame → Contains (sent_by moves) frame.message) → (event : Event) (events : List BookEvent) → Contains (frames_sent (of_move m event ∷ happened_at i moves) events) frame → Contains (m.sends ++ sent_by moves) frame.message
    by_event rest event [] at = absurd (omega (arith, at.1))
    by_event rest event (e ∷ events) at = elim (Contains-append_cases (frames_at e.clock m.sends) (frames_sent (happened_at i moves) events) frame at) [
      | inl here ↦ Contains-append_left m.sends (sent_by moves) frame.message (at_clock e.clock m.sends frame here).1
      | inr later ↦ Contains-append_right m.sends (sent_by moves) frame.message (rest events later)
    ]

-- a node sent each message once
one_of_node : (i : ℕ) (moves : List Move) (events : List BookEvent) (a b : Frame) → AreDifferent (sent_by moves)
    → Contains (frames_sent (happened_at i moves) events) a → Contains (frames_sent (happened_at i moves) events) b → a.message ≡ b.message → a.clock ≡ b.clock
one_of_node i [] events a b different at_a at_b same = absurd (omega (arith, at_a.1))
one_of_node i (m ∷ moves) events a b different at_a at_b same = elim (one_at_most i m.step) [
  | inl none ↦
      let at = λ (frame : Frame) (there : Contains (frames_sent (map (of_move m) (events_at i m.step) ++ happened_at i moves) events) frame).
      subst (λ (es : List Event). Contains (frames_sent (map (of_move m) es ++ happened_at i moves) events) frame) none there
      in
      one_of_node i moves events a b (different_right m.sends (sent_by moves) different) (at a at_a) (at b at_b) same
  | inr one ↦
      let at = λ (frame : Frame) (there : Contains (frames_sent (map (of_move m) (events_at i m.step) ++ happened_at i moves) events) frame).
      subst (λ (es : List Event). Contains (frames_sent (map (of_move m) es ++ happened_at i moves) events) frame) one.1 there
      in
      by_event (λ es. one_of_node i moves es a b (different_right m.sends (sent_by moves) different)) one.0 events (at a at_a) (at b at_b)
]
  where
    by_event : ((es : List BookEvent) → Contains (frames_sent (happened_at i moves) es) a → Contains (frames_sent (happened_at i moves) es) b → a.message ≡ b.message → a.clock ≡ b.clock) → (event : Event) (events : List BookEvent) → Contains (frames_sent (of_move m event ∷ happened_at i moves) events) a
        → Contains (frames_sent (of_move m event ∷ happened_at i moves) events) b → a.clock ≡ b.clock
    by_event rest event [] at_a at_b = absurd (omega (arith, at_a.1))
    by_event rest event (e ∷ events) at_a at_b =
        by_cases (Contains-append_cases (frames_at e.clock m.sends) (frames_sent (happened_at i moves) events) a at_a)
        (Contains-append_cases (frames_at e.clock m.sends) (frames_sent (happened_at i moves) events) b at_b)
      where
        by_cases : Contains (frames_at e.clock m.sends) a ⊎ Contains (frames_sent (happened_at i moves) events) a
            → Contains (frames_at e.clock m.sends) b ⊎ Contains (frames_sent (happened_at i moves) events) b → a.clock ≡ b.clock
        by_cases (inl one) (inl two) = (at_clock e.clock m.sends a one).0 ∙ sym (at_clock e.clock m.sends b two).0
        by_cases (inl one) (inr two) =
            absurd (across m.sends (sent_by moves) a.message different (at_clock e.clock m.sends a one).1
            (subst (Contains (sent_by moves)) (sym same) (among_sent i moves events b two)))
        by_cases (inr one) (inl two) =
            absurd (across m.sends (sent_by moves) a.message different (subst (Contains m.sends) (sym same) (at_clock e.clock m.sends b two).1)
            (among_sent i moves events a one))
        by_cases (inr one) (inr two) = rest events one two same

-- ---- The frames of all nodes

-- two frames that were sent in the run with one message have one clock
pub one_clock : (nodes : List ProgressState) (n : ℕ) (moves : List Move) (a b : Frame) → map (λ p. p.node) nodes ≡ range_with_len 1 n → AreDifferent (sent_by moves)
    → WasSentIn nodes moves a → WasSentIn nodes moves b → a.message ≡ b.message → a.clock ≡ b.clock
one_clock nodes n moves a b numbers different (k, p, low, at, is) (j, q, within, there, was) same =
    let first : p.node ≡ k + 1 = ap (λ (x : ProgressState). x.node) (sym at) ∙ number_of nodes n k p numbers low in
    let second : q.node ≡ j + 1 = ap (λ (x : ProgressState). x.node) (sym there) ∙ number_of nodes n j q numbers within in
    let senders : from_of a.message ≡ from_of b.message = ap from_of same in
    let place : k ≡ j = omega (arith, first, second, is.0, was.0, senders) in
    let one : p ≡ q = sym at ∙ ap (λ (i : ℕ). get_or nodes i p) place ∙ get_or_default nodes j p q within ∙ there in
    one_of_node q.node moves q.settled a b different
    (subst (λ (x : ProgressState). Contains (frames_sent (happened_at x.node moves) x.settled) a) one is.1) was.1 same

-- ---- What stays sent

-- nodes with the same events in the run
pub stay_as : (nodes nodes' : List ProgressState) (moves : List Move) → length nodes' ≡ length nodes
    → ((k : ℕ) (d : ProgressState) → k < length nodes → ((get_or nodes' k d).node ≡ (get_or nodes k d).node) × ((get_or nodes' k d).settled ≡ (get_or nodes k d).settled))
    → StaySent nodes moves nodes' moves
stay_as nodes nodes' moves long same frame (k, p, low, at, is) =
    let q = get_or nodes' k p in
    let here = same k p low in
    let node : p.node ≡ q.node = ap (λ (x : ProgressState). x.node) (sym at) ∙ sym here.0 in
    let settled : p.settled ≡ q.settled = ap (λ (x : ProgressState). x.settled) (sym at) ∙ sym here.1 in (
      k,
      q,
      omega (arith, low, long),
      get_or_default nodes' k q p (omega (arith, low, long)),
      (
        sym node ∙ is.0,
        subst (λ (events : List BookEvent). Contains (frames_sent (happened_at q.node moves) events) frame) settled
            (subst (λ (i : ℕ). Contains (frames_sent (happened_at i moves) p.settled) frame) node is.1),
      ),
    )

-- after a loss
pub stay_lost : (nodes : List ProgressState) (moves : List Move) (message : Message) (sends : List Message) (marks : List Mark)
    → StaySent nodes moves nodes (moves ++ record { step = Lose message; sends = sends; marks = marks } ∷ [])
stay_lost nodes moves message sends marks frame (k, p, low, at, is) =
    let m : Move = record { step = Lose message; sends = sends; marks = marks } in
    let same : happened_at p.node (moves ++ m ∷ []) ≡ happened_at p.node moves = happened_more p.node moves m ∙ append-nil (happened_at p.node moves) in
    (k, p, low, at, (is.0, subst (λ (hs : List Happening). Contains (frames_sent hs p.settled) frame) (sym same) is.1))

-- ---- One more event

module _ (moves : List Move) (nodes : List ProgressState) (n place : ℕ) (p q : ProgressState) (e : BookEvent) (sends : List Message) (marks : List Mark)
    (numbers : map (λ p. p.node) nodes ≡ range_with_len 1 n) (settled : HasSettled moves p) (within : place < length nodes) (at : p ≡ get_or nodes place p)
    (for_node : IsForNumber p.node e.kind) (node_is : q.node ≡ p.node) (settled_is : q.settled ≡ p.settled ++ e ∷ []) where
  abbrev m : Move
  m = record { step = step_at p.node e.kind; sends = sends; marks = marks }

  abbrev happening : Event → Happening
  happening event = record { event = event; sends = sends; marks = marks }

  abbrev h : Happening
  h = happening (node_event e.kind)

  here : happened_at p.node (moves ++ m ∷ []) ≡ happened_at p.node moves ++ h ∷ []
  here =
      let one : events_at p.node (step_at p.node e.kind) ≡ node_event e.kind ∷ [] =
      one_event p.node p.node e.kind for_node ∙ ap (λ (b : Bool). cond b (node_event e.kind ∷ []) []) (eq-eqb p.node p.node refl)
      in
      happened_more p.node moves m
      ∙ ap (λ (es : List Event). happened_at p.node moves ++ map happening es) one

  elsewhere : (i : ℕ) → i ≢ p.node → happened_at i (moves ++ m ∷ []) ≡ happened_at i moves
  elsewhere i differs =
      let none : events_at i (step_at p.node e.kind) ≡ [] =
      one_event i p.node e.kind for_node ∙ ap (λ (b : Bool). cond b (node_event e.kind ∷ []) []) (ne_eqb p.node i (λ same. differs (sym same)))
      in
      happened_more i moves m
      ∙ ap (λ (es : List Event). happened_at i moves ++ map happening es) none
      ∙ append-nil (happened_at i moves)

  long : length (happened_at p.node moves) ≡ length p.settled
  long =
      sym (length-map (happened_at p.node moves) (λ (h : Happening). h.event))
      ∙ ap (λ (es : List Event). length es) settled
      ∙ length-map p.settled (λ (e : BookEvent). node_event e.kind)

  all_sent : frames_sent (happened_at q.node (moves ++ m ∷ [])) q.settled ≡ frames_sent (happened_at p.node moves) p.settled ++ frames_at e.clock sends
  all_sent =
      ap (λ (i : ℕ). frames_sent (happened_at i (moves ++ m ∷ [])) q.settled) node_is
      ∙ (λ j. frames_sent (here j) (settled_is j))
      ∙ sent_more (happened_at p.node moves) p.settled h e long

  found : get_or (set nodes place q) place q ≡ q
  found = get_or-set_same nodes place q q within

  still_within : place < length (set nodes place q)
  still_within = omega (arith, within, length-set nodes place q)

  pub stay_sent : StaySent nodes moves (set nodes place q) (moves ++ m ∷ [])
  stay_sent frame (k, x, low, there, is) = elim (cases_eq k place) [
    | inl same ↦
        let mine : x ≡ p = sym there ∙ ap (λ (i : ℕ). get_or nodes i x) same ∙ get_or_default nodes place x p within ∙ sym at in (
          place,
          q,
          still_within,
          found,
          (
            node_is ∙ ap (λ (y : ProgressState). y.node) (sym mine) ∙ is.0,
            subst (λ (fs : List Frame). Contains fs frame) (sym all_sent)
                (Contains-append_left (frames_sent (happened_at p.node moves) p.settled) (frames_at e.clock sends) frame
                (subst (λ (y : ProgressState). Contains (frames_sent (happened_at y.node moves) y.settled) frame) mine is.1)),
          ),
        )
    | inr differs ↦
        let mine : p.node ≡ place + 1 = ap (λ (y : ProgressState). y.node) at ∙ number_of nodes n place p numbers within in
        let theirs : x.node ≡ k + 1 = ap (λ (y : ProgressState). y.node) (sym there) ∙ number_of nodes n k x numbers low in
        let apart : x.node ≢ p.node = λ same. differs (omega (arith, mine, theirs, same)) in (
          k,
          x,
          omega (arith, low, length-set nodes place q),
          get_or-set_other nodes place k q x differs ∙ there,
          (is.0, subst (λ (hs : List Happening). Contains (frames_sent hs x.settled) frame) (sym (elsewhere x.node apart)) is.1),
        )
  ]

  pub sends_are_sent : All (λ message. from_of message ≡ p.node) (sent_in (happened_at p.node (moves ++ m ∷ []))) → (message : Message) → Contains sends message
      → WasSentIn (set nodes place q) (moves ++ m ∷ []) (record { clock = e.clock; message = message })
  sends_are_sent own message sent =
      let among : Contains (sent_in (happened_at p.node (moves ++ m ∷ []))) message =
      subst (λ (hs : List Happening). Contains (sent_in hs) message) (sym here) (sent_last (happened_at p.node moves) h message sent)
      in (
        place,
        q,
        still_within,
        found,
        (
          node_is ∙ sym (All-contains (λ message. from_of message ≡ p.node) (sent_in (happened_at p.node (moves ++ m ∷ []))) message own among),
          subst (λ (fs : List Frame). Contains fs (record { clock = e.clock; message = message })) (sym all_sent)
              (Contains-append_right (frames_sent (happened_at p.node moves) p.settled) (frames_at e.clock sends) (record { clock = e.clock; message = message })
              (goes_out e.clock sends message sent)),
        ),
      )
