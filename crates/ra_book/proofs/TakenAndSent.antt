-- How often a message is taken and sent: by the events at its receiver, and by those at its sender.
use Rattle.std.proofs.Common.{◌≡◌, ◌≢◌, ◌⊎◌, ℕ, ◌+◌, ◌≤◌, Bool, true, false, cond, eqb, List, [], ◌∷◌, ◌++◌, map, length, refl, sym, ap, ◌∙◌, subst, append_assoc, arith, inl, inr}
use Rattle.std.specs.Prelude.{All}
use Rattle.std.specs.List.{flat_map}
use Rattle.std.proofs.lemmas.Bool.{eq-eqb, cases_eq, false≢true}
use Rattle.std.proofs.lemmas.List.{map-append}
use Rattle.std.proofs.lemmas.List.Concat.{flat_map-append}
use Rattle.std.proofs.lemmas.List.Elements.{All-nil, All-cons, All-head, All-tail}
use Rattle.ra_stamp.specs.declared.entry.Mark.{Mark}
use Rattle.ra_stamp.specs.declared.message.Message.{Message}
use Rattle.ra_stamp.specs.Message.{to_of}
use Rattle.ra_node.specs.Events.{Event, Happening}
use Rattle.ra_node.specs.Events.{Event as acts}
use Rattle.ra_world.specs.declared.step.Step.{Step}
use Rattle.ra_world.specs.declared.step.Step.TheVariants.{Ask, Leave, Cancel, Deliver, Lose, Repeat, Forget}
use Rattle.ra_world.specs.Traffic.{Move, IsUnderWay, taken_in, taken_by, sent_by, lost_in}
use Rattle.ra_world.specs.Run.{IsRun, IsFit, AreFit, events_at, happened_at}
use Rattle.ra_world.specs.Fitting.{TellsApart, sent_in}
use Rattle.ra_world.proofs.Lists.{filter_none}
use Rattle.ra_world.proofs.Moves.{happens}
use Rattle.ra_world.proofs.Times.{times, times_append, never_there}
use Rattle.ra_book.specs.declared.book.event.BookKind.{BookKind}
use Rattle.ra_book.specs.declared.book.event.BookKind.TheVariants as kinds
use Rattle.ra_book.specs.declared.book.event.BookEvent.{BookEvent}
use Rattle.ra_book.specs.declared.book.sent.Sent.{Sent}
use Rattle.ra_book.specs.History.{node_event}
use Rattle.ra_book.specs.Book.{BookState}
use Rattle.ra_book.specs.Keys.{messages_among}
use Rattle.ra_book.specs.Settled.{all_lost, frames_in, received_among}
use Rattle.ra_book.proofs.PairedBooks.{messages}

-- ---- What is taken

-- the message that an event of a node takes
abbrev pub received_in : Event → List Message
received_in (acts.Ask client name mode) = []
received_in (acts.Leave client name) = []
received_in (acts.Cancel client name) = []
received_in (acts.Receive message) = message ∷ []
received_in acts.Forget = []

-- no more often than the step whose event it is
taken_here : (is : Message → Bool) (i : ℕ) (step : Step) → times is (flat_map received_in (events_at i step)) ≤ times is (taken_in step)
taken_here is i (Ask node client name mode) = none_by (eqb node i)
  where
    none_by : (b : Bool) → times is (flat_map received_in (cond b (acts.Ask client name mode ∷ []) [])) ≤ 0
    none_by true = omega arith
    none_by false = omega arith
taken_here is i (Leave node client name) = none_by (eqb node i)
  where
    none_by : (b : Bool) → times is (flat_map received_in (cond b (acts.Leave client name ∷ []) [])) ≤ 0
    none_by true = omega arith
    none_by false = omega arith
taken_here is i (Cancel node client name) = none_by (eqb node i)
  where
    none_by : (b : Bool) → times is (flat_map received_in (cond b (acts.Cancel client name ∷ []) [])) ≤ 0
    none_by true = omega arith
    none_by false = omega arith
taken_here is i (Forget node) = none_by (eqb node i)
  where
    none_by : (b : Bool) → times is (flat_map received_in (cond b (acts.Forget ∷ []) [])) ≤ 0
    none_by true = omega arith
    none_by false = omega arith
taken_here is i (Lose message) = omega arith
taken_here is i (Repeat message) = omega arith
taken_here is i (Deliver message) = by_test (eqb (to_of message) i)
  where
    by_test : (b : Bool) → times is (flat_map received_in (cond b (acts.Receive message ∷ []) [])) ≤ times is (message ∷ [])
    by_test true = omega arith
    by_test false = omega arith

pub taken_there : (is : Message → Bool) (i : ℕ) (steps : List Step) → times is (flat_map received_in (flat_map (events_at i) steps)) ≤ times is (flat_map taken_in steps)
taken_there is i [] = omega arith
taken_there is i (step ∷ steps) =
    let events = flat_map (events_at i) steps in
    let parts = ap (times is) (flat_map-append received_in (events_at i step) events) ∙ times_append is (flat_map received_in (events_at i step)) (flat_map received_in events) in
    let whole = times_append is (taken_in step) (flat_map taken_in steps) in
    let here = taken_here is i step in
    let rest = taken_there is i steps in
    omega (arith, parts, whole, here, rest)

-- no step takes a message more often than its event at the receiver, if it does not lose it
taken_at_most : (is : Message → Bool) (m : Message) → TellsApart is m → (step : Step) → times is (taken_in step) ≤ times is (flat_map received_in (events_at (to_of m) step)) + times is (lost_in step)
taken_at_most is m tells (Ask node client name mode) = omega arith
taken_at_most is m tells (Leave node client name) = omega arith
taken_at_most is m tells (Cancel node client name) = omega arith
taken_at_most is m tells (Forget node) = omega arith
taken_at_most is m tells (Lose message) = omega arith
taken_at_most is m tells (Repeat message) = omega arith
taken_at_most is m tells (Deliver message) = by_test (eqb (to_of message) (to_of m)) refl
  where
    by_test : (b : Bool) → eqb (to_of message) (to_of m) ≡ b → times is (message ∷ []) ≤ times is (flat_map received_in (cond b (acts.Receive message ∷ []) [])) + 0
    by_test true e = omega arith
    by_test false e =
        let other : message ≢ m = λ same. false≢true (sym e ∙ eq-eqb (to_of message) (to_of m) (ap to_of same)) in
        let none = never_there is m (message ∷ []) tells (All-cons (λ x. x ≢ m) message [] other (All-nil (λ x. x ≢ m))) in
        omega (arith, none)

pub all_taken_at_most : (is : Message → Bool) (m : Message) → TellsApart is m → (steps : List Step)
    → times is (flat_map taken_in steps) ≤ times is (flat_map received_in (flat_map (events_at (to_of m)) steps)) + times is (flat_map lost_in steps)
all_taken_at_most is m tells [] = omega arith
all_taken_at_most is m tells (step ∷ steps) =
    let i = to_of m in
    let events = flat_map (events_at i) steps in
    let parts = ap (times is) (flat_map-append received_in (events_at i step) events) ∙ times_append is (flat_map received_in (events_at i step)) (flat_map received_in events) in
    let whole = times_append is (taken_in step) (flat_map taken_in steps) in
    let losses = times_append is (lost_in step) (flat_map lost_in steps) in
    let here = taken_at_most is m tells step in
    let rest = all_taken_at_most is m tells steps in
    omega (arith, parts, whole, losses, here, rest)

pub taken_of : (moves : List Move) → taken_by moves ≡ flat_map taken_in (map (λ move. move.step) moves)
taken_of [] = refl
taken_of (move ∷ moves) = ap (λ (ms : List Message). taken_in move.step ++ ms) (taken_of moves)

-- the events of a book take what came at it
pub received_events : (events : List BookEvent) → flat_map received_in (map (λ e. node_event e.kind) events) ≡ messages_among events
received_events [] = refl
received_events (e ∷ events) =
    (λ x. of_kind e.kind x ++ received_events events x) ∙ sym (map-append (λ f. f.message) (frames_in e.kind) (received_among events))
  where
    of_kind : (kind : BookKind) → received_in (node_event kind) ≡ messages (frames_in kind)
    of_kind (kinds.Ask client name mode) = refl
    of_kind (kinds.Leave client name) = refl
    of_kind (kinds.Cancel client name) = refl
    of_kind kinds.Forget = refl
    of_kind (kinds.Receive f) = refl

-- ---- What is sent

-- what happened at a node, by a move and then others
times_in_parts : (is : Message → Bool) (i : ℕ) (m : Move) (moves : List Move) → times is (sent_in (happened_at i (m ∷ moves))) ≡ times is (sent_in (happens i m)) + times is (sent_in (happened_at i moves))
times_in_parts is i m moves =
    ap (times is) (flat_map-append (λ (h : Happening). h.sends) (happens i m) (happened_at i moves)) ∙ times_append is (sent_in (happens i m)) (sent_in (happened_at i moves))

times_here : (is : Message → Bool) (i : ℕ) (m : Move) (event : Event) → events_at i m.step ≡ event ∷ [] → times is (sent_in (happens i m)) ≡ times is m.sends
times_here is i m event here =
    ap (λ (es : List Event). times is (sent_in (map (λ (e : Event). record { event = e; sends = m.sends; marks = m.marks }) es))) here
    ∙ times_append is m.sends []
    ∙ omega arith

module _ (n start : ℕ) (prefixes : (prefix suffix : List Move) → IsRun n start (prefix ++ suffix) → IsRun n start prefix)
    (goes : (moves : List Move) (message : Message) → IsRun n start moves → IsUnderWay moves message → (1 ≤ to_of message) × (to_of message ≤ n)) (is : Message → Bool) (j : ℕ) where
  -- a step is an event of one of the nodes, or it sends nothing
  abbrev IsEventOrSilent : Step → List Message → Type 0
  IsEventOrSilent step sends = ((i : ℕ) × (1 ≤ i) × (i ≤ n) × (event : Event) × (events_at i step ≡ event ∷ [])) ⊎ (sends ≡ [])

  event_at : (i : ℕ) (event : Event) → cond (eqb i i) (event ∷ []) [] ≡ event ∷ []
  event_at i event = ap (λ (b : Bool). cond b (event ∷ []) []) (eq-eqb i i refl)

  event_or_silent : (prefix : List Move) (step : Step) (sends : List Message) (marks : List Mark) → IsRun n start prefix → IsFit n prefix step sends marks → IsEventOrSilent step sends
  event_or_silent prefix (Ask node client name mode) sends marks run fit = inl (node, fit.0, fit.1, acts.Ask client name mode, event_at node (acts.Ask client name mode))
  event_or_silent prefix (Leave node client name) sends marks run fit = inl (node, fit.0, fit.1, acts.Leave client name, event_at node (acts.Leave client name))
  event_or_silent prefix (Cancel node client name) sends marks run fit = inl (node, fit.0, fit.1, acts.Cancel client name, event_at node (acts.Cancel client name))
  event_or_silent prefix (Forget node) sends marks run fit = inl (node, fit.0, fit.1, acts.Forget, event_at node acts.Forget)
  event_or_silent prefix (Deliver message) sends marks run fit =
      let within = goes prefix message run fit in
      inl (to_of message, within.0, within.1, acts.Receive message, event_at (to_of message) (acts.Receive message))
  event_or_silent prefix (Lose message) sends marks run fit = inr fit.1
  event_or_silent prefix (Repeat message) sends marks run fit = inr fit.1

  -- if no other node sent a message, it was sent by moves no more often than at this one
  pub sent_by_one : (suffix prefix : List Move) → IsRun n start (prefix ++ suffix) → AreFit n prefix suffix
      → ((i : ℕ) → 1 ≤ i → i ≤ n → i ≢ j → times is (sent_in (happened_at i suffix)) ≡ 0) → times is (sent_by suffix) ≤ times is (sent_in (happened_at j suffix))
  sent_by_one [] prefix run fit none = omega arith
  sent_by_one (m ∷ suffix) prefix run fit none =
      let whole = times_append is m.sends (sent_by suffix) in
      let parts = times_in_parts is j m suffix in
      let rest = sent_by_one suffix (prefix ++ m ∷ []) (subst (IsRun n start) (sym (append_assoc prefix (m ∷ []) suffix)) run) fit.1
      (λ i low high apart.
      let before = none i low high apart in
      let split = times_in_parts is i m suffix in
      omega (arith, before, split))
      in
      let here = of_move (event_or_silent prefix m.step m.sends m.marks (prefixes prefix (m ∷ suffix) run) fit.0) in
      omega (arith, whole, parts, rest, here)
    where
      of_move : IsEventOrSilent m.step m.sends → times is m.sends ≤ times is (sent_in (happens j m))
      of_move (inr silent) = let nothing = ap (times is) silent in omega (arith, nothing)
      of_move (inl (i, low, high, event, here)) =
          elim (cases_eq i j) [
            | inl same ↦
                let sends = times_here is j m event (subst (λ (k : ℕ). events_at k m.step ≡ event ∷ []) same here) in
                omega (arith, sends)
            | inr apart ↦
                let sends = times_here is i m event here in
                let never = none i low high apart in
                let split = times_in_parts is i m suffix in
                omega (arith, sends, never, split)
          ]

-- ---- Nothing was lost

pub no_losses_of : (books : List BookState) → All (λ b. All (λ s. s.lost ≡ false) b.sent) books → all_lost books ≡ []
no_losses_of [] kept = refl
no_losses_of (b ∷ books) kept =
    let here = filter_none (λ (s : Sent). s.lost) b.sent (All-head (λ b. All (λ s. s.lost ≡ false) b.sent) b books kept) in
    let rest = no_losses_of books (All-tail (λ b. All (λ s. s.lost ≡ false) b.sent) b books kept) in
    λ x. map (λ (s : Sent). s.frame.message) (here x) ++ rest x

pub empty : (ms : List Message) → length ms ≡ 0 → ms ≡ []
empty [] none = refl
empty (m ∷ ms) none = absurd (omega (arith, none))
