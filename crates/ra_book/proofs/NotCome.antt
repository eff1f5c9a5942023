-- Books whose pairs fit: at the end of their settled runs exactly those messages are under way that were sent and have
-- not come.
use Rattle.std.proofs.Common.{◌≡◌, ◌≢◌, ◌⊎◌, ℕ, ◌+◌, ◌-◌, ◌<◌, ◌≤◌, Bool, true, false, cond, eqb, List, [], ◌∷◌, ◌++◌, map, length, get_or, take, drop, refl, sym, ap, ◌∙◌, subst, append_assoc, arith, inl, inr}
use Rattle.std.specs.Prelude.{◌↔◌, IsTrue, All, Contains}
use Rattle.std.specs.List.{filter, flat_map}
use Rattle.std.proofs.lemmas.Bool.{eq-eqb, eqb-true, cases_eq, false≢true}
use Rattle.std.proofs.lemmas.List.{map-append, drop_at, drop_all, take-append-drop, get_or_default}
use Rattle.std.proofs.lemmas.List.Concat.{flat_map-append}
use Rattle.std.proofs.lemmas.List.Elements.{All-nil, All-cons, All-head, All-tail, All-map, All-weaker, All-filter, All-contains}
use Rattle.std.proofs.lemmas.List.Sorted.{length_permutation}
use Rattle.ra_stamp.specs.NodeId.{IsNodeNumber}
use Rattle.ra_stamp.specs.declared.entry.Mark.{Mark}
use Rattle.ra_stamp.specs.declared.message.Message.{Message}
use Rattle.ra_stamp.specs.Message.{from_of, to_of}
use Rattle.ra_automaton.specs.State.{IsOtherNode}
use Rattle.ra_frame.specs.declared.frame.Frame.{Frame}
use Rattle.ra_node.specs.Events.{Event, Happening}
use Rattle.ra_node.specs.Events.{Event as acts}
use Rattle.ra_world.specs.declared.step.Step.{Step}
use Rattle.ra_world.specs.declared.step.Step.TheVariants.{Ask, Leave, Cancel, Deliver, Lose, Repeat, Forget}
use Rattle.ra_world.specs.declared.text.report.Report.{Report}
use Rattle.ra_world.specs.MainTheorem.{IsQuietReport}
use Rattle.ra_world.specs.Quiet.{IsQuiet}
use Rattle.ra_world.specs.Traffic.{Move, LeavesUnderWay, IsUnderWay, taken_in, taken_by, sent_by, put_by, lost_in, lost_by}
use Rattle.ra_world.specs.Run.{IsRun, IsFit, AreFit, events_at, happened_at}
use Rattle.ra_world.specs.Fitting.{TellsApart, sent_in}
use Rattle.ra_world.specs.World.{Reports}
use Rattle.ra_world.proofs.Lists.{filter_none}
use Rattle.ra_world.proofs.Moves.{happens}
use Rattle.ra_world.proofs.Times.{times, times_append, there_once, some_there, never_there, times_each, times_put, times_sent}
use Rattle.ra_book.specs.declared.book.event.BookKind.{BookKind}
use Rattle.ra_book.specs.declared.book.event.BookKind.TheVariants as kinds
use Rattle.ra_book.specs.declared.book.event.BookEvent.{BookEvent}
use Rattle.ra_book.specs.declared.book.sent.Sent.{Sent}
use Rattle.ra_book.specs.History.{happening_of, node_event}
use Rattle.ra_book.specs.Book.{BookState, HasHistory}
use Rattle.ra_book.specs.Keys.{messages_among}
use Rattle.ra_book.specs.Pairs.{PairsFit, HasNotCome, AllHasCome, sent_to, come_from, not_come}
use Rattle.ra_book.specs.Settled.{IsCluster, IsSettledRun, all_lost, frames_in, received_among, start_of}
use Rattle.ra_book.proofs.Happened.{sent_of_book, messages_sent}
use Rattle.ra_book.proofs.Distinct.{all_right}
use Rattle.ra_book.proofs.LossesApart.{messages_of}
use Rattle.ra_book.proofs.Merging.{number_at}
use Rattle.ra_book.proofs.NodeMarks.{history_by, happened_posted}
use Rattle.ra_book.proofs.PairedBooks.{messages, messages_kept, times_kept, book_of, me_is}
use Rattle.ra_book.proofs.Parts.{first}
use Rattle.ra_book.proofs.Projections.{events_by, lost_by_steps}
use Rattle.ra_book.proofs.SettledGrants.{GrantLaws}
use Rattle.ra_book.proofs.SettledNodes.{nobody, book_ends, few}
use Rattle.ra_book.proofs.Whole.{HasWholeHistory, whole_histories}

-- ---- What is taken

-- the message that an event of a node takes
abbrev received_in : Event → List Message
received_in (acts.Ask client name mode) = []
received_in (acts.Leave client name) = []
received_in (acts.Cancel client name) = []
received_in (acts.Receive message) = message ∷ []
received_in acts.Forget = []

-- no more often than the step whose event it is
taken_here : (is : Message → Bool) (i : ℕ) (step : Step) → times is (flat_map received_in (events_at i step)) ≤ times is (taken_in step)
taken_here is i (Ask node client name mode) = none_by (eqb node i)
  where
    none_by : (b : Bool) → times is (flat_map received_in (cond b (acts.Ask client name mode ∷ []) [])) ≤ 0
    none_by true = omega arith
    none_by false = omega arith
taken_here is i (Leave node client name) = none_by (eqb node i)
  where
    none_by : (b : Bool) → times is (flat_map received_in (cond b (acts.Leave client name ∷ []) [])) ≤ 0
    none_by true = omega arith
    none_by false = omega arith
taken_here is i (Cancel node client name) = none_by (eqb node i)
  where
    none_by : (b : Bool) → times is (flat_map received_in (cond b (acts.Cancel client name ∷ []) [])) ≤ 0
    none_by true = omega arith
    none_by false = omega arith
taken_here is i (Forget node) = none_by (eqb node i)
  where
    none_by : (b : Bool) → times is (flat_map received_in (cond b (acts.Forget ∷ []) [])) ≤ 0
    none_by true = omega arith
    none_by false = omega arith
taken_here is i (Lose message) = omega arith
taken_here is i (Repeat message) = omega arith
taken_here is i (Deliver message) = by_test (eqb (to_of message) i)
  where
    by_test : (b : Bool) → times is (flat_map received_in (cond b (acts.Receive message ∷ []) [])) ≤ times is (message ∷ [])
    by_test true = omega arith
    by_test false = omega arith

taken_there : (is : Message → Bool) (i : ℕ) (steps : List Step) → times is (flat_map received_in (flat_map (events_at i) steps)) ≤ times is (flat_map taken_in steps)
taken_there is i [] = omega arith
taken_there is i (step ∷ steps) =
    let events = flat_map (events_at i) steps in
    let parts = ap (times is) (flat_map-append received_in (events_at i step) events) ∙ times_append is (flat_map received_in (events_at i step)) (flat_map received_in events) in
    let whole = times_append is (taken_in step) (flat_map taken_in steps) in
    let here = taken_here is i step in
    let rest = taken_there is i steps in
    omega (arith, parts, whole, here, rest)

-- no step takes a message more often than its event at the receiver, if it does not lose it
taken_at_most : (is : Message → Bool) (m : Message) → TellsApart is m → (step : Step) → times is (taken_in step) ≤ times is (flat_map received_in (events_at (to_of m) step)) + times is (lost_in step)
taken_at_most is m tells (Ask node client name mode) = omega arith
taken_at_most is m tells (Leave node client name) = omega arith
taken_at_most is m tells (Cancel node client name) = omega arith
taken_at_most is m tells (Forget node) = omega arith
taken_at_most is m tells (Lose message) = omega arith
taken_at_most is m tells (Repeat message) = omega arith
taken_at_most is m tells (Deliver message) = by_test (eqb (to_of message) (to_of m)) refl
  where
    by_test : (b : Bool) → eqb (to_of message) (to_of m) ≡ b → times is (message ∷ []) ≤ times is (flat_map received_in (cond b (acts.Receive message ∷ []) [])) + 0
    by_test true e = omega arith
    by_test false e =
        let other : message ≢ m = λ same. false≢true (sym e ∙ eq-eqb (to_of message) (to_of m) (ap to_of same)) in
        let none = never_there is m (message ∷ []) tells (All-cons (λ x. x ≢ m) message [] other (All-nil (λ x. x ≢ m))) in
        omega (arith, none)

all_taken_at_most : (is : Message → Bool) (m : Message) → TellsApart is m → (steps : List Step)
    → times is (flat_map taken_in steps) ≤ times is (flat_map received_in (flat_map (events_at (to_of m)) steps)) + times is (flat_map lost_in steps)
all_taken_at_most is m tells [] = omega arith
all_taken_at_most is m tells (step ∷ steps) =
    let i = to_of m in
    let events = flat_map (events_at i) steps in
    let parts = ap (times is) (flat_map-append received_in (events_at i step) events) ∙ times_append is (flat_map received_in (events_at i step)) (flat_map received_in events) in
    let whole = times_append is (taken_in step) (flat_map taken_in steps) in
    let losses = times_append is (lost_in step) (flat_map lost_in steps) in
    let here = taken_at_most is m tells step in
    let rest = all_taken_at_most is m tells steps in
    omega (arith, parts, whole, losses, here, rest)

taken_of : (moves : List Move) → taken_by moves ≡ flat_map taken_in (map (λ move. move.step) moves)
taken_of [] = refl
taken_of (move ∷ moves) = ap (λ (ms : List Message). taken_in move.step ++ ms) (taken_of moves)

-- the events of a book take what came at it
received_events : (events : List BookEvent) → flat_map received_in (map (λ e. node_event e.kind) events) ≡ messages_among events
received_events [] = refl
received_events (e ∷ events) =
    (λ x. of_kind e.kind x ++ received_events events x) ∙ sym (map-append (λ f. f.message) (frames_in e.kind) (received_among events))
  where
    of_kind : (kind : BookKind) → received_in (node_event kind) ≡ messages (frames_in kind)
    of_kind (kinds.Ask client name mode) = refl
    of_kind (kinds.Leave client name) = refl
    of_kind (kinds.Cancel client name) = refl
    of_kind kinds.Forget = refl
    of_kind (kinds.Receive f) = refl

-- ---- What is sent

-- what happened at a node, by a move and then others
times_in_parts : (is : Message → Bool) (i : ℕ) (m : Move) (moves : List Move) → times is (sent_in (happened_at i (m ∷ moves))) ≡ times is (sent_in (happens i m)) + times is (sent_in (happened_at i moves))
times_in_parts is i m moves =
    ap (times is) (flat_map-append (λ (h : Happening). h.sends) (happens i m) (happened_at i moves)) ∙ times_append is (sent_in (happens i m)) (sent_in (happened_at i moves))

times_here : (is : Message → Bool) (i : ℕ) (m : Move) (event : Event) → events_at i m.step ≡ event ∷ [] → times is (sent_in (happens i m)) ≡ times is m.sends
times_here is i m event here =
    ap (λ (es : List Event). times is (sent_in (map (λ (e : Event). record { event = e; sends = m.sends; marks = m.marks }) es))) here
    ∙ times_append is m.sends []
    ∙ omega arith

module _ (n start : ℕ) (prefixes : (prefix suffix : List Move) → IsRun n start (prefix ++ suffix) → IsRun n start prefix)
    (goes : (moves : List Move) (message : Message) → IsRun n start moves → IsUnderWay moves message → (1 ≤ to_of message) × (to_of message ≤ n)) (is : Message → Bool) (j : ℕ) where
  -- a step is an event of one of the nodes, or it sends nothing
  abbrev IsEventOrSilent : Step → List Message → Type 0
  IsEventOrSilent step sends = ((i : ℕ) × (1 ≤ i) × (i ≤ n) × (event : Event) × (events_at i step ≡ event ∷ [])) ⊎ (sends ≡ [])

  event_at : (i : ℕ) (event : Event) → cond (eqb i i) (event ∷ []) [] ≡ event ∷ []
  event_at i event = ap (λ (b : Bool). cond b (event ∷ []) []) (eq-eqb i i refl)

  event_or_silent : (prefix : List Move) (step : Step) (sends : List Message) (marks : List Mark) → IsRun n start prefix → IsFit n prefix step sends marks → IsEventOrSilent step sends
  event_or_silent prefix (Ask node client name mode) sends marks run fit = inl (node, fit.0, fit.1, acts.Ask client name mode, event_at node (acts.Ask client name mode))
  event_or_silent prefix (Leave node client name) sends marks run fit = inl (node, fit.0, fit.1, acts.Leave client name, event_at node (acts.Leave client name))
  event_or_silent prefix (Cancel node client name) sends marks run fit = inl (node, fit.0, fit.1, acts.Cancel client name, event_at node (acts.Cancel client name))
  event_or_silent prefix (Forget node) sends marks run fit = inl (node, fit.0, fit.1, acts.Forget, event_at node acts.Forget)
  event_or_silent prefix (Deliver message) sends marks run fit =
      let within = goes prefix message run fit in
      inl (to_of message, within.0, within.1, acts.Receive message, event_at (to_of message) (acts.Receive message))
  event_or_silent prefix (Lose message) sends marks run fit = inr fit.1
  event_or_silent prefix (Repeat message) sends marks run fit = inr fit.1

  -- if no other node sent a message, it was sent by moves no more often than at this one
  pub sent_by_one : (suffix prefix : List Move) → IsRun n start (prefix ++ suffix) → AreFit n prefix suffix
      → ((i : ℕ) → 1 ≤ i → i ≤ n → i ≢ j → times is (sent_in (happened_at i suffix)) ≡ 0) → times is (sent_by suffix) ≤ times is (sent_in (happened_at j suffix))
  sent_by_one [] prefix run fit none = omega arith
  sent_by_one (m ∷ suffix) prefix run fit none =
      let whole = times_append is m.sends (sent_by suffix) in
      let parts = times_in_parts is j m suffix in
      let rest = sent_by_one suffix (prefix ++ m ∷ []) (subst (IsRun n start) (sym (append_assoc prefix (m ∷ []) suffix)) run) fit.1
      (λ i low high apart.
      let before = none i low high apart in
      let split = times_in_parts is i m suffix in
      omega (arith, before, split))
      in
      let here = of_move (event_or_silent prefix m.step m.sends m.marks (prefixes prefix (m ∷ suffix) run) fit.0) in
      omega (arith, whole, parts, rest, here)
    where
      of_move : IsEventOrSilent m.step m.sends → times is m.sends ≤ times is (sent_in (happens j m))
      of_move (inr silent) = let nothing = ap (times is) silent in omega (arith, nothing)
      of_move (inl (i, low, high, event, here)) =
          elim (cases_eq i j) [
            | inl same ↦
                let sends = times_here is j m event (subst (λ (k : ℕ). events_at k m.step ≡ event ∷ []) same here) in
                omega (arith, sends)
            | inr apart ↦
                let sends = times_here is i m event here in
                let never = none i low high apart in
                let split = times_in_parts is i m suffix in
                omega (arith, sends, never, split)
          ]

-- ---- Nothing was lost

no_losses_of : (books : List BookState) → All (λ b. All (λ s. s.lost ≡ false) b.sent) books → all_lost books ≡ []
no_losses_of [] kept = refl
no_losses_of (b ∷ books) kept =
    let here = filter_none (λ (s : Sent). s.lost) b.sent (All-head (λ b. All (λ s. s.lost ≡ false) b.sent) b books kept) in
    let rest = no_losses_of books (All-tail (λ b. All (λ s. s.lost ≡ false) b.sent) b books kept) in
    λ x. map (λ (s : Sent). s.frame.message) (here x) ++ rest x

empty : (ms : List Message) → length ms ≡ 0 → ms ≡ []
empty [] none = refl
empty (m ∷ ms) none = absurd (omega (arith, none))

-- ---- The end of a settled run

module _ (laws : GrantLaws) (exist : (n start : ℕ) (moves : List Move) → IsNodeNumber n → IsRun n start moves → (left : List Message) × LeavesUnderWay moves left)
    (eq : Message → Message → Bool) (tells_same : (a b : Message) → IsTrue (eq a b) ↔ (a ≡ b))
    (own : (b : BookState) → HasHistory b → All (λ s. from_of s.frame.message ≡ b.me) b.sent)
    (books : List BookState) (moves : List Move) (cluster : IsCluster books) (histories : All HasHistory books) (fit : PairsFit books) (settled : IsSettledRun books moves) where
  abbrev n : ℕ
  n = length books

  abbrev start : ℕ
  start = start_of books

  count : IsNodeNumber n
  count = few books cluster histories

  whole : All HasWholeHistory books
  whole = whole_histories books cluster histories

  abbrev b_of : ℕ → BookState
  b_of = book_of books cluster whole fit

  -- of the node with this number
  module _ (i : ℕ) (low : 1 ≤ i) (high : i ≤ n) where
    abbrev b : BookState
    b = b_of i

    place : i - 1 < n
    place = omega (arith, low, high)

    me : b.me ≡ i
    me = me_is books cluster whole fit i low high

    -- what happened there sent what its book says
    sends_are : sent_in (happened_at i moves) ≡ messages_of b
    sends_are =
        let history = whole (i - 1) nobody place in
        let happened = happened_at b.me moves in
        let same = settled.events (i - 1) nobody place in
        let ends = book_ends books cluster moves settled.run.ends.0 settled.run.ends.1 (i - 1) place in
        let other = history_by b history happened (settled.run.ends.0 b.me) same ends in
        let postings = laws.one_history b.me b.nodes b.start b.events b.sent _ history.node (settled.run.ends.0 b.me) history.leads other.0 ∙ other.1 in
        ap (λ (k : ℕ). sent_in (happened_at k moves)) (sym me)
        ∙ ap sent_in (sym (happened_posted b.events happened same) ∙ ap (map happening_of) (sym postings))
        ∙ sent_of_book b history

    events_are : flat_map (events_at i) (map (λ (m : Move). m.step) moves) ≡ map (λ (e : BookEvent). node_event e.kind) b.events
    events_are = sym (events_by i moves) ∙ ap (λ (k : ℕ). map (λ (h : Happening). h.event) (happened_at k moves)) (sym me) ∙ settled.events (i - 1) nobody place

    -- what its book sent is from it, and not from another node
    not_from_it : (m : Message) → i ≢ from_of m → All (λ x. x ≢ m) (sent_in (happened_at i moves))
    not_from_it m apart =
        subst (All (λ x. x ≢ m)) (sym sends_are)
        (All-map (λ x. x ≢ m) (λ s. s.frame.message) b.sent
        (All-weaker (λ s. from_of s.frame.message ≡ b.me) (λ s. s.frame.message ≢ m) (λ s from same. apart (sym me ∙ sym from ∙ ap from_of same)) b.sent
        (own b (histories (i - 1) nobody place))))

  nothing_lost : lost_by moves ≡ []
  nothing_lost = empty (lost_by moves) (length_permutation (all_lost books) (lost_by moves) settled.losses ∙ ap length (no_losses_of books fit.none_lost))

  -- a message is as often under way as among those that its sender sent to its receiver and that have not come there
  module _ (m : Message) (within : (1 ≤ to_of m) × (to_of m ≤ n)) (other : IsOtherNode (to_of m) n (from_of m)) where
    abbrev i : ℕ
    i = to_of m

    abbrev j : ℕ
    j = from_of m

    abbrev receiver : BookState
    receiver = b_of i

    abbrev sender : BookState
    sender = b_of j

    at : receiver.me ≡ i
    at = me i within.0 within.1

    from : sender.me ≡ j
    from = me j other.first other.last

    apart : receiver.me ≢ sender.me
    apart e = other.other (sym (sym at ∙ e ∙ from))

    -- what was sent is what came and what has not come
    in_parts : sent_to i sender ≡ come_from j receiver ++ not_come sender receiver
    in_parts =
        let pair = fit.in_order (i - 1) nobody (place i within.0 within.1) (j - 1) nobody (place j other.first other.last) apart in
        let come = come_from sender.me receiver in
        let rest : not_come sender receiver ≡ pair.0 = ap (drop (length come)) pair.1 ∙ drop_at come pair.0 (length come) refl in
        ap (λ (x : ℕ). sent_to x sender) (sym at) ∙ pair.1 ∙ (λ x. come_from (from x) receiver ++ sym rest x)

    as_often : (left : List Message) → LeavesUnderWay moves left → (is : Message → Bool) → TellsApart is m → times is left ≡ times is (messages (not_come sender receiver))
    as_often left leaves is tells =
        let steps = map (λ (x : Move). x.step) moves in
        let frames : List Frame = map (λ (s : Sent). s.frame) sender.sent in
        let come = come_from j receiver in
        let to_it : Message → Bool = λ x. eqb (to_of x) i in
        let from_it : Message → Bool = λ x. eqb (from_of x) j in
        let each = times_each is (put_by moves) (taken_by moves) left leaves in
        let puts = times_put is moves in
        let copies = ap (times is) settled.unrepeated in
        let by_sender = ap (times is) (sends_are j other.first other.last ∙ sym (messages_sent sender.sent)) in
        let sent_at_most = sent_by_one n start (laws.prefixes n start) (λ ms x run under. (laws.goes n start ms x count run under).0) is j moves [] settled.run settled.run.each_fits
        (λ k low high others. never_there is m (sent_in (happened_at k moves)) tells (not_from_it k low high m others))
        in
        let sent_at_least = times_sent is j moves in
        let to_receiver = times_kept is to_it m tells (eq-eqb i i refl) (messages frames) in
        let sent_there = ap (times is) (messages_kept to_it frames) in
        let parts = ap (times is) (ap messages in_parts ∙ map-append (λ f. f.message) come (not_come sender receiver)) ∙ times_append is (messages come) (messages (not_come sender receiver)) in
        let came_there = ap (times is) (messages_kept from_it (received_among receiver.events)) in
        let from_sender = times_kept is from_it m tells (eq-eqb j j refl) (messages_among receiver.events) in
        let received = ap (times is) (ap (flat_map received_in) (events_are i within.0 within.1) ∙ received_events receiver.events) in
        let taken_at_least = taken_there is i steps in
        let taken_no_more = all_taken_at_most is m tells steps in
        let none_lost = ap (times is) (sym (lost_by_steps moves) ∙ nothing_lost) in
        let taken_all = ap (times is) (taken_of moves) in
        omega (
          arith,
          each,
          puts,
          copies,
          by_sender,
          sent_at_most,
          sent_at_least,
          to_receiver,
          sent_there,
          parts,
          came_there,
          from_sender,
          received,
          taken_at_least,
          taken_no_more,
          none_lost,
          taken_all,
        )

  -- the message of a frame that has not come is for the one node, and from the other
  goes_there : (k l : ℕ) (d e : BookState) → k < n → l < n → (m : Message) → Contains (messages (not_come (get_or books l e) (get_or books k d))) m
      → (to_of m ≡ (get_or books k d).me) × (from_of m ≡ (get_or books l e).me)
  goes_there k l d e low within m is =
      let receiver = get_or books k d in
      let sender = get_or books l e in
      let come = come_from sender.me receiver in
      let all : (P : Frame → Type 0) → All P (sent_to receiver.me sender) → All P (not_come sender receiver) =
      λ P h. all_right P (take (length come) (sent_to receiver.me sender)) (not_come sender receiver)
      (subst (All P) (sym (take-append-drop (length come) (sent_to receiver.me sender))) h)
      in
      let is_to : All (λ f. to_of f.message ≡ receiver.me) (sent_to receiver.me sender) = kept_pass receiver.me (map (λ (s : Sent). s.frame) sender.sent) in
      let is_from : All (λ f. from_of f.message ≡ sender.me) (sent_to receiver.me sender) =
      All-filter (λ f. eqb (to_of f.message) receiver.me) (λ f. from_of f.message ≡ sender.me) (map (λ (s : Sent). s.frame) sender.sent)
      (All-map (λ f. from_of f.message ≡ sender.me) (λ s. s.frame) sender.sent (own sender (histories l e within)))
      in (
        All-contains (λ x. to_of x ≡ receiver.me) (messages (not_come sender receiver)) m
            (All-map (λ x. to_of x ≡ receiver.me) (λ f. f.message) (not_come sender receiver) (all (λ f. to_of f.message ≡ receiver.me) is_to)) is,
        All-contains (λ x. from_of x ≡ sender.me) (messages (not_come sender receiver)) m
            (All-map (λ x. from_of x ≡ sender.me) (λ f. f.message) (not_come sender receiver) (all (λ f. from_of f.message ≡ sender.me) is_from)) is,
      )
    where
      kept_pass : (i : ℕ) (fs : List Frame) → All (λ f. to_of f.message ≡ i) (filter (λ f. eqb (to_of f.message) i) fs)
      kept_pass i [] = All-nil (λ f. to_of f.message ≡ i)
      kept_pass i (f ∷ fs) = by_test (eqb (to_of f.message) i) refl (kept_pass i fs)
        where
          by_test : (b : Bool) → eqb (to_of f.message) i ≡ b → All (λ f. to_of f.message ≡ i) (filter (λ f. eqb (to_of f.message) i) fs)
              → All (λ f. to_of f.message ≡ i) (cond b (f ∷ filter (λ f. eqb (to_of f.message) i) fs) (filter (λ f. eqb (to_of f.message) i) fs))
          by_test true e rest = All-cons (λ f. to_of f.message ≡ i) f (filter (λ f. eqb (to_of f.message) i) fs) (eqb-true (to_of f.message) i e) rest
          by_test false e rest = rest

  -- what is under way has not come
  has_not_come : (m : Message) → IsUnderWay moves m → HasNotCome books m
  has_not_come m (left, leaves, among) =
      let goes = laws.goes n start moves m count settled.run (left, leaves, among) in
      let is : Message → Bool = λ x. eq x m in
      let tells : TellsApart is m = λ x. tells_same x m in
      let same = as_often m goes.0 goes.1 left leaves is tells in
      let some = there_once is m left tells among in
      let i = to_of m in
      let j = from_of m in
      let to = place i goes.0.0 goes.0.1 in
      let from = place j goes.1.first goes.1.last in (
        i - 1,
        b_of i,
        to,
        get_or_default books (i - 1) (b_of i) nobody to,
        (
          j - 1,
          b_of j,
          from,
          get_or_default books (j - 1) (b_of j) nobody from,
          (apart m goes.0 goes.1, some_there is m (messages (not_come (b_of j) (b_of i))) tells (omega (arith, same, some))),
        ),
      )

  -- and what has not come is under way
  is_under_way : (m : Message) → HasNotCome books m → IsUnderWay moves m
  is_under_way m (k, at, low, here, (l, other, within, there, (differ, is))) =
      let receiver = get_or books k at in
      let sender = get_or books l other in
      let among : Contains (messages (not_come sender receiver)) m =
      subst (λ (x : BookState). Contains (messages (not_come x receiver)) m) (sym there) (subst (λ (x : BookState). Contains (messages (not_come other x)) m) (sym here) is)
      in
      let goes = goes_there k l at other low within m among in
      let number = number_at books cluster k at low in
      let from_number = number_at books cluster l other within in
      let to_is : (1 ≤ to_of m) × (to_of m ≤ n) = (omega (arith, goes.0, number), omega (arith, goes.0, number, low)) in
      let from_is : IsOtherNode (to_of m) n (from_of m) =
      record {
        first = omega (arith, goes.1, from_number);
        last = omega (arith, goes.1, from_number, within);
        other = λ e. differ (ap (λ (x : BookState). x.me) (sym here) ∙ sym goes.0 ∙ sym e ∙ goes.1 ∙ ap (λ (x : BookState). x.me) there);
      }
      in
      let receiver_is : receiver ≡ b_of (to_of m) = get_or_default books k at nobody low ∙ ap (λ (x : ℕ). get_or books x nobody) (omega (arith, goes.0, number)) in
      let sender_is : sender ≡ b_of (from_of m) = get_or_default books l other nobody within ∙ ap (λ (x : ℕ). get_or books x nobody) (omega (arith, goes.1, from_number)) in
      let at_end = exist n start moves count settled.run in
      let eq_m : Message → Bool = λ x. eq x m in
      let tells : TellsApart eq_m m = λ x. tells_same x m in
      let same = as_often m to_is from_is at_end.0 at_end.1 eq_m tells in
      let some = there_once eq_m m (messages (not_come (b_of (from_of m)) (b_of (to_of m)))) tells
      (subst (λ (x : BookState). Contains (messages (not_come x (b_of (to_of m)))) m) sender_is (subst (λ (x : BookState). Contains (messages (not_come sender x)) m) receiver_is among))
      in
      (at_end.0, at_end.1, some_there eq_m m at_end.0 tells (omega (arith, same, some)))

  pub under_way : (m : Message) → IsUnderWay moves m ↔ HasNotCome books m
  under_way m = (has_not_come m, is_under_way m)

  -- ---- If all that was sent has come

  module _ (all_come : AllHasCome books) where
    none_to_come : (m : Message) → HasNotCome books m → ⊥
    none_to_come m (k, at, low, here, (l, other, within, there, (differ, is))) =
        let receiver = get_or books k at in
        let sender = get_or books l other in
        let apart : receiver.me ≢ sender.me = λ e. differ (ap (λ (x : BookState). x.me) (sym here) ∙ e ∙ ap (λ (x : BookState). x.me) there) in
        let none : not_come sender receiver ≡ [] = drop_all (length (come_from sender.me receiver)) (sent_to receiver.me sender) (omega (arith, ap length (all_come k at low l other within apart))) in
        let among : Contains (messages (not_come sender receiver)) m =
        subst (λ (x : BookState). Contains (messages (not_come x receiver)) m) (sym there) (subst (λ (x : BookState). Contains (messages (not_come other x)) m) (sym here) is)
        in
        nowhere (subst (λ (fs : List Frame). Contains (messages fs) m) none among)
      where
        nowhere : Contains [] m → ⊥
        nowhere (k, low, same) = omega (arith, low)

    nothing_left : (left : List Message) → LeavesUnderWay moves left → left ≡ []
    nothing_left [] leaves = refl
    nothing_left (m ∷ left) leaves = absurd (none_to_come m (has_not_come m (m ∷ left, leaves, first m left)))

    pub is_quiet : IsQuiet moves
    is_quiet =
        let left = exist n start moves count settled.run in
        record { none_lost = nothing_lost; none_under_way = subst (LeavesUnderWay moves) (nothing_left left.0 left.1) left.1 }

    pub is_quiet_report : (report : Report) → Reports n start moves report → IsQuietReport report
    is_quiet_report report reports =
        record {
          none_lost = reports.lost ∙ ap length nothing_lost;
          none_under_way = reports.under_way.2 ∙ ap length (nothing_left reports.under_way.0 reports.under_way.1);
        }
