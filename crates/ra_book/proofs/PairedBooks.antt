-- Books whose pairs fit: all that came was sent and kept, and the events in the settled order are a run.
use Rattle.std.proofs.Common.{◌≡◌, ◌≢◌, ℕ, ◌-◌, ◌<◌, ◌≤◌, Bool, true, false, cond, eqb, List, [], ◌∷◌, ◌++◌, map, length, get_or, refl, sym, ap, ◌∙◌, subst, append_assoc, arith, inl, inr}
use Rattle.std.specs.Prelude.{All, Contains}
use Rattle.std.specs.List.{filter, flat_map}
use Rattle.std.proofs.lemmas.Bool.{eq-eqb, false≢true}
use Rattle.std.proofs.lemmas.List.{append-nil, map-append, get_or_default}
use Rattle.std.proofs.lemmas.List.Concat.{flat_map-append}
use Rattle.std.proofs.lemmas.List.Elements.{All-nil, All-cons, All-head, All-map, All-weaker, All-contains, All-filter, filter-append, Contains-get_or, Contains-append_right}
use Rattle.ra_stamp.specs.declared.message.Message.{Message}
use Rattle.ra_stamp.specs.Message.{from_of, to_of}
use Rattle.ra_automaton.specs.State.{IsForNode, IsOtherNode}
use Rattle.ra_frame.specs.declared.frame.Frame.{Frame}
use Rattle.ra_node.specs.Node.{NodeState, opening_node}
use Rattle.ra_node.specs.Events.{Happening, IsForThisNode}
use Rattle.ra_world.specs.declared.step.Step.{Step}
use Rattle.ra_world.specs.Traffic.{taken_in, repeated_in}
use Rattle.ra_world.specs.Run.{events_at}
use Rattle.ra_world.specs.Fitting.{TellsApart, sent_in, happened_by, NamesNode, IsLeftBy, FitWithCopies}
use Rattle.ra_world.proofs.Times.{times, times_append, there_once, never_there}
use Rattle.ra_book.specs.declared.book.event.BookKind.{BookKind}
use Rattle.ra_book.specs.declared.book.event.BookKind.TheVariants.{Ask, Leave, Cancel, Receive, Forget}
use Rattle.ra_book.specs.declared.book.event.BookEvent.{BookEvent}
use Rattle.ra_book.specs.declared.book.sent.Sent.{Sent}
use Rattle.ra_book.specs.History.{node_event}
use Rattle.ra_book.specs.Book.{BookState}
use Rattle.ra_book.specs.Keys.{messages_among}
use Rattle.ra_book.specs.Pairs.{PairsFit, AreFirstOf, sent_to, come_from}
use Rattle.ra_book.specs.Settled.{IsCluster, IsSettledOrder, Placed, WasSent, events_of, step_at, steps_of, start_of, frames_in, received_among, all_received}
use Rattle.ra_book.proofs.Merging.{number_at}
use Rattle.ra_book.proofs.Projections.{for_this_node, all_placed}
use Rattle.ra_book.proofs.Distinct.{all_left, all_right, passes_in}
use Rattle.ra_book.proofs.Deliveries.{all_of_each, delivered, delivered_to, events_of_parts, happened, frames_first, messages_first, addressed_prefix, sent_before_and_later, come_before}
use Rattle.ra_book.proofs.BooksFit.{place_in, cut, names, history_of, events_are}
use Rattle.ra_book.proofs.Parts.{first}
use Rattle.ra_book.proofs.SettledNodes.{nobody, book_at}
use Rattle.ra_book.proofs.Whole.{HasWholeHistory}

-- ---- Frames and their messages

abbrev pub messages : List Frame → List Message
messages fs = map (λ f. f.message) fs

-- the messages of those that pass a test of their messages pass it
pub messages_kept : (q : Message → Bool) (fs : List Frame) → messages (filter (λ f. q f.message) fs) ≡ filter q (messages fs)
messages_kept q [] = refl
messages_kept q (f ∷ fs) = by_test (q f.message) (messages_kept q fs)
  where
    by_test : (b : Bool) → messages (filter (λ f. q f.message) fs) ≡ filter q (messages fs)
        → messages (cond b (f ∷ filter (λ f. q f.message) fs) (filter (λ f. q f.message) fs)) ≡ cond b (f.message ∷ filter q (messages fs)) (filter q (messages fs))
    by_test true rest = ap (λ (ms : List Message). f.message ∷ ms) rest
    by_test false rest = rest

-- a message that passes a test is as often among those that pass it as among all
pub times_kept : (is q : Message → Bool) (m : Message) → TellsApart is m → q m ≡ true → (xs : List Message) → times is (filter q xs) ≡ times is xs
times_kept is q m tells passes [] = refl
times_kept is q m tells passes (x ∷ xs) = by_test (q x) refl (times_kept is q m tells passes xs)
  where
    by_test : (b : Bool) → q x ≡ b → times is (filter q xs) ≡ times is xs → times is (cond b (x ∷ filter q xs) (filter q xs)) ≡ times is (x ∷ xs)
    by_test true e rest =
        let kept = times_append is (x ∷ []) (filter q xs) in
        let whole = times_append is (x ∷ []) xs in
        omega (arith, kept, whole, rest)
    by_test false e rest =
        let none = never_there is m (x ∷ []) tells (All-cons (λ y. y ≢ m) x [] (λ same. false≢true (sym e ∙ ap q same ∙ passes)) (All-nil (λ y. y ≢ m))) in
        let whole = times_append is (x ∷ []) xs in
        omega (arith, none, whole, rest)

-- ---- For whom a frame is

for_kind : (old : NodeState) (kind : BookKind) → IsForThisNode old (node_event kind) → All (λ f. IsForNode old.me old.nodes f.message) (frames_in kind)
for_kind old (Ask client name mode) for = All-nil _
for_kind old (Leave client name) for = All-nil _
for_kind old (Cancel client name) for = All-nil _
for_kind old Forget for = All-nil _
for_kind old (Receive f) for = All-cons (λ f. IsForNode old.me old.nodes f.message) f [] for (All-nil _)

-- what comes at a book is for its node, and from another one
abbrev IsForBook : ℕ → ℕ → BookEvent → Type 0
IsForBook me nodes e = All (λ f. IsForNode me nodes f.message) (frames_in e.kind)

come_for_it : (b : BookState) → HasWholeHistory b → All (IsForBook b.me b.nodes) b.events
come_for_it b history =
    let old = opening_node b.me b.nodes b.start in
    All-weaker (λ e. IsForThisNode old (node_event e.kind)) (IsForBook b.me b.nodes) (λ e. for_kind old e.kind) b.events (for_this_node b history)

-- ---- Pairs that fit

module _ (books : List BookState) (cluster : IsCluster books) (histories : All HasWholeHistory books) (fit : PairsFit books) where
  abbrev n : ℕ
  n = length books

  come_each : (k : ℕ) (d : BookState) → k < n → All (IsForBook (get_or books k d).me n) (get_or books k d).events
  come_each k d low =
      let b = get_or books k d in
      subst (λ (m : ℕ). All (IsForBook b.me m) b.events) (cluster.one_count k d low) (come_for_it b (histories k d low))

  pub come_at : (k : ℕ) (d : BookState) → k < n → All (λ f. IsForNode (get_or books k d).me n f.message) (received_among (get_or books k d).events)
  come_at k d low =
      let b = get_or books k d in
      all_of_each (λ f. IsForNode b.me n f.message) (λ e. frames_in e.kind) b.events (come_each k d low)

  -- the book of the node with this number
  abbrev pub book_of : ℕ → BookState
  book_of i = book_at books (i - 1)

  pub me_is : (i : ℕ) → 1 ≤ i → i ≤ n → (book_of i).me ≡ i
  me_is i low high = number_at books cluster (i - 1) nobody (omega (arith, low, high)) ∙ omega (arith, low)

  pub pair_at : (k : ℕ) (d : BookState) → k < n → (j : ℕ) → IsOtherNode (get_or books k d).me n j → AreFirstOf (come_from j (get_or books k d)) (sent_to (get_or books k d).me (book_of j))
  pair_at k d low j other =
      let b = get_or books k d in
      let me = me_is j other.first other.last in
      subst (λ (x : ℕ). AreFirstOf (come_from x b) (sent_to b.me (book_of j))) me
      (fit.in_order k d low (j - 1) nobody (omega (arith, other.first, other.last)) (λ e. other.other (sym (e ∙ me))))

  -- ---- What came was sent

  module _ (own : All (λ b. All (λ s. from_of s.frame.message ≡ b.me) b.sent) books) where
    sent_and_kept : (j : ℕ) → j < n → All (λ f. WasSent books f) (map (λ s. s.frame) (book_at books j).sent)
    sent_and_kept j low =
        let b = book_at books j in
        All-map (λ f. WasSent books f) (λ s. s.frame) b.sent
        (λ i e within.
        let s = get_or b.sent i e in
        let kept : s ≡ record { frame = s.frame; lost = false } = λ x. record { frame = s.frame; lost = fit.none_lost j nobody low i e within x } in
        (j, b, low, get_or_default books j b nobody low, (sym (own j nobody low i e within), subst (λ (x : Sent). Contains b.sent x) kept (Contains-get_or b.sent i e within))))

    pub all_sent : All (λ f. WasSent books f) (all_received books)
    all_sent =
        all_of_each (λ f. WasSent books f) (λ b. received_among b.events) books
        (λ k d low i e within.
        let b = get_or books k d in
        let f = get_or (received_among b.events) i e in
        let j = from_of f.message in
        let other = (come_at k d low i e within).from in
        let pair = pair_at k d low j other in
        let sent = All-filter (λ g. eqb (to_of g.message) b.me) (λ g. WasSent books g) (map (λ s. s.frame) (book_of j).sent) (sent_and_kept (j - 1) (omega (arith, other.first, other.last))) in
        All-contains (λ g. WasSent books g) (come_from j b) f
        (all_left (λ g. WasSent books g) (come_from j b) pair.0 (subst (All (λ g. WasSent books g)) pair.1 sent))
        (passes_in (λ g. eqb (from_of g.message) j) (received_among b.events) f (eq-eqb j j refl) (Contains-get_or (received_among b.events) i e within)))

    -- ---- In a settled order

    module _ (placed : List Placed) (order : IsSettledOrder books placed) where
      abbrev happens : ℕ → List Happening
      happens = happened books placed cluster histories order

      abbrev first_frames : ℕ → List Placed → List Frame
      first_frames = frames_first books placed cluster histories order

      for_placed : All (λ p. IsForBook p.node n p.event) placed
      for_placed = all_placed (λ i e. IsForBook i n e) books placed cluster order come_each

      -- a frame comes by an event
      module _ (prefix : List Placed) (p : Placed) (suffix : List Placed) (parts : placed ≡ prefix ++ p ∷ suffix) (f : Frame) (kind : p.event.kind ≡ Receive f) where
        abbrev i : ℕ
        i = p.node

        abbrev j : ℕ
        j = from_of f.message

        here : (P : Placed → Type 0) → All P placed → P p
        here P all = All-head P p suffix (all_right P prefix (p ∷ suffix) (subst (All P) parts all))

        goes : IsForNode i n f.message
        goes = All-head (λ f. IsForNode i n f.message) f []
            (subst (λ (k : BookKind). All (λ f. IsForNode i n f.message) (frames_in k)) kind (here (λ q. IsForBook q.node n q.event) for_placed))

        within : (1 ≤ i) × (i ≤ n)
        within = here (λ q. (1 ≤ q.node) × (q.node ≤ n)) order.no_others

        me : (book_of i).me ≡ i
        me = me_is i within.0 within.1

        -- what came there from its sender: what came before, and then it
        abbrev is_from : Frame → Bool
        is_from g = eqb (from_of g.message) j

        abbrev came_before : List Frame
        came_before = filter is_from (received_among (events_of i prefix))

        abbrev comes_after : List Frame
        comes_after = filter is_from (received_among (events_of i suffix))

        event_here : events_of i (p ∷ suffix) ≡ p.event ∷ events_of i suffix
        event_here =
            ap (λ (b : Bool). map (λ (q : Placed). q.event) (cond b (p ∷ filter (λ q. eqb q.node i) suffix) (filter (λ q. eqb q.node i) suffix))) (eq-eqb i i refl)

        came : received_among (book_of i).events ≡ received_among (events_of i prefix) ++ f ∷ received_among (events_of i suffix)
        came =
            ap received_among
            (sym (order.each (i - 1) nobody (omega (arith, within.0, within.1))) ∙ ap (λ (m : ℕ). events_of m placed) me ∙ ap (events_of i) parts ∙ events_of_parts i prefix (p ∷ suffix)
            ∙ ap (λ (es : List BookEvent). events_of i prefix ++ es) event_here)
            ∙ flat_map-append (λ e. frames_in e.kind) (events_of i prefix) (p.event ∷ events_of i suffix)
            ∙ ap (λ (k : BookKind). received_among (events_of i prefix) ++ (frames_in k ++ received_among (events_of i suffix))) kind

        came_from : come_from j (book_of i) ≡ came_before ++ f ∷ comes_after
        came_from =
            ap (filter is_from) came
            ∙ filter-append is_from (received_among (events_of i prefix)) (f ∷ received_among (events_of i suffix))
            ∙ ap (λ (b : Bool). came_before ++ cond b (f ∷ comes_after) comes_after) (eq-eqb j j refl)

        pair : AreFirstOf (come_from j (book_of i)) (sent_to i (book_of j))
        pair =
            subst (λ (x : ℕ). AreFirstOf (come_from j (book_of i)) (sent_to x (book_of j))) me
            (pair_at (i - 1) nobody (omega (arith, within.0, within.1)) j (subst (λ (x : ℕ). IsOtherNode x n j) (sym me) goes.from))

        -- what its sender sent there: by its events before, and later
        abbrev is_to : Frame → Bool
        is_to g = eqb (to_of g.message) i

        sent : (later : List Frame) × (map (λ s. s.frame) (book_of j).sent ≡ first_frames j prefix ++ later) × All (λ g. p.event.clock ≤ g.clock) later
        sent =
            sent_before_and_later books placed cluster histories order all_sent prefix p suffix parts (j - 1) nobody (omega (arith, goes.from.first, goes.from.last)) j
            (me_is j goes.from.first goes.from.last)

        both : filter is_to (first_frames j prefix) ++ filter is_to sent.0 ≡ came_before ++ f ∷ (comes_after ++ pair.0)
        both =
            sym (filter-append is_to (first_frames j prefix) sent.0)
            ∙ ap (filter is_to) (sym sent.1)
            ∙ pair.1
            ∙ ap (λ (fs : List Frame). fs ++ pair.0) came_from
            ∙ append_assoc came_before (f ∷ comes_after) pair.0

        early : f.clock < p.event.clock
        early =
            (All-head (λ g. (g.clock < p.event.clock) × WasSent books g) f []
            (subst (λ (k : BookKind). All (λ g. (g.clock < p.event.clock) × WasSent books g) (frames_in k)) kind
            (come_before books placed cluster histories order all_sent prefix p suffix parts))).0

        -- its clock is less than the clocks of what is sent later, so it was sent before, after all that came before it
        sent_first : (rest : List Frame) × (filter is_to (first_frames j prefix) ≡ came_before ++ f ∷ rest)
        sent_first = elim (place_in (filter is_to (first_frames j prefix)) (filter is_to sent.0) came_before f (comes_after ++ pair.0) both) [
          | inl found ↦ found
          | inr found ↦
              let late : p.event.clock ≤ f.clock =
              All-contains (λ g. p.event.clock ≤ g.clock) (filter is_to sent.0) f (All-filter is_to (λ g. p.event.clock ≤ g.clock) sent.0 sent.2)
              (subst (λ (fs : List Frame). Contains fs f) (sym found.2) (Contains-append_right found.0 (f ∷ comes_after ++ pair.0) f (first f (comes_after ++ pair.0))))
              in
              absurd (omega (arith, early, late))
        ]

        -- so its message was sent more often than it was taken
        left : IsLeftBy n happens (steps_of prefix) f.message
        left = (
          j,
          goes.from.first,
          goes.from.last,
          λ is tells.
              let to_it : Message → Bool = λ m. eqb (to_of m) i in
              let from_it : Message → Bool = λ m. eqb (from_of m) j in
              let is_to_it = eq-eqb (to_of f.message) i goes.to in
              let taken = times_kept is to_it f.message tells is_to_it (delivered prefix) in
              let taken_there = ap (times is) (delivered_to i prefix (addressed_prefix books placed cluster histories order all_sent prefix p suffix parts)) in
              let from_sender = times_kept is from_it f.message tells (eq-eqb j j refl) (messages_among (events_of i prefix)) in
              let came_there = ap (times is) (messages_kept from_it (received_among (events_of i prefix))) in
              let sends = ap (times is) (messages_first books placed cluster histories order j prefix) in
              let sent_to_it = times_kept is to_it f.message tells is_to_it (messages (first_frames j prefix)) in
              let sent_there = ap (times is) (messages_kept to_it (first_frames j prefix)) in
              let in_parts =
              ap (times is) (ap messages sent_first.1 ∙ map-append (λ g. g.message) came_before (f ∷ sent_first.0))
              ∙ times_append is (messages came_before) (f.message ∷ messages sent_first.0)
              in
              let once = there_once is f.message (f.message ∷ messages sent_first.0) tells (0, omega arith, refl) in
              let puts = times_append is (sent_in (happened_by (happens j) j (steps_of prefix))) (flat_map repeated_in (steps_of prefix)) in
              omega (arith, taken, taken_there, from_sender, came_there, sends, sent_to_it, sent_there, in_parts, once, puts),
        )

      left_at : (prefix : List Placed) (p : Placed) (suffix : List Placed) → placed ≡ prefix ++ p ∷ suffix → (kind : BookKind) → p.event.kind ≡ kind
          → All (IsLeftBy n happens (steps_of prefix)) (taken_in (step_at p.node kind) ++ repeated_in (step_at p.node kind))
      left_at prefix p suffix parts (Ask client name mode) is = All-nil _
      left_at prefix p suffix parts (Leave client name) is = All-nil _
      left_at prefix p suffix parts (Cancel client name) is = All-nil _
      left_at prefix p suffix parts Forget is = All-nil _
      left_at prefix p suffix parts (Receive f) is = All-cons (IsLeftBy n happens (steps_of prefix)) f.message [] (left prefix p suffix parts f is) (All-nil _)

      all_left_by : (prefix : List Step) (step : Step) (suffix : List Step) → steps_of placed ≡ prefix ++ step ∷ suffix → All (IsLeftBy n happens prefix) (taken_in step ++ repeated_in step)
      all_left_by prefix step suffix parts =
          let at = cut (λ p. step_at p.node p.event.kind) placed prefix step suffix parts in
          let this = step_at at.this.node at.this.event.kind in
          subst (λ (s : Step). All (IsLeftBy n happens prefix) (taken_in s ++ repeated_in s)) at.this_is
          (subst (λ (ss : List Step). All (IsLeftBy n happens ss) (taken_in this ++ repeated_in this)) at.before_is
          (left_at at.before at.this at.after at.parts at.this.event.kind refl))

      -- the events in the settled order are a run
      pub steps_fit : FitWithCopies n (start_of books) (steps_of placed) happens
      steps_fit = record {
        nodes = history_of books placed cluster histories order;
        events = λ i low high. events_are books placed cluster histories order i low high [] ∙ ap (flat_map (events_at i)) (append-nil (steps_of placed));
        named =
            All-map (NamesNode n) (λ p. step_at p.node p.event.kind) placed (λ k d low. names n (get_or placed k d).node (get_or placed k d).event.kind (order.no_others k d low));
        left = all_left_by;
      }
