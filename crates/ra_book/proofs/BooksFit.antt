-- The steps of the settled order, and the losses after them, fit together: so they are a run.
use Rattle.std.proofs.Common.{◌≡◌, ◌⊎◌, ℕ, ◌+◌, ◌-◌, ◌<◌, ◌≤◌, List, [], ◌∷◌, ◌++◌, map, length, get_or, None, refl, sym, ap, ◌∙◌, subst, arith, inl, inr}
use Rattle.std.specs.Prelude.{All, Contains}
use Rattle.std.specs.List.{flat_map}
use Rattle.std.proofs.lemmas.List.{append-nil, length-map, take_all}
use Rattle.std.proofs.lemmas.List.Concat.{flat_map-append}
use Rattle.std.proofs.lemmas.List.Elements.{All-nil, All-cons, All-map, All-append, All-contains, Contains-get_or, Contains-append_right}
use Rattle.ra_stamp.specs.NodeId.{IsNodeNumber}
use Rattle.ra_stamp.specs.declared.message.Message.{Message}
use Rattle.ra_stamp.specs.Message.{from_of}
use Rattle.ra_node.specs.Node.{NodeState, opening_node}
use Rattle.ra_node.specs.Events.{Event, Happening, NodeEvents}
use Rattle.ra_world.specs.declared.step.Step.{Step}
use Rattle.ra_world.specs.declared.step.Step.TheVariants.{Lose}
use Rattle.ra_world.specs.Traffic.{Move, taken_in, sent_by, repeated_by}
use Rattle.ra_world.specs.Run.{IsRun, WorldRun, events_at, happened_at}
use Rattle.ra_world.specs.Fitting.{sent_in, happened_by, WasSentBy, NamesNode, FitTogether}
use Rattle.ra_book.specs.declared.book.event.BookKind.{BookKind}
use Rattle.ra_book.specs.declared.book.event.BookKind.TheVariants.{Ask, Leave, Cancel, Receive, Forget}
use Rattle.ra_book.specs.History.{node_event, happening_of}
use Rattle.ra_book.specs.Book.{BookState, nothing_taken, HasHistory}
use Rattle.ra_book.specs.Settled.{IsCluster, IsSettledOrder, Placed, WasSent, BooksFit, events_of, step_at, steps_of, all_lost, lost_among, all_received, settled_steps, start_of}
use Rattle.ra_book.proofs.Merging.{number_at}
use Rattle.ra_book.proofs.Projections.{projected, nothing_by_losses, none_repeated, nothing_repeated, all_addressed}
use Rattle.ra_book.proofs.Distinct.{AreDifferent, never_twice}
use Rattle.ra_book.proofs.Unsent.{all_were_sent}
use Rattle.ra_book.proofs.Happened.{happened_in, happened_at_place, events_of_book, sent_of_book}
use Rattle.ra_book.proofs.Deliveries.{all_of_each, delivered, happened, sent_all, sent_before, delivered_apart}
use Rattle.ra_book.proofs.SentApart.{different_at}
use Rattle.ra_book.proofs.LossesApart.{messages_of, lost_is_sent, all_apart}
use Rattle.ra_book.proofs.Whole.{HasWholeHistory, whole_histories}

-- ---- The place of an item in a list

-- a place of two joined lists is in the first or in the second
pub place_in : {X : Type 0} (xs ys prefix : List X) (z : X) (suffix : List X) → xs ++ ys ≡ prefix ++ z ∷ suffix
    → ((rest : List X) × (xs ≡ prefix ++ z ∷ rest)) ⊎ ((more : List X) × (prefix ≡ xs ++ more) × (ys ≡ more ++ z ∷ suffix))
place_in [] ys prefix z suffix e = inr (prefix, refl, e)
place_in (x ∷ xs) ys [] z suffix e = let same : x ≡ z = cc in inl (xs, ap (λ y. y ∷ xs) same)
place_in {X} (x ∷ xs) ys (f ∷ prefix) z suffix e =
    let same : x ≡ f = cc in
    let after : xs ++ ys ≡ prefix ++ z ∷ suffix = cc in
    elim (place_in xs ys prefix z suffix after) [
      | inl found ↦ inl (found.0, λ i. same i ∷ found.1 i)
      | inr found ↦ inr (found.0, λ i. sym same i ∷ found.1 i, found.2)
    ]

-- a place in a list of values is the place of a value
pub record Cut {X Y : Type 0} (f : X → Y) (xs : List X) (prefix : List Y) (y : Y) : Type 0 where
  pub before : List X
  pub this : X
  pub after : List X
  pub parts : xs ≡ before ++ this ∷ after
  pub before_is : map f before ≡ prefix
  pub this_is : f this ≡ y

cut_more : {X Y : Type 0} (f : X → Y) (x : X) (xs : List X) (z : Y) (prefix : List Y) (y : Y) → f x ≡ z → Cut f xs prefix y → Cut f (x ∷ xs) (z ∷ prefix) y
cut_more f x xs z prefix y head found =
    record {
      before = x ∷ found.before;
      this = found.this;
      after = found.after;
      parts = ap (λ ys. x ∷ ys) found.parts;
      before_is = λ i. head i ∷ found.before_is i;
      this_is = found.this_is;
    }

pub cut : {X Y : Type 0} (f : X → Y) (xs : List X) (prefix : List Y) (y : Y) (suffix : List Y) → map f xs ≡ prefix ++ y ∷ suffix → Cut f xs prefix y
cut f [] [] y suffix e = absurd (cc)
cut f [] (z ∷ prefix) y suffix e = absurd (cc)
cut f (x ∷ xs) [] y suffix e = record { before = []; this = x; after = xs; parts = refl; before_is = refl; this_is = cc }
cut f (x ∷ xs) (z ∷ prefix) y suffix e =
    let head : f x ≡ z = cc in
    let tail : map f xs ≡ prefix ++ y ∷ suffix = cc in
    cut_more f x xs z prefix y head (cut f xs prefix y suffix tail)

-- ---- The losses

abbrev losses : List Message → List Step
losses ms = map (λ m. Lose m) ms

taken_by_losses : (ms : List Message) → flat_map taken_in (losses ms) ≡ ms
taken_by_losses [] = refl
taken_by_losses (m ∷ ms) = ap (λ (xs : List Message). m ∷ xs) (taken_by_losses ms)

pub names : (n i : ℕ) (kind : BookKind) → (1 ≤ i) × (i ≤ n) → NamesNode n (step_at i kind)
names n i (Ask client name mode) within = within
names n i (Leave client name) within = within
names n i (Cancel client name) within = within
names n i Forget within = within
names n i (Receive frame) within = tt

-- ---- The steps fit together

module _ (books : List BookState) (placed : List Placed) (cluster : IsCluster books) (histories : All HasWholeHistory books) (order : IsSettledOrder books placed) where
  abbrev n : ℕ
  n = length books

  abbrev start : ℕ
  start = start_of books

  abbrev happens : ℕ → List Happening
  happens = happened books placed cluster histories order

  abbrev no_book : BookState
  no_book = record { me = 0; nodes = 0; start = 0; taken = nothing_taken; events = []; sent = []; fault = None }

  -- the book of a node, and what happened there
  record OfNode (i : ℕ) : Type 0 where
    book : BookState
    history : HasWholeHistory book
    me_is : book.me ≡ i
    nodes_is : book.nodes ≡ n
    start_is : book.start ≡ start
    events_are : events_of i placed ≡ book.events
    happened_is : happens i ≡ map happening_of history.leads.postings

  of_node : (i : ℕ) → 1 ≤ i → i ≤ n → OfNode i
  of_node i low high =
      let place : i - 1 < length books = omega (arith, low, high) in
      let b = get_or books (i - 1) no_book in
      let me : b.me ≡ i = number_at books cluster (i - 1) no_book place ∙ omega (arith, low) in
      let found = happened_at_place books histories (i - 1) no_book place in
      record {
        book = b;
        history = found.0;
        me_is = me;
        nodes_is = cluster.one_count (i - 1) no_book place;
        start_is = cluster.one_start (i - 1) no_book place;
        events_are = ap (λ (m : ℕ). events_of m placed) (sym me) ∙ order.each (i - 1) no_book place;
        happened_is = found.1;
      }

  pub history_of : (i : ℕ) → 1 ≤ i → i ≤ n → (node : NodeState) × NodeEvents (opening_node i n start) (happens i) node
  history_of i low high =
      let it = of_node i low high in
      let node = it.history.node in (
        node,
        subst (λ (hs : List Happening). NodeEvents (opening_node i n start) hs node) (sym it.happened_is)
            (subst (λ (x : NodeState). NodeEvents x (map happening_of it.history.leads.postings) node) (λ j. opening_node (it.me_is j) (it.nodes_is j) (it.start_is j)) it.history.leads.leads),
      )

  pub events_are : (i : ℕ) → 1 ≤ i → i ≤ n → (ms : List Message) → map (λ h. h.event) (happens i) ≡ flat_map (events_at i) (steps_of placed ++ losses ms)
  events_are i low high ms =
      let it = of_node i low high in
      ap (map (λ h. h.event)) it.happened_is
      ∙ events_of_book it.book it.history
      ∙ ap (map (λ e. node_event e.kind)) (sym it.events_are)
      ∙ sym (projected i placed (all_addressed books placed cluster histories order))
      ∙ sym (append-nil (flat_map (events_at i) (steps_of placed)))
      ∙ ap (λ (es : List Event). flat_map (events_at i) (steps_of placed) ++ es) (sym (nothing_by_losses i ms))
      ∙ sym (flat_map-append (events_at i) (steps_of placed) (losses ms))

  -- what happened at a node sent the messages of its book
  sent_there : (k : ℕ) (d : BookState) → k < n → sent_in (happens (k + 1)) ≡ messages_of (get_or books k d)
  sent_there k d low =
      let found = happened_at_place books histories k d low in
      let same : happens (k + 1) ≡ map happening_of found.0.leads.postings = ap (happened_in books histories) (omega arith) ∙ found.1 in
      ap sent_in same ∙ sent_of_book (get_or books k d) found.0

  -- if moves with these events sent different messages, so did each book
  pub each_different : (moves : List Move) → ((i : ℕ) → 1 ≤ i → i ≤ n → happened_at i moves ≡ happens i) → AreDifferent (sent_by moves) → All (λ b. AreDifferent (messages_of b)) books
  each_different moves happened different k d low =
      subst AreDifferent (ap sent_in (happened (k + 1) (omega arith) (omega (arith, low))) ∙ sent_there k d low) (different_at (k + 1) moves different)

  -- if all that came was sent, and no message came twice
  module _ (all_sent : All (λ f. WasSent books f) (all_received books)) (came : AreDifferent (map (λ f. f.message) (all_received books))) where
    -- after all events all that happened at a node has happened
    all_done : (i : ℕ) → 1 ≤ i → i ≤ n → (ms : List Message) → happened_by (happens i) i (steps_of placed ++ losses ms) ≡ happens i
    all_done i low high ms =
        take_all (length (flat_map (events_at i) (steps_of placed ++ losses ms))) (happens i)
        (omega (arith, ap length (events_are i low high ms), length-map (happens i) (λ (h : Happening). h.event)))

    -- some node sent the message
    abbrev WentOut : Message → Type 0
    WentOut m = (i : ℕ) × (1 ≤ i) × (i ≤ n) × Contains (sent_in (happens i)) m

    -- so a message that went out is lost after its sending
    loss_in_time : (before : List Message) (m : Message) → WentOut m → All (WasSentBy n happens (steps_of placed ++ losses before)) (m ∷ [])
    loss_in_time before m out =
        let P : Message → Type 0 = WasSentBy n happens (steps_of placed ++ losses before) in
        let done = all_done out.0 out.1 out.2 before in
        All-cons P m [] (out.0, out.1, out.2, subst (λ (hs : List Happening). Contains (sent_in hs) m) (sym done) out.3) (All-nil P)

    -- with losses of messages that were sent, which are different from each other and from those that came
    module _ (ms : List Message) (went_out : All WentOut ms) (apart : AreDifferent (delivered placed ++ ms)) where
      abbrev steps : List Step
      steps = steps_of placed ++ losses ms

      sent_in_time : (prefix : List Step) (step : Step) (suffix : List Step) → steps ≡ prefix ++ step ∷ suffix → All (WasSentBy n happens prefix) (taken_in step)
      sent_in_time prefix step suffix parts =
          elim (place_in (steps_of placed) (losses ms) prefix step suffix parts) [
            | inl found ↦
                let at = cut (λ p. step_at p.node p.event.kind) placed prefix step found.0 found.1 in
                subst (λ (s : Step). All (WasSentBy n happens prefix) (taken_in s)) at.this_is
                (subst (λ (ss : List Step). All (WasSentBy n happens ss) (taken_in (step_at at.this.node at.this.event.kind))) at.before_is
                (sent_before books placed cluster histories order all_sent at.before at.this at.after at.parts))
            | inr found ↦
                let at = cut (λ m. Lose m) ms found.0 step suffix found.2 in
                let out : WentOut at.this = All-contains WentOut ms at.this went_out
                (subst (λ (xs : List Message). Contains xs at.this) (sym at.parts) (Contains-append_right at.before (at.this ∷ at.after) at.this (0, omega arith, refl)))
                in
                let prefix_is : steps_of placed ++ losses at.before ≡ prefix = ap (λ (ss : List Step). steps_of placed ++ ss) at.before_is ∙ sym found.1 in
                subst (λ (s : Step). All (WasSentBy n happens prefix) (taken_in s)) at.this_is
                (subst (λ (ss : List Step). All (WasSentBy n happens ss) (at.this ∷ [])) prefix_is (loss_in_time at.before at.this out))
          ]

      fit : FitTogether n start steps happens
      fit = record {
        nodes = history_of;
        events = λ i low high. events_are i low high ms;
        named =
            All-append (NamesNode n) (steps_of placed) (losses ms)
            (All-map (NamesNode n) (λ p. step_at p.node p.event.kind) placed (λ k d low. names n (get_or placed k d).node (get_or placed k d).event.kind (order.no_others k d low)))
            (All-map (NamesNode n) (λ m. Lose m) ms (λ k d low. tt));
        sent = sent_in_time;
        once =
            subst AreDifferent
            (sym (flat_map-append taken_in (steps_of placed) (losses ms) ∙ ap (λ (xs : List Message). delivered placed ++ xs) (taken_by_losses ms))) apart;
        unrepeated = none_repeated placed ms;
      }

    -- ---- They are a run

    module _ (count : IsNodeNumber n)
        (fitting : (n start : ℕ) (steps : List Step) (happened : ℕ → List Happening) → IsNodeNumber n → FitTogether n start steps happened
        → (moves : List Move) × (map (λ move. move.step) moves ≡ steps) × IsRun n start moves × ((i : ℕ) → 1 ≤ i → i ≤ n → happened_at i moves ≡ happened i))
        (differ : (n start : ℕ) (moves : List Move) → IsNodeNumber n → IsRun n start moves → repeated_by moves ≡ [] → AreDifferent (sent_by moves))
        (own : All (λ b. All (λ s. from_of s.frame.message ≡ b.me) b.sent) books) where
      has_no_duplicates : AreDifferent (delivered placed)
      has_no_duplicates = delivered_apart books placed cluster histories order came

      -- the events alone are a run, so all messages that a book sent are different
      abbrev Ran : List Step → Type 0
      Ran steps = (moves : List Move) × (map (λ move. move.step) moves ≡ steps) × IsRun n start moves × ((i : ℕ) → 1 ≤ i → i ≤ n → happened_at i moves ≡ happens i)

      events_ran : Ran (steps_of placed ++ losses [])
      events_ran = fitting n start (steps_of placed ++ losses []) happens count
          (fit [] (All-nil WentOut) (subst AreDifferent (sym (append-nil (delivered placed))) has_no_duplicates))

      different_books : All (λ b. AreDifferent (messages_of b)) books
      different_books = each_different events_ran.0 events_ran.3 (differ n start events_ran.0 count events_ran.2 (nothing_repeated events_ran.0 placed [] events_ran.1))

      lost_went_out : All WentOut (all_lost books)
      lost_went_out =
          all_of_each WentOut (λ b. lost_among b.sent) books
          (λ k d low j e within.
          let b = get_or books k d in
          let m = get_or (lost_among b.sent) j e in
          (k + 1, omega arith, omega (arith, low), subst (λ (ms : List Message). Contains ms m) (sym (sent_there k d low)) (lost_is_sent b.sent m (Contains-get_or (lost_among b.sent) j e within))))

      settled_ran : Ran (settled_steps books placed)
      settled_ran = fitting n start (settled_steps books placed) happens count
          (fit (all_lost books) lost_went_out
          (all_apart books cluster own different_books placed (sent_all books placed cluster histories order all_sent) has_no_duplicates))

      pub is_run : WorldRun n start (settled_steps books placed)
      is_run = (settled_ran.0, settled_ran.1, settled_ran.2)

-- there are as many nodes as books
pub node_count : (books : List BookState) → IsCluster books → All HasHistory books → IsNodeNumber (length books)
node_count [] cluster histories = absurd (omega (arith, cluster.some))
node_count (b ∷ books) cluster histories =
    subst IsNodeNumber (cluster.one_count 0 b (omega arith)) (histories 0 b (omega arith)).count

-- if no frame came that was not sent, and no message twice, the settled steps are a run
pub books_ran :
    ((n start : ℕ) (steps : List Step) (happened : ℕ → List Happening) → IsNodeNumber n → FitTogether n start steps happened
    → (moves : List Move) × (map (λ move. move.step) moves ≡ steps) × IsRun n start moves × ((i : ℕ) → 1 ≤ i → i ≤ n → happened_at i moves ≡ happened i))
    → ((n start : ℕ) (moves : List Move) → IsNodeNumber n → IsRun n start moves → repeated_by moves ≡ [] → AreDifferent (sent_by moves))
    → ((b : BookState) → HasHistory b → All (λ s. from_of s.frame.message ≡ b.me) b.sent)
    → (books : List BookState) (placed : List Placed) → IsCluster books → All HasHistory books → IsSettledOrder books placed → BooksFit books
    → WorldRun (length books) (start_of books) (settled_steps books placed)
books_ran fitting differ own books placed cluster histories order fit =
    let whole = whole_histories books cluster histories in
    is_run books placed cluster whole order (all_were_sent books fit.0) (never_twice (map (λ f. f.message) (all_received books)) fit.1)
    (node_count books cluster histories) fitting differ (λ k d low. own (get_or books k d) (histories k d low))
