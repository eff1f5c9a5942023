-- What happens at a node by the steps of the settled order: the events of its book.
use Rattle.std.proofs.Common.{◌≡◌, ℕ, zero, suc, ◌-◌, ◌<◌, Bool, true, false, cond, eqb, List, [], ◌∷◌, ◌++◌, map, length, get_or, refl, sym, ap, ◌∙◌, subst, arith, None}
use Rattle.std.specs.Prelude.{All, Contains}
use Rattle.std.specs.List.{filter, flat_map}
use Rattle.std.specs.List.Sorted.{IsPermutation}
use Rattle.std.proofs.lemmas.Bool.{eq-eqb}
use Rattle.std.proofs.lemmas.List.{map-append, append-nil, get_or-map, length-map}
use Rattle.std.proofs.lemmas.List.Elements.{All-head, All-tail, All-map, All-weaker, All-contains}
use Rattle.std.proofs.lemmas.List.Concat.{flat_map-append}
use Rattle.std.proofs.lemmas.List.Sorted.{IsPermutation-refl}
use Rattle.ra_stamp.specs.declared.message.Message.{Message}
use Rattle.ra_stamp.specs.Message.{to_of}
use Rattle.ra_node.specs.Node.{opening_node}
use Rattle.ra_node.specs.Events.{Event, Happening, IsForThisNode}
use Rattle.ra_node.specs.Events.{Event as acts}
use Rattle.ra_world.specs.declared.step.Step.TheVariants.{Lose}
use Rattle.ra_world.specs.Traffic.{Move, lost_in, lost_by, repeated_in, repeated_by}
use Rattle.ra_world.specs.Run.{IsRun, events_at, happened_at}
use Rattle.ra_book.specs.declared.book.event.BookKind.{BookKind}
use Rattle.ra_book.specs.declared.book.event.BookKind.TheVariants.{Ask, Leave, Cancel, Receive, Forget}
use Rattle.ra_book.specs.declared.book.event.BookEvent.{BookEvent}
use Rattle.ra_book.specs.History.{happening_of, node_event}
use Rattle.ra_book.specs.Book.{BookState, nothing_taken}
use Rattle.ra_book.specs.Settled.{IsCluster, IsSettledOrder, IsSettledRun, Placed, events_of, step_at, steps_of, settled_steps, all_lost, start_of}
use Rattle.ra_book.proofs.Merging.{number_at}
use Rattle.ra_book.proofs.Whole.{HasWholeHistory}

-- ---- The steps of moves

-- what happened at a node, by the steps alone
pub events_by : (i : ℕ) (moves : List Move) → map (λ h. h.event) (happened_at i moves) ≡ flat_map (events_at i) (map (λ m. m.step) moves)
events_by i [] = refl
events_by i (m ∷ moves) =
    map-append (λ h. h.event) (map (λ (event : Event). record { event = event; sends = m.sends; marks = m.marks }) (events_at i m.step)) (happened_at i moves)
    ∙ (λ j. same (events_at i m.step) j ++ events_by i moves j)
  where
    same : (events : List Event) → map (λ (h : Happening). h.event) (map (λ (event : Event). record { event = event; sends = m.sends; marks = m.marks }) events) ≡ events
    same [] = refl
    same (e ∷ events) = ap (λ (es : List Event). e ∷ es) (same events)

pub lost_by_steps : (moves : List Move) → lost_by moves ≡ flat_map lost_in (map (λ m. m.step) moves)
lost_by_steps [] = refl
lost_by_steps (m ∷ moves) = ap (λ (ms : List Message). lost_in m.step ++ ms) (lost_by_steps moves)

-- ---- The losses

pub nothing_by_losses : (i : ℕ) (ms : List Message) → flat_map (events_at i) (map (λ m. Lose m) ms) ≡ []
nothing_by_losses i [] = refl
nothing_by_losses i (m ∷ ms) = nothing_by_losses i ms

lost_by_losses : (ms : List Message) → flat_map lost_in (map (λ m. Lose m) ms) ≡ ms
lost_by_losses [] = refl
lost_by_losses (m ∷ ms) = ap (λ (xs : List Message). m ∷ xs) (lost_by_losses ms)

pub lost_in_event : (i : ℕ) (kind : BookKind) → lost_in (step_at i kind) ≡ []
lost_in_event i (Ask client name mode) = refl
lost_in_event i (Leave client name) = refl
lost_in_event i (Cancel client name) = refl
lost_in_event i Forget = refl
lost_in_event i (Receive frame) = refl

pub nothing_lost : (placed : List Placed) → flat_map lost_in (steps_of placed) ≡ []
nothing_lost [] = refl
nothing_lost (p ∷ placed) = (λ j. lost_in_event p.node p.event.kind j ++ nothing_lost placed j)

-- ---- No step is a repeat

repeated_by_steps : (moves : List Move) → repeated_by moves ≡ flat_map repeated_in (map (λ m. m.step) moves)
repeated_by_steps [] = refl
repeated_by_steps (m ∷ moves) = ap (λ (ms : List Message). repeated_in m.step ++ ms) (repeated_by_steps moves)

pub repeated_in_event : (i : ℕ) (kind : BookKind) → repeated_in (step_at i kind) ≡ []
repeated_in_event i (Ask client name mode) = refl
repeated_in_event i (Leave client name) = refl
repeated_in_event i (Cancel client name) = refl
repeated_in_event i Forget = refl
repeated_in_event i (Receive frame) = refl

by_events : (placed : List Placed) → flat_map repeated_in (steps_of placed) ≡ []
by_events [] = refl
by_events (p ∷ placed) = (λ j. repeated_in_event p.node p.event.kind j ++ by_events placed j)

by_losses : (ms : List Message) → flat_map repeated_in (map (λ m. Lose m) ms) ≡ []
by_losses [] = refl
by_losses (m ∷ ms) = by_losses ms

pub none_repeated : (placed : List Placed) (ms : List Message) → flat_map repeated_in (steps_of placed ++ map (λ m. Lose m) ms) ≡ []
none_repeated placed ms = flat_map-append repeated_in (steps_of placed) (map (λ m. Lose m) ms) ∙ (λ j. by_events placed j ++ by_losses ms j)

-- so moves with these steps repeat no message
pub nothing_repeated : (moves : List Move) (placed : List Placed) (ms : List Message) → map (λ m. m.step) moves ≡ steps_of placed ++ map (λ m. Lose m) ms
    → repeated_by moves ≡ []
nothing_repeated moves placed ms steps = repeated_by_steps moves ∙ ap (flat_map repeated_in) steps ∙ none_repeated placed ms

-- ---- The events

-- a frame came to its receiver
abbrev pub IsAddressed : ℕ → BookKind → Type 0
IsAddressed i (Ask client name mode) = Unit {0}
IsAddressed i (Leave client name) = Unit {0}
IsAddressed i (Cancel client name) = Unit {0}
IsAddressed i Forget = Unit {0}
IsAddressed i (Receive frame) = to_of frame.message ≡ i

pub one_event : (i node : ℕ) (kind : BookKind) → IsAddressed node kind → events_at i (step_at node kind) ≡ cond (eqb node i) (node_event kind ∷ []) []
one_event i node (Ask client name mode) h = refl
one_event i node (Leave client name) h = refl
one_event i node (Cancel client name) h = refl
one_event i node Forget h = refl
one_event i node (Receive frame) h = ap (λ (n : ℕ). cond (eqb n i) (acts.Receive frame.message ∷ []) []) h

pub projected : (i : ℕ) (placed : List Placed) → All (λ p. IsAddressed p.node p.event.kind) placed → flat_map (events_at i) (steps_of placed) ≡ map (λ e. node_event e.kind) (events_of i placed)
projected i [] h = refl
projected i (p ∷ placed) h =
    (λ j. one_event i p.node p.event.kind (All-head (λ p. IsAddressed p.node p.event.kind) p placed h) j ++ projected i placed (All-tail (λ p. IsAddressed p.node p.event.kind) p placed h) j)
    ∙ by_test (eqb p.node i) (filter (λ p. eqb p.node i) placed)
  where
    by_test : (b : Bool) (rest : List Placed)
        → cond b (node_event p.event.kind ∷ []) [] ++ map (λ (e : BookEvent). node_event e.kind) (map (λ (p : Placed). p.event) rest)
        ≡ map (λ (e : BookEvent). node_event e.kind) (map (λ (p : Placed). p.event) (cond b (p ∷ rest) rest))
    by_test true rest = refl
    by_test false rest = refl

-- ---- Frames come to their receivers

pub of_map : {X Y : Type 0} (P : Y → Type 0) (f : X → Y) (xs : List X) → All P (map f xs) → All (λ x. P (f x)) xs
of_map P f xs h k d low = subst P (get_or-map f xs k d (f d) low) (h k (f d) (omega (arith, low, length-map xs f)))

-- the events of a book are its node's
pub for_this_node : (b : BookState) → HasWholeHistory b → All (λ e. IsForThisNode (opening_node b.me b.nodes b.start) (node_event e.kind)) b.events
for_this_node b history =
    let old = opening_node b.me b.nodes b.start in
    let postings = history.leads.postings in
    subst (λ (events : List BookEvent). All (λ e. IsForThisNode old (node_event e.kind)) events) history.leads.events_are
    (All-map (λ e. IsForThisNode old (node_event e.kind)) (λ p. p.event) postings (of_map (λ h. IsForThisNode old h.event) happening_of postings history.leads.for_this_node))

addressed : (b : BookState) (kind : BookKind) → IsForThisNode (opening_node b.me b.nodes b.start) (node_event kind) → IsAddressed b.me kind
addressed b (Ask client name mode) h = tt
addressed b (Leave client name) h = tt
addressed b (Cancel client name) h = tt
addressed b Forget h = tt
addressed b (Receive frame) h = h.to

-- what is in the order is among the events of its node
among : (placed : List Placed) (k : ℕ) (d : Placed) → k < length placed → Contains (events_of (get_or placed k d).node placed) (get_or placed k d).event
among [] k d low = absurd (omega (arith, low))
among (p ∷ placed) zero d low =
    subst (λ b. Contains (map (λ (p : Placed). p.event) (cond b (p ∷ filter (λ q. eqb q.node p.node) placed) (filter (λ q. eqb q.node p.node) placed))) p.event) (sym (eq-eqb p.node p.node refl)) (0, omega arith, refl)
among (p ∷ placed) (suc k) d low = by_test (eqb p.node (get_or placed k d).node) (filter (λ r. eqb r.node (get_or placed k d).node) placed) (among placed k d (omega (arith, low)))
  where
    by_test : (b : Bool) (rest : List Placed) → Contains (map (λ (p : Placed). p.event) rest) (get_or placed k d).event
        → Contains (map (λ (p : Placed). p.event) (cond b (p ∷ rest) rest)) (get_or placed k d).event
    by_test true rest is = (suc is.0, omega (arith, is.1), is.2)
    by_test false rest is = is

-- what holds of the events of each book holds in the order
pub all_placed : (P : ℕ → BookEvent → Type 0) (books : List BookState) (placed : List Placed) → IsCluster books → IsSettledOrder books placed
    → ((k : ℕ) (d : BookState) → k < length books → All (P (get_or books k d).me) (get_or books k d).events) → All (λ p. P p.node p.event) placed
all_placed P books placed cluster order each k d low =
    let p = get_or placed k d in
    let node = order.no_others k d low in
    let place : p.node - 1 < length books = omega (arith, node.0, node.1) in
    let e : BookState = record { me = 0; nodes = 0; start = 0; taken = nothing_taken; events = []; sent = []; fault = None } in
    let b = get_or books (p.node - 1) e in
    let me : b.me ≡ p.node = number_at books cluster (p.node - 1) e place ∙ omega (arith, node.0) in
    let here : Contains b.events p.event =
    subst (λ (events : List BookEvent). Contains events p.event) (ap (λ (i : ℕ). events_of i placed) (sym me) ∙ order.each (p.node - 1) e place) (among placed k d low)
    in
    subst (λ (i : ℕ). P i p.event) me (All-contains (P b.me) b.events p.event (each (p.node - 1) e place) here)

pub all_addressed : (books : List BookState) (placed : List Placed) → IsCluster books → All HasWholeHistory books → IsSettledOrder books placed → All (λ p. IsAddressed p.node p.event.kind) placed
all_addressed books placed cluster histories order =
    all_placed (λ i e. IsAddressed i e.kind) books placed cluster order
    (λ k d low.
    let b = get_or books k d in
    All-weaker (λ e. IsForThisNode (opening_node b.me b.nodes b.start) (node_event e.kind)) (λ e. IsAddressed b.me e.kind) (λ e. addressed b e.kind) b.events (for_this_node b (histories k d low)))

-- ---- The settled run

pub settled : (books : List BookState) (placed : List Placed) (moves : List Move) → IsCluster books → All HasWholeHistory books → IsSettledOrder books placed → IsRun (length books) (start_of books) moves
    → map (λ m. m.step) moves ≡ settled_steps books placed → IsSettledRun books moves
settled books placed moves cluster histories order run steps =
    record {
      run = run;
      events = λ k d low.
          let b = get_or books k d in
          events_by b.me moves ∙ ap (flat_map (events_at b.me)) steps
          ∙ flat_map-append (events_at b.me) (steps_of placed) (map (λ m. Lose m) (all_lost books))
          ∙ (λ j. projected b.me placed (all_addressed books placed cluster histories order) j ++ nothing_by_losses b.me (all_lost books) j)
          ∙ append-nil (map (λ e. node_event e.kind) (events_of b.me placed))
          ∙ ap (map (λ e. node_event e.kind)) (order.each k d low);
      losses =
          subst (IsPermutation (all_lost books))
          (sym (lost_by_steps moves ∙ ap (flat_map lost_in) steps ∙ flat_map-append lost_in (steps_of placed) (map (λ m. Lose m) (all_lost books)) ∙ (λ j. nothing_lost placed j ++ lost_by_losses (all_lost books) j)))
          (IsPermutation-refl (all_lost books));
      unrepeated = nothing_repeated moves placed (all_lost books) steps;
    }
