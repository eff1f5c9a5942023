-- The frames that came, in the settled order: each was sent by what its sender did before, and no message came twice.
use Rattle.std.proofs.Common.{◌≡◌, ◌≢◌, ℕ, ◌+◌, ◌-◌, ◌<◌, ◌≤◌, Bool, true, false, cond, eqb, max, List, [], ◌∷◌, ◌++◌, map, length, get_or, take, drop, None, refl, sym, ap, ◌∙◌, subst, arith, inl, inr}
use Rattle.std.specs.Prelude.{All, AllPairs, Contains}
use Rattle.std.specs.List.{filter, flat_map}
use Rattle.std.proofs.lemmas.Bool.{eq-eqb}
use Rattle.std.proofs.lemmas.List.{map-append, length-map, length-append, take-map, get_or_default, get_or_append_left, get_or_at}
use Rattle.std.proofs.lemmas.List.Elements.{All-nil, All-cons, All-head, All-tail, All-map, All-weaker, All-append, All-contains, All-filter, filter-append}
use Rattle.ra_stamp.specs.declared.message.Message.{Message}
use Rattle.ra_stamp.specs.Message.{from_of, to_of}
use Rattle.ra_frame.specs.declared.frame.Frame.{Frame}
use Rattle.ra_node.specs.Events.{Happening}
use Rattle.ra_world.specs.Traffic.{taken_in}
use Rattle.ra_world.specs.Run.{events_at}
use Rattle.ra_world.specs.Fitting.{sent_in, happened_by, WasSentBy}
use Rattle.ra_book.specs.declared.book.event.BookKind.{BookKind}
use Rattle.ra_book.specs.declared.book.event.BookKind.TheVariants.{Ask, Leave, Cancel, Receive, Forget}
use Rattle.ra_book.specs.declared.book.event.BookEvent.{BookEvent}
use Rattle.ra_book.specs.History.{AreClocked, clock_after, node_event, happening_of, frames_of}
use Rattle.ra_book.specs.Book.{BookState, nothing_taken}
use Rattle.ra_book.specs.Keys.{messages_among}
use Rattle.ra_book.specs.Settled.{IsCluster, IsSettledOrder, IsBefore, Placed, WasSent, events_of, step_at, steps_of, frames_in, received_among, all_received}
use Rattle.ra_book.specs.Repeats.{ComesBy, frames_by}
use Rattle.ra_book.proofs.Merging.{number_at}
use Rattle.ra_book.proofs.Projections.{IsAddressed, projected, all_placed, all_addressed}
use Rattle.ra_book.proofs.Received.{all_received_split}
use Rattle.ra_book.proofs.Distinct.{AreDifferent, all_left, all_right, pairs_left, pairs_right, pairs_first, kept_apart, in_map}
use Rattle.ra_book.proofs.Happened.{happened_in, postings_in, posted_at_place, sent_in_parts, sent_by_first, sent_in_frames}
use Rattle.ra_book.proofs.Whole.{HasWholeHistory}

-- ---- The clocks of the frames that came

abbrev AreEarlier : BookEvent → Type 0
AreEarlier e = All (λ f. f.clock < e.clock) (frames_in e.kind)

frames_earlier : (clock : ℕ) (kind : BookKind) → All (λ f. f.clock < clock_after clock kind) (frames_in kind)
frames_earlier clock (Ask client name mode) = All-nil (λ f. f.clock < clock + 1)
frames_earlier clock (Leave client name) = All-nil (λ f. f.clock < clock + 1)
frames_earlier clock (Cancel client name) = All-nil (λ f. f.clock < clock + 1)
frames_earlier clock Forget = All-nil (λ f. f.clock < clock + 1)
frames_earlier clock (Receive frame) =
    All-cons (λ f. f.clock < max clock frame.clock + 1) frame [] (omega arith) (All-nil (λ f. f.clock < max clock frame.clock + 1))

all_earlier : (clock : ℕ) (events : List BookEvent) → AreClocked clock events → All AreEarlier events
all_earlier clock [] clocked = All-nil AreEarlier
all_earlier clock (e ∷ events) clocked =
    All-cons AreEarlier e events (subst (λ (n : ℕ). All (λ f. f.clock < n) (frames_in e.kind)) (sym clocked.0) (frames_earlier clock e.kind))
    (all_earlier e.clock events clocked.2)

-- ---- The clocks from a place on

not_after : (a b : Placed) → IsBefore a b → a.event.clock ≤ b.event.clock
not_after a b (inl less) = omega (arith, less)
not_after a b (inr same) = omega (arith, same.0)

from_there : (prefix : List Placed) (p : Placed) (suffix : List Placed) → AllPairs IsBefore (prefix ++ p ∷ suffix) → All (λ q. p.event.clock ≤ q.event.clock) (p ∷ suffix)
from_there prefix p suffix sorted =
    All-cons (λ q. p.event.clock ≤ q.event.clock) p suffix (omega arith)
    (All-weaker (IsBefore p) (λ q. p.event.clock ≤ q.event.clock) (λ q. not_after p q) suffix (pairs_first IsBefore p suffix (pairs_right IsBefore prefix (p ∷ suffix) sorted)))

events_late : (clock i : ℕ) (placed : List Placed) → All (λ q. clock ≤ q.event.clock) placed → All (λ e. clock ≤ e.clock) (events_of i placed)
events_late clock i placed late =
    All-map (λ e. clock ≤ e.clock) (λ p. p.event) (filter (λ p. eqb p.node i) placed) (All-filter (λ p. eqb p.node i) (λ q. clock ≤ q.event.clock) placed late)

pub events_of_parts : (i : ℕ) (prefix suffix : List Placed) → events_of i (prefix ++ suffix) ≡ events_of i prefix ++ events_of i suffix
events_of_parts i prefix suffix =
    ap (λ (ps : List Placed). map (λ p. p.event) ps) (filter-append (λ p. eqb p.node i) prefix suffix)
    ∙ map-append (λ p. p.event) (filter (λ p. eqb p.node i) prefix) (filter (λ p. eqb p.node i) suffix)

-- ---- Joined lists

pub all_in_each : {X Y : Type 0} (P : Y → Type 0) (g : X → List Y) (xs : List X) → All P (flat_map g xs) → All (λ x. All P (g x)) xs
all_in_each P g [] all = All-nil (λ x. All P (g x))
all_in_each P g (x ∷ xs) all = All-cons (λ x. All P (g x)) x xs (all_left P (g x) (flat_map g xs) all) (all_in_each P g xs (all_right P (g x) (flat_map g xs) all))

pub all_of_each : {X Y : Type 0} (P : Y → Type 0) (g : X → List Y) (xs : List X) → All (λ x. All P (g x)) xs → All P (flat_map g xs)
all_of_each P g [] all = All-nil P
all_of_each P g (x ∷ xs) all = All-append P (g x) (flat_map g xs) (All-head (λ x. All P (g x)) x xs all) (all_of_each P g xs (All-tail (λ x. All P (g x)) x xs all))

-- ---- The messages of the steps

-- the messages that the steps of the events take
abbrev pub delivered : List Placed → List Message
delivered placed = flat_map taken_in (steps_of placed)

pub taken_is : (i : ℕ) (kind : BookKind) → taken_in (step_at i kind) ≡ map (λ f. f.message) (frames_in kind)
taken_is i (Ask client name mode) = refl
taken_is i (Leave client name) = refl
taken_is i (Cancel client name) = refl
taken_is i Forget = refl
taken_is i (Receive frame) = refl

pub all_delivered : (P : Message → Type 0) (placed : List Placed) → All (λ p. All (λ f. P f.message) (frames_in p.event.kind)) placed → All P (delivered placed)
all_delivered P placed all =
    all_of_each P taken_in (steps_of placed)
    (All-map (λ step. All P (taken_in step)) (λ p. step_at p.node p.event.kind) placed
    (All-weaker (λ p. All (λ f. P f.message) (frames_in p.event.kind)) (λ p. All P (taken_in (step_at p.node p.event.kind)))
    (λ p each. subst (All P) (sym (taken_is p.node p.event.kind)) (All-map P (λ f. f.message) (frames_in p.event.kind) each)) placed all))

nothing_kept : (b : Bool) → cond {A = List Message} b [] [] ≡ []
nothing_kept true = refl
nothing_kept false = refl

kept_there : (i node : ℕ) (kind : BookKind) → IsAddressed node kind → filter (λ m. eqb (to_of m) i) (taken_in (step_at node kind)) ≡ cond (eqb node i) (map (λ f. f.message) (frames_in kind)) []
kept_there i node (Ask client name mode) to = sym (nothing_kept (eqb node i))
kept_there i node (Leave client name) to = sym (nothing_kept (eqb node i))
kept_there i node (Cancel client name) to = sym (nothing_kept (eqb node i))
kept_there i node Forget to = sym (nothing_kept (eqb node i))
kept_there i node (Receive frame) to = ap (λ (n : ℕ). cond (eqb n i) (frame.message ∷ []) []) to

-- those for a node are those that came there
pub delivered_to : (i : ℕ) (placed : List Placed) → All (λ p. IsAddressed p.node p.event.kind) placed → filter (λ m. eqb (to_of m) i) (delivered placed) ≡ messages_among (events_of i placed)
delivered_to i [] all = refl
delivered_to i (p ∷ placed) all =
    filter-append (λ m. eqb (to_of m) i) (taken_in (step_at p.node p.event.kind)) (delivered placed)
    ∙ (λ j. kept_there i p.node p.event.kind (All-head (λ p. IsAddressed p.node p.event.kind) p placed all) j
    ++ delivered_to i placed (All-tail (λ p. IsAddressed p.node p.event.kind) p placed all) j)
    ∙ by_test (eqb p.node i) (filter (λ p. eqb p.node i) placed)
  where
    by_test : (b : Bool) (rest : List Placed)
        → cond b (map (λ (f : Frame). f.message) (frames_in p.event.kind)) [] ++ messages_among (map (λ (p : Placed). p.event) rest)
        ≡ messages_among (map (λ (p : Placed). p.event) (cond b (p ∷ rest) rest))
    by_test true rest = sym (map-append (λ (f : Frame). f.message) (frames_in p.event.kind) (received_among (map (λ (p : Placed). p.event) rest)))
    by_test false rest = refl

-- ---- In a settled order

module _ (books : List BookState) (placed : List Placed) (cluster : IsCluster books) (histories : All HasWholeHistory books) (order : IsSettledOrder books placed) where
  abbrev n : ℕ
  n = length books

  -- what happened at each node
  abbrev pub happened : ℕ → List Happening
  happened i = happened_in books histories (i - 1)

  addressed_all : All (λ p. IsAddressed p.node p.event.kind) placed
  addressed_all = all_addressed books placed cluster histories order

  earlier_all : All (λ p. AreEarlier p.event) placed
  earlier_all = all_placed (λ i e. AreEarlier e) books placed cluster order (λ k d low. all_earlier 0 (get_or books k d).events (histories k d low).leads.clocked)

  -- the frames that a node sent in its events among these, and their messages
  abbrev pub frames_first : ℕ → List Placed → List Frame
  frames_first i prefix = frames_of (take (length (flat_map (events_at i) (steps_of prefix))) (postings_in books histories (i - 1)))

  pub messages_first : (i : ℕ) (prefix : List Placed) → sent_in (happened_by (happened i) i (steps_of prefix)) ≡ map (λ f. f.message) (frames_first i prefix)
  messages_first i prefix =
      let many = length (flat_map (events_at i) (steps_of prefix)) in
      ap sent_in (take-map happening_of many (postings_in books histories (i - 1))) ∙ sent_in_frames (take many (postings_in books histories (i - 1)))

  -- all frames that came were sent and kept
  module _ (all_sent : All (λ f. WasSent books f) (all_received books)) where
    pub sent_all : All (λ p. All (λ f. WasSent books f) (frames_in p.event.kind)) placed
    sent_all = all_placed (λ i e. All (λ f. WasSent books f) (frames_in e.kind)) books placed cluster order
        (λ k d low. all_in_each (λ f. WasSent books f) (λ e. frames_in e.kind) (get_or books k d).events (all_in_each (λ f. WasSent books f) (λ b. received_among b.events) books all_sent k d low))

    module _ (prefix : List Placed) (p : Placed) (suffix : List Placed) (parts : placed ≡ prefix ++ p ∷ suffix) where
      pub addressed_prefix : All (λ p. IsAddressed p.node p.event.kind) prefix
      addressed_prefix = all_left (λ p. IsAddressed p.node p.event.kind) prefix (p ∷ suffix) (subst (All (λ p. IsAddressed p.node p.event.kind)) parts addressed_all)

      abbrev Here : (Placed → Type 0) → Type 0
      Here P = All P (p ∷ suffix)

      here : (P : Placed → Type 0) → All P placed → P p
      here P all = All-head P p suffix (all_right P prefix (p ∷ suffix) (subst (All P) parts all))

      late : (i : ℕ) → All (λ e. p.event.clock ≤ e.clock) (events_of i (p ∷ suffix))
      late i = events_late p.event.clock i (p ∷ suffix) (from_there prefix p suffix (subst (AllPairs IsBefore) parts order.sorted))

      -- of the book at a place: what its node did before, and the events from there on
      module _ (k : ℕ) (b : BookState) (low : k < n) (i : ℕ) (me : (get_or books k b).me ≡ i) where
        abbrev it : BookState
        it = get_or books k b

        parts_of : it.events ≡ events_of i prefix ++ events_of i (p ∷ suffix)
        parts_of = sym (order.each k b low) ∙ ap (λ (m : ℕ). events_of m placed) me ∙ ap (events_of i) parts ∙ events_of_parts i prefix (p ∷ suffix)

        -- the frames that its first events sent are those that the node sent before
        first_are : (found : (history : HasWholeHistory it) × (postings_in books histories k ≡ history.leads.postings))
            → frames_of (take (length (events_of i prefix)) found.0.leads.postings) ≡ frames_first i prefix
        first_are found =
            let many : length (events_of i prefix) ≡ length (flat_map (events_at i) (steps_of prefix)) =
            sym (ap length (projected i prefix addressed_prefix) ∙ length-map (events_of i prefix) (λ e. node_event e.kind))
            in
            let number = number_at books cluster k b low in
            let same : found.0.leads.postings ≡ postings_in books histories (i - 1) = sym found.1 ∙ ap (postings_in books histories) (omega (arith, number, me)) in
            λ j. frames_of (take (many j) (same j))

        -- the book has the frames that the node sent before, and then the frames of this clock or later ones
        pub sent_before_and_later : (later : List Frame) × (map (λ s. s.frame) it.sent ≡ frames_first i prefix ++ later) × All (λ f. p.event.clock ≤ f.clock) later
        sent_before_and_later =
            let found = posted_at_place books histories k b low in
            let split = sent_in_parts it found.0 p.event.clock (events_of i prefix) (events_of i (p ∷ suffix)) parts_of (late i) in
            (split.0, split.1 ∙ ap (λ (fs : List Frame). fs ++ split.0) (first_are found), split.2)

        sent_by_its_first : (f : Frame) → f.clock < p.event.clock → Contains it.sent (record { frame = f; lost = false }) → Contains (frames_first i prefix) f
        sent_by_its_first f less kept =
            let found = posted_at_place books histories k b low in
            subst (λ (fs : List Frame). Contains fs f) (first_are found)
            (sent_by_first it found.0 f p.event.clock (events_of i prefix) (events_of i (p ∷ suffix)) parts_of (late i) less kept)

      -- a frame of an earlier clock than this event is among those that its sender's events before sent
      pub frame_before : (f : Frame) → f.clock < p.event.clock → WasSent books f
          → (1 ≤ from_of f.message) × (from_of f.message ≤ n) × Contains (frames_first (from_of f.message) prefix) f
      frame_before f less (k, b, low, at, is) =
          let it = get_or books k b in
          let number : it.me ≡ k + 1 = number_at books cluster k b low in
          let me : it.me ≡ from_of f.message = ap (λ (x : BookState). x.me) at ∙ is.0 in
          let kept : Contains it.sent (record { frame = f; lost = false }) = subst (λ (x : BookState). Contains x.sent (record { frame = f; lost = false })) (sym at) is.1 in
          (omega (arith, number, me), omega (arith, number, me, low), sent_by_its_first k b low (from_of f.message) me f less kept)

      -- the frames that come with the event have earlier clocks, and were sent
      pub come_before : All (λ f. (f.clock < p.event.clock) × WasSent books f) (frames_in p.event.kind)
      come_before k d low =
          (here (λ q. AreEarlier q.event) earlier_all k d low, here (λ q. All (λ f. WasSent books f) (frames_in q.event.kind)) sent_all k d low)

      -- and so have those that came by the events before it
      pub came_before : (f : Frame) → ComesBy prefix f → (f.clock < p.event.clock) × WasSent books f
      came_before f came =
          All-contains (λ f. (f.clock < p.event.clock) × WasSent books f) (frames_by prefix) f
          (all_of_each (λ f. (f.clock < p.event.clock) × WasSent books f) (λ q. frames_in q.event.kind) prefix
          (λ k d low i e within.
          let early : (get_or prefix k d).event.clock ≤ p.event.clock = not_after (get_or prefix k d) p (in_order k d low) in
          let less = all_left (λ q. AreEarlier q.event) prefix (p ∷ suffix) (subst (All (λ q. AreEarlier q.event)) parts earlier_all) k d low i e within in
          let sent = all_left (λ q. All (λ f. WasSent books f) (frames_in q.event.kind)) prefix (p ∷ suffix)
          (subst (All (λ q. All (λ f. WasSent books f) (frames_in q.event.kind))) parts sent_all) k d low i e within
          in
          (omega (arith, early, less), sent))) came
        where
          in_order : (k : ℕ) (d : Placed) → k < length prefix → IsBefore (get_or prefix k d) p
          in_order k d low =
              let whole = prefix ++ p ∷ suffix in
              let pair : IsBefore (get_or whole k d) (get_or whole (length prefix) d) =
              subst (AllPairs IsBefore) parts order.sorted k (length prefix) d low (omega (arith, length-append prefix (p ∷ suffix)))
              in
              subst (λ (q : Placed). IsBefore q p) (get_or_append_left prefix (p ∷ suffix) d k low)
              (subst (λ (q : Placed). IsBefore (get_or whole k d) q) (get_or_at prefix p suffix d (length prefix) refl) pair)

      was_before : (f : Frame) → f.clock < p.event.clock → WasSent books f → WasSentBy n happened (steps_of prefix) f.message
      was_before f less sent =
          let i : ℕ = from_of f.message in
          let was = frame_before f less sent in (
            i,
            was.0,
            was.1,
            subst (λ (ms : List Message). Contains ms f.message) (sym (messages_first i prefix)) (in_map (λ g. g.message) (frames_first i prefix) f was.2),
          )

      -- a frame that comes was sent by what its sender did before
      pub sent_before : All (WasSentBy n happened (steps_of prefix)) (taken_in (step_at p.node p.event.kind))
      sent_before =
          subst (All (WasSentBy n happened (steps_of prefix))) (sym (taken_is p.node p.event.kind))
          (All-map (WasSentBy n happened (steps_of prefix)) (λ f. f.message) (frames_in p.event.kind)
          (λ k d low. let come = come_before k d low in was_before (get_or (frames_in p.event.kind) k d) come.0 come.1))

  -- ---- No message came twice

  -- the nodes to which messages went exist
  to_nodes : All (λ m. (1 ≤ to_of m) × (to_of m ≤ n)) (delivered placed)
  to_nodes =
      all_delivered (λ m. (1 ≤ to_of m) × (to_of m ≤ n)) placed
      (λ k d low. there (get_or placed k d).node (get_or placed k d).event.kind (order.no_others k d low) (addressed_all k d low))
    where
      there : (i : ℕ) (kind : BookKind) → (1 ≤ i) × (i ≤ n) → IsAddressed i kind → All (λ f. (1 ≤ to_of f.message) × (to_of f.message ≤ n)) (frames_in kind)
      there i (Ask client name mode) within to = All-nil _
      there i (Leave client name) within to = All-nil _
      there i (Cancel client name) within to = All-nil _
      there i Forget within to = All-nil _
      there i (Receive frame) within to =
          All-cons (λ f. (1 ≤ to_of f.message) × (to_of f.message ≤ n)) frame [] (omega (arith, within.0, to), omega (arith, within.1, to)) (All-nil _)

  came_apart : AreDifferent (map (λ f. f.message) (all_received books)) → (k : ℕ) (d : BookState) → k < length books → AreDifferent (messages_among (get_or books k d).events)
  came_apart different k d low =
      let b = get_or books k d in
      let before = all_received (take k books) in
      let here = received_among b.events in
      let after = all_received (drop (k + 1) books) in
      let split : map (λ f. f.message) (all_received books) ≡ map (λ f. f.message) before ++ (map (λ f. f.message) here ++ map (λ f. f.message) after) =
      ap (map (λ f. f.message)) (all_received_split books k b low (get_or_default books k d b low))
      ∙ map-append (λ f. f.message) before (here ++ after)
      ∙ ap (λ (ms : List Message). map (λ f. f.message) before ++ ms) (map-append (λ f. f.message) here after)
      in
      pairs_left (λ a c. a ≢ c) (map (λ f. f.message) here) (map (λ f. f.message) after)
      (pairs_right (λ a c. a ≢ c) (map (λ f. f.message) before) (map (λ f. f.message) here ++ map (λ f. f.message) after) (subst AreDifferent split different))

  pub delivered_apart : AreDifferent (map (λ f. f.message) (all_received books)) → AreDifferent (delivered placed)
  delivered_apart different i j d below within same =
      let to = to_of (get_or (delivered placed) i d) in
      let node = to_nodes i d (omega (arith, below, within)) in
      let e : BookState = record { me = 0; nodes = 0; start = 0; taken = nothing_taken; events = []; sent = []; fault = None } in
      let low : to - 1 < length books = omega (arith, node.0, node.1) in
      let b = get_or books (to - 1) e in
      let me : b.me ≡ to = number_at books cluster (to - 1) e low ∙ omega (arith, node.0) in
      let came : filter (λ m. eqb (to_of m) to) (delivered placed) ≡ messages_among b.events =
      delivered_to to placed addressed_all ∙ ap messages_among (ap (λ (k : ℕ). events_of k placed) (sym me) ∙ order.each (to - 1) e low)
      in
      kept_apart (λ m. eqb (to_of m) to) (delivered placed) (subst AreDifferent (sym came) (came_apart different (to - 1) e low)) i j d below within (eq-eqb to to refl) same
