-- Books with frames that came more than once: if each frame that came was sent and nothing was lost, the steps in the
-- settled order, with copies, are a run.
use Rattle.std.proofs.Common.{◌≡◌, ◌≢◌, ℕ, ◌<◌, ◌≤◌, List, [], ◌∷◌, ◌++◌, map, length, get_or, take, sym, ap, ◌∙◌, subst, arith}
use Rattle.std.specs.Prelude.{All, Contains}
use Rattle.std.specs.List.{flat_map}
use Rattle.std.proofs.lemmas.List.{append-nil}
use Rattle.std.proofs.lemmas.List.Elements.{All-cons, All-map, All-weaker, All-contains, Contains-get_or}
use Rattle.std.proofs.lemmas.List.Kept.{AllPairs-cons}
use Rattle.ra_stamp.specs.NodeId.{IsNodeNumber}
use Rattle.ra_stamp.specs.declared.message.Message.{Message}
use Rattle.ra_stamp.specs.Message.{from_of}
use Rattle.ra_frame.specs.declared.frame.Frame.{Frame}
use Rattle.ra_node.specs.Events.{Event, Happening}
use Rattle.ra_world.specs.declared.step.Step.{Step}
use Rattle.ra_world.specs.Traffic.{Move, taken_in, repeated_in}
use Rattle.ra_world.specs.Run.{IsRun, WorldRun, events_at, happened_at}
use Rattle.ra_world.specs.Fitting.{sent_in, happened_by, NamesNode, IsLeftBy, FitWithCopies}
use Rattle.ra_world.proofs.Times.{times, times_append}
use Rattle.ra_book.specs.History.{node_event}
use Rattle.ra_book.specs.Book.{BookState, HasHistory}
use Rattle.ra_book.specs.Settled.{IsCluster, IsSettledOrder, Placed, WasSent, HasUnsent, all_received, frames_in, step_at, steps_of, start_of}
use Rattle.ra_book.specs.Repeats.{ComesBy, AreWithCopies, IsSettledRunWithCopies}
use Rattle.ra_book.proofs.Projections.{projected, all_addressed, events_by, lost_by_steps, nothing_lost}
use Rattle.ra_book.proofs.Unsent.{all_were_sent}
use Rattle.ra_book.proofs.Deliveries.{happened, frames_first, messages_first, frame_before, come_before, came_before}
use Rattle.ra_book.proofs.BooksFit.{names, node_count, history_of, events_are}
use Rattle.ra_book.proofs.Copied.{counted, place_of, events_with, lost_with, all_with}
use Rattle.ra_book.proofs.Whole.{HasWholeHistory, whole_histories}

module _ (books : List BookState) (placed : List Placed) (cluster : IsCluster books) (histories : All HasWholeHistory books) (order : IsSettledOrder books placed)
    (all_sent : All (λ f. WasSent books f) (all_received books)) (all : List Step) (has : AreWithCopies placed all) where
  abbrev n : ℕ
  n = length books

  abbrev happens : ℕ → List Happening
  happens = happened books placed cluster histories order

  abbrev first_frames : ℕ → List Placed → List Frame
  first_frames = frames_first books placed cluster histories order

  -- a message that a step takes or repeats was put under way more often than it was taken: each frame with it that came
  -- before was sent, and repeated for each time but the last; and the frame of this step was sent, too
  left : (prefix : List Step) (step : Step) (suffix : List Step) → all ≡ prefix ++ step ∷ suffix → All (IsLeftBy n happens prefix) (taken_in step ++ repeated_in step)
  left prefix step suffix parts k d low =
      let m = get_or (taken_in step ++ repeated_in step) k d in
      let at = place_of placed all prefix step suffix has parts in
      let touched = at.touched m (Contains-get_or (taken_in step ++ repeated_in step) k d low) in
      let frame = touched.0 in
      let Early : Frame → Type 0 = λ f. (f.clock < at.this.event.clock) × WasSent books f in
      let comes : Early frame =
      All-contains Early (frames_in at.this.event.kind) frame (come_before books placed cluster histories order all_sent at.before at.this at.after at.parts) touched.1
      in
      let i = from_of m in
      let went_out : (f : Frame) → f.message ≡ m → Early f → (1 ≤ i) × (i ≤ n) × Contains (first_frames i at.before) f =
      λ f same early. subst (λ (x : Message). (1 ≤ from_of x) × (from_of x ≤ n) × Contains (first_frames (from_of x) at.before) f) same
      (frame_before books placed cluster histories order all_sent at.before at.this at.after at.parts f early.0 early.1)
      in
      let sender = went_out frame touched.2 comes in (
        i,
        sender.0,
        sender.1,
        λ is tells.
            let others = at.others is m tells frame touched.1 in
            let different = AllPairs-cons (λ a b. a ≢ b) frame others.frames others.apart others.different in
            let same = All-cons (λ f. f.message ≡ m) frame others.frames touched.2
            (All-weaker (λ f. ComesBy at.before f × (f.message ≡ m)) (λ f. f.message ≡ m) (λ f is. is.1) others.frames others.came)
            in
            let among = All-cons (Contains (first_frames i at.before)) frame others.frames sender.2
            (All-weaker (λ f. ComesBy at.before f × (f.message ≡ m)) (Contains (first_frames i at.before))
            (λ f is. (went_out f is.1 (came_before books placed cluster histories order all_sent at.before at.this at.after at.parts f is.0)).2) others.frames others.came)
            in
            let many = counted is m tells (frame ∷ others.frames) (first_frames i at.before) different same among in
            let sends = sent_in (happened_by (happens i) i prefix) in
            let sends_are : sends ≡ map (λ f. f.message) (first_frames i at.before) =
            ap (λ (es : List Event). sent_in (take (length es) (happens i))) (at.same_events i) ∙ messages_first books placed cluster histories order i at.before
            in
            let count = ap (times is) sends_are in
            let puts = times_append is sends (flat_map repeated_in prefix) in
            let enough = others.enough in
            omega (arith, many, count, puts, enough),
      )

  fit : FitWithCopies n (start_of books) all happens
  fit = record {
    nodes = history_of books placed cluster histories order;
    events = λ i low high.
        events_are books placed cluster histories order i low high []
        ∙ ap (flat_map (events_at i)) (append-nil (steps_of placed))
        ∙ sym (events_with i placed all has);
    named =
        all_with (NamesNode n) (λ m. tt) placed all has
        (All-map (NamesNode n) (λ p. step_at p.node p.event.kind) placed (λ k d low. names n (get_or placed k d).node (get_or placed k d).event.kind (order.no_others k d low)));
    left = left;
  }

pub books_with_copies_ran :
    ((n start : ℕ) (steps : List Step) (happened : ℕ → List Happening) → IsNodeNumber n → FitWithCopies n start steps happened
    → (moves : List Move) × (map (λ move. move.step) moves ≡ steps) × IsRun n start moves × ((i : ℕ) → 1 ≤ i → i ≤ n → happened_at i moves ≡ happened i))
    → (books : List BookState) (placed : List Placed) (all : List Step) → IsCluster books → All HasHistory books → IsSettledOrder books placed
    → (HasUnsent books → ⊥) → AreWithCopies placed all → WorldRun (length books) (start_of books) all
books_with_copies_ran fitting books placed all cluster histories order sent has =
    let whole = whole_histories books cluster histories in
    let ran = fitting (length books) (start_of books) all (happened books placed cluster whole order) (node_count books cluster histories)
    (fit books placed cluster whole order (all_were_sent books sent) all has)
    in
    (ran.0, ran.1, ran.2)

pub settled_with_copies : (books : List BookState) (placed : List Placed) (moves : List Move) → IsCluster books → All HasHistory books → IsSettledOrder books placed
    → IsRun (length books) (start_of books) moves → AreWithCopies placed (map (λ move. move.step) moves) → IsSettledRunWithCopies books moves
settled_with_copies books placed moves cluster histories order run has =
    let whole = whole_histories books cluster histories in
    let steps = map (λ (move : Move). move.step) moves in
    record {
      run = run;
      events = λ k d low.
          let b = get_or books k d in
          events_by b.me moves
          ∙ events_with b.me placed steps has
          ∙ projected b.me placed (all_addressed books placed cluster whole order)
          ∙ ap (map (λ e. node_event e.kind)) (order.each k d low);
      lossless = lost_by_steps moves ∙ lost_with placed steps has ∙ nothing_lost placed;
      placed = placed;
      order = order;
      steps = has;
    }
