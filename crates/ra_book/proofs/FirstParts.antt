-- The first events of a history are a history, and the frames that they sent are its first ones.
use Rattle.std.proofs.Common.{◌≡◌, ℕ, ◌+◌, ◌<◌, ◌≤◌, List, [], ◌∷◌, ◌++◌, map, length, take, drop, refl, sym, ap, ◌∙◌, subst, arith}
use Rattle.std.specs.Prelude.{All}
use Rattle.std.proofs.lemmas.List.{map-append, take-map, drop-map, take_at, drop_at, take-append-drop}
use Rattle.std.proofs.lemmas.List.Elements.{All-nil, All-cons, All-map, All-append, All-weaker}
use Rattle.ra_frame.specs.declared.frame.Frame.{Frame}
use Rattle.ra_node.specs.Node.{NodeState, opening_node}
use Rattle.ra_node.specs.Events.{Happening, NodeEvents, IsForThisNode}
use Rattle.ra_node.proofs.Chains.{events_split}
use Rattle.ra_book.specs.declared.book.event.BookEvent.{BookEvent}
use Rattle.ra_book.specs.declared.book.sent.Sent.{Sent}
use Rattle.ra_book.specs.History.{IsHistory, Posting, AreClocked, clock_from, clock_of, happening_of, frames_at, frames_of}
use Rattle.ra_book.proofs.Ascending.{later_clock}
use Rattle.ra_book.proofs.Distinct.{all_left, all_of_map}
use Rattle.ra_book.proofs.Happened.{late_frames, frames_in_parts}

-- ---- Clocks

clocked_first : (clock : ℕ) (events later : List BookEvent) → AreClocked clock (events ++ later) → AreClocked clock events
clocked_first clock [] later clocked = tt
clocked_first clock (e ∷ events) later clocked = (clocked.0, clocked.1, clocked_first e.clock events later clocked.2)

pub clocked_later : (clock : ℕ) (events later : List BookEvent) → AreClocked clock (events ++ later) → AreClocked (clock_from clock events) later
clocked_later clock [] later clocked = clocked
clocked_later clock (e ∷ events) later clocked = clocked_later e.clock events later clocked.2

-- the clocks of events that come after a clock are greater
all_greater : (clock : ℕ) (events : List BookEvent) → AreClocked clock events → All (λ e. clock + 1 ≤ e.clock) events
all_greater clock [] clocked = All-nil (λ e. clock + 1 ≤ e.clock)
all_greater clock (e ∷ events) clocked =
    let here : clock < e.clock = omega (arith, clocked.0, later_clock clock e.kind) in
    All-cons (λ e. clock + 1 ≤ e.clock) e events (omega (arith, here))
    (All-weaker (λ x. e.clock + 1 ≤ x.clock) (λ x. clock + 1 ≤ x.clock) (λ x more. omega (arith, here, more)) events (all_greater e.clock events clocked.2))

-- the clock does not fall
pub no_less : (clock : ℕ) (events : List BookEvent) → AreClocked clock events → clock ≤ clock_from clock events
no_less clock [] clocked = omega arith
no_less clock (e ∷ events) clocked = omega (arith, clocked.0, later_clock clock e.kind, no_less e.clock events clocked.2)

-- no frame has a greater clock than the last event
pub up_to : (clock : ℕ) (postings : List Posting) → AreClocked clock (map (λ p. p.event) postings) → All (λ f. f.clock ≤ clock_from clock (map (λ p. p.event) postings)) (frames_of postings)
up_to clock [] clocked = All-nil (λ (f : Frame). f.clock ≤ clock)
up_to clock (p ∷ postings) clocked =
    let P : Frame → Type 0 = λ f. f.clock ≤ clock_from p.event.clock (map (λ (p : Posting). p.event) postings) in
    All-append P (frames_at p.event.clock p.sends) (frames_of postings)
    (All-map P (λ m. record { clock = p.event.clock; message = m }) p.sends (λ k d low. no_less p.event.clock (map (λ (p : Posting). p.event) postings) clocked.2))
    (up_to p.event.clock postings clocked.2)

-- ---- The history so far

module _ (me n start : ℕ) (events later : List BookEvent) (sent : List Sent) (node : NodeState) (history : IsHistory me n start (events ++ later) sent node) where
  abbrev opened : NodeState
  opened = opening_node me n start

  abbrev first : List Posting
  first = take (length events) history.postings

  abbrev rest : List Posting
  rest = drop (length events) history.postings

  whole : history.postings ≡ first ++ rest
  whole = sym (take-append-drop (length events) history.postings)

  first_events : map (λ p. p.event) first ≡ events
  first_events = sym (take-map (λ p. p.event) (length events) history.postings) ∙ ap (take (length events)) history.events_are ∙ take_at events later (length events) refl

  rest_events : map (λ p. p.event) rest ≡ later
  rest_events = sym (drop-map (λ p. p.event) (length events) history.postings) ∙ ap (drop (length events)) history.events_are ∙ drop_at events later (length events) refl

  happened : map happening_of history.postings ≡ map happening_of first ++ map happening_of rest
  happened = ap (map happening_of) whole ∙ map-append happening_of first rest

  -- its frames are the first ones
  abbrev many : ℕ
  many = length (frames_of first)

  frames_are : map (λ s. s.frame) sent ≡ frames_of first ++ frames_of rest
  frames_are = history.sent_are ∙ ap frames_of whole ∙ frames_in_parts first rest

  pub cut_history : (first_sent : List Sent) × (later_sent : List Sent) × (middle : NodeState) × (sent ≡ first_sent ++ later_sent) × IsHistory me n start events first_sent middle
      × All (λ s. s.frame.clock ≤ clock_of events) first_sent × All (λ s. clock_of events < s.frame.clock) later_sent
  cut_history =
      let parts = events_split (map happening_of first) (map happening_of rest) opened node (subst (λ (hs : List Happening). NodeEvents opened hs node) happened history.leads) in (
        take many sent,
        drop many sent,
        parts.0,
        sym (take-append-drop many sent),
        record {
          clocked = clocked_first 0 events later history.clocked;
          postings = first;
          events_are = first_events;
          for_this_node =
              all_left (λ h. IsForThisNode opened h.event) (map happening_of first) (map happening_of rest)
              (subst (λ (hs : List Happening). All (λ h. IsForThisNode opened h.event) hs) happened history.for_this_node);
          leads = parts.1;
          sent_are = sent_are;
        },
        no_greater,
        greater,
      )
    where
      sent_are : map (λ s. s.frame) (take many sent) ≡ frames_of first
      sent_are = sym (take-map (λ s. s.frame) many sent) ∙ ap (take many) frames_are ∙ take_at (frames_of first) (frames_of rest) many refl

      no_greater : All (λ s. s.frame.clock ≤ clock_of events) (take many sent)
      no_greater =
          let clocked = clocked_first 0 events later history.clocked in
          all_of_map (λ (f : Frame). f.clock ≤ clock_of events) (λ s. s.frame) (take many sent)
          (subst (λ (fs : List Frame). All (λ f. f.clock ≤ clock_of events) fs) (sym sent_are)
          (subst (λ (es : List BookEvent). All (λ f. f.clock ≤ clock_of es) (frames_of first)) first_events (up_to 0 first (subst (AreClocked 0) (sym first_events) clocked))))

      -- the other frames are later
      greater : All (λ s. clock_of events < s.frame.clock) (drop many sent)
      greater =
          let clocked = clocked_later 0 events later history.clocked in
          let late : All (λ p. clock_of events + 1 ≤ p.event.clock) rest =
          all_of_map (λ e. clock_of events + 1 ≤ e.clock) (λ p. p.event) rest
          (subst (λ (es : List BookEvent). All (λ e. clock_of events + 1 ≤ e.clock) es) (sym rest_events) (all_greater (clock_of events) later clocked))
          in
          let frames : map (λ (s : Sent). s.frame) (drop many sent) ≡ frames_of rest =
          sym (drop-map (λ (s : Sent). s.frame) many sent) ∙ ap (drop many) frames_are ∙ drop_at (frames_of first) (frames_of rest) many refl
          in
          All-weaker (λ (s : Sent). clock_of events + 1 ≤ s.frame.clock) (λ s. clock_of events < s.frame.clock) (λ s more. omega (arith, more)) (drop many sent)
          (all_of_map (λ (f : Frame). clock_of events + 1 ≤ f.clock) (λ s. s.frame) (drop many sent)
          (subst (λ (fs : List Frame). All (λ f. clock_of events + 1 ≤ f.clock) fs) (sym frames) (late_frames (clock_of events + 1) rest late)))
