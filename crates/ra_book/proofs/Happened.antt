-- What happened at each node, by the books, and what a node had sent by its first events.
use Rattle.std.proofs.Common.{◌≡◌, ℕ, zero, suc, ◌<◌, ◌≤◌, List, [], ◌∷◌, ◌++◌, map, length, get_or, take, drop, false, refl, append_assoc, sym, ap, ◌∙◌, subst, arith, inl, inr}
use Rattle.std.specs.Prelude.{All, Contains}
use Rattle.std.proofs.lemmas.List.{map-append, drop-map, drop_at, take-append-drop}
use Rattle.std.proofs.lemmas.List.Elements.{All-nil, All-head, All-tail, All-map, All-append, All-contains, Contains-append_cases}
use Rattle.ra_stamp.specs.declared.message.Message.{Message}
use Rattle.ra_frame.specs.declared.frame.Frame.{Frame}
use Rattle.ra_node.specs.Events.{Event, Happening}
use Rattle.ra_world.specs.Fitting.{sent_in}
use Rattle.ra_book.specs.declared.book.event.BookEvent.{BookEvent}
use Rattle.ra_book.specs.declared.book.sent.Sent.{Sent}
use Rattle.ra_book.specs.History.{Posting, happening_of, node_event, frames_at, frames_of}
use Rattle.ra_book.specs.Book.{BookState}
use Rattle.ra_book.proofs.Distinct.{all_of_map, in_map}
use Rattle.ra_book.proofs.Whole.{HasWholeHistory}

-- the postings of the node whose book has this place, and what happened there
abbrev pub postings_in : (books : List BookState) → All HasWholeHistory books → ℕ → List Posting
postings_in [] histories place = []
postings_in (b ∷ books) histories zero = (All-head HasWholeHistory b books histories).leads.postings
postings_in (b ∷ books) histories (suc place) = postings_in books (All-tail HasWholeHistory b books histories) place

abbrev pub happened_in : (books : List BookState) → All HasWholeHistory books → ℕ → List Happening
happened_in books histories place = map happening_of (postings_in books histories place)

pub posted_at_place : (books : List BookState) (histories : All HasWholeHistory books) (place : ℕ) (d : BookState) → place < length books
    → (history : HasWholeHistory (get_or books place d)) × (postings_in books histories place ≡ history.leads.postings)
posted_at_place [] histories place d low = absurd (omega (arith, low))
posted_at_place (b ∷ books) histories zero d low = (All-head HasWholeHistory b books histories, refl)
posted_at_place (b ∷ books) histories (suc place) d low = posted_at_place books (All-tail HasWholeHistory b books histories) place d (omega (arith, low))

pub happened_at_place : (books : List BookState) (histories : All HasWholeHistory books) (place : ℕ) (d : BookState) → place < length books
    → (history : HasWholeHistory (get_or books place d)) × (happened_in books histories place ≡ map happening_of history.leads.postings)
happened_at_place books histories place d low =
    let posted = posted_at_place books histories place d low in
    (posted.0, ap (map happening_of) posted.1)

-- ---- The events of postings

events_happened : (postings : List Posting) → map (λ h. h.event) (map happening_of postings) ≡ map (λ e. node_event e.kind) (map (λ p. p.event) postings)
events_happened [] = refl
events_happened (p ∷ postings) = ap (λ (es : List Event). node_event p.event.kind ∷ es) (events_happened postings)

pub events_of_book : (b : BookState) (history : HasWholeHistory b) → map (λ h. h.event) (map happening_of history.leads.postings) ≡ map (λ e. node_event e.kind) b.events
events_of_book b history = events_happened history.leads.postings ∙ ap (map (λ e. node_event e.kind)) history.leads.events_are

-- ---- What postings sent

out_again : (clock : ℕ) (messages : List Message) → map (λ (f : Frame). f.message) (frames_at clock messages) ≡ messages
out_again clock [] = refl
out_again clock (m ∷ messages) = ap (λ (ms : List Message). m ∷ ms) (out_again clock messages)

pub sent_in_frames : (postings : List Posting) → sent_in (map happening_of postings) ≡ map (λ f. f.message) (frames_of postings)
sent_in_frames [] = refl
sent_in_frames (p ∷ postings) =
    (λ j. sym (out_again p.event.clock p.sends) j ++ sent_in_frames postings j)
    ∙ sym (map-append (λ f. f.message) (frames_at p.event.clock p.sends) (frames_of postings))

pub messages_sent : (sent : List Sent) → map (λ (f : Frame). f.message) (map (λ (s : Sent). s.frame) sent) ≡ map (λ s. s.frame.message) sent
messages_sent [] = refl
messages_sent (s ∷ sent) = ap (λ (ms : List Message). s.frame.message ∷ ms) (messages_sent sent)

-- the messages that happened to be sent at a node are those that its book sent
pub sent_of_book : (b : BookState) (history : HasWholeHistory b) → sent_in (map happening_of history.leads.postings) ≡ map (λ s. s.frame.message) b.sent
sent_of_book b history = sent_in_frames history.leads.postings ∙ ap (map (λ f. f.message)) (sym history.leads.sent_are) ∙ messages_sent b.sent

-- ---- What was sent before a clock

pub late_frames : (clock : ℕ) (postings : List Posting) → All (λ p. clock ≤ p.event.clock) postings → All (λ f. clock ≤ f.clock) (frames_of postings)
late_frames clock [] late = All-nil (λ f. clock ≤ f.clock)
late_frames clock (p ∷ postings) late =
    All-append (λ f. clock ≤ f.clock) (frames_at p.event.clock p.sends) (frames_of postings)
    (All-map (λ f. clock ≤ f.clock) (λ m. record { clock = p.event.clock; message = m }) p.sends (λ k d low. All-head (λ p. clock ≤ p.event.clock) p postings late))
    (late_frames clock postings (All-tail (λ p. clock ≤ p.event.clock) p postings late))

pub frames_in_parts : (prefix rest : List Posting) → frames_of (prefix ++ rest) ≡ frames_of prefix ++ frames_of rest
frames_in_parts [] rest = refl
frames_in_parts (p ∷ prefix) rest =
    ap (λ (fs : List Frame). frames_at p.event.clock p.sends ++ fs) (frames_in_parts prefix rest)
    ∙ sym (append_assoc (frames_at p.event.clock p.sends) (frames_of prefix) (frames_of rest))

-- a book has the frames that its first events sent, and then the frames of the other events, which are no earlier than
-- these
pub sent_in_parts : (b : BookState) (history : HasWholeHistory b) (clock : ℕ) (done left : List BookEvent) → b.events ≡ done ++ left → All (λ e. clock ≤ e.clock) left
    → (later : List Frame) × (map (λ s. s.frame) b.sent ≡ frames_of (take (length done) history.leads.postings) ++ later) × All (λ f. clock ≤ f.clock) later
sent_in_parts b history clock done left parts late =
    let postings = history.leads.postings in
    let many = length done in
    let left_are : map (λ p. p.event) (drop many postings) ≡ left =
    sym (drop-map (λ p. p.event) many postings) ∙ ap (drop many) (history.leads.events_are ∙ parts) ∙ drop_at done left many refl
    in
    let late_postings : All (λ p. clock ≤ p.event.clock) (drop many postings) =
    all_of_map (λ e. clock ≤ e.clock) (λ p. p.event) (drop many postings) (subst (λ (es : List BookEvent). All (λ e. clock ≤ e.clock) es) (sym left_are) late)
    in (
      frames_of (drop many postings),
      history.leads.sent_are ∙ ap frames_of (sym (take-append-drop many postings)) ∙ frames_in_parts (take many postings) (drop many postings),
      late_frames clock (drop many postings) late_postings,
    )

-- so a frame with a lesser clock than all later events went out before them
pub sent_by_first : (b : BookState) (history : HasWholeHistory b) (f : Frame) (clock : ℕ) (done left : List BookEvent) → b.events ≡ done ++ left → All (λ e. clock ≤ e.clock) left → f.clock < clock
    → Contains b.sent (record { frame = f; lost = false }) → Contains (frames_of (take (length done) history.leads.postings)) f
sent_by_first b history f clock done left parts late less kept =
    let split = sent_in_parts b history clock done left parts late in
    let first = frames_of (take (length done) history.leads.postings) in
    elim (Contains-append_cases first split.0 f
    (subst (λ (fs : List Frame). Contains fs f) split.1 (in_map (λ s. s.frame) b.sent (record { frame = f; lost = false }) kept))) [
      | inl here ↦ here
      | inr after ↦
          let low : clock ≤ f.clock = All-contains (λ g. clock ≤ g.clock) split.0 f split.2 after in
          absurd (omega (arith, low, less))
    ]
