-- The marks of a settled run are in the books of their nodes.
use Rattle.std.proofs.Common.{◌≡◌, ℕ, ◌≤◌, cond, List, [], ◌∷◌, ◌++◌, map, refl, sym, ap, ◌∙◌, subst, inl, inr, arith, append_assoc}
use Rattle.std.specs.Prelude.{All, Contains}
use Rattle.std.specs.List.{flat_map}
use Rattle.std.proofs.lemmas.Bool.{eq-eqb}
use Rattle.std.proofs.lemmas.List.Elements.{All-nil, All-head, All-tail, All-map, All-append, All-weaker, Contains-append_cases, Contains-append_left, Contains-append_right}
use Rattle.std.proofs.lemmas.List.Concat.{flat_map-append}
use Rattle.ra_stamp.specs.declared.entry.Mark.{Mark}
use Rattle.ra_stamp.specs.declared.message.Message.{Message}
use Rattle.ra_stamp.specs.Message.{to_of}
use Rattle.ra_stamp.specs.Mark.{entry_of_mark}
use Rattle.ra_automaton.specs.State.{IsForNode}
use Rattle.ra_frame.specs.declared.frame.Frame.{Frame}
use Rattle.ra_node.specs.Node.{NodeState, opening_node, IsConsistentNode}
use Rattle.ra_node.specs.Events.{Event, Happening, name_of_event, NodeEvent, NodeEvents, IsForThisNode, AreForThisNode}
use Rattle.ra_node.specs.Events.{Event as acts}
use Rattle.ra_node.specs.Carried.{IsMark}
use Rattle.ra_world.specs.declared.step.Step.{Step}
use Rattle.ra_world.specs.declared.step.Step.TheVariants.{Ask, Leave, Cancel, Deliver, Lose, Repeat, Forget}
use Rattle.ra_world.specs.Traffic.{Move, IsUnderWay}
use Rattle.ra_world.specs.Run.{IsRun, IsFit, AreFit, events_at, happened_at, marks_of}
use Rattle.ra_book.specs.declared.book.event.BookEvent.{BookEvent}
use Rattle.ra_book.specs.History.{IsHistory, Posting, happening_of, node_event, frames_of}
use Rattle.ra_book.specs.Book.{BookState, as_sent}
use Rattle.ra_book.specs.Settled.{marks_in}
use Rattle.ra_book.proofs.Projections.{of_map, for_this_node}
use Rattle.ra_book.proofs.Whole.{HasWholeHistory}

-- ---- At which node a mark is made

abbrev pub marks_by : List Happening → List Mark
marks_by happened = flat_map (λ h. h.marks) happened

abbrev no_event : List Event → (m : Move) → List Happening
no_event events m = map (λ event. record { event = event; sends = m.sends; marks = m.marks }) events

module _ (n start : ℕ) (prefixes : (prefix suffix : List Move) → IsRun n start (prefix ++ suffix) → IsRun n start prefix)
    (goes : (moves : List Move) (message : Message) → IsRun n start moves → IsUnderWay moves message → (1 ≤ to_of message) × (to_of message ≤ n)) (mark : Mark) where
  unmarked : (marks : List Mark) → marks ≡ [] → Contains marks mark → ⊥
  unmarked marks none is = nowhere (subst (λ (ms : List Mark). Contains ms mark) none is)
    where
      nowhere : Contains [] mark → ⊥
      nowhere (k, low, at) = omega (arith, low)

  -- the node whose event a step is
  node_of : (prefix : List Move) (step : Step) (sends : List Message) (marks : List Mark) → IsRun n start prefix → IsFit n prefix step sends marks → Contains marks mark
      → (i : ℕ) × ((1 ≤ i) × (i ≤ n)) × (event : Event) × (events_at i step ≡ event ∷ [])
  node_of prefix (Ask node client name mode) sends marks run fit is = (node, fit, acts.Ask client name mode, ap (λ b. cond b (acts.Ask client name mode ∷ []) []) (eq-eqb node node refl))
  node_of prefix (Leave node client name) sends marks run fit is = (node, fit, acts.Leave client name, ap (λ b. cond b (acts.Leave client name ∷ []) []) (eq-eqb node node refl))
  node_of prefix (Cancel node client name) sends marks run fit is = (node, fit, acts.Cancel client name, ap (λ b. cond b (acts.Cancel client name ∷ []) []) (eq-eqb node node refl))
  node_of prefix (Forget node) sends marks run fit is = (node, fit, acts.Forget, ap (λ b. cond b (acts.Forget ∷ []) []) (eq-eqb node node refl))
  node_of prefix (Deliver message) sends marks run fit is =
      let i = to_of message in (i, goes prefix message run fit, acts.Receive message, ap (λ b. cond b (acts.Receive message ∷ []) []) (eq-eqb i i refl))
  node_of prefix (Lose message) sends marks run fit is = absurd (unmarked marks fit.2 is)
  node_of prefix (Repeat message) sends marks run fit is = absurd (unmarked marks fit.2 is)

  pub made_at : (suffix prefix : List Move) → IsRun n start (prefix ++ suffix) → AreFit n prefix suffix → Contains (marks_of suffix) mark → (i : ℕ) × ((1 ≤ i) × (i ≤ n)) × Contains (marks_by (happened_at i suffix)) mark
  made_at [] prefix run fit is = absurd (omega (arith, is.1))
  made_at (m ∷ suffix) prefix run fit is =
      elim (Contains-append_cases m.marks (marks_of suffix) mark is) [
        | inl here ↦
            let at = node_of prefix m.step m.sends m.marks (prefixes prefix (m ∷ suffix) run) fit.0 here in (
              at.0,
              at.1,
              subst (λ (ms : List Mark). Contains ms mark)
                  (sym (flat_map-append (λ h. h.marks) (no_event (events_at at.0 m.step) m) (happened_at at.0 suffix) ∙ ap (λ (es : List Event). marks_by (no_event es m) ++ marks_by (happened_at at.0 suffix)) at.3))
                  (Contains-append_left (m.marks ++ []) (marks_by (happened_at at.0 suffix)) mark (Contains-append_left m.marks [] mark here)),
            )
        | inr later ↦
            let rest = made_at suffix (prefix ++ m ∷ []) (subst (IsRun n start) (sym (append_assoc prefix (m ∷ []) suffix)) run) fit.1 later in (
              rest.0,
              rest.1,
              subst (λ (ms : List Mark). Contains ms mark) (sym (flat_map-append (λ h. h.marks) (no_event (events_at rest.0 m.step) m) (happened_at rest.0 suffix)))
                  (Contains-append_right (marks_by (no_event (events_at rest.0 m.step) m)) (marks_by (happened_at rest.0 suffix)) mark rest.2),
            )
      ]

-- the marks of a node are marks of the run
pub made_there : (i : ℕ) (moves : List Move) (mark : Mark) → Contains (marks_by (happened_at i moves)) mark → Contains (marks_of moves) mark
made_there i [] mark is = is
made_there i (m ∷ moves) mark is =
    elim (Contains-append_cases (marks_by (no_event (events_at i m.step) m)) (marks_by (happened_at i moves)) mark
    (subst (λ (ms : List Mark). Contains ms mark) (flat_map-append (λ h. h.marks) (no_event (events_at i m.step) m) (happened_at i moves)) is)) [
      | inl here ↦ Contains-append_left m.marks (marks_of moves) mark (by_one (events_at i m.step) here)
      | inr later ↦ Contains-append_right m.marks (marks_of moves) mark (made_there i moves mark later)
    ]
  where
    by_one : (events : List Event) → Contains (marks_by (no_event events m)) mark → Contains m.marks mark
    by_one [] (k, low, at) = absurd (omega (arith, low))
    by_one (e ∷ events) here =
        elim (Contains-append_cases m.marks (marks_by (no_event events m)) mark here) [
          | inl this ↦ this
          | inr later ↦ by_one events later
        ]

-- ---- The marks of a node are its own

pub for_next : (old next : NodeState) (event : Event) → next.me ≡ old.me → next.nodes ≡ old.nodes → IsForThisNode old event → IsForThisNode next event
for_next old next (acts.Ask client name mode) me nodes h = tt
for_next old next (acts.Leave client name) me nodes h = tt
for_next old next (acts.Cancel client name) me nodes h = tt
for_next old next acts.Forget me nodes h = tt
for_next old next (acts.Receive message) me nodes h =
    subst (λ (k : ℕ). IsForNode k next.nodes message) (sym me) (subst (λ (k : ℕ). IsForNode old.me k message) (sym nodes) h)

module _ (keeps : (old new : NodeState) (event : Event) (sends : List Message) (marks : List Mark) → IsConsistentNode old → IsForThisNode old event → NodeEvent old event sends marks new → IsConsistentNode new)
    (makes : (old new : NodeState) (event : Event) (sends : List Message) (marks : List Mark) → IsConsistentNode old → IsForThisNode old event → NodeEvent old event sends marks new → All (IsMark old.me (name_of_event event)) marks)
    (stays : (old new : NodeState) (event : Event) (sends : List Message) (marks : List Mark) → NodeEvent old event sends marks new → (new.me ≡ old.me) × (new.nodes ≡ old.nodes) × (old.start ≤ new.start)) where
  pub own_marks : (happened : List Happening) (old new : NodeState) → IsConsistentNode old → AreForThisNode old happened → NodeEvents old happened new → All (λ m. (entry_of_mark m).stamp.node ≡ old.me) (marks_by happened)
  own_marks [] old new consistent for events = All-nil _
  own_marks (h ∷ happened) old new consistent for events =
      let next = events.0 in
      let here = All-head (λ h. IsForThisNode old h.event) h happened for in
      let same = stays old next h.event h.sends h.marks events.1 in
      let rest =
      own_marks happened next new (keeps old next h.event h.sends h.marks consistent here events.1)
      (All-weaker (λ h. IsForThisNode old h.event) (λ h. IsForThisNode next h.event) (λ h. for_next old next h.event same.0 same.1) happened (All-tail (λ h. IsForThisNode old h.event) h happened for))
      events.2
      in
      All-append (λ m. (entry_of_mark m).stamp.node ≡ old.me) h.marks (marks_by happened)
      (All-weaker (IsMark old.me (name_of_event h.event)) (λ m. (entry_of_mark m).stamp.node ≡ old.me) (λ m is. is.node_is) h.marks (makes old next h.event h.sends h.marks consistent here events.1))
      (subst (λ (k : ℕ). All (λ m. (entry_of_mark m).stamp.node ≡ k) (marks_by happened)) same.0 rest)

-- ---- What happened at a node is the history of its book

head_of : {X : Type 0} {x y : X} {xs ys : List X} → x ∷ xs ≡ y ∷ ys → x ≡ y
head_of e = cc

tail_of : {X : Type 0} {x y : X} {xs ys : List X} → x ∷ xs ≡ y ∷ ys → xs ≡ ys
tail_of e = cc

none_some : {X : Type 0} {x : X} {xs : List X} → [] ≡ x ∷ xs → ⊥
none_some e = cc

-- each event with its outcome
abbrev pub posted : List BookEvent → List Happening → List Posting
posted [] happened = []
posted (e ∷ events) [] = []
posted (e ∷ events) (h ∷ happened) = record { event = e; sends = h.sends; marks = h.marks } ∷ posted events happened

abbrev pub Fit : List BookEvent → List Happening → Type 0
Fit events happened = map (λ (h : Happening). h.event) happened ≡ map (λ e. node_event e.kind) events

events_posted : (events : List BookEvent) (happened : List Happening) → Fit events happened → map (λ p. p.event) (posted events happened) ≡ events
events_posted [] happened fit = refl
events_posted (e ∷ events) [] fit = absurd (none_some fit)
events_posted (e ∷ events) (h ∷ happened) fit = ap (λ (es : List BookEvent). e ∷ es) (events_posted events happened (tail_of fit))

pub happened_posted : (events : List BookEvent) (happened : List Happening) → Fit events happened → map happening_of (posted events happened) ≡ happened
happened_posted [] [] fit = refl
happened_posted [] (h ∷ happened) fit = absurd (none_some (sym fit))
happened_posted (e ∷ events) [] fit = absurd (none_some fit)
happened_posted (e ∷ events) (h ∷ happened) fit =
    let same = head_of fit in
    λ i. record { event = sym same i; sends = h.sends; marks = h.marks } ∷ happened_posted events happened (tail_of fit) i

pub marks_posted : (events : List BookEvent) (happened : List Happening) → Fit events happened → marks_in (posted events happened) ≡ marks_by happened
marks_posted [] [] fit = refl
marks_posted [] (h ∷ happened) fit = absurd (none_some (sym fit))
marks_posted (e ∷ events) [] fit = absurd (none_some fit)
marks_posted (e ∷ events) (h ∷ happened) fit = ap (λ (ms : List Mark). h.marks ++ ms) (marks_posted events happened (tail_of fit))

as_they_were : (frames : List Frame) → map (λ s. s.frame) (as_sent frames) ≡ frames
as_they_were [] = refl
as_they_were (f ∷ frames) = ap (λ (fs : List Frame). f ∷ fs) (as_they_were frames)

pub happened_here : (b : BookState) → HasWholeHistory b → (happened : List Happening) → Fit b.events happened → AreForThisNode (opening_node b.me b.nodes b.start) happened
happened_here b history happened fit =
    let old = opening_node b.me b.nodes b.start in
    of_map (λ e. IsForThisNode old e) (λ h. h.event) happened
    (subst (λ (es : List Event). All (λ e. IsForThisNode old e) es) (sym fit) (All-map (λ e. IsForThisNode old e) (λ e. node_event e.kind) b.events (for_this_node b history)))

-- the history that these happenings are, and its postings
pub history_by : (b : BookState) (history : HasWholeHistory b) (happened : List Happening) (new : NodeState) → Fit b.events happened → NodeEvents (opening_node b.me b.nodes b.start) happened new
    → (h : IsHistory b.me b.nodes b.start b.events (as_sent (frames_of (posted b.events happened))) new) × (h.postings ≡ posted b.events happened)
history_by b history happened new fit leads =
    let old = opening_node b.me b.nodes b.start in (
      record {
        clocked = history.leads.clocked;
        postings = posted b.events happened;
        events_are = events_posted b.events happened fit;
        for_this_node = subst (AreForThisNode old) (sym (happened_posted b.events happened fit)) (happened_here b history happened fit);
        leads = subst (λ (hs : List Happening). NodeEvents old hs new) (sym (happened_posted b.events happened fit)) leads;
        sent_are = as_they_were (frames_of (posted b.events happened));
      },
      refl,
    )
