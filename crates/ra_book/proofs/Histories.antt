-- Histories: one event further, and that the events decide the rest.
use Rattle.std.proofs.Common.{◌≡◌, ℕ, zero, suc, ◌+◌, ◌≤◌, ◌^◌, List, [], ◌∷◌, ◌++◌, length, get_or, map, All, arith, refl, sym, ap, ◌∙◌, subst, append_assoc}
use Rattle.std.proofs.lemmas.List.{map-append}
use Rattle.std.proofs.lemmas.List.Elements.{All-nil, All-push}
use Rattle.ra_stamp.specs.declared.entry.Mark.{Mark}
use Rattle.ra_stamp.specs.declared.message.Message.{Message}
use Rattle.ra_frame.specs.declared.frame.Frame.{Frame}
use Rattle.ra_node.specs.Node.{NodeState, opening_node}
use Rattle.ra_node.specs.Events.{Event, Happening, NodeEvent, NodeEvents, IsForThisNode}
use Rattle.ra_book.specs.declared.book.event.BookKind.{BookKind}
use Rattle.ra_book.specs.declared.book.event.BookEvent.{BookEvent}
use Rattle.ra_book.specs.declared.book.sent.Sent.{Sent}
use Rattle.ra_book.specs.History.{Posting, IsHistory, AreClocked, node_event, happening_of, clock_after, clock_from, clock_of, frames_at, frames_of}
use Rattle.ra_book.specs.Book.{as_sent}

-- ---- One more event

-- the last clock
pub clock_last : (clock : ℕ) (events : List BookEvent) (place : ℕ) (d : BookEvent) → place + 1 ≡ length events → clock_from clock events ≡ (get_or events place d).clock
clock_last clock [] place d is = absurd (omega (arith, is))
clock_last clock (e ∷ []) zero d is = refl
clock_last clock (e ∷ []) (suc place) d is = absurd (omega (arith, is))
clock_last clock (e ∷ f ∷ fs) zero d is = absurd (omega (arith, is))
clock_last clock (e ∷ f ∷ fs) (suc place) d is = clock_last e.clock (f ∷ fs) place d (omega (arith, is))

clocked-push : (clock : ℕ) (events : List BookEvent) (event : BookEvent) → AreClocked clock events
    → event.clock ≡ clock_after (clock_from clock events) event.kind → event.clock ≤ 2 ^ 62 → AreClocked clock (events ++ event ∷ [])
clocked-push clock [] event clocked is low = (is, low, tt)
clocked-push clock (e ∷ es) event clocked is low = (clocked.0, clocked.1, clocked-push e.clock es event clocked.2 is low)

append-nil : {X : Type 0} (xs : List X) → xs ++ [] ≡ xs
append-nil [] = refl
append-nil (x ∷ xs) = ap (λ ys. x ∷ ys) (append-nil xs)

frames_of-push : (ps : List Posting) (p : Posting) → frames_of (ps ++ p ∷ []) ≡ frames_of ps ++ frames_at p.event.clock p.sends
frames_of-push [] p = append-nil (frames_at p.event.clock p.sends)
frames_of-push (q ∷ ps) p =
    ap (λ (fs : List Frame). frames_at q.event.clock q.sends ++ fs) (frames_of-push ps p)
    ∙ sym (append_assoc (frames_at q.event.clock q.sends) (frames_of ps) (frames_at p.event.clock p.sends))

-- the frames of what is sent are what went out
pub frames_as_sent : (frames : List Frame) → map (λ (s : Sent). s.frame) (as_sent frames) ≡ frames
frames_as_sent [] = refl
frames_as_sent (f ∷ fs) = ap (λ (xs : List Frame). f ∷ xs) (frames_as_sent fs)

pub opening : (me n start : ℕ) → IsHistory me n start [] [] (opening_node me n start)
opening me n start =
    record {
      clocked = tt;
      postings = [];
      events_are = refl;
      for_this_node = All-nil (λ h. IsForThisNode (opening_node me n start) h.event);
      leads = refl;
      sent_are = refl;
    }

pub goes_on :
    ((happened : List Happening) (event : Event) (sends : List Message) (marks : List Mark) (a b c : NodeState)
    → NodeEvents a happened b → NodeEvent b event sends marks c
    → NodeEvents a (happened ++ record { event = event; sends = sends; marks = marks } ∷ []) c)
    → (me n start : ℕ) (events : List BookEvent) (sent : List Sent) (old new : NodeState)
    → (kind : BookKind) (sends : List Message) (marks : List Mark)
    → IsHistory me n start events sent old → IsForThisNode (opening_node me n start) (node_event kind)
    → NodeEvent old (node_event kind) sends marks new → clock_after (clock_of events) kind ≤ 2 ^ 62
    → IsHistory me n start (events ++ record { clock = clock_after (clock_of events) kind; kind = kind } ∷ [])
    (sent ++ as_sent (frames_at (clock_after (clock_of events) kind) sends)) new
goes_on step me n start events sent old new kind sends marks history for_it happens low =
    let opened = opening_node me n start in
    let clock = clock_after (clock_of events) kind in
    let event : BookEvent = record { clock = clock; kind = kind } in
    let posting : Posting = record { event = event; sends = sends; marks = marks } in
    let frames = frames_at clock sends in
    let happened = map-append happening_of history.postings (posting ∷ []) in
    record {
      clocked = clocked-push 0 events event history.clocked refl low;
      postings = history.postings ++ posting ∷ [];
      events_are = map-append (λ (p : Posting). p.event) history.postings (posting ∷ []) ∙ ap (λ (es : List BookEvent). es ++ event ∷ []) history.events_are;
      for_this_node = subst (λ (hs : List Happening). All (λ h. IsForThisNode opened h.event) hs) (sym happened)
          (All-push (λ (h : Happening). IsForThisNode opened h.event) (map happening_of history.postings) (happening_of posting) history.for_this_node for_it);
      leads = subst (λ (hs : List Happening). NodeEvents opened hs new) (sym happened)
          (step (map happening_of history.postings) (node_event kind) sends marks opened old new history.leads happens);
      sent_are = map-append (λ (s : Sent). s.frame) sent (as_sent frames)
          ∙ (λ i. history.sent_are i ++ frames_as_sent frames i) ∙ sym (frames_of-push history.postings posting);
    }

-- what is known to be lost does not matter
pub flagged : (me n start : ℕ) (events : List BookEvent) (sent sent' : List Sent) (node : NodeState) → IsHistory me n start events sent node
    → map (λ (s : Sent). s.frame) sent' ≡ map (λ (s : Sent). s.frame) sent → IsHistory me n start events sent' node
flagged me n start events sent sent' node history same =
    record {
      clocked = history.clocked;
      postings = history.postings;
      events_are = history.events_are;
      for_this_node = history.for_this_node;
      leads = history.leads;
      sent_are = same ∙ history.sent_are;
    }

-- ---- The events decide the rest

module _
    (one : (old a b : NodeState) (event : Event) (sends sends' : List Message) (marks marks' : List Mark)
    → NodeEvent old event sends marks a → NodeEvent old event sends' marks' b
    → (sends ≡ sends') × (marks ≡ marks') × (a ≡ b))
  where
    same_postings : (old : NodeState) (ps qs : List Posting) (a b : NodeState) → map (λ (p : Posting). p.event) ps ≡ map (λ (p : Posting). p.event) qs
        → NodeEvents old (map happening_of ps) a → NodeEvents old (map happening_of qs) b → (ps ≡ qs) × (a ≡ b)
    same_postings old [] [] a b same left right = (refl, left ∙ sym right)
    same_postings old [] (q ∷ qs) a b same left right = absurd (cc)
    same_postings old (p ∷ ps) [] a b same left right = absurd (cc)
    same_postings old (p ∷ ps) (q ∷ qs) a b same left right =
        let event : p.event ≡ q.event = cc in
        let events : map (λ (p : Posting). p.event) ps ≡ map (λ (p : Posting). p.event) qs = cc in
        let step = one old left.0 right.0 (node_event p.event.kind) p.sends q.sends p.marks q.marks left.1
        (subst (λ (e : BookEvent). NodeEvent old (node_event e.kind) q.sends q.marks right.0) (sym event) right.1) in
        let rest = same_postings left.0 ps qs a b events left.2
        (subst (λ (s : NodeState). NodeEvents s (map happening_of qs) b) (sym step.2) right.2) in (
          λ i. record { event = event i; sends = step.0 i; marks = step.1 i } ∷ rest.0 i,
          rest.1,
        )

    pub determined : (me n start : ℕ) (events : List BookEvent) (sent sent' : List Sent) (a b : NodeState)
        → (left : IsHistory me n start events sent a) → (right : IsHistory me n start events sent' b)
        → (left.postings ≡ right.postings) × (a ≡ b)
    determined me n start events sent sent' a b left right =
        same_postings (opening_node me n start) left.postings right.postings a b (left.events_are ∙ sym right.events_are) left.leads right.leads
