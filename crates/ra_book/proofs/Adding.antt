-- A book with another event, from what is kept of it.
use Rattle.std.proofs.Common.{◌≡◌, ℕ, ◌+◌, ◌<◌, ◌≤◌, ◌^◌, false, List, [], ◌∷◌, ◌++◌, length, take, get_or, All, Result, Ok, Err, refl, sym, ap, ◌∙◌, subst, append_assoc, arith}
use Rattle.std.specs.Prelude.{IsOk, OnOk}
use Rattle.std.proofs.lemmas.List.{append-nil, map_more, map-append}
use Rattle.ra_stamp.specs.declared.entry.Mark.{Mark}
use Rattle.ra_stamp.specs.declared.message.Message.{Message}
use Rattle.ra_frame.specs.declared.frame.Frame.{Frame}
use Rattle.ra_frame.specs.Fits.{Fits}
use Rattle.ra_automaton.specs.State.{IsForNode}
use Rattle.ra_node.specs.Node.{NodeState, IsConsistentNode}
use Rattle.ra_node.specs.Events.{ForgetEvent, NodeEvent, IsForThisNode}
use Rattle.ra_book.specs.declared.book.event_effect.Posted.{Posted}
use Rattle.ra_book.specs.declared.book.event.BookKind.{BookKind}
use Rattle.ra_book.specs.declared.book.event.BookKind.TheVariants.{Ask, Leave, Cancel, Receive, Forget}
use Rattle.ra_book.specs.declared.book.event.BookEvent.{BookEvent}
use Rattle.ra_book.specs.declared.book.sent.Sent.{Sent}
use Rattle.ra_book.specs.History.{node_event, frames_at}
use Rattle.ra_book.specs.Book.{BookState, LeadsTo, HasClock, Adds, as_sent, next_clock, with_event}
use Rattle.ra_book.specs.Keeping.{Keeps, IsForThisBook, ComesNext, Happens}

-- ---- What is kept if only room changed

pub same_kept : (book : BookState) (node node' : NodeState) (events : List BookEvent) (sent : List Sent) → Keeps book node
    → events ≡ book.events → sent ≡ book.sent → node' ≡ node → Keeps (record book { events = events; sent = sent }) node'
same_kept book node node' events sent keeps events_are sent_are node_is =
    subst (λ (n : NodeState). Keeps (record book { events = events; sent = sent }) n) (sym node_is)
    (subst (λ (b : BookState). Keeps b node) (λ i. record book { events = sym events_are i; sent = sym sent_are i }) keeps)

-- ---- One more event

-- what is for the book is for the node that is kept
for_this_node : (now : BookState) (node : NodeState) (kind : BookKind) → (node.me ≡ now.me) × (node.nodes ≡ now.nodes) → IsForThisBook now kind
    → IsForThisNode node (node_event kind)
for_this_node now node (Ask client name mode) same for_it = tt
for_this_node now node (Leave client name) same for_it = tt
for_this_node now node (Cancel client name) same for_it = tt
for_this_node now node Forget same for_it = tt
for_this_node now node (Receive frame) same for_it =
    subst (λ (k : ℕ). IsForNode node.me k frame.message) (sym same.1) (subst (λ (k : ℕ). IsForNode k now.nodes frame.message) (sym same.0) for_it.0)

-- the frame that comes fits
frame_fits : (now : BookState) (kind : BookKind) → IsForThisBook now kind → (frame : Frame) → kind ≡ Receive frame → Fits frame
frame_fits now (Ask client name mode) for_it frame is = absurd (cc)
frame_fits now (Leave client name) for_it frame is = absurd (cc)
frame_fits now (Cancel client name) for_it frame is = absurd (cc)
frame_fits now Forget for_it frame is = absurd (cc)
frame_fits now (Receive f) for_it frame is = let same : f ≡ frame = cc in subst Fits same for_it.1

module _ (now book : BookState) (old new : NodeState) (clock : ℕ) (kind : BookKind) (events : List BookEvent) (sent : List Sent)
    (keeps : Keeps book old) (is : book ≡ now) (next : ComesNext now clock kind)
  where
    -- the book after it, as it is stored
    after_event : (sends : List Message) → events ≡ book.events ++ record { clock = clock; kind = kind } ∷ [] → sent ≡ book.sent ++ as_sent (frames_at clock sends)
        → record book { events = events; sent = sent } ≡ with_event book clock kind (frames_at clock sends)
    after_event sends events_are sent_are = λ i. record book { events = events_are i; sent = sent_are i }

    clock_is : next_clock book kind ≡ clock
    clock_is = ap (λ (b : BookState). next_clock b kind) is ∙ sym next.clock_is

    has_clock : HasClock book kind
    has_clock = subst (λ (b : BookState). HasClock b kind) (sym is) next.has_clock

    module _
        (who : (book : BookState) (node : NodeState) → Keeps book node
        → (node.me ≡ book.me) × (node.nodes ≡ book.nodes) × IsConsistentNode node)
      where
        for_it : IsForThisNode old (node_event kind)
        for_it =
            let same = who book old keeps in
            for_this_node now old kind (same.0 ∙ ap (λ (b : BookState). b.me) is, same.1 ∙ ap (λ (b : BookState). b.nodes) is) next.for_this_book

        pub kept_after :
            ((book : BookState) (old new : NodeState) (kind : BookKind) (sends : List Message) (marks : List Mark)
            → Keeps book old → IsForThisNode old (node_event kind) → NodeEvent old (node_event kind) sends marks new
            → HasClock book kind
            → Keeps (with_event book (next_clock book kind) kind (frames_at (next_clock book kind) sends)) new)
            → (posted : Posted) → Happens old new book.events events book.sent sent (record { clock = clock; kind = kind }) posted
            → Keeps (record book { events = events; sent = sent }) new
        kept_after law posted happens =
            subst (λ (b : BookState). Keeps b new) (sym (after_event happens.sends happens.events_are happens.sent_are))
            (subst (λ (k : ℕ). Keeps (with_event book k kind (frames_at k happens.sends)) new) clock_is
            (law book old new kind happens.sends posted.marks.items keeps for_it happens.happens has_clock))

        pub added : (posted : Posted) → Happens old new book.events events book.sent sent (record { clock = clock; kind = kind }) posted
            → Adds now kind posted.frames.items posted.marks.items (record book { events = events; sent = sent })
        added posted happens = record {
          before = old;
          leads = subst (λ (b : BookState). LeadsTo b old) is keeps.leads;
          sends = happens.sends;
          after = new;
          event = happens.happens;
          frames_are = happens.frames_are ∙ ap (λ (k : ℕ). frames_at k happens.sends) next.clock_is;
          new_is = after_event happens.sends happens.events_are happens.sent_are
              ∙ (λ i. with_event (is i) (next.clock_is i) kind (sym happens.frames_are i));
        }

        pub added_fits :
            ((book : BookState) (old new : NodeState) (kind : BookKind) (sends : List Message) (marks : List Mark)
            → Keeps book old → IsForThisNode old (node_event kind) → NodeEvent old (node_event kind) sends marks new
            → HasClock book kind → ((frame : Frame) → kind ≡ Receive frame → Fits frame)
            → All Fits (frames_at (next_clock book kind) sends))
            → (posted : Posted) → Happens old new book.events events book.sent sent (record { clock = clock; kind = kind }) posted
            → All Fits posted.frames.items
        added_fits law posted happens =
            subst (λ (fs : List Frame). All Fits fs) (ap (λ (k : ℕ). frames_at k happens.sends) clock_is ∙ sym happens.frames_are)
            (law book old new kind happens.sends posted.marks.items keeps for_it happens.happens has_clock
            (frame_fits now kind next.for_this_book))

-- ---- Names are forgotten

-- nothing is posted
abbrev nothing : Posted
nothing = record { frames = record { items = []; spare = 0 }; marks = record { items = []; spare = 0 } }

module _ (now book : BookState) (old new : NodeState) (clock : ℕ) (events : List BookEvent) (keeps : Keeps book old) (is : book ≡ now)
    (clock_is : clock ≡ next_clock now Forget) (low : clock ≤ 2 ^ 62) (events_are : events ≡ book.events ++ record { clock = clock; kind = Forget } ∷ [])
    (happened : ForgetEvent old [] [] new)
    (who : (book : BookState) (node : NodeState) → Keeps book node → (node.me ≡ book.me) × (node.nodes ≡ book.nodes) × IsConsistentNode node)
  where
    forgets_next : ComesNext now clock Forget
    forgets_next = record { clock_is = clock_is; has_clock = subst (λ (k : ℕ). k ≤ 2 ^ 62) clock_is low; for_this_book = tt }

    forgets_then : Happens old new book.events events book.sent book.sent (record { clock = clock; kind = Forget }) nothing
    forgets_then = record { sends = []; happens = happened; events_are = events_are; sent_are = sym (append-nil book.sent); frames_are = refl }

    pub forgotten_kept :
        ((book : BookState) (old new : NodeState) (kind : BookKind) (sends : List Message) (marks : List Mark)
        → Keeps book old → IsForThisNode old (node_event kind) → NodeEvent old (node_event kind) sends marks new
        → HasClock book kind
        → Keeps (with_event book (next_clock book kind) kind (frames_at (next_clock book kind) sends)) new)
        → Keeps (record book { events = events; sent = book.sent }) new
    forgotten_kept law = kept_after now book old new clock Forget events book.sent keeps is forgets_next who law nothing forgets_then

    pub forgotten_added : Adds now Forget [] [] (record book { events = events; sent = book.sent })
    forgotten_added = added now book old new clock Forget events book.sent keeps is forgets_next who nothing forgets_then

-- ---- No event

pub same_book : (now book : BookState) (events : List BookEvent) (sent : List Sent) → book ≡ now → events ≡ book.events → sent ≡ book.sent
    → record book { events = events; sent = sent } ≡ now
same_book now book events sent is events_are sent_are = (λ i. record book { events = events_are i; sent = sent_are i }) ∙ is

-- ---- The outcome of an event at the node

-- a call that succeeds did what it does
pub is_done : {T E : Type 0} (A : Type 0) (r : Result T E) → IsOk r → OnOk r A → A
is_done A (Ok v) ok done = done
is_done A (Err e) ok done = absurd cc

-- lists that had grown before it had the same items
pub happens_after : {old new : NodeState} {event : BookEvent} {events before events' : List BookEvent} {sent room sent' : List Sent} {posted : Posted}
    → before ≡ events → room ≡ sent → Happens old new before events' room sent' event posted → Happens old new events events' sent sent' event posted
happens_after {old} {new} {event} before_is room_is happens = record {
  sends = happens.sends;
  happens = happens.happens;
  events_are = happens.events_are ∙ ap (λ (es : List BookEvent). es ++ event ∷ []) before_is;
  sent_are = happens.sent_are ∙ ap (λ (ss : List Sent). ss ++ as_sent (frames_at event.clock happens.sends)) room_is;
  frames_are = happens.frames_are;
}

-- ---- Frames that are put one after the other

module _ (clock : ℕ) where
  abbrev frame_at : Message → Frame
  frame_at message = record { clock = clock; message = message }

  more_frames : (sends : List Message) (i : ℕ) (message : Message) → i < length sends → message ≡ get_or sends i message
      → frames_at clock (take (i + 1) sends) ≡ frames_at clock (take i sends) ++ frame_at message ∷ []
  more_frames sends i message within at =
      map_more frame_at sends i message within ∙ ap (λ (m : Message). frames_at clock (take i sends) ++ frame_at m ∷ []) (sym at)

  abbrev sent_at : Message → Sent
  sent_at message = record { frame = frame_at message; lost = false }

  more_sent : (sends : List Message) (i : ℕ) (message : Message) → i < length sends → message ≡ get_or sends i message
      → as_sent (frames_at clock (take (i + 1) sends)) ≡ as_sent (frames_at clock (take i sends)) ++ sent_at message ∷ []
  more_sent sends i message within at =
      ap (λ (fs : List Frame). as_sent fs) (more_frames sends i message within at)
      ∙ map-append (λ (f : Frame). record { frame = f; lost = false }) (frames_at clock (take i sends)) (frame_at message ∷ [])

-- a list that has these items after the old ones has another item
one_put : {A : Type 0} (old now new some more : List A) (one : A) → now ≡ old ++ some → new ≡ now ++ one ∷ [] → more ≡ some ++ one ∷ [] → new ≡ old ++ more
one_put old now new some more one before is more_is =
    is ∙ ap (λ (xs : List _). xs ++ one ∷ []) before ∙ append_assoc old some (one ∷ []) ∙ ap (λ (xs : List _). old ++ xs) (sym more_is)

pub one_frame : (old now new : List Frame) (clock : ℕ) (sends : List Message) (i : ℕ) (message : Message) → i < length sends → message ≡ get_or sends i message
    → now ≡ old ++ frames_at clock (take i sends) → new ≡ now ++ record { clock = clock; message = message } ∷ []
    → new ≡ old ++ frames_at clock (take (i + 1) sends)
one_frame old now new clock sends i message within at before is =
    one_put old now new _ _ (frame_at clock message) before is (more_frames clock sends i message within at)

pub one_sent : (old now new : List Sent) (clock : ℕ) (sends : List Message) (i : ℕ) (message : Message) → i < length sends → message ≡ get_or sends i message
    → now ≡ old ++ as_sent (frames_at clock (take i sends)) → new ≡ now ++ record { frame = record { clock = clock; message = message }; lost = false } ∷ []
    → new ≡ old ++ as_sent (frames_at clock (take (i + 1) sends))
one_sent old now new clock sends i message within at before is =
    one_put old now new _ _ (sent_at clock message) before is (more_sent clock sends i message within at)

pub one_longer : (old now new i : ℕ) → now ≡ old + i → new ≡ now + 1 → new ≡ old + (i + 1)
one_longer old now new i before is = omega (arith, before, is)

pub room_left : (old now count i capacity capacity' : ℕ) → now ≡ old + i → capacity' ≡ capacity → old + count ≤ capacity → i < count → now < capacity'
room_left old now count i capacity capacity' before same room more = omega (arith, before, same, room, more)

pub all_put : (old now count i : ℕ) → now ≡ old + i → i ≤ count → count ≤ i → now ≡ old + count
all_put old now count i before low high = omega (arith, before, low, high)
