-- The books of which a node had the events, before and after one more.
use Rattle.std.proofs.Common.{◌≡◌, ℕ, ◌-◌, ◌*◌, ◌≤◌, ◌^◌, false, List, [], ◌∷◌, ◌++◌, map, length, drop, zero, suc, refl, sym, ap, ◌∙◌, subst, append_assoc, arith, get_or, ◌<◌}
use Rattle.std.specs.Prelude.{All, slice_get}
use Rattle.std.specs.Option.{option_map}
use Rattle.std.proofs.lemmas.List.Elements.{All-map, All-weaker}
use Rattle.std.proofs.lemmas.Option.{slice_get-map, slice_get-get_or}
use Rattle.ra_stamp.specs.declared.entry.Mark.{Mark}
use Rattle.ra_stamp.specs.declared.message.Message.{Message}
use Rattle.ra_stamp.specs.Message.{to_of}
use Rattle.ra_automaton.specs.State.{IsForNode}
use Rattle.ra_frame.specs.declared.frame.Frame.{Frame}
use Rattle.ra_node.specs.declared.outcome.Outcome.{Outcome}
use Rattle.ra_node.specs.Carried.{IsSend}
use Rattle.ra_node.specs.Node.{NodeState, IsConsistentNode, opening_node}
use Rattle.ra_node.specs.Events.{IsForThisNode, NodeEvent, name_of_event}
use Rattle.ra_node.proofs.Chains.{events_step, history_same_node}
use Rattle.ra_node.proofs.EventsKept.{event_room, event_sends}
use Rattle.ra_book.specs.declared.book.event.BookEvent.{BookEvent}
use Rattle.ra_book.specs.declared.book.event.BookKind.{BookKind}
use Rattle.ra_book.specs.declared.book.event.BookKind.TheVariants.{Ask, Leave, Cancel, Receive, Forget}
use Rattle.ra_book.specs.declared.book.sent.Sent.{Sent}
use Rattle.ra_book.specs.History.{IsHistory, clock_after, clock_of, frames_at, happening_of, node_event}
use Rattle.ra_book.specs.Book.{BookState, HasClock, LeadsTo, as_sent, next_clock, opening_book, whole_events, whole_sent, with_event}
use Rattle.ra_book.specs.Pairs.{sent_to}
use Rattle.ra_book.specs.Timed.{Takes, Timed, opening}
use Rattle.ra_book.proofs.Clocks.{clock_append}
use Rattle.ra_book.proofs.Histories.{goes_on}
use Rattle.ra_book.proofs.Histories as histories
use Rattle.ra_host.specs.declared.outbox.Outbox.{Outbox}
use Rattle.ra_host.specs.declared.played.Played.TheInside.{Inside}
use Rattle.ra_host.specs.Full.{is_full, most_made}
use Rattle.ra_host.specs.Outgoing.{Outgoing, KeepsOf, none_of, outgoing_of, posts}
use Rattle.ra_host.specs.Played.{GoesOn, IsPlayedOf, PlayedState, Plays, played_of}
use Rattle.ra_host.proofs.OutgoingKept.{posted}
use Rattle.ra_host.proofs.Views.{sent_more}

drop_none : (n : ℕ) → ◌≡◌ {A = List Frame} [] (drop n [])
drop_none zero = refl
drop_none (suc n) = refl

-- a node that has met nothing had the events of a book without any
pub opened : (me nodes start : ℕ) (dropped : List ℕ) (p : PlayedState) → p.timed ≡ opening me nodes start → p.outgoing ≡ map none_of dropped → nodes ≤ length dropped
    → IsPlayedOf p (opening_book me nodes start)
opened me nodes start dropped p timed outgoing long =
    record {
      leads = subst (λ (n : NodeState). IsHistory me nodes start [] [] n) (sym (ap (λ t. t.node) timed)) (histories.opening me nodes start);
      clock = sym (ap (λ t. t.clock) timed);
      each = λ j other.
          let within : j - 1 < length dropped = omega (arith, other.first, other.last, long) in
          let d = get_or dropped (j - 1) 0 in (
            none_of d,
            ap (λ (os : List Outgoing). slice_get os (j - 1)) outgoing ∙ slice_get-map none_of dropped (j - 1) ∙ ap (option_map none_of) (slice_get-get_or dropped (j - 1) 0 within),
            record { made = refl; frames = drop_none d },
          );
    }

-- an event for a node is one for each state of it
for_it : (a b : NodeState) (kind : BookKind) → a.me ≡ b.me → a.nodes ≡ b.nodes → IsForThisNode a (node_event kind) → IsForThisNode b (node_event kind)
for_it a b (Ask client name mode) me nodes h = tt
for_it a b (Leave client name) me nodes h = tt
for_it a b (Cancel client name) me nodes h = tt
for_it a b Forget me nodes h = tt
for_it a b (Receive frame) me nodes h =
    subst (λ (k : ℕ). IsForNode k b.nodes frame.message) me (subst (λ (k : ℕ). IsForNode a.me k frame.message) nodes h)

-- an event sends few messages
pub few_sent : (old new : NodeState) (kind : BookKind) (sends : List Message) (marks : List Mark) → IsConsistentNode old → NodeEvent old (node_event kind) sends marks new → length sends ≤ most_made
few_sent old new (Ask client name mode) sends marks consistent event =
    let few : length sends ≤ old.nodes = (event_room old new (node_event (Ask client name mode)) sends marks consistent event).0 in
    omega (arith, few, consistent.count.1)
few_sent old new (Leave client name) sends marks consistent event =
    let few : length sends ≤ 2 * old.nodes = (event_room old new (node_event (Leave client name)) sends marks consistent event).0 in
    omega (arith, few, consistent.count.1)
few_sent old new (Cancel client name) sends marks consistent event =
    let few : length sends ≤ 2 * old.nodes = (event_room old new (node_event (Cancel client name)) sends marks consistent event).0 in
    omega (arith, few, consistent.count.1)
few_sent old new (Receive frame) sends marks consistent event =
    let few : length sends ≤ 1 = (event_room old new (node_event (Receive frame)) sends marks consistent event).0 in
    omega (arith, few)
few_sent old new Forget sends marks consistent event =
    let few : length sends ≤ 0 = (event_room old new (node_event Forget) sends marks consistent event).0 in
    omega (arith, few)

-- the book with the event leads to the node after it
pub leads_on : (book : BookState) (kind : BookKind) (sends : List Message) (marks : List Mark) (before after : NodeState) → LeadsTo book before
    → IsForThisNode (opening_node book.me book.nodes book.start) (node_event kind) → HasClock book kind → (event : NodeEvent before (node_event kind) sends marks after)
    → LeadsTo (with_event book (next_clock book kind) kind (frames_at (next_clock book kind) sends)) after
leads_on book kind sends marks before after leads for_it has_clock event =
    let clock = next_clock book kind in
    let e : BookEvent = record { clock = clock; kind = kind } in
    let on = goes_on events_step book.me book.nodes book.start (whole_events book) (whole_sent book) before after kind sends marks leads for_it event has_clock in
    subst (λ (es : List BookEvent). IsHistory book.me book.nodes book.start es (book.taken.sent ++ (book.sent ++ as_sent (frames_at clock sends))) after) (append_assoc book.taken.events book.events (e ∷ []))
    (subst (λ (ss : List Sent). IsHistory book.me book.nodes book.start ((book.taken.events ++ book.events) ++ e ∷ []) ss after)
    (append_assoc book.taken.sent book.sent (as_sent (frames_at clock sends))) on)

-- the messages are for nodes with numbers from 1
pub receivers : (old new : NodeState) (kind : BookKind) (sends : List Message) (marks : List Mark) → IsConsistentNode old → IsForThisNode old (node_event kind)
    → NodeEvent old (node_event kind) sends marks new → All (λ m. 1 ≤ to_of m) sends
receivers old new kind sends marks consistent for_this event =
    All-weaker (IsSend old.me old.nodes (name_of_event (node_event kind))) (λ (m : Message). 1 ≤ to_of m) (λ m is. is.to.first) sends
    (event_sends old new (node_event kind) sends marks consistent for_this event)

-- what is known of the fields, as it is known of what contracts see
pub plays_of : (inside : Inside) (kind : BookKind) (outcome : Outcome) (timed : Timed) (news : List Outbox) → IsConsistentNode inside.timed.node
    → Takes inside.timed kind outcome.sends.items outcome.marks.items timed → is_full (map outgoing_of inside.outboxes.items) ≡ false
    → map outgoing_of news ≡ posts (map outgoing_of inside.outboxes.items) (frames_at timed.clock outcome.sends.items)
    → Plays (played_of inside) kind outcome (record { timed = timed; outgoing = map outgoing_of news })
plays_of inside kind outcome timed news consistent takes free outgoing =
    record {
      takes = takes;
      numbers = free;
      few = few_sent inside.timed.node timed.node kind outcome.sends.items outcome.marks.items consistent takes.event;
      receivers = receivers inside.timed.node timed.node kind outcome.sends.items outcome.marks.items consistent takes.for_this_node takes.event;
      outgoing = outgoing;
    }

pub plays_on : (old new : PlayedState) (kind : BookKind) (outcome : Outcome) (book : BookState) → Plays old kind outcome new → IsPlayedOf old book → GoesOn book kind outcome new
plays_on old new kind outcome book plays is =
    let takes = plays.takes in
    let sends = outcome.sends.items in
    let clock : next_clock book kind ≡ new.timed.clock = ap (λ (n : ℕ). clock_after n kind) is.clock ∙ sym takes.clock_is in
    let has_clock : HasClock book kind = subst (λ (n : ℕ). n ≤ 2 ^ 62) (sym clock) takes.has_clock in
    let same = history_same_node (map happening_of is.leads.postings) (opening_node book.me book.nodes book.start) old.timed.node is.leads.leads in
    let for_this : IsForThisNode (opening_node book.me book.nodes book.start) (node_event kind) =
    for_it old.timed.node (opening_node book.me book.nodes book.start) kind same.0 same.1 takes.for_this_node in
    let frames = frames_at (next_clock book kind) sends in
    let e : BookEvent = record { clock = next_clock book kind; kind = kind } in
    let to : All (λ f. 1 ≤ to_of f.message) frames =
    All-map (λ (f : Frame). 1 ≤ to_of f.message) (λ (m : Message). record { clock = next_clock book kind; message = m }) sends plays.receivers in
    record {
      for_this_node = for_this;
      has_clock = has_clock;
      book = with_event book (next_clock book kind) kind frames;
      adds = record { before = old.timed.node; leads = is.leads; sends = sends; after = new.timed.node; event = takes.event; frames_are = refl; new_is = refl };
      is = record {
        leads = leads_on book kind sends outcome.marks.items old.timed.node new.timed.node is.leads for_this has_clock takes.event;
        clock = ap clock_of (sym (append_assoc book.taken.events book.events (e ∷ []))) ∙ clock_append 0 (whole_events book) (e ∷ []) ∙ clock;
        each = λ j other.
            let at = posted j old.outgoing frames (sent_to j book) other.first to (is.each j other) in
            let outgoing : posts old.outgoing frames ≡ new.outgoing = ap (λ (n : ℕ). posts old.outgoing (frames_at n sends)) clock ∙ sym plays.outgoing in (
              at.0,
              ap (λ (os : List Outgoing). slice_get os (j - 1)) (sym outgoing) ∙ at.1,
              subst (KeepsOf at.0) (sent_more j (next_clock book kind) book kind frames) at.2,
            );
      };
    }
