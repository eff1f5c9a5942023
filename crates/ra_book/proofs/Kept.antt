-- What a book keeps.
use Rattle.std.proofs.Common.{◌≡◌, ℕ, ◌*◌, ◌≤◌, ◌^◌, Option, true, List, [], ◌∷◌, ◌++◌, length, map, All, refl, sym, ap, ◌∙◌, subst, arith, append_assoc}
use Rattle.std.proofs.lemmas.List.{map-append, append-nil}
use Rattle.std.proofs.lemmas.List.Elements.{All-map}
use Rattle.ra_stamp.specs.declared.entry.Mark.{Mark}
use Rattle.ra_stamp.specs.declared.message.Message.{Message}
use Rattle.ra_stamp.specs.declared.message.Message.TheVariants.{Request, Reply}
use Rattle.ra_stamp.specs.Message.{seq_of}
use Rattle.ra_stamp.specs.NodeId.{IsNodeNumber}
use Rattle.ra_frame.specs.declared.frame.Frame.{Frame}
use Rattle.ra_frame.specs.Fits.{Fits}
use Rattle.ra_node.specs.Node.{NodeState, opening_node, IsConsistentNode}
use Rattle.ra_node.specs.Events.{Event, Happening, name_of_event, NodeEvent, NodeEvents, IsForThisNode, AreForThisNode}
use Rattle.ra_node.specs.Events.Event.{Ask, Leave, Cancel, Receive, Forget}
use Rattle.ra_node.specs.Carried.{IsSend, sends_at_most, marks_at_most}
use Rattle.ra_book.specs.declared.book.event.BookKind.{BookKind}
use Rattle.ra_book.specs.declared.book.event.BookKind.TheVariants as kinds
use Rattle.ra_book.specs.declared.book.event.BookEvent.{BookEvent}
use Rattle.ra_book.specs.declared.book.sent.Sent.{Sent}
use Rattle.ra_book.specs.declared.book.stop.Stop.{Stop}
use Rattle.ra_book.specs.History.{IsHistory, node_event, happening_of, clock_after, clock_of, frames_at}
use Rattle.ra_book.specs.Book.{BookState, TakenState, opening_book, whole_events, whole_sent, with_all_taken, LeadsTo, HasHistory, HasClock, as_sent, next_clock, with_event}
use Rattle.ra_book.specs.Keeping.{Keeps, answers_to, sends_by}

-- a book that is kept has a history
pub history_of : (now book : BookState) (node : NodeState) → Keeps book node → book ≡ now → HasHistory now
history_of now book node keeps is =
    subst HasHistory is (record { count = keeps.count; member = keeps.member; node = node; leads = keeps.leads })

pub opened :
    ((me n start : ℕ) → IsHistory me n start [] [] (opening_node me n start))
    → (me n start : ℕ) → IsNodeNumber n → (1 ≤ me) × (me ≤ n) → Keeps (opening_book me n start) (opening_node me n start)
opened opening me n start count member =
    record { count = count; member = member; leads = opening me n start }

-- a message was for the node as it was first if it is for the node as it is now
for_the_first : (old first : NodeState) (event : Event) → (old.me ≡ first.me) × (old.nodes ≡ first.nodes) → IsForThisNode old event → IsForThisNode first event
for_the_first old first (Ask client name mode) same h = tt
for_the_first old first (Leave client name) same h = tt
for_the_first old first (Cancel client name) same h = tt
for_the_first old first Forget same h = tt
for_the_first old first (Receive message) same h = rw (← same.0, ← same.1) h

module _
    (node_stays : (old new : NodeState) (happened : List Happening) → NodeEvents old happened new
    → (new.me ≡ old.me) × (new.nodes ≡ old.nodes) × (old.start ≤ new.start))
  where
    -- which node it is
    who : (book : BookState) (node : NodeState) → Keeps book node
        → (node.me ≡ book.me) × (node.nodes ≡ book.nodes) × (book.start ≤ node.start)
    who book node keeps =
        node_stays (opening_node book.me book.nodes book.start) node (map happening_of keeps.leads.postings) keeps.leads.leads

    pub goes_on :
        ((me n start : ℕ) (events : List BookEvent) (sent : List Sent) (old new : NodeState)
        (kind : BookKind) (sends : List Message) (marks : List Mark)
        → IsHistory me n start events sent old → IsForThisNode (opening_node me n start) (node_event kind)
        → NodeEvent old (node_event kind) sends marks new → clock_after (clock_of events) kind ≤ 2 ^ 62
        → IsHistory me n start (events ++ record { clock = clock_after (clock_of events) kind; kind = kind } ∷ [])
        (sent ++ as_sent (frames_at (clock_after (clock_of events) kind) sends)) new)
        → (book : BookState) (old new : NodeState) (kind : BookKind) (sends : List Message) (marks : List Mark)
        → Keeps book old → IsForThisNode old (node_event kind) → NodeEvent old (node_event kind) sends marks new
        → HasClock book kind
        → Keeps (with_event book (next_clock book kind) kind (frames_at (next_clock book kind) sends)) new
    goes_on on book old new kind sends marks keeps for_it happens low =
        let same = who book old keeps in
        let first = for_the_first old (opening_node book.me book.nodes book.start) (node_event kind) (same.0, same.1) for_it in
        record {
          count = keeps.count;
          member = keeps.member;
          leads =
              let clock = next_clock book kind in
              let one : List BookEvent = record { clock = clock; kind = kind } ∷ [] in
              let frames : List Sent = as_sent (frames_at clock sends) in
              subst (λ (events : List BookEvent). IsHistory book.me book.nodes book.start events (book.taken.sent ++ (book.sent ++ frames)) new)
              (append_assoc book.taken.events book.events one)
              (subst (λ (sent : List Sent). IsHistory book.me book.nodes book.start ((book.taken.events ++ book.events) ++ one) sent new)
              (append_assoc book.taken.sent book.sent frames)
              (on book.me book.nodes book.start (whole_events book) (whole_sent book) old new kind sends marks keeps.leads first happens low));
        }

    module _
        (consistent_from : (me nodes start : ℕ) (new : NodeState) (happened : List Happening)
        → IsNodeNumber nodes → (1 ≤ me) × (me ≤ nodes) → AreForThisNode (opening_node me nodes start) happened
        → NodeEvents (opening_node me nodes start) happened new → IsConsistentNode new)
      where
        consistent : (book : BookState) (node : NodeState) → Keeps book node → IsConsistentNode node
        consistent book node keeps =
            consistent_from book.me book.nodes book.start node (map happening_of keeps.leads.postings) keeps.count keeps.member
            keeps.leads.for_this_node keeps.leads.leads

        pub node_is : (book : BookState) (node : NodeState) → Keeps book node
            → (node.me ≡ book.me) × (node.nodes ≡ book.nodes) × IsConsistentNode node
        node_is book node keeps =
            let same = who book node keeps in
            (same.0, same.1, consistent book node keeps)

        pub few :
            ((old new : NodeState) (event : Event) (sends : List Message) (marks : List Mark)
            → IsConsistentNode old → NodeEvent old event sends marks new
            → (length sends ≤ sends_at_most old.nodes event) × (length marks ≤ marks_at_most event))
            → (book : BookState) (old new : NodeState) (kind : BookKind) (sends : List Message) (marks : List Mark)
            → Keeps book old → NodeEvent old (node_event kind) sends marks new
            → length sends ≤ sends_by book.nodes kind
        few room book old new (kinds.Ask client name mode) sends marks keeps happens =
            subst (λ (n : ℕ). length sends ≤ n) (who book old keeps).1 (room old new (Ask client name mode) sends marks (consistent book old keeps) happens).0
        few room book old new (kinds.Leave client name) sends marks keeps happens =
            subst (λ (n : ℕ). length sends ≤ 2 * n) (who book old keeps).1 (room old new (Leave client name) sends marks (consistent book old keeps) happens).0
        few room book old new (kinds.Cancel client name) sends marks keeps happens =
            subst (λ (n : ℕ). length sends ≤ 2 * n) (who book old keeps).1 (room old new (Cancel client name) sends marks (consistent book old keeps) happens).0
        few room book old new kinds.Forget sends marks keeps happens = (room old new Forget sends marks (consistent book old keeps) happens).0
        few room book old new (kinds.Receive frame) sends marks keeps happens = by_message frame.message happens
          where
            -- a REPLY is answered by nothing
            by_message : (message : Message) → NodeEvent old (Receive message) sends marks new → length sends ≤ answers_to message
            by_message (Request from to name mode seq) happens = (room old new (Receive (Request from to name mode seq)) sends marks (consistent book old keeps) happens).0
            by_message (Reply from to name seq) happens = subst (λ (ms : List Message). length ms ≤ 0) (sym happens.turn.step.0) (omega arith)

        -- the frame that comes has a number
        numbered_by : (kind : BookKind) (message : Message) → ((frame : Frame) → kind ≡ kinds.Receive frame → Fits frame) → node_event kind ≡ Receive message → 1 ≤ seq_of message
        numbered_by (kinds.Ask client name mode) message fits is = absurd (cc)
        numbered_by (kinds.Leave client name) message fits is = absurd (cc)
        numbered_by (kinds.Cancel client name) message fits is = absurd (cc)
        numbered_by kinds.Forget message fits is = absurd (cc)
        numbered_by (kinds.Receive frame) message fits is =
            let same : frame.message ≡ message = cc in
            subst (λ (m : Message). 1 ≤ seq_of m) same (fits frame refl).seq

        clock_rises : (clock : ℕ) (kind : BookKind) → 1 ≤ clock_after clock kind
        clock_rises clock (kinds.Ask client name mode) = omega arith
        clock_rises clock (kinds.Leave client name) = omega arith
        clock_rises clock (kinds.Cancel client name) = omega arith
        clock_rises clock kinds.Forget = omega arith
        clock_rises clock (kinds.Receive frame) = omega arith

        pub fit :
            ((old new : NodeState) (event : Event) (sends : List Message) (marks : List Mark)
            → IsConsistentNode old → IsForThisNode old event → NodeEvent old event sends marks new
            → All (IsSend old.me old.nodes (name_of_event event)) sends)
            → ((old new : NodeState) (event : Event) (sends : List Message) (marks : List Mark)
            → IsConsistentNode old → IsForThisNode old event → NodeEvent old event sends marks new
            → ((message : Message) → event ≡ Receive message → 1 ≤ seq_of message)
            → All (λ message. 1 ≤ seq_of message) sends)
            → (book : BookState) (old new : NodeState) (kind : BookKind) (sends : List Message) (marks : List Mark)
            → Keeps book old → IsForThisNode old (node_event kind) → NodeEvent old (node_event kind) sends marks new
            → HasClock book kind → ((frame : Frame) → kind ≡ kinds.Receive frame → Fits frame)
            → All Fits (frames_at (next_clock book kind) sends)
        fit sent_to numbered book old new kind sends marks keeps for_it happens low fits =
            let event = node_event kind in
            let is_consistent = consistent book old keeps in
            let to = sent_to old new event sends marks is_consistent for_it happens in
            let number = numbered old new event sends marks is_consistent for_it happens (λ message is. numbered_by kind message fits is) in
            All-map Fits (λ (message : Message). record { clock = next_clock book kind; message = message }) sends
            (λ k d lt.
            let send = to k d lt in
            record {
              clock = (clock_rises (clock_of (whole_events book)) kind, low);
              seq = number k d lt;
              apart = λ same. send.to.other (sym same ∙ send.from);
            })

pub flags :
    ((me n start : ℕ) (events : List BookEvent) (sent sent' : List Sent) (node : NodeState)
    → IsHistory me n start events sent node → map (λ (s : Sent). s.frame) sent' ≡ map (λ (s : Sent). s.frame) sent
    → IsHistory me n start events sent' node)
    → (book : BookState) (sent : List Sent) (node : NodeState)
    → Keeps book node → map (λ (s : Sent). s.frame) sent ≡ map (λ (s : Sent). s.frame) book.sent
    → Keeps (record book { sent = sent }) node
flags law book sent node keeps same =
    record {
      count = keeps.count;
      member = keeps.member;
      leads =
          law book.me book.nodes book.start (whole_events book) (whole_sent book) (book.taken.sent ++ sent) node keeps.leads
          (map-append (λ (s : Sent). s.frame) book.taken.sent sent
          ∙ ap (λ (frames : List Frame). map (λ (s : Sent). s.frame) book.taken.sent ++ frames) same
          ∙ sym (map-append (λ (s : Sent). s.frame) book.taken.sent book.sent));
    }

-- the book after its events and frames were taken
pub all_taken_is : (now book : BookState) → book ≡ now → (taken : TakenState) (events : List BookEvent) (sent : List Sent)
    → taken ≡ record { some = true; events = whole_events book; sent = whole_sent book }
    → events ≡ [] → sent ≡ []
    → record book { taken = taken; events = events; sent = sent } ≡ with_all_taken now
all_taken_is now book is taken events sent taken_is no_events no_sent =
    (λ i. record book { taken = taken_is i; events = no_events i; sent = no_sent i }) ∙ ap with_all_taken is

pub all_taken : (book : BookState) (node : NodeState) (taken : TakenState) (events : List BookEvent) (sent : List Sent) → Keeps book node
    → taken ≡ record { some = true; events = whole_events book; sent = whole_sent book }
    → events ≡ [] → sent ≡ []
    → Keeps (record book { taken = taken; events = events; sent = sent }) node
all_taken book node taken events sent keeps taken_is no_events no_sent =
    subst (λ (b : BookState). Keeps b node) (sym (all_taken_is book book refl taken events sent taken_is no_events no_sent))
    (record {
      count = keeps.count;
      member = keeps.member;
      leads =
          subst (λ (ss : List Sent). IsHistory book.me book.nodes book.start (whole_events book ++ []) ss node) (sym (append-nil (whole_sent book)))
          (subst (λ (es : List BookEvent). IsHistory book.me book.nodes book.start es (whole_sent book) node) (sym (append-nil (whole_events book)))
          keeps.leads);
    })

pub determined :
    ((me n start : ℕ) (events : List BookEvent) (sent sent' : List Sent) (a b : NodeState)
    → IsHistory me n start events sent a → IsHistory me n start events sent' b → a ≡ b)
    → (book : BookState) (a b : NodeState) → Keeps book a → LeadsTo book b → b ≡ a
determined law book a b keeps leads = law book.me book.nodes book.start (whole_events book) (whole_sent book) (whole_sent book) b a leads keeps.leads

-- a fault is no matter of the history
pub faulty_history : (book : BookState) (node : NodeState) (fault : Option Stop) → Keeps book node → HasHistory (record book { fault = fault })
faulty_history book node fault keeps =
    record { count = keeps.count; member = keeps.member; node = node; leads = keeps.leads }
