-- A book that was read is determined by what its lines say.
use Rattle.std.proofs.Common.{◌≡◌, ℕ, ◌≤◌, ◌^◌, false, List, [], ◌∷◌, ◌++◌, map, inl, inr, refl, sym, ap, subst, ◌∙◌}
use Rattle.std.specs.Prelude.{All}
use Rattle.std.proofs.lemmas.List.{map-append}
use Rattle.std.proofs.lemmas.List.Elements.{All-head, All-tail}
use Rattle.ra_stamp.specs.declared.entry.Mark.{Mark}
use Rattle.ra_stamp.specs.declared.message.Message.{Message}
use Rattle.ra_frame.specs.declared.frame.Frame.{Frame}
use Rattle.ra_node.specs.Node.{NodeState, opening_node}
use Rattle.ra_node.specs.Events.{Happening, NodeEvent, NodeEvents, IsForThisNode}
use Rattle.ra_book.specs.declared.book.event.BookEvent.{BookEvent}
use Rattle.ra_book.specs.declared.book.event.BookKind.{BookKind}
use Rattle.ra_book.specs.declared.book.event.BookKind.TheVariants.{Ask, Leave, Cancel, Forget, Receive}
use Rattle.ra_book.specs.declared.book.sent.Sent.{Sent}
use Rattle.ra_book.specs.History.{Posting, IsHistory, AreClocked, node_event, happening_of, clock_after, clock_from, clock_of, frames_of}
use Rattle.ra_book.specs.Book.{BookState, TakenState, as_sent, whole_events}
use Rattle.ra_node.proofs.Possible.{cancel_was_allowed}
use Rattle.ra_book_text.specs.Texts.{CanTake, IsRead}
use Rattle.ra_book_text.proofs.OneReading.{head_of, tail_of}
use Rattle.ra_book_text.proofs.ListPieces.{all_left, all_right}

-- what the proofs rest on
pub record HistoryLaws : Type 0 where
  pub node : (me n start : ℕ) (events : List BookEvent) (sent sent' : List Sent) (a b : NodeState)
      → IsHistory me n start events sent a → IsHistory me n start events sent' b → a ≡ b
  pub frames : (me n start : ℕ) (events : List BookEvent) (sent sent' : List Sent) (a b : NodeState)
      → IsHistory me n start events sent a → IsHistory me n start events sent' b → map (λ s. s.frame) sent ≡ map (λ s. s.frame) sent'
  pub splits : (prefix rest : List Happening) (a c : NodeState) → NodeEvents a (prefix ++ rest) c
      → (b : NodeState) × NodeEvents a prefix b × NodeEvents b rest c

-- what happened, without clocks
abbrev pub kinds_of : List BookEvent → List BookKind
kinds_of events = map (λ event. event.kind) events

-- ---- Lists

-- a list whose values are these, parted at one of them
record PartedAt {X Y : Type 0} (f : X → Y) (xs : List X) (ys : List Y) (y : Y) : Type 0 where
  before : List X
  this : X
  after : List X
  xs_are : xs ≡ before ++ this ∷ after
  before_is : map f before ≡ ys
  this_is : f this ≡ y

parted_at : {X Y : Type 0} (f : X → Y) (xs : List X) (ys zs : List Y) (y : Y) → map f xs ≡ ys ++ y ∷ zs → PartedAt f xs ys y
parted_at f [] [] zs y is = absurd cc
parted_at f [] (z ∷ ys) zs y is = absurd cc
parted_at f (x ∷ xs) [] zs y is = record { before = []; this = x; after = xs; xs_are = refl; before_is = refl; this_is = head_of is }
parted_at f (x ∷ xs) (z ∷ ys) zs y is =
    let rest = parted_at f xs ys zs y (tail_of is) in
    let first : f x ≡ z = head_of is in
    record {
      before = x ∷ rest.before;
      this = rest.this;
      after = rest.after;
      xs_are = λ i. x ∷ rest.xs_are i;
      before_is = λ i. first i ∷ rest.before_is i;
      this_is = rest.this_is;
    }

-- ---- Clocks and frames

clocks_once : (clock : ℕ) (es fs : List BookEvent) → AreClocked clock es → AreClocked clock fs → kinds_of es ≡ kinds_of fs → es ≡ fs
clocks_once clock [] [] g h same = refl
clocks_once clock [] (f ∷ fs) g h same = absurd cc
clocks_once clock (e ∷ es) [] g h same = absurd cc
clocks_once clock (e ∷ es) (f ∷ fs) g h same =
    let kind : e.kind ≡ f.kind = head_of same in
    let at : e.clock ≡ f.clock = g.0 ∙ ap (clock_after clock) kind ∙ sym h.0 in
    let rest = clocks_once f.clock es fs (subst (λ c. AreClocked c es) at g.2) h.2 (tail_of same) in
    λ i. record { clock = at i; kind = kind i } ∷ rest i

clocked_at : (clock : ℕ) (es : List BookEvent) (e : BookEvent) (more : List BookEvent) → AreClocked clock (es ++ e ∷ more)
    → AreClocked clock es × (e.clock ≡ clock_after (clock_from clock es) e.kind) × (e.clock ≤ 2 ^ 62)
clocked_at clock [] e more h = (tt, h.0, h.1)
clocked_at clock (x ∷ es) e more h =
    let rest = clocked_at x.clock es e more h.2 in
    ((h.0, h.1, rest.0), rest.1, rest.2)

pub frames_as_sent : (frames : List Frame) → map (λ (s : Sent). s.frame) (as_sent frames) ≡ frames
frames_as_sent [] = refl
frames_as_sent (f ∷ fs) = ap (λ (xs : List Frame). f ∷ xs) (frames_as_sent fs)

-- what is sent and not flagged lost is its frames
none_lost : (sent : List Sent) → All (λ s. s.lost ≡ false) sent → sent ≡ as_sent (map (λ s. s.frame) sent)
none_lost [] kept = refl
none_lost (s ∷ sent) kept =
    let first : s.lost ≡ false = All-head (λ s. s.lost ≡ false) s sent kept in
    let rest = none_lost sent (All-tail (λ s. s.lost ≡ false) s sent kept) in
    λ i. record { frame = s.frame; lost = first i } ∷ rest i

-- the history of a book if nothing was taken from it
whole_events_are : (book : BookState) → IsRead book → whole_events book ≡ book.events
whole_events_are book read = ap (λ (t : TakenState). t.events ++ book.events) read.whole

whole_history : (book : BookState) (read : IsRead book) → IsHistory book.me book.nodes book.start book.events book.sent read.history.node
whole_history book read =
    subst (λ (t : TakenState). IsHistory book.me book.nodes book.start (t.events ++ book.events) (t.sent ++ book.sent) read.history.node) read.whole read.history.leads

same_event : (old at : NodeState) (kind other : BookKind) (sends : List Message) (marks : List Mark) (new : NodeState) → old ≡ at → kind ≡ other
    → NodeEvent old (node_event kind) sends marks new → NodeEvent at (node_event other) sends marks new
same_event old at kind other sends marks new node event h =
    subst (λ (t : NodeState × BookKind). NodeEvent t.0 (node_event t.1) sends marks new) (λ i. (node i, event i)) h

module _ (laws : HistoryLaws) where
  -- ---- One book

  moved : (me me' n n' start start' : ℕ) (events events' : List BookEvent) (sent : List Sent) (node : NodeState) → me ≡ me' → n ≡ n' → start ≡ start' → events ≡ events'
      → IsHistory me n start events sent node → IsHistory me' n' start' events' sent node
  moved me me' n n' start start' events events' sent node p q r s h =
      subst (λ (t : ℕ × (ℕ × (ℕ × List BookEvent))). IsHistory t.0 t.1.0 t.1.1.0 t.1.1.1 sent node) (λ i. (p i, (q i, (r i, s i)))) h

  pub one_book : (a b : BookState) → IsRead a → IsRead b → a.me ≡ b.me → a.nodes ≡ b.nodes → a.start ≡ b.start → kinds_of a.events ≡ kinds_of b.events → a ≡ b
  one_book a b g h me nodes start kinds =
      let left = whole_history a g in
      let right = whole_history b h in
      let events : a.events ≡ b.events = clocks_once 0 a.events b.events left.clocked right.clocked kinds in
      let frames = laws.frames b.me b.nodes b.start b.events a.sent b.sent g.history.node h.history.node
      (moved a.me b.me a.nodes b.nodes a.start b.start a.events b.events a.sent g.history.node me nodes start events left) right in
      let sent : a.sent ≡ b.sent = none_lost a.sent g.kept ∙ ap as_sent frames ∙ sym (none_lost b.sent h.kept) in
      let taken : a.taken ≡ b.taken = g.whole ∙ sym h.whole in
      let fault : a.fault ≡ b.fault = g.no_fault ∙ sym h.no_fault in
      λ i. record { me = me i; nodes = nodes i; start = start i; taken = taken i; events = events i; sent = sent i; fault = fault i }

  -- ---- The next event

  -- the event happens at this node, which has this history, and a clock is left for it
  record NextAt (me n start : ℕ) (events : List BookEvent) (at : NodeState) (kind : BookKind) : Type 0 where
    sends : List Message
    marks : List Mark
    new : NodeState
    happens : NodeEvent at (node_event kind) sends marks new
    for_it : IsForThisNode (opening_node me n start) (node_event kind)
    low : clock_after (clock_of events) kind ≤ 2 ^ 62

  next_at : (me n start : ℕ) (events first : List BookEvent) (sent sent' : List Sent) (node at : NodeState) (kind : BookKind) (later : List BookKind)
      → IsHistory me n start events sent node → IsHistory me n start first sent' at → kinds_of events ≡ kinds_of first ++ kind ∷ later
      → NextAt me n start first at kind
  next_at me n start events first sent sent' node at kind later whole part kinds =
      let opened = opening_node me n start in
      let es = parted_at (λ (e : BookEvent). e.kind) events (kinds_of first) later kind kinds in
      let clocked = clocked_at 0 es.before es.this es.after (subst (AreClocked 0) es.xs_are whole.clocked) in
      let same : es.before ≡ first = clocks_once 0 es.before first clocked.0 part.clocked es.before_is in
      let ps = parted_at (λ (p : Posting). p.event) whole.postings es.before es.after es.this (whole.events_are ∙ es.xs_are) in
      let happened : map happening_of whole.postings ≡ map happening_of ps.before ++ happening_of ps.this ∷ map happening_of ps.after =
      ap (map happening_of) ps.xs_are ∙ map-append happening_of ps.before (ps.this ∷ ps.after) in
      let for_them = subst (All (λ (h : Happening). IsForThisNode opened h.event)) happened whole.for_this_node in
      let leads = laws.splits (map happening_of ps.before) (happening_of ps.this ∷ map happening_of ps.after) opened node
      (subst (λ (hs : List Happening). NodeEvents opened hs node) happened whole.leads) in
      let own : IsHistory me n start es.before (as_sent (frames_of ps.before)) leads.0 = record {
        clocked = clocked.0;
        postings = ps.before;
        events_are = ps.before_is;
        for_this_node =
            all_left (λ (h : Happening). IsForThisNode opened h.event) (map happening_of ps.before) (happening_of ps.this ∷ map happening_of ps.after) for_them;
        leads = leads.1;
        sent_are = frames_as_sent (frames_of ps.before);
      } in
      let node_is : leads.0 ≡ at = laws.node me n start first (as_sent (frames_of ps.before)) sent' leads.0 at
      (subst (λ (es : List BookEvent). IsHistory me n start es (as_sent (frames_of ps.before)) leads.0) same own) part in
      let kind_is : ps.this.event.kind ≡ kind = ap (λ (e : BookEvent). e.kind) ps.this_is ∙ es.this_is in
      let for_this = All-head (λ (h : Happening). IsForThisNode opened h.event) (happening_of ps.this) (map happening_of ps.after)
      (all_right (λ (h : Happening). IsForThisNode opened h.event) (map happening_of ps.before) (happening_of ps.this ∷ map happening_of ps.after) for_them) in
      record {
        sends = ps.this.sends;
        marks = ps.this.marks;
        new = leads.2.0;
        happens = same_event leads.0 at ps.this.event.kind kind ps.this.sends ps.this.marks leads.2.0 node_is kind_is leads.2.1;
        for_it = subst (λ (k : BookKind). IsForThisNode opened (node_event k)) kind_is for_this;
        low =
            subst (λ (t : List BookEvent × BookKind). clock_after (clock_of t.0) t.1 ≤ 2 ^ 62) (λ i. (same i, es.this_is i))
            (subst (λ (c : ℕ). c ≤ 2 ^ 62) clocked.1 clocked.2);
      }

  -- a book that goes on as this one does, and then with this event
  pub record GoesOnWith (last : BookState) (kind : BookKind) : Type 0 where
    pub book : BookState
    pub read : IsRead book
    pub me_is : book.me ≡ last.me
    pub nodes_is : book.nodes ≡ last.nodes
    pub start_is : book.start ≡ last.start
    pub later : List BookKind
    pub kinds : kinds_of book.events ≡ kinds_of last.events ++ kind ∷ later

  can_at : (last : BookState) (kind : BookKind) (read : IsRead last) → NextAt last.me last.nodes last.start last.events read.history.node kind → CanTake last kind
  can_at last (Ask client name mode) read next = record {
    no_fault = read.no_fault;
    node = read.history.node;
    leads = read.history.leads;
    holds = (next.happens.turn.0, subst (λ (es : List BookEvent). clock_after (clock_of es) (Ask client name mode) ≤ 2 ^ 62) (sym (whole_events_are last read)) next.low);
  }
  can_at last (Leave client name) read next = record {
    no_fault = read.no_fault;
    node = read.history.node;
    leads = read.history.leads;
    holds = (
      elim next.happens.turn [
        | inl nobody ↦ (nobody.entry, nobody.ends.holds)
        | inr one ↦ (one.entry, one.ends.holds)
      ],
      subst (λ (es : List BookEvent). clock_after (clock_of es) (Leave client name) ≤ 2 ^ 62) (sym (whole_events_are last read)) next.low,
    );
  }
  can_at last (Cancel client name) read next = record {
    no_fault = read.no_fault;
    node = read.history.node;
    leads = read.history.leads;
    holds = (
      cancel_was_allowed read.history.node client name (_, _, _, next.happens),
      subst (λ (es : List BookEvent). clock_after (clock_of es) (Cancel client name) ≤ 2 ^ 62) (sym (whole_events_are last read)) next.low,
    );
  }
  can_at last Forget read next =
      (read.no_fault, subst (λ (es : List BookEvent). clock_after (clock_of es) Forget ≤ 2 ^ 62) (sym (whole_events_are last read)) next.low)
  can_at last (Receive frame) read next =
      (read.no_fault, next.for_it, subst (λ (es : List BookEvent). clock_after (clock_of es) (Receive frame) ≤ 2 ^ 62) (sym (whole_events_are last read)) next.low)

  -- the node of a book can take the book's next event
  pub can_take : (last : BookState) (kind : BookKind) → IsRead last → GoesOnWith last kind → CanTake last kind
  can_take last kind read on =
      let own = whole_history last read in
      let longer = whole_history on.book on.read in
      can_at last kind read
      (next_at last.me last.nodes last.start on.book.events last.events on.book.sent last.sent on.read.history.node read.history.node kind on.later
      (moved on.book.me last.me on.book.nodes last.nodes on.book.start last.start on.book.events on.book.events on.book.sent on.read.history.node on.me_is on.nodes_is on.start_is refl longer)
      own on.kinds)
