-- What holds of each host in every state: its book is a history of its node, and no frame in it is flagged lost.
use Rattle.std.proofs.Common.{◌≡◌, inl, inr, ℕ, ◌≤◌, ◌^◌, Bool, true, false, Option, Some, None, cond, List, [], ◌∷◌, ◌++◌, length, take, max, append_assoc, refl, sym, ap, ◌∙◌, subst, arith}
use Rattle.std.specs.Prelude.{All, nat_le}
use Rattle.std.specs.List.{slice_get}
use Rattle.std.proofs.lemmas.Bool.{cond_both}
use Rattle.std.proofs.lemmas.List.{length-take, length_push}
use Rattle.std.proofs.lemmas.List.Elements.{All-append, All-filter, All-map, All-nil}
use Rattle.ra_stamp.specs.NodeId.{IsNodeNumber}
use Rattle.ra_stamp.specs.declared.entry.Mark.{Mark}
use Rattle.ra_stamp.specs.declared.message.Message.{Message as NodeMessage}
use Rattle.ra_frame.specs.declared.frame.Frame.{Frame as BookFrame}
use Rattle.ra_node.specs.Node.{NodeState, opening_node}
use Rattle.ra_node.specs.Events.{NodeEvent, IsForThisNode}
use Rattle.ra_link.specs.declared.message.Message.{Message}
use Rattle.ra_link.specs.declared.message.Message.TheVariants.{Hello, Welcome, Frame, Ack, Old}
use Rattle.ra_link.specs.Link as link
use Rattle.ra_book.specs.declared.book.event.BookEvent.{BookEvent}
use Rattle.ra_book.specs.declared.book.event.BookKind.{BookKind}
use Rattle.ra_book.specs.declared.book.event.BookKind.TheVariants as kinds
use Rattle.ra_book.specs.declared.book.sent.Sent.{Sent}
use Rattle.ra_book.specs.History.{IsHistory, node_event, clock_after, clock_of, frames_at}
use Rattle.ra_book.specs.Book.{BookState, IsWhole, HasHistory, HasClock, Adds, whole_events, whole_sent, with_event, next_clock, as_sent, LeadsTo}
use Rattle.ra_book.specs.Cut.{first_of}
use Rattle.ra_book.specs.Pairs.{AreFirstOf, sent_to, come_from}
use Rattle.ra_host.specs.Host.{Host, new_host, IsOther, ends, crashes, puts_back, linked, Happens, is_taken}
use Rattle.ra_host.specs.Host.{Replays as ReplaysBook}
use Rattle.ra_host.specs.Hosts.{Packet, Event, Turn, TakesOrNot, TakesIfFrame, Hears, HearsIfSaid, Acts, Rests, TurnsIf, Turns}
use Rattle.ra_host.specs.Hosts.Event.{Start, Connects, Comes, Replays, Does, Syncs, Says_hello, Says_ack, Says_old, Says_frame, Crashes, Put_back}

-- the laws of books that the proofs use
pub record BookLaws : Type 0 where
  pub opening : (me n start : ℕ) → IsHistory me n start [] [] (opening_node me n start)
  pub event : (me n start : ℕ) (events : List BookEvent) (sent : List Sent) (old new : NodeState) (kind : BookKind) (sends : List NodeMessage) (marks : List Mark)
      → IsHistory me n start events sent old → IsForThisNode (opening_node me n start) (node_event kind) → NodeEvent old (node_event kind) sends marks new
      → clock_after (clock_of events) kind ≤ 2 ^ 62
      → IsHistory me n start (events ++ record { clock = clock_after (clock_of events) kind; kind = kind } ∷ []) (sent ++ as_sent (frames_at (clock_after (clock_of events) kind) sends)) new
  pub history : (count : ℕ) (book : BookState) → IsWhole book → HasHistory book → HasHistory (first_of count book)
  pub whole : (count : ℕ) (book : BookState) → IsWhole book → IsWhole (first_of count book)
  pub come : (count node : ℕ) (book : BookState) → AreFirstOf (come_from node (first_of count book)) (come_from node book)
  pub sent : (count node : ℕ) (book : BookState) → IsWhole book → HasHistory book → AreFirstOf (sent_to node (first_of count book)) (sent_to node book)
  pub again : (first count : ℕ) (book : BookState) → IsWhole book → HasHistory book → first ≤ count → first_of first (first_of count book) ≡ first_of first book
  pub all : (count : ℕ) (book : BookState) → IsWhole book → HasHistory book → length book.events ≤ count → first_of count book ≡ book

-- what holds of host i
pub record IsSound (n start i : ℕ) (h : Host) : Type 0 where
  pub me : h.book.me ≡ i
  pub nodes : h.book.nodes ≡ n
  pub start_is : h.book.start ≡ start
  pub whole : IsWhole h.book
  pub history : HasHistory h.book
  pub kept : h.kept ≤ length h.book.events
  pub none_lost : All (λ s. s.lost ≡ false) h.book.sent

module _ (laws : BookLaws) where
  -- a book with one more event is a history
  pub adds_leads : (book new : BookState) (kind : BookKind) (frames : List BookFrame) (marks : List Mark)
      → IsForThisNode (opening_node book.me book.nodes book.start) (node_event kind) → HasClock book kind → (adds : Adds book kind frames marks new) → LeadsTo new adds.after
  adds_leads book new kind frames marks for_it has_clock adds =
      let clock = next_clock book kind in
      let e : BookEvent = record { clock = clock; kind = kind } in
      let on = laws.event book.me book.nodes book.start (whole_events book) (whole_sent book) adds.before adds.after kind adds.sends marks adds.leads for_it adds.event has_clock in
      subst (λ (b : BookState). LeadsTo b adds.after) (sym adds.new_is)
      (subst (λ (es : List BookEvent). IsHistory book.me book.nodes book.start es (book.taken.sent ++ (book.sent ++ as_sent frames)) adds.after) (append_assoc book.taken.events book.events (e ∷ []))
      (subst (λ (ss : List Sent). IsHistory book.me book.nodes book.start ((book.taken.events ++ book.events) ++ e ∷ []) ss adds.after)
      (append_assoc book.taken.sent book.sent (as_sent (frames_at clock adds.sends))
      ∙ ap (λ (fs : List BookFrame). book.taken.sent ++ (book.sent ++ as_sent fs)) (sym adds.frames_are)) on))

  pub adds_on : (book new : BookState) (kind : BookKind) (frames : List BookFrame) (marks : List Mark) → HasHistory book
      → IsForThisNode (opening_node book.me book.nodes book.start) (node_event kind) → HasClock book kind → Adds book kind frames marks new → HasHistory new
  adds_on book new kind frames marks history for_it has_clock adds =
      record {
        count = subst (λ (b : BookState). IsNodeNumber b.nodes) (sym adds.new_is) history.count;
        member = subst (λ (b : BookState). (1 ≤ b.me) × (b.me ≤ b.nodes)) (sym adds.new_is) history.member;
        node = adds.after;
        leads = adds_leads book new kind frames marks for_it has_clock adds;
      }

  module _ (n start i : ℕ) where
    -- a host with the same book
    same : (h new : Host) → new.book ≡ h.book → new.kept ≤ length h.book.events → IsSound n start i h → IsSound n start i new
    same h new book kept s =
        record {
          me = ap (λ (b : BookState). b.me) book ∙ s.me;
          nodes = ap (λ (b : BookState). b.nodes) book ∙ s.nodes;
          start_is = ap (λ (b : BookState). b.start) book ∙ s.start_is;
          whole = subst IsWhole (sym book) s.whole;
          history = subst HasHistory (sym book) s.history;
          kept = let events = ap (λ (b : BookState). length b.events) book in omega (arith, kept, events);
          none_lost = subst (λ (b : BookState). All (λ x. x.lost ≡ false) b.sent) (sym book) s.none_lost;
        }

    -- a host that has the first events of its book
    cut : (h : Host) (count : ℕ) (new : Host) → new.book ≡ first_of count h.book → new.kept ≤ length (take count h.book.events) → IsSound n start i h → IsSound n start i new
    cut h count new book low s =
        same (record h { book = first_of count h.book; kept = new.kept }) new book low (record {
          me = s.me;
          nodes = s.nodes;
          start_is = s.start_is;
          whole = laws.whole count h.book s.whole;
          history = laws.history count h.book s.whole s.history;
          kept = low;
          none_lost = All-filter (λ x. nat_le x.frame.clock (clock_of (take count h.book.events))) (λ x. x.lost ≡ false) h.book.sent s.none_lost;
        })

    pub happens : (h new : Host) (kind : BookKind) → Happens h kind new → IsSound n start i h → IsSound n start i new
    happens h new kind is s =
        let book = with_event h.book (next_clock h.book kind) kind is.frames in
        let long = length_push h.book.events (record { clock = next_clock h.book kind; kind = kind }) in
        let kept : new.kept ≡ h.kept = ap (λ (x : Host). x.kept) is.new_is in
        same (record h { book = book }) new (ap (λ (x : Host). x.book) is.new_is ∙ is.adds.new_is) (omega (arith, s.kept, long, kept)) (record {
          me = s.me;
          nodes = s.nodes;
          start_is = s.start_is;
          whole = s.whole;
          history = subst HasHistory is.adds.new_is (adds_on h.book is.book kind is.frames is.marks s.history is.for_this_node is.has_clock is.adds);
          kept = omega (arith, s.kept, long);
          none_lost = All-append (λ x. x.lost ≡ false) h.book.sent (as_sent is.frames) s.none_lost
              (All-map (λ x. x.lost ≡ false) (λ frame. record { frame = frame; lost = false }) is.frames (λ k d low. refl));
        })

    module _ (h : Host) (s : IsSound n start i h) (t : Turn) where
      -- the host is this one after the turn, and that one is sound
      at : (new : Host) (told : ℕ → List Packet) → t ≡ record { host = new; says = told } → IsSound n start i new → IsSound n start i t.host
      at new told is sound = subst (IsSound n start i) (sym (ap (λ (u : Turn). u.host) is)) sound

      -- it has the same book
      still : (new : Host) (told : ℕ → List Packet) → t ≡ record { host = new; says = told } → new.book ≡ h.book → new.kept ≤ length h.book.events → IsSound n start i t.host
      still new told is book kept = at new told is (same h new book kept s)

      -- it ends by itself, or goes on
      ends_or : (j : ℕ) (accuses : Bool) (new : Host) → new.book ≡ h.book → new.kept ≤ length h.book.events → t ≡ record { host = cond accuses (ends h j) new; says = λ k. [] } → IsSound n start i t.host
      ends_or j accuses new book kept is =
          at (cond accuses (ends h j) new) (λ k. []) is
          (cond_both accuses (ends h j) new (IsSound n start i) (λ _. same h (ends h j) refl s.kept s) (λ _. same h new book kept s))

      hears_frame : (j nonce number : ℕ) → IsOther h j → (o : Option BookFrame) → TakesIfFrame h j nonce number o t → IsSound n start i t.host
      hears_frame j nonce number other None is = still h (λ k. []) is refl s.kept
      hears_frame j nonce number other (Some frame) is = by_test (is_taken h j nonce number frame) refl is.0
        where
          by_test : (b : Bool) → is_taken h j nonce number frame ≡ b → TakesOrNot b h j nonce number frame t.host → IsSound n start i t.host
          by_test true taken takes =
              let before : Host = linked h j (link.hears_frame (h.links j) nonce number) in
              happens before t.host (kinds.Receive frame) takes (same h before refl s.kept s)
          by_test false taken passes = subst (IsSound n start i) (sym passes) s

      hears : (j : ℕ) → IsOther h j → (message : Message) (frame : Option BookFrame) → Hears h j message frame t → IsSound n start i t.host
      hears j other (Hello nonce question) frame is = still _ _ is refl s.kept
      hears j other (Welcome asker question nonce kept) frame is =
          ends_or j (link.welcome_accuses (h.links j) asker question kept) (linked h j (link.hears_welcome (h.links j) asker question nonce kept)) refl s.kept is
      hears j other (Frame nonce number) frame is = hears_frame j nonce number other frame is
      hears j other (Ack nonce to kept) frame is =
          ends_or j (link.ack_accuses (h.links j) nonce to kept) (linked h j (link.hears_ack (h.links j) nonce to kept)) refl s.kept is
      hears j other (Old count) frame is = ends_or j (link.old_accuses (h.links j) count) h refl s.kept is

      hears_if_said : (j : ℕ) → IsOther h j → (o : Option Packet) → HearsIfSaid h j o t → IsSound n start i t.host
      hears_if_said j other None is = still h (λ k. []) is refl s.kept
      hears_if_said j other (Some p) is = hears j other p.message p.frame is

      replays : ReplaysBook h t.host → IsSound n start i t.host
      replays is =
          elim is.new_is [
            | inl on ↦ same h t.host (ap (λ (x : Host). x.book) on.1) (let kept : t.host.kept ≡ h.kept = ap (λ (x : Host). x.kept) on.1 in omega (arith, s.kept, kept)) s
            | inr short ↦ same h t.host (ap (λ (x : Host). x.book) short.3) (let kept : t.host.kept ≡ h.kept = ap (λ (x : Host). x.kept) short.3 in omega (arith, s.kept, kept)) s
          ]

      crashed : (count : ℕ) → t ≡ record { host = crashes h count; says = λ k. [] } → IsSound n start i t.host
      crashed count is =
          let long = length-take (max count h.kept) h.book.events in
          at (crashes h count) (λ k. []) is (cut h (max count h.kept) (crashes h count) refl (omega (arith, long, s.kept)) s)

      acts : (back : ℕ → List Packet) (e : Event) → Acts back h e t → IsSound n start i t.host
      acts back (Start nonce) is = absurd is
      acts back (Connects j) is = still _ _ is.1 refl s.kept
      acts back (Comes j which) is = hears_if_said j is.0 (slice_get (back j) which) is.1
      acts back Replays is = replays is.0
      acts back (Does kind) is = happens h t.host kind is.1 s
      acts back Syncs is = still _ _ is refl (omega arith)
      acts back (Says_hello j) is = still _ _ is.1 refl s.kept
      acts back (Says_ack j) is = still _ _ is.1 refl s.kept
      acts back (Says_old j) is = still _ _ is.1 refl s.kept
      acts back (Says_frame j number) is = still _ _ is.1 refl s.kept
      acts back (Crashes count) is = crashed count is
      acts back (Put_back count) is = absurd is

      rests : (e : Event) → Rests h e t → IsSound n start i t.host
      rests (Start nonce) is = still _ _ is.1 refl (omega arith)
      rests (Connects j) is = absurd is
      rests (Comes j which) is = absurd is
      rests Replays is = absurd is
      rests (Does kind) is = absurd is
      rests Syncs is = absurd is
      rests (Says_hello j) is = absurd is
      rests (Says_ack j) is = absurd is
      rests (Says_old j) is = absurd is
      rests (Says_frame j number) is = absurd is
      rests (Crashes count) is = crashed count is
      rests (Put_back count) is =
          let long = length-take count h.book.events in
          at (puts_back h count) (λ k. []) is (cut h count (puts_back h count) refl (omega (arith, long, s.kept)) s)

      pub turns : (back : ℕ → List Packet) (e : Event) → Turns back h e t → IsSound n start i t.host
      turns back e is = by_test h.up is
        where
          by_test : (b : Bool) → TurnsIf b back h e t → IsSound n start i t.host
          by_test true is = acts back e is
          by_test false is = rests e is

-- a new host is sound
pub new_is_sound : BookLaws → (n start i : ℕ) → IsNodeNumber n → 1 ≤ i → i ≤ n → IsSound n start i (new_host n start i)
new_is_sound laws n start i count first last =
    record {
      me = refl;
      nodes = refl;
      start_is = refl;
      whole = refl;
      history = record { count = count; member = (first, last); node = opening_node i n start; leads = laws.opening i n start };
      kept = omega arith;
      none_lost = All-nil (λ x. x.lost ≡ false);
    }
