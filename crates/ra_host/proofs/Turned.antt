-- Each turn of a host is, as another host sees it, some events of the pair that they are.
use Rattle.std.proofs.Common.{◌≡◌, ◌≢◌, inl, inr, ℕ, ◌+◌, ◌-◌, ◌≤◌, ◌==◌, Bool, true, false, ◌&&◌, cond, Option, Some, None, List, [], ◌∷◌, ◌++◌, map, length, get_or, max, append_assoc, refl, sym, ap, ◌∙◌, subst, arith, zero, suc}
use Rattle.std.specs.Prelude.{nat_lt}
use Rattle.std.specs.List.{slice_get}
use Rattle.std.specs.Option.{option_map}
use Rattle.std.proofs.lemmas.Bool.{and_from, and_parts, cases_eq, eq-eqb, eqb-true, lt-ltb, ne_eqb, true≢false}
use Rattle.std.proofs.lemmas.List.{append-nil, length-map, map-append, take_all}
use Rattle.std.proofs.lemmas.Option.{slice_get-map}
use Rattle.ra_stamp.specs.Message.{from_of, to_of}
use Rattle.ra_frame.specs.declared.frame.Frame.{Frame as BookFrame}
use Rattle.ra_world.proofs.Lists.{filter_hit, filter_miss}
use Rattle.ra_link.specs.declared.message.Message.{Message}
use Rattle.ra_link.specs.declared.message.Message.TheVariants.{Hello, Welcome, Frame, Ack, Old}
use Rattle.ra_link.specs.declared.link.Link.{Link}
use Rattle.ra_link.specs.Link as link
use Rattle.ra_link.specs.Pair as pair
use Rattle.ra_link.specs.Pair.{Event as events}
use Rattle.ra_book.specs.declared.book.event.BookKind.{BookKind}
use Rattle.ra_book.specs.declared.book.event.BookKind.TheVariants as kinds
use Rattle.ra_book.specs.History.{frames_at}
use Rattle.ra_book.specs.Book.{BookState, IsWhole, HasHistory, with_event, next_clock}
use Rattle.ra_book.specs.Cut.{first_of}
use Rattle.ra_book.specs.Pairs.{sent_to, come_from}
use Rattle.ra_host.specs.Host.{Host, IsOther, begins, ends, crashes, linked, connects, hears_welcome, frames_to, makes_frames, Happens, IsOwn, is_taken, TakesFrame, syncs_book, replays_book, is_short}
use Rattle.ra_host.specs.Host.{Replays as ReplaysBook}
use Rattle.ra_host.specs.Hosts.{Packet, Event, Turn, silent, packets, says, is_put_back, TakesOrNot, TakesIfFrame, Hears, HearsIfSaid, Acts, Rests, TurnsIf, Turns}
use Rattle.ra_host.specs.Hosts.Event.{Start, Connects, Comes, Replays, Does, Syncs, Says_hello, Says_ack, Says_old, Says_frame, Crashes, Put_back}
use Rattle.ra_host.specs.Projection.{view_of, text_if_some, packet_of}
use Rattle.ra_host.proofs.Sound.{BookLaws, IsSound, happens}
use Rattle.ra_host.proofs.Views.{brought, sent_more, come_more, disk_stays, at_link, other_link, at_end, other_end, at_begin, at_sync, at_crash, sends, comes}

-- ---- Events one after the other

-- a host after these events, and what it says in them; the other one says nothing meanwhile
abbrev pub acts_all : List pair.Packet → pair.Host → List pair.Event → pair.Turn
acts_all back x [] = pair.silent x
acts_all back x (e ∷ es) =
    let t = pair.turn back x e in
    let r = acts_all back t.host es in
    record { host = r.host; says = r.says ++ t.says }

-- some events lead there
pub record Goes (back : List pair.Packet) (x : pair.Host) (t : pair.Turn) : Type 0 where
  pub events : List pair.Event
  pub are : acts_all back x events ≡ t

nothing : (back : List pair.Packet) (x z : pair.Host) → x ≡ z → Goes back x (pair.silent z)
nothing back x z same = record { events = []; are = ap pair.silent same }

one : (back : List pair.Packet) (x : pair.Host) (e : pair.Event) (t : pair.Turn) → pair.turn back x e ≡ t → Goes back x t
one back x e t is = record { events = e ∷ []; are = is }

if_up : (back : List pair.Packet) (x : pair.Host) → x.up ≡ true → (e : pair.Event) → pair.turn back x e ≡ pair.acts back x e
if_up back x up e = ap (λ b. cond b (pair.acts back x e) (pair.rests x e)) up

if_down : (back : List pair.Packet) (x : pair.Host) → x.up ≡ false → (e : pair.Event) → pair.turn back x e ≡ pair.rests x e
if_down back x down e = ap (λ b. cond b (pair.acts back x e) (pair.rests x e)) down

-- an event in which nothing is said, and then others
first_then : (back : List pair.Packet) (x y z : pair.Host) (e : pair.Event) → pair.turn back x e ≡ pair.silent y → Goes back y (pair.silent z) → Goes back x (pair.silent z)
first_then back x y z e is rest =
    record {
      events = e ∷ rest.events;
      are =
          ap (λ (t : pair.Turn). let r = acts_all back t.host rest.events in record { host = r.host; says = r.says ++ t.says }) is
          ∙ ap (λ (r : pair.Turn). record { host = r.host; says = r.says ++ [] }) rest.are;
    }

-- a crash that loses nothing
stops : (back : List pair.Packet) (x : pair.Host) → x.up ≡ true → Goes back x (pair.silent (record x { up = false }))
stops back x up =
    one back x (events.Crashes (length x.sent) (length x.taken)) (pair.silent (record x { up = false }))
    (if_up back x up (events.Crashes (length x.sent) (length x.taken))
    ∙ (λ at. pair.silent (record x {
      up = false;
      sent = take_all (max (length x.sent) x.sent_kept) x.sent (omega arith) at;
      taken = take_all (max (length x.taken) x.taken_kept) x.taken (omega arith) at;
    })))

-- these frames are made, one after the other
abbrev having_made : pair.Host → List (List ℕ) → pair.Host
having_made x texts = record x { link = record x.link { made = x.link.made + length texts }; sent = x.sent ++ texts }

makes_all : (back : List pair.Packet) (texts : List (List ℕ)) (x : pair.Host) → x.up ≡ true → x.link.ready ≡ true → x.link.made + length texts ≤ link.greatest
    → Goes back x (pair.silent (having_made x texts))
makes_all back [] x up ready few =
    let none : x.link.made ≡ x.link.made + 0 = omega arith in
    nothing back x (having_made x []) (λ at. record x { link = record x.link { made = none at }; sent = sym (append-nil x.sent) at })
makes_all back (f ∷ fs) x up ready few =
    let y : pair.Host = record x { link = link.makes x.link; sent = x.sent ++ f ∷ [] } in
    let room : link.may_make x.link ≡ true = and_from x.link.ready (nat_lt x.link.made link.greatest) ready (lt-ltb x.link.made link.greatest (omega (arith, few))) in
    let more : (x.link.made + 1) + length fs ≡ x.link.made + length (f ∷ fs) = omega arith in
    let rest = makes_all back fs y up ready (omega (arith, few)) in
    first_then back x y (having_made x (f ∷ fs)) (events.Makes f)
    (if_up back x up (events.Makes f) ∙ ap (λ b. cond b (pair.silent y) (pair.silent x)) room)
    (subst (λ (z : pair.Host). Goes back y (pair.silent z)) (λ at. record x { link = record x.link { made = more at }; sent = append_assoc x.sent (f ∷ []) fs at }) rest)

-- ---- The turns of a host

module _ (text : BookFrame → List ℕ) where
  -- the turn is, as host j sees it, some events of their pair
  abbrev pub Projects : (ℕ → List Packet) → Host → Turn → ℕ → Type 0
  Projects back h t j = Goes (map (packet_of text) (back j)) (view_of text h j) (record { host = view_of text t.host j; says = map (packet_of text) (t.says j) })

  module _ (back : ℕ → List Packet) (h : Host) where
    abbrev heard_of : ℕ → List pair.Packet
    heard_of j = map (packet_of text) (back j)

    abbrev seen : ℕ → pair.Host
    seen j = view_of text h j

    stays : (j : ℕ) → Projects back h (silent h) j
    stays j = nothing (heard_of j) (seen j) (seen j) refl

    -- host k sees one event, and no other host sees anything
    for_one : (k : ℕ) (t : Turn) → Projects back h t k → ((j : ℕ) → j ≢ k → seen j ≡ view_of text t.host j) → ((j : ℕ) → j ≢ k → t.says j ≡ []) → (j : ℕ) → Projects back h t j
    for_one k t is others quiet j =
        elim (cases_eq j k) [
          | inl same ↦ subst (Projects back h t) (sym same) is
          | inr differ ↦ record { events = []; are = λ at. record { host = others j differ at; says = map (packet_of text) (sym (quiet j differ) at) } }
        ]

    module _ (up : h.up ≡ true) where
      acts_one : (k : ℕ) (e : pair.Event) (t : pair.Turn) → pair.acts (heard_of k) (seen k) e ≡ t → Goes (heard_of k) (seen k) t
      acts_one k e t is = one (heard_of k) (seen k) e t (if_up (heard_of k) (seen k) up e ∙ is)

      -- a link changes, and nothing is said
      links : (k : ℕ) (l : Link) (e : pair.Event) → pair.acts (heard_of k) (seen k) e ≡ pair.silent (pair.linked (seen k) l) → (j : ℕ) → Projects back h (silent (linked h k l)) j
      links k l e is =
          for_one k (silent (linked h k l)) (acts_one k e (pair.silent (view_of text (linked h k l) k)) (is ∙ ap pair.silent (at_link text h k l)))
          (λ j differ. sym (other_link text h k l j differ)) (λ j differ. refl)

      -- something is said to host k alone
      told : (k : ℕ) (ps : List Packet) → map (packet_of text) ps ≡ map (packet_of text) (cond (k == k) ps [])
      told k ps = ap (λ b. map (packet_of text) (cond b ps [])) (sym (eq-eqb k k refl))

      told_none : (k : ℕ) (ps : List Packet) (j : ℕ) → j ≢ k → cond (j == k) ps [] ≡ []
      told_none k ps j differ = ap (λ b. cond b ps []) (ne_eqb j k differ)

      tells : (k : ℕ) (m : Option Message) (frame : Option BookFrame) (e : pair.Event)
          → pair.acts (heard_of k) (seen k) e ≡ record { host = seen k; says = map (packet_of text) (packets m frame) } → (j : ℕ) → Projects back h (says h k m frame) j
      tells k m frame e is =
          for_one k (says h k m frame)
          (acts_one k e _ (is ∙ ap (λ (ps : List pair.Packet). record { host = seen k; says = ps }) (told k (packets m frame))))
          (λ j differ. refl) (told_none k (packets m frame))

      -- it ends by itself
      ends_for : (k : ℕ) (e : pair.Event) → pair.acts (heard_of k) (seen k) e ≡ pair.ends (seen k) → (j : ℕ) → Projects back h (silent (ends h k)) j
      ends_for k e is j =
          elim (cases_eq j k) [
            | inl same ↦ subst (Projects back h (silent (ends h k))) (sym same) (acts_one k e (pair.silent (view_of text (ends h k) k)) (is ∙ at_end text h k))
            | inr differ ↦ subst (λ (z : pair.Host). Goes (heard_of j) (seen j) (pair.silent z)) (other_end text h k j differ) (stops (heard_of j) (seen j) up)
          ]

      -- it ends by itself, or its link changes
      ends_or : (k : ℕ) (l : Link) (e : pair.Event) (accuses : Bool) → pair.acts (heard_of k) (seen k) e ≡ cond accuses (pair.ends (seen k)) (pair.silent (pair.linked (seen k) l))
          → (j : ℕ) → Projects back h (silent (cond accuses (ends h k) (linked h k l))) j
      ends_or k l e true is = ends_for k e is
      ends_or k l e false is = links k l e is

      ends_or_not : (k : ℕ) (e : pair.Event) (accuses : Bool) → pair.acts (heard_of k) (seen k) e ≡ cond accuses (pair.ends (seen k)) (pair.silent (seen k))
          → (j : ℕ) → Projects back h (silent (cond accuses (ends h k) h)) j
      ends_or_not k e true is = ends_for k e is
      ends_or_not k e false is = stays

packets_told : (text : BookFrame → List ℕ) (m : Option Message) → pair.packets m ≡ map (packet_of text) (packets m None)
packets_told text None = refl
packets_told text (Some m) = refl

frames_told : (text : BookFrame → List ℕ) (m : Option Message) (frame : Option BookFrame) → pair.framed (text_if_some text frame) m ≡ map (packet_of text) (packets m frame)
frames_told text None frame = refl
frames_told text (Some m) frame = refl

text_at : (text : BookFrame → List ℕ) (fs : List BookFrame) (k : ℕ) → get_or (map text fs) k [] ≡ text_if_some text (slice_get fs k)
text_at text [] k = refl
text_at text (f ∷ fs) zero = refl
text_at text (f ∷ fs) (suc k) = text_at text fs k

module _ (text : BookFrame → List ℕ) (laws : BookLaws) (n start i : ℕ) (back : ℕ → List Packet) where
  -- ---- Frames

  -- After an event at the node: the view has what it brought and sent.
  after_event : (h new : Host) (s : IsSound n start i h) (kind : BookKind) → (is : Happens h kind new) → (j : ℕ)
      → having_made (record (view_of text h j) { taken = map text (come_from j h.book) ++ map text (brought j kind) }) (map text (frames_to j is.frames)) ≡ view_of text new j
  after_event h new s kind is j =
      let clock = next_clock h.book kind in
      let book = with_event h.book clock kind is.frames in
      let next : Host = record h { book = book; links = makes_frames h.links is.frames } in
      let next_is : new ≡ next = is.new_is ∙ ap (λ (b : BookState). record h { book = b; links = makes_frames h.links is.frames }) is.adds.new_is in
      let after = happens laws n start i h new kind is s in
      let named : BookState → Type 0 = λ b. first_of h.kept h.book ≡ first_of h.kept b in
      let event = with_event h.book clock kind (frames_at clock is.adds.sends) in
      let same : new.book ≡ event = ap (λ (x : Host). x.book) next_is ∙ ap (with_event h.book clock kind) is.adds.frames_are in
      let disk : first_of h.kept h.book ≡ first_of h.kept book =
      disk_stays laws n start i h s kind is.adds.sends (subst IsWhole same after.whole) (subst HasHistory same after.history)
      ∙ ap (λ (fs : List BookFrame). first_of h.kept (with_event h.book clock kind fs)) (sym is.adds.frames_are) in
      let sent = sym (map-append text (sent_to j h.book) (frames_to j is.frames)) ∙ ap (map text) (sent_more j clock h.book kind is.frames) in
      let come = sym (map-append text (come_from j h.book) (brought j kind)) ∙ ap (map text) (come_more j clock h.book kind is.frames) in
      (λ at. record (view_of text h j) {
        link = record (h.links j) { made = (h.links j).made + length-map (frames_to j is.frames) text at };
        sent = sent at;
        taken = come at;
        sent_kept = length (sent_to j (disk at));
        taken_kept = length (come_from j (disk at));
      })
      ∙ ap (λ (x : Host). view_of text x j) (sym next_is)

  module _ (h new : Host) (s : IsSound n start i h) (up : h.up ≡ true) (kind : BookKind) (is : Happens h kind new) (j : ℕ) (other : IsOther h j) where
    -- what the event brought is taken before
    event_goes : (heard : List pair.Packet) → Goes heard (record (view_of text h j) { taken = map text (come_from j h.book) ++ map text (brought j kind) }) (pair.silent (view_of text new j))
    event_goes heard =
        let x : pair.Host = record (view_of text h j) { taken = map text (come_from j h.book) ++ map text (brought j kind) } in
        let texts = map text (frames_to j is.frames) in
        let long = length-map (frames_to j is.frames) text in
        let room = is.has_numbers j other in
        subst (λ (z : pair.Host). Goes heard x (pair.silent z)) (after_event h new s kind is j)
        (makes_all heard texts x up (is.ready j other) (omega (arith, long, room)))

    -- the event brings nothing from host j
    brings_none : brought j kind ≡ [] → Goes (map (packet_of text) (back j)) (view_of text h j) (pair.silent (view_of text new j))
    brings_none none =
        let as_it_was : map text (come_from j h.book) ++ map text (brought j kind) ≡ map text (come_from j h.book) =
        ap (λ (fs : List BookFrame). map text (come_from j h.book) ++ map text fs) none ∙ append-nil (map text (come_from j h.book)) in
        subst (λ (x : pair.Host). Goes (map (packet_of text) (back j)) x (pair.silent (view_of text new j)))
        (λ at. record (view_of text h j) { taken = as_it_was at }) (event_goes (map (packet_of text) (back j)))

  own_brings_none : (j : ℕ) (kind : BookKind) → IsOwn kind → brought j kind ≡ []
  own_brings_none j (kinds.Ask client name mode) own = refl
  own_brings_none j (kinds.Leave client name) own = refl
  own_brings_none j (kinds.Cancel client name) own = refl
  own_brings_none j (kinds.Receive frame) own = absurd own
  own_brings_none j kinds.Forget own = refl

  -- ---- What is heard

  module _ (h : Host) (s : IsSound n start i h) (up : h.up ≡ true) (t : Turn) where
    -- the turn is this one
    at : (u : Turn) → t ≡ u → ((j : ℕ) → IsOther h j → Projects text back h u j) → (j : ℕ) → IsOther h j → Projects text back h t j
    at u is goes j other = subst (λ (v : Turn). Projects text back h v j) (sym is) (goes j other)

    takes_frame : (k nonce number which : ℕ) (frame : BookFrame) → IsOther h k → is_taken h k nonce number frame ≡ true
        → pair.acts (map (packet_of text) (back k)) (view_of text h k) (events.Comes which) ≡ pair.hears (view_of text h k) (Frame nonce number) (text frame)
        → TakesFrame h k nonce number frame t.host → (j : ℕ) → IsOther h j → Projects text back h (silent t.host) j
    takes_frame k nonce number which frame from taken comes takes j other =
        let l = link.hears_frame (h.links k) nonce number in
        let before : Host = linked h k l in
        let both = and_parts (link.is_next (h.links k) nonce number) (from_of frame.message == k && to_of frame.message == h.book.me) taken in
        let sound : IsSound n start i before = record { me = s.me; nodes = s.nodes; start_is = s.start_is; whole = s.whole; history = s.history; kept = s.kept; none_lost = s.none_lost } in
        elim (cases_eq j k) [
          | inl same ↦
              subst (Projects text back h (silent t.host)) (sym same)
              (let x = view_of text h k in
              let y : pair.Host = record x { link = l; taken = x.taken ++ text frame ∷ [] } in
              let names : from_of frame.message ≡ k = eqb-true (from_of frame.message) k (and_parts (from_of frame.message == k) (to_of frame.message == h.book.me) both.1).0 in
              let hit : brought k (kinds.Receive frame) ≡ frame ∷ [] = filter_hit (λ f. from_of f.message == k) frame [] (eq-eqb (from_of frame.message) k names) in
              let y_is : record (view_of text before k) { taken = map text (come_from k h.book) ++ map text (brought k (kinds.Receive frame)) } ≡ y =
              λ p. record (sym (at_link text h k l) p) { taken = map text (come_from k h.book) ++ map text (hit p) } in
              first_then (map (packet_of text) (back k)) x y (view_of text t.host k) (events.Comes which)
              (if_up (map (packet_of text) (back k)) x up (events.Comes which) ∙ comes ∙ ap (λ b. cond b (pair.silent y) (pair.silent x)) both.0)
              (subst (λ (z : pair.Host). Goes (map (packet_of text) (back k)) z (pair.silent (view_of text t.host k))) y_is
              (event_goes before t.host sound up (kinds.Receive frame) takes k from (map (packet_of text) (back k)))))
          | inr differ ↦
              let miss : brought j (kinds.Receive frame) ≡ [] =
              filter_miss (λ f. from_of f.message == j) frame []
              (ne_eqb (from_of frame.message) j (λ e. differ (sym e ∙ eqb-true (from_of frame.message) k (and_parts (from_of frame.message == k) (to_of frame.message == h.book.me) both.1).0))) in
              subst (λ (x : pair.Host). Goes (map (packet_of text) (back j)) x (pair.silent (view_of text t.host j))) (other_link text h k l j differ)
              (brings_none before t.host sound up (kinds.Receive frame) takes j other miss)
        ]

    hears_frame : (k nonce number which : ℕ) → IsOther h k → (o : Option BookFrame)
        → pair.acts (map (packet_of text) (back k)) (view_of text h k) (events.Comes which) ≡ pair.hears (view_of text h k) (Frame nonce number) (text_if_some text o)
        → TakesIfFrame h k nonce number o t → (j : ℕ) → IsOther h j → Projects text back h t j
    hears_frame k nonce number which from None comes is = at (silent h) is (λ j other. stays text back h j)
    hears_frame k nonce number which from (Some frame) comes is = by_test (is_taken h k nonce number frame) refl is.0
      where
        by_test : (b : Bool) → is_taken h k nonce number frame ≡ b → TakesOrNot b h k nonce number frame t.host → (j : ℕ) → IsOther h j → Projects text back h t j
        by_test true taken takes = at (silent t.host) is.1 (takes_frame k nonce number which frame from taken comes takes)
        by_test false taken passes = at (silent h) (is.1 ∙ ap silent passes) (λ j other. stays text back h j)

    hears : (k which : ℕ) → IsOther h k → (m : Message) (frame : Option BookFrame)
        → pair.acts (map (packet_of text) (back k)) (view_of text h k) (events.Comes which) ≡ pair.hears (view_of text h k) m (text_if_some text frame)
        → Hears h k m frame t → (j : ℕ) → IsOther h j → Projects text back h t j
    hears k which from (Hello nonce question) frame comes is =
        let l = link.hears_hello (h.links k) nonce in
        let w = Some (link.welcome_of (h.links k) nonce question) in
        at (says (linked h k l) k w None) is
        (λ j other.
        for_one text back h k (says (linked h k l) k w None)
        (acts_one text back h up k (events.Comes which) _
        (comes
        ∙ (λ p. record { host = at_link text h k l p; says = (packets_told text w ∙ told text back h up k (packets w None)) p })))
        (λ j differ. sym (other_link text h k l j differ)) (told_none text back h up k (packets w None)) j)
    hears k which from (Welcome asker question nonce kept) frame comes is =
        at (silent (hears_welcome h k asker question nonce kept)) is
        (λ j other. ends_or text back h up k (link.hears_welcome (h.links k) asker question nonce kept) (events.Comes which) (link.welcome_accuses (h.links k) asker question kept) comes j)
    hears k which from (Frame nonce number) frame comes is = hears_frame k nonce number which from frame comes is
    hears k which from (Ack nonce to kept) frame comes is =
        at (silent (cond (link.ack_accuses (h.links k) nonce to kept) (ends h k) (linked h k (link.hears_ack (h.links k) nonce to kept)))) is
        (λ j other. ends_or text back h up k (link.hears_ack (h.links k) nonce to kept) (events.Comes which) (link.ack_accuses (h.links k) nonce to kept) comes j)
    hears k which from (Old count) frame comes is =
        at (silent (cond (link.old_accuses (h.links k) count) (ends h k) h)) is
        (λ j other. ends_or_not text back h up k (events.Comes which) (link.old_accuses (h.links k) count) comes j)

    hears_if_said : (k which : ℕ) → IsOther h k → (o : Option Packet)
        → pair.acts (map (packet_of text) (back k)) (view_of text h k) (events.Comes which) ≡ pair.hears_packet (view_of text h k) (option_map (packet_of text) o)
        → HearsIfSaid h k o t → (j : ℕ) → IsOther h j → Projects text back h t j
    hears_if_said k which from None comes is = at (silent h) is (λ j other. stays text back h j)
    hears_if_said k which from (Some p) comes is = hears k which from p.message p.frame comes is

    -- ---- Replays

    replays_for : (j : ℕ) (short : Bool) → is_short h j ≡ short
        → pair.acts (map (packet_of text) (back j)) (view_of text h j) events.Replays
        ≡ cond short (pair.ends (view_of text h j)) (cond (link.may_replay (h.links j)) (pair.silent (pair.linked (view_of text h j) (link.replays (h.links j) (length (sent_to j h.book))))) (pair.silent (view_of text h j)))
    replays_for j short is =
        let x = view_of text h j in
        let l = h.links j in
        ap (λ (k : ℕ). cond (link.replay_accuses l k) (pair.ends x) (cond (link.may_replay l) (pair.silent (pair.linked x (link.replays l k))) (pair.silent x))) (length-map (sent_to j h.book) text)
        ∙ ap (λ b. cond b (pair.ends x) (cond (link.may_replay l) (pair.silent (pair.linked x (link.replays l (length (sent_to j h.book))))) (pair.silent x))) is

    replays : ReplaysBook h t.host → t ≡ silent t.host → (j : ℕ) → IsOther h j → Projects text back h t j
    replays book is =
        elim book.new_is [
          | inl on ↦
              at (silent (replays_book h)) (is ∙ ap silent on.1)
              (λ j other.
              acts_one text back h up j events.Replays (pair.silent (view_of text (replays_book h) j))
              (replays_for j false (on.0 j other)
              ∙ ap (λ b. cond b (pair.silent (pair.linked (view_of text h j) (link.replays (h.links j) (length (sent_to j h.book))))) (pair.silent (view_of text h j))) (book.may j other)))
          | inr short ↦
              at (silent (ends h short.0)) (is ∙ ap silent short.3)
              (λ j other. ends_for text back h up short.0 events.Replays (replays_for short.0 true short.2) j)
        ]

    -- ---- All events

    crashes_for : (count : ℕ) → t ≡ silent (crashes h count) → (j : ℕ) → IsOther h j → Projects text back h t j
    crashes_for count is =
        at (silent (crashes h count)) is
        (λ j other.
        acts_one text back h up j (events.Crashes (sends text laws n start i h s j (max count h.kept)) (comes text laws n start i h s j (max count h.kept))) (pair.silent (view_of text (crashes h count) j))
        (ap pair.silent (at_crash text laws n start i h s count j)))

    acts_for : (e : Event) → Acts back h e t → (j : ℕ) → IsOther h j → Projects text back h t j
    acts_for (Start nonce) is = absurd is
    acts_for (Connects k) is = at (silent (connects h k)) is.1 (λ j other. links text back h up k (link.asks (h.links k)) events.Connects refl j)
    acts_for (Comes k which) is =
        hears_if_said k which is.0 (slice_get (back k) which) (ap (pair.hears_packet (view_of text h k)) (slice_get-map (packet_of text) (back k) which)) is.1
    acts_for Replays is = replays is.0 is.1
    acts_for (Does kind) is =
        at (silent t.host) is.2
        (λ j other. brings_none h t.host s up kind is.1 j other (own_brings_none j kind is.0))
    acts_for Syncs is =
        at (silent (syncs_book h)) is
        (λ j other. acts_one text back h up j events.Syncs (pair.silent (view_of text (syncs_book h) j)) (ap pair.silent (at_sync text laws n start i h s j)))
    acts_for (Says_hello k) is =
        at (says h k (link.hello_of (h.links k)) None) is.1
        (λ j other. tells text back h up k (link.hello_of (h.links k)) None events.Says_hello (ap (λ (ps : List pair.Packet). record { host = view_of text h k; says = ps }) (packets_told text (link.hello_of (h.links k)))) j)
    acts_for (Says_ack k) is =
        at (says h k (link.ack_of (h.links k)) None) is.1
        (λ j other. tells text back h up k (link.ack_of (h.links k)) None events.Says_ack (ap (λ (ps : List pair.Packet). record { host = view_of text h k; says = ps }) (packets_told text (link.ack_of (h.links k)))) j)
    acts_for (Says_old k) is =
        at (says h k (link.old_of (h.links k)) None) is.1
        (λ j other. tells text back h up k (link.old_of (h.links k)) None events.Says_old (ap (λ (ps : List pair.Packet). record { host = view_of text h k; says = ps }) (packets_told text (link.old_of (h.links k)))) j)
    acts_for (Says_frame k number) is =
        let frame = slice_get (sent_to k h.book) (number - 1) in
        let m = link.frame_of (h.links k) number in
        at (says h k m frame) is.1
        (λ j other.
        tells text back h up k m frame (events.Says_frame number)
        (ap (λ (ps : List pair.Packet). record { host = view_of text h k; says = ps })
        (ap (λ (f : List ℕ). pair.framed f m) (text_at text (sent_to k h.book) (number - 1)) ∙ frames_told text m frame)) j)
    acts_for (Crashes count) is = crashes_for count is
    acts_for (Put_back count) is = absurd is

  module _ (h : Host) (s : IsSound n start i h) (down : h.up ≡ false) (t : Turn) where
    rests_one : (j : ℕ) (e : pair.Event) (u : pair.Turn) → pair.rests (view_of text h j) e ≡ u → Goes (map (packet_of text) (back j)) (view_of text h j) u
    rests_one j e u is = one (map (packet_of text) (back j)) (view_of text h j) e u (if_down (map (packet_of text) (back j)) (view_of text h j) down e ∙ is)

    rests_for : (e : Event) → is_put_back e ≡ false → Rests h e t → (j : ℕ) → IsOther h j → Projects text back h t j
    rests_for (Start nonce) whole is j other =
        subst (λ (v : Turn). Projects text back h v j) (sym is.1)
        (rests_one j (events.Start nonce) (pair.silent (view_of text (begins h nonce) j))
        (ap (λ b. pair.silent (cond b (view_of text h j) (pair.begins (view_of text h j) nonce))) is.0 ∙ ap pair.silent (at_begin text laws n start i h s nonce j)))
    rests_for (Connects k) whole is j other = absurd is
    rests_for (Comes k which) whole is j other = absurd is
    rests_for Replays whole is j other = absurd is
    rests_for (Does kind) whole is j other = absurd is
    rests_for Syncs whole is j other = absurd is
    rests_for (Says_hello k) whole is j other = absurd is
    rests_for (Says_ack k) whole is j other = absurd is
    rests_for (Says_old k) whole is j other = absurd is
    rests_for (Says_frame k number) whole is j other = absurd is
    rests_for (Crashes count) whole is j other =
        subst (λ (v : Turn). Projects text back h v j) (sym is)
        (rests_one j (events.Crashes (sends text laws n start i h s j (max count h.kept)) (comes text laws n start i h s j (max count h.kept))) (pair.silent (view_of text (crashes h count) j))
        (ap pair.silent (at_crash text laws n start i h s count j)))
    rests_for (Put_back count) whole is j other = absurd (true≢false whole)

  pub turn_projects : (h : Host) (s : IsSound n start i h) (t : Turn) (e : Event) → is_put_back e ≡ false → Turns back h e t → (j : ℕ) → IsOther h j → Projects text back h t j
  turn_projects h s t e whole is = by_test h.up refl is
    where
      by_test : (b : Bool) → h.up ≡ b → TurnsIf b back h e t → (j : ℕ) → IsOther h j → Projects text back h t j
      by_test true up is = acts_for h s up t e is
      by_test false down is = rests_for h s down t e whole is
