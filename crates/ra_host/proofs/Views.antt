-- How a host is seen by another one: what changes of the view if its link, its book or its disk changes.
use Rattle.std.proofs.Common.{◌≡◌, ◌≢◌, inl, inr, ℕ, ◌<◌, ◌≤◌, ◌==◌, Bool, true, false, ◌||◌, cond, List, [], ◌∷◌, ◌++◌, map, length, take, max, min, refl, sym, ap, ◌∙◌, arith}
use Rattle.std.specs.Prelude.{nat_le}
use Rattle.std.specs.List.{filter}
use Rattle.std.proofs.lemmas.Bool.{cases_lt, eq-eqb, lt-leb, ne_eqb}
use Rattle.std.proofs.lemmas.List.{append-nil, length-append, length-map, map-append, take-map, take_all, take_at}
use Rattle.std.proofs.lemmas.List.Concat.{flat_map-append}
use Rattle.std.proofs.lemmas.List.Elements.{All-map, filter-append}
use Rattle.ra_stamp.specs.declared.message.Message.{Message as NodeMessage}
use Rattle.ra_stamp.specs.Message.{from_of, to_of}
use Rattle.ra_frame.specs.declared.frame.Frame.{Frame}
use Rattle.ra_world.proofs.Lists.{filter_none}
use Rattle.ra_link.specs.declared.link.Link.{Link}
use Rattle.ra_link.specs.Link as link
use Rattle.ra_link.specs.Pair as pair
use Rattle.ra_link.specs.PutBack as put_back
use Rattle.ra_book.specs.declared.book.event.BookEvent.{BookEvent}
use Rattle.ra_book.specs.declared.book.event.BookKind.{BookKind}
use Rattle.ra_book.specs.declared.book.event.BookKind.TheVariants as kinds
use Rattle.ra_book.specs.declared.book.sent.Sent.{Sent}
use Rattle.ra_book.specs.History.{clock_after, clock_of, frames_at}
use Rattle.ra_book.specs.Book.{BookState, TakenState, IsWhole, HasHistory, with_event, next_clock, as_sent}
use Rattle.ra_book.specs.Cut.{first_of}
use Rattle.ra_book.specs.Pairs.{AreFirstOf, sent_to, come_from}
use Rattle.ra_book.specs.Settled.{frames_in, received_among}
use Rattle.ra_host.specs.Host.{Host, begins, ends, crashes, puts_back, linked, frames_to, syncs_book}
use Rattle.ra_host.specs.Projection.{view_of}
use Rattle.ra_host.proofs.Sound.{BookLaws, IsSound}

-- ---- Books

-- an event has a greater clock than the one before it
clock_rises : (clock : ℕ) (kind : BookKind) → clock < clock_after clock kind
clock_rises clock (kinds.Ask client name mode) = omega arith
clock_rises clock (kinds.Leave client name) = omega arith
clock_rises clock (kinds.Cancel client name) = omega arith
clock_rises clock (kinds.Receive frame) = omega arith
clock_rises clock kinds.Forget = omega arith

frames_as_sent : (frames : List Frame) → map (λ (s : Sent). s.frame) (as_sent frames) ≡ frames
frames_as_sent [] = refl
frames_as_sent (f ∷ fs) = ap (λ (xs : List Frame). f ∷ xs) (frames_as_sent fs)

-- what one more event sends comes after what was sent
pub sent_more : (j clock : ℕ) (book : BookState) (kind : BookKind) (frames : List Frame) → sent_to j book ++ frames_to j frames ≡ sent_to j (with_event book clock kind frames)
sent_more j clock book kind frames =
    let is_to : Frame → Bool = λ f. to_of f.message == j in
    let frame : Sent → Frame = λ s. s.frame in
    ap (λ (fs : List Frame). filter is_to (map frame book.sent) ++ filter is_to fs) (sym (frames_as_sent frames))
    ∙ sym (filter-append is_to (map frame book.sent) (map frame (as_sent frames)))
    ∙ ap (filter is_to) (sym (map-append frame book.sent (as_sent frames)))

-- the frame that an event of this kind brings from node j, if it brings one
abbrev pub brought : ℕ → BookKind → List Frame
brought j kind = filter (λ f. from_of f.message == j) (frames_in kind)

pub come_more : (j clock : ℕ) (book : BookState) (kind : BookKind) (frames : List Frame) → come_from j book ++ brought j kind ≡ come_from j (with_event book clock kind frames)
come_more j clock book kind frames =
    let is_from : Frame → Bool = λ f. from_of f.message == j in
    let e : BookEvent = record { clock = clock; kind = kind } in
    ap (λ (fs : List Frame). filter is_from (received_among book.events) ++ filter is_from fs) (sym (append-nil (frames_in kind)))
    ∙ sym (filter-append is_from (received_among book.events) (received_among (e ∷ [])))
    ∙ ap (filter is_from) (sym (flat_map-append (λ (x : BookEvent). frames_in x.kind) book.events (e ∷ [])))

-- the first part is no longer than the list
pub first_is_short : (first all : List Frame) → AreFirstOf first all → length first ≤ length all
first_is_short first all (more, is) = let whole = ap length is in let parts = length-append first more in omega (arith, whole, parts)

module _ (laws : BookLaws) (n start i : ℕ) where
  -- the first events of a book stay as they are when it has one more
  pub disk_stays : (h : Host) → IsSound n start i h → (kind : BookKind) (sends : List NodeMessage)
      → IsWhole (with_event h.book (next_clock h.book kind) kind (frames_at (next_clock h.book kind) sends))
      → HasHistory (with_event h.book (next_clock h.book kind) kind (frames_at (next_clock h.book kind) sends))
      → first_of h.kept h.book ≡ first_of h.kept (with_event h.book (next_clock h.book kind) kind (frames_at (next_clock h.book kind) sends))
  disk_stays h s kind sends whole history =
      let book = h.book in
      let clock = next_clock book kind in
      let frames = frames_at clock sends in
      let e : BookEvent = record { clock = clock; kind = kind } in
      let new = with_event book clock kind frames in
      let events : take (length book.events) (book.events ++ e ∷ []) ≡ book.events = take_at book.events (e ∷ []) (length book.events) refl in
      let early : ℕ → Sent → Bool = λ c x. nat_le x.frame.clock c in
      let old : filter (early (clock_of book.events)) book.sent ≡ book.sent =
      ap (λ (es : List BookEvent). filter (early (clock_of es)) book.sent) (sym (take_all (length book.events) book.events (omega arith)))
      ∙ ap (λ (b : BookState). b.sent) (laws.all (length book.events) book s.whole s.history (omega arith)) in
      let now : clock ≡ clock_after (clock_of book.events) kind = ap (λ (t : TakenState). clock_after (clock_of (t.events ++ book.events)) kind) s.whole in
      let rises = clock_rises (clock_of book.events) kind in
      let late : filter (early (clock_of book.events)) (as_sent frames) ≡ [] =
      filter_none (early (clock_of book.events)) (as_sent frames)
      (All-map (λ (x : Sent). early (clock_of book.events) x ≡ false) (λ (f : Frame). record { frame = f; lost = false }) frames
      (All-map (λ (f : Frame). early (clock_of book.events) (record { frame = f; lost = false }) ≡ false) (λ (m : NodeMessage). record { clock = clock; message = m }) sends
      (λ k d low. lt-leb clock (clock_of book.events) (omega (arith, now, rises))))) in
      let sent : filter (early (clock_of (take (length book.events) (book.events ++ e ∷ [])))) (book.sent ++ as_sent frames) ≡ book.sent =
      ap (λ (es : List BookEvent). filter (early (clock_of es)) (book.sent ++ as_sent frames)) events
      ∙ filter-append (early (clock_of book.events)) book.sent (as_sent frames)
      ∙ (λ at. old at ++ late at)
      ∙ append-nil book.sent in
      let back : first_of (length book.events) new ≡ book = λ at. record book { events = events at; sent = sent at } in
      ap (first_of h.kept) (sym back) ∙ laws.again h.kept (length book.events) new whole history s.kept

  module _ (h : Host) (s : IsSound n start i h) where
    -- of more events no fewer frames were sent, and none fewer came
    pub sent_rises : (j few many : ℕ) → few ≤ many → length (sent_to j (first_of few h.book)) ≤ length (sent_to j (first_of many h.book))
    sent_rises j few many le =
        let book = h.book in
        let short = first_is_short (sent_to j (first_of few (first_of many book))) (sent_to j (first_of many book)) (laws.sent few j (first_of many book) (laws.whole many book s.whole) (laws.history many book s.whole s.history)) in
        let again = ap (λ (b : BookState). length (sent_to j b)) (laws.again few many book s.whole s.history le) in
        omega (arith, short, again)

    pub come_rises : (j few many : ℕ) → few ≤ many → length (come_from j (first_of few h.book)) ≤ length (come_from j (first_of many h.book))
    come_rises j few many le =
        let book = h.book in
        let short = first_is_short (come_from j (first_of few (first_of many book))) (come_from j (first_of many book)) (laws.come few j (first_of many book)) in
        let again = ap (λ (b : BookState). length (come_from j b)) (laws.again few many book s.whole s.history le) in
        omega (arith, short, again)

-- ---- Views

module _ (text : Frame → List ℕ) where
  pub at_link : (h : Host) (j : ℕ) (l : Link) → pair.linked (view_of text h j) l ≡ view_of text (linked h j l) j
  at_link h j l = ap (λ b. pair.linked (view_of text h j) (cond b l (h.links j))) (sym (eq-eqb j j refl))

  pub other_link : (h : Host) (k : ℕ) (l : Link) (j : ℕ) → j ≢ k → view_of text (linked h k l) j ≡ view_of text h j
  other_link h k l j differ = ap (λ b. pair.linked (view_of text h j) (cond b l (h.links j))) (ne_eqb j k differ)

  pub at_end : (h : Host) (j : ℕ) → pair.ends (view_of text h j) ≡ pair.silent (view_of text (ends h j) j)
  at_end h j = ap (λ b. pair.silent (record (view_of text h j) { up = false; accused = b || h.accused j })) (sym (eq-eqb j j refl))

  pub other_end : (h : Host) (k j : ℕ) → j ≢ k → record (view_of text h j) { up = false } ≡ view_of text (ends h k) j
  other_end h k j differ = ap (λ b. record (view_of text h j) { up = false; accused = b || h.accused j }) (sym (ne_eqb j k differ))

  -- what is left of the frames in a crash
  front : (first all : List Frame) (kept : ℕ) → AreFirstOf first all → kept ≤ length first → take (max (length first) kept) (map text all) ≡ map text first
  front first all kept (more, is) low =
      let most : max (length first) kept ≡ length first = omega (arith, low) in
      ap (λ k. take k (map text all)) most ∙ take-map text (length first) all
      ∙ ap (λ (fs : List Frame). map text (take (length first) fs)) is ∙ ap (map text) (take_at first more (length first) refl)

  module _ (laws : BookLaws) (n start i : ℕ) (h : Host) (s : IsSound n start i h) where
    -- all is on the disk
    all_sent : (j : ℕ) → length (map text (sent_to j h.book)) ≡ length (sent_to j (first_of (length h.book.events) h.book))
    all_sent j = length-map (sent_to j h.book) text ∙ ap (λ (b : BookState). length (sent_to j b)) (sym (laws.all (length h.book.events) h.book s.whole s.history (omega arith)))

    all_come : (j : ℕ) → length (map text (come_from j h.book)) ≡ length (come_from j (first_of (length h.book.events) h.book))
    all_come j = length-map (come_from j h.book) text ∙ ap (λ (b : BookState). length (come_from j b)) (sym (laws.all (length h.book.events) h.book s.whole s.history (omega arith)))

    pub at_begin : (nonce j : ℕ) → pair.begins (view_of text h j) nonce ≡ view_of text (begins h nonce) j
    at_begin nonce j = λ at. record (view_of text h j) {
      up = true;
      accused = false;
      link = link.started nonce (length-map (come_from j h.book) text at);
      sent_kept = all_sent j at;
      taken_kept = all_come j at;
      starts = nonce ∷ h.starts;
    }

    pub at_sync : (j : ℕ) → pair.syncs_book (view_of text h j) ≡ view_of text (syncs_book h) j
    at_sync j = λ at. record (view_of text h j) { link = link.syncs (h.links j); sent_kept = all_sent j at; taken_kept = all_come j at }

    -- the frames to host j, and those from it, among the first events
    abbrev pub sends : ℕ → ℕ → ℕ
    sends j count = length (sent_to j (first_of count h.book))

    abbrev pub comes : ℕ → ℕ → ℕ
    comes j count = length (come_from j (first_of count h.book))

    pub at_crash : (count j : ℕ) → pair.crashes (view_of text h j) (sends j (max count h.kept)) (comes j (max count h.kept)) ≡ view_of text (crashes h count) j
    at_crash count j =
        let c = max count h.kept in
        let disk : first_of h.kept h.book ≡ first_of h.kept (first_of c h.book) = sym (laws.again h.kept c h.book s.whole s.history (omega arith)) in
        let sent = front (sent_to j (first_of c h.book)) (sent_to j h.book) (sends j h.kept) (laws.sent c j h.book s.whole s.history) (sent_rises laws n start i h s j h.kept c (omega arith)) in
        let come = front (come_from j (first_of c h.book)) (come_from j h.book) (comes j h.kept) (laws.come c j h.book) (come_rises laws n start i h s j h.kept c (omega arith)) in
        λ at. record (view_of text h j) {
          up = false;
          sent = sent at;
          taken = come at;
          sent_kept = length (sent_to j (disk at));
          taken_kept = length (come_from j (disk at));
        }

    -- the first of two counts of events has the fewer frames
    fewer : (f : ℕ → ℕ) → ((few many : ℕ) → few ≤ many → f few ≤ f many) → (a b : ℕ) → min (f a) (f b) ≡ f (min a b)
    fewer f rises a b =
        elim (cases_lt a b) [
          | inl below ↦
              let least : min a b ≡ a = omega (arith, below) in
              let fewest : min (f a) (f b) ≡ f a = omega (arith, rises a b (omega (arith, below))) in
              fewest ∙ ap f (sym least)
          | inr above ↦
              let least : min a b ≡ b = omega (arith, above) in
              let fewest : min (f a) (f b) ≡ f b = omega (arith, rises b a above) in
              fewest ∙ ap f (sym least)
        ]

    pub at_put_back : (count j : ℕ) → h.up ≡ false → put_back.puts_back (view_of text h j) (sends j count) (comes j count) ≡ view_of text (puts_back h count) j
    at_put_back count j down =
        let x = view_of text h j in
        let least = min count h.kept in
        let disk : first_of least h.book ≡ first_of least (first_of count h.book) = sym (laws.again least count h.book s.whole s.history (omega arith)) in
        let sent : take (sends j count) (map text (sent_to j h.book)) ≡ map text (sent_to j (first_of count h.book)) =
        let all : max (sends j count) 0 ≡ sends j count = omega arith in
        ap (λ k. take k (map text (sent_to j h.book))) (sym all) ∙ front (sent_to j (first_of count h.book)) (sent_to j h.book) 0 (laws.sent count j h.book s.whole s.history) (omega arith) in
        let come : take (comes j count) (map text (come_from j h.book)) ≡ map text (come_from j (first_of count h.book)) =
        let all : max (comes j count) 0 ≡ comes j count = omega arith in
        ap (λ k. take k (map text (come_from j h.book))) (sym all) ∙ front (come_from j (first_of count h.book)) (come_from j h.book) 0 (laws.come count j h.book) (omega arith) in
        let sent_kept = fewer (sends j) (sent_rises laws n start i h s j) count h.kept ∙ ap (λ (b : BookState). length (sent_to j b)) disk in
        let come_kept = fewer (comes j) (come_rises laws n start i h s j) count h.kept ∙ ap (λ (b : BookState). length (come_from j b)) disk in
        ap (λ b. cond b x (record x {
          sent = take (sends j count) x.sent;
          taken = take (comes j count) x.taken;
          sent_kept = min (sends j count) x.sent_kept;
          taken_kept = min (comes j count) x.taken_kept;
        })) down
        ∙ (λ at. record x { sent = sent at; taken = come at; sent_kept = sent_kept at; taken_kept = come_kept at })
