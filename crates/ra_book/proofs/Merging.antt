-- All events in one list, after this many of each book are taken.
use Rattle.std.proofs.Common.{◌≡◌, ◌≢◌, ◌⊎◌, ℕ, zero, suc, ◌+◌, ◌-◌, ◌<◌, ◌≤◌, Bool, true, false, cond, eqb, List, [], ◌∷◌, ◌++◌, map, length, get_or, set, take, replicate, Some, None, slice_index, refl, sym, ap, ◌∙◌, subst, inl, inr, arith, add-one}
use Rattle.std.specs.Prelude.{All, AllPairs, slice_get}
use Rattle.std.specs.List.{filter}
use Rattle.std.proofs.lemmas.Bool.{eq-eqb, ne_eqb, cases_eq, cases_lt}
use Rattle.std.proofs.lemmas.List.{map-append, append-nil, take_more, take_all, get_or-set_same, get_or-set_other, length-set, get_or-replicate, length-replicate, get_or-map}
use Rattle.std.proofs.lemmas.List.Elements.{All-push, All-nil, All-weaker, filter-append}
use Rattle.std.proofs.lemmas.List.Quantifiers.{all_pairs_push}
use Rattle.std.proofs.lemmas.List.FromFn.{get_or-range_with_len}
use Rattle.std.proofs.lemmas.Option.{slice_get_within, get_or_from_slice_get, slice_get-get_or, slice_get_read, same_Some, none-some}
use Rattle.ra_world.specs.declared.step.Step.{Step}
use Rattle.ra_book.specs.declared.book.event.BookEvent.{BookEvent}
use Rattle.ra_book.specs.declared.settle_books.event_merge.PlacedEvent.{PlacedEvent}
use Rattle.ra_book.specs.declared.settle_books.event_merge.Turn.{Turn}
use Rattle.ra_book.specs.Book.{BookState, IsWhole, HasHistory}
use Rattle.ra_book.specs.Settled.{IsCluster, IsSettledOrder, Placed, IsBefore, events_of, steps_of, step_at}
use Rattle.ra_book.specs.EventMerge.{IsNextOfBook, IsNotAfter, IsEarliest, with_one_more, placed_at, all_placed_at}
use Rattle.ra_book.proofs.Taking.{clocks_rise}
use Rattle.ra_book.proofs.Whole.{HasWholeHistory, whole_history}

abbrev pub at_place : ℕ → BookEvent → Placed
at_place k event = record { node = k + 1; event = event }

-- the list has the first events of each book, as many as `taken` says, and all of them come before each that it has not
pub record Merges (books : List BookState) (taken : List ℕ) (placed : List Placed) : Type 0 where
  pub long : length taken ≡ length books
  pub each : (k : ℕ) (b : BookState) → slice_get books k ≡ Some b → events_of (k + 1) placed ≡ take (slice_index taken k) b.events
  pub no_others : All (λ p. (1 ≤ p.node) × (p.node ≤ length books)) placed
  pub sorted : AllPairs IsBefore placed
  pub ahead : (k : ℕ) (e : BookEvent) → IsNextOfBook books taken k e → All (λ p. IsBefore p (at_place k e)) placed

pub nothing_merged : (books : List BookState) (taken : List ℕ) → taken ≡ replicate (length books) 0 → Merges books taken []
nothing_merged books taken none =
    record {
      long = ap length none ∙ length-replicate (length books) 0;
      each = λ k b at. ap (λ (n : ℕ). take n b.events) (sym (ap (λ (ts : List ℕ). slice_index ts k) none ∙ get_or-replicate (length books) k 0 0 (slice_get_within books k b at)));
      no_others = All-nil _;
      sorted = λ i j d low within. absurd (omega (arith, within));
      ahead = λ k e is. All-nil _;
    }

-- ---- One more event

earlier_still : (p : Placed) (k : ℕ) (a b : BookEvent) → a.clock < b.clock → IsBefore p (at_place k a) → IsBefore p (at_place k b)
earlier_still p k a b rises (inl less) = inl (omega (arith, less))
earlier_still p k a b rises (inr same) = inl (omega (arith, same.0))

events_of_more : (i : ℕ) (placed : List Placed) (p : Placed) → events_of i (placed ++ p ∷ []) ≡ events_of i placed ++ events_of i (p ∷ [])
events_of_more i placed p =
    ap (λ (ps : List Placed). map (λ p. p.event) ps) (filter-append (λ p. eqb p.node i) placed (p ∷ []))
    ∙ map-append (λ p. p.event) (filter (λ p. eqb p.node i) placed) (filter (λ p. eqb p.node i) (p ∷ []))

one_event_of : (i : ℕ) (p : Placed) (b : Bool) → eqb p.node i ≡ b → events_of i (p ∷ []) ≡ cond b (p.event ∷ []) []
one_event_of i p true e = ap (λ b. map (λ (p : Placed). p.event) (cond b (p ∷ []) [])) e
one_event_of i p false e = ap (λ b. map (λ (p : Placed). p.event) (cond b (p ∷ []) [])) e

module _ (books : List BookState) (taken : List ℕ) (placed : List Placed) (turn : Turn) (book : BookState) (history : HasWholeHistory book)
    (at : slice_get books turn.place ≡ Some book) (here : slice_get book.events (slice_index taken turn.place) ≡ Some turn.event)
    (least : (place : ℕ) (e : BookEvent) → place < length books → IsNextOfBook books taken place e → IsNotAfter turn place e)
    (before : Merges books taken placed) where
  abbrev k : ℕ
  k = turn.place

  abbrev n : ℕ
  n = slice_index taken k

  abbrev new : List ℕ
  new = set taken k (n + 1)

  abbrev this : Placed
  this = at_place k turn.event

  within : k < length taken
  within = omega (arith, slice_get_within books k book at, before.long)

  now_taken : slice_index new k ≡ n + 1
  now_taken = get_or-set_same taken k (n + 1) 0 within

  same_taken : (j : ℕ) → j ≢ k → slice_index new j ≡ slice_index taken j
  same_taken j apart = get_or-set_other taken k j (n + 1) 0 apart

  is_this : IsNextOfBook books taken k turn.event
  is_this = (book, at, here)

  -- what comes next at a place afterwards: it came next before, or it is the event after this one
  next_then : (j : ℕ) (e : BookEvent) → j ≢ k → IsNextOfBook books new j e → IsNextOfBook books taken j e
  next_then j e apart is = (is.0, is.1, subst (λ (m : ℕ). slice_get is.0.events m ≡ Some e) (same_taken j apart) is.2)

  rises : (e : BookEvent) → IsNextOfBook books new k e → turn.event.clock < e.clock
  rises e is =
      let same : is.0 ≡ book = same_Some is.0 book (sym is.1 ∙ at) in
      let after : slice_get book.events (suc n) ≡ Some e =
      subst (λ (m : ℕ). slice_get book.events m ≡ Some e) (now_taken ∙ add-one n) (ap (λ (b : BookState). slice_get b.events (slice_index new k)) (sym same) ∙ is.2)
      in
      clocks_rise 0 book.events n turn.event e history.leads.clocked here after

  before_next : (j : ℕ) (e : BookEvent) → IsNextOfBook books new j e → IsBefore this (at_place j e)
  before_next j e is =
      elim (cases_eq j k) [
        | inl same ↦ inl (rises e (subst (λ (m : ℕ). IsNextOfBook books new m e) same is))
        | inr apart ↦ past j e apart (least j e (slice_get_within books j is.0 is.1) (next_then j e apart is))
      ]
    where
      past : (j : ℕ) (e : BookEvent) → j ≢ k → IsNotAfter turn j e → IsBefore this (at_place j e)
      past j e apart (inl less) = inl less
      past j e apart (inr same) = inr (same.0, omega (arith, same.1, apart))

  ahead_then : (j : ℕ) (e : BookEvent) → IsNextOfBook books new j e → All (λ p. IsBefore p (at_place j e)) placed
  ahead_then j e is =
      elim (cases_eq j k) [
        | inl same ↦
            let is' = subst (λ (m : ℕ). IsNextOfBook books new m e) same is in
            subst (λ (m : ℕ). All (λ p. IsBefore p (at_place m e)) placed) (sym same)
            (All-weaker (λ p. IsBefore p this) (λ p. IsBefore p (at_place k e)) (λ p. earlier_still p k turn.event e (rises e is')) placed (before.ahead k turn.event is_this))
        | inr apart ↦ before.ahead j e (next_then j e apart is)
      ]

  each_then : (j : ℕ) (b : BookState) → slice_get books j ≡ Some b → events_of (j + 1) (placed ++ this ∷ []) ≡ take (slice_index new j) b.events
  each_then j b found =
      elim (cases_eq j k) [
        | inl same ↦
            let is : b ≡ book = same_Some b book (sym found ∙ ap (slice_get books) same ∙ at) in
            let low = slice_get_within book.events n turn.event here in
            let more : take (n + 1) book.events ≡ take n book.events ++ turn.event ∷ [] =
            take_more book.events n turn.event low ∙ ap (λ (e : BookEvent). take n book.events ++ e ∷ []) (get_or_from_slice_get book.events n turn.event turn.event here)
            in
            events_of_more (j + 1) placed this
            ∙ (λ i. events_of (same i + 1) placed ++ one_event_of (j + 1) this true (eq-eqb (k + 1) (j + 1) (omega (arith, same))) i)
            ∙ ap (λ (es : List BookEvent). es ++ turn.event ∷ []) (before.each k book at)
            ∙ sym more
            ∙ (λ i. take (sym (ap (slice_index new) same ∙ now_taken) i) (sym is i).events)
        | inr apart ↦
            events_of_more (j + 1) placed this
            ∙ ap (λ (es : List BookEvent). events_of (j + 1) placed ++ es) (one_event_of (j + 1) this false (ne_eqb (k + 1) (j + 1) (λ e. apart (omega (arith, e)))))
            ∙ append-nil (events_of (j + 1) placed)
            ∙ before.each j b found
            ∙ ap (λ (m : ℕ). take m b.events) (sym (same_taken j apart))
      ]

  pub merges_more : Merges books new (placed ++ this ∷ [])
  merges_more =
      record {
        long = length-set taken k (n + 1) ∙ before.long;
        each = each_then;
        no_others = All-push (λ p. (1 ≤ p.node) × (p.node ≤ length books)) placed this before.no_others (omega arith, omega (arith, slice_get_within books k book at));
        sorted = all_pairs_push IsBefore placed this before.sorted (λ i d low. before.ahead k turn.event is_this i d low);
        ahead = λ j e is. All-push (λ p. IsBefore p (at_place j e)) placed this (ahead_then j e is) (before_next j e is);
      }

-- ---- All events

-- the book at a place belongs to the node with the next number
pub number_at : (books : List BookState) → IsCluster books → (k : ℕ) (d : BookState) → k < length books → (get_or books k d).me ≡ k + 1
number_at books cluster k d within =
    sym (get_or-map (λ (b : BookState). b.me) books k d 0 within)
    ∙ ap (λ (ns : List ℕ). get_or ns k 0) cluster.numbers
    ∙ get_or-range_with_len 1 (length books) k 0 within
    ∙ omega arith

pub all_merged : (books : List BookState) (taken : List ℕ) (placed : List Placed) → IsCluster books → Merges books taken placed → IsEarliest books taken (length books) None → IsSettledOrder books placed
all_merged books taken placed cluster merged none =
    record {
      each = λ k d within.
          let b = get_or books k d in
          let at = slice_get-get_or books k d within in
          ap (λ (i : ℕ). events_of i placed) (number_at books cluster k d within)
          ∙ merged.each k b at
          ∙ take_all (slice_index taken k) b.events (all_taken k b within at (cases_lt (slice_index taken k) (length b.events)));
      no_others = merged.no_others;
      sorted = merged.sorted;
    }
  where
    all_taken : (k : ℕ) (b : BookState) → k < length books → slice_get books k ≡ Some b → (slice_index taken k < length b.events) ⊎ (length b.events ≤ slice_index taken k) → length b.events ≤ slice_index taken k
    all_taken k b within at (inl less) = absurd (some_left b.events (slice_index taken k) less (λ e is. none k e within (b, at, is)))
      where
        some_left : (events : List BookEvent) (m : ℕ) → m < length events → ((e : BookEvent) → slice_get events m ≡ Some e → ⊥) → ⊥
        some_left [] m low none_at = omega (arith, low)
        some_left (e ∷ events) m low none_at = none_at (get_or (e ∷ events) m e) (slice_get-get_or (e ∷ events) m e low)
    all_taken k b within at (inr all) = all

-- ---- How many events are left

abbrev pub left : List BookState → List ℕ → ℕ
left [] taken = 0
left (b ∷ books) [] = 0
left (b ∷ books) (n ∷ taken) = (length b.events - n) + left books taken

pub one_less : (books : List BookState) (taken : List ℕ) (k : ℕ) (e : BookEvent) → k < length taken → IsNextOfBook books taken k e → left books (set taken k (slice_index taken k + 1)) < left books taken
one_less [] taken k e low is = absurd (none-some is.0 is.1)
one_less (b ∷ books) [] k e low is = absurd (omega (arith, low))
one_less (b ∷ books) (n ∷ taken) zero e low is =
    let same : b ≡ is.0 = same_Some b is.0 is.1 in
    let within = slice_get_within b.events n e (ap (λ (x : BookState). slice_get x.events n) same ∙ is.2) in
    omega (arith, within)
one_less (b ∷ books) (n ∷ taken) (suc k) e low is =
    let rest = one_less books taken k e (omega (arith, low)) is in
    omega (arith, rest)

-- ---- One turn of the loop

-- the earliest event is taken, and comes after the others; fewer events are left then
pub event_taken : (books : List BookState) (taken taken' : List ℕ) (placed : List Placed) (turn : Turn) (book : BookState) (node : ℕ)
    → IsCluster books → Merges books taken placed → IsEarliest books taken (length books) (Some turn) → taken' ≡ with_one_more taken turn.place
    → book ≡ get_or books turn.place book → HasHistory book → node ≡ book.me
    → Merges books taken' (placed ++ record { node = node; event = turn.event } ∷ []) × (left books taken' < left books taken)
event_taken books taken taken' placed turn book node cluster before earliest then is history node_is =
    let place = turn.place in
    let within : place < length taken = omega (arith, earliest.0, before.long) in
    let at : slice_get books place ≡ Some book = slice_get_read books (length books) place book refl earliest.0 is in
    let one : earliest.1.0 ≡ book = same_Some earliest.1.0 book (sym earliest.1.1 ∙ at) in
    let here : slice_get book.events (slice_index taken place) ≡ Some turn.event = ap (λ (b : BookState). slice_get b.events (slice_index taken place)) (sym one) ∙ earliest.1.2 in
    let number : node ≡ place + 1 = node_is ∙ ap (λ (b : BookState). b.me) is ∙ number_at books cluster place book earliest.0 in
    let whole : IsWhole book = subst IsWhole (sym is) (cluster.whole place book earliest.0) in
    let merged = merges_more books taken placed turn book (whole_history book whole history) at here earliest.2 before in (
      subst (λ (ts : List ℕ). Merges books ts (placed ++ record { node = node; event = turn.event } ∷ [])) (sym then)
          (subst (λ (n : ℕ). Merges books (with_one_more taken place) (placed ++ record { node = n; event = turn.event } ∷ [])) (sym number) merged),
      subst (λ (ts : List ℕ). left books ts < left books taken) (sym then) (one_less books taken place turn.event within earliest.1),
    )

-- the same, of the steps that the events are
pub turn_taken : (books : List BookState) (taken taken' : List ℕ) (placed : List Placed) (turn : Turn) (book : BookState) (node : ℕ) (step : Step) (steps steps' : List Step)
    → IsCluster books → Merges books taken placed → IsEarliest books taken (length books) (Some turn) → taken' ≡ with_one_more taken turn.place
    → book ≡ get_or books turn.place book → HasHistory book → node ≡ book.me → step ≡ step_at node turn.event.kind → steps ≡ steps_of placed → steps' ≡ steps ++ step ∷ []
    → ((more : List Placed) × (steps' ≡ steps_of more) × Merges books taken' more) × (left books taken' < left books taken)
turn_taken books taken taken' placed turn book node step steps steps' cluster before earliest then is history node_is step_is steps_are more =
    let this : Placed = record { node = node; event = turn.event } in
    let one = event_taken books taken taken' placed turn book node cluster before earliest then is history node_is in
    ((placed ++ this ∷ [], more ∙ (λ i. steps_are i ++ step_is i ∷ []) ∙ sym (map-append (λ (p : Placed). step_at p.node p.event.kind) placed (this ∷ [])), one.0), one.1)

-- the same, of a list of the events with their nodes
pub placed_more : (books : List BookState) (taken taken' : List ℕ) (placed : List Placed) (turn : Turn) (book : BookState) (node : ℕ) (events events' : List PlacedEvent)
    → IsCluster books → Merges books taken placed → IsEarliest books taken (length books) (Some turn) → taken' ≡ with_one_more taken turn.place
    → book ≡ get_or books turn.place book → HasHistory book → node ≡ book.me → all_placed_at events ≡ placed → events' ≡ events ++ record { node = node; event = turn.event } ∷ []
    → ((more : List Placed) × (all_placed_at events' ≡ more) × Merges books taken' more) × (left books taken' < left books taken)
placed_more books taken taken' placed turn book node events events' cluster before earliest then is history node_is events_are more =
    let this : Placed = record { node = node; event = turn.event } in
    let one = event_taken books taken taken' placed turn book node cluster before earliest then is history node_is in
    let last : PlacedEvent = record { node = node; event = turn.event } in
    ((placed ++ this ∷ [], ap all_placed_at more ∙ map-append placed_at events (last ∷ []) ∙ ap (λ (ps : List Placed). ps ++ this ∷ []) events_are, one.0), one.1)
