-- In a quiet settled run of books whose clients take names in order, each name that is waited for is held, in order, and
-- some client that holds a name waits for nothing.
use Rattle.std.proofs.Common.{◌≡◌, ℕ, ◌+◌, ◌-◌, ◌<◌, ◌≤◌, List, [], ◌∷◌, ◌++◌, map, length, refl, sym, ap, ◌∙◌, subst, append_assoc, arith}
use Rattle.std.specs.Prelude.{All, Contains}
use Rattle.std.proofs.lemmas.List.{get_or_default, map-append}
use Rattle.ra_stamp.specs.declared.mode.Mode.{Mode}
use Rattle.ra_stamp.specs.NodeId.{IsNodeNumber}
use Rattle.ra_automaton.specs.Steps.{greatest_number}
use Rattle.ra_node.specs.Node.{NodeState}
use Rattle.ra_node.specs.Events.{Event, Happening}
use Rattle.ra_node.specs.Events.{Event as acts}
use Rattle.ra_world.specs.declared.text.report.Report.{Report}
use Rattle.ra_world.specs.declared.step.Step.{Step}
use Rattle.ra_world.specs.declared.step.Step.TheVariants.{Ask}
use Rattle.ra_world.specs.Traffic.{Move, LeavesUnderWay, lost_by}
use Rattle.ra_world.specs.Run.{IsRun, IsFit, AreFit, EndsWith, happened_at, events_at, marks_of}
use Rattle.ra_world.specs.Quiet.{IsQuiet, requests_in}
use Rattle.ra_world.specs.World.{Reports}
use Rattle.ra_world.specs.MainTheorem.{IsQuietReport}
use Rattle.ra_world.proofs.Moves.{at_node, fits_split}
use Rattle.ra_schedule.specs.Orderly.{HoldsName, WaitsForName, IsInOrder, TakeNamesInOrder}
use Rattle.ra_schedule.specs.Orderly as any
use Rattle.ra_book.specs.declared.book.event.BookEvent.{BookEvent}
use Rattle.ra_book.specs.declared.book.event.BookKind.{BookKind}
use Rattle.ra_book.specs.declared.book.event.BookKind.TheVariants as kinds
use Rattle.ra_book.specs.declared.book.sent.Sent.{Sent}
use Rattle.ra_book.specs.History.{IsHistory, node_event}
use Rattle.ra_book.specs.Book.{BookState, whole_events, HasHistory, LeadsTo}
use Rattle.ra_book.specs.Settled.{IsCluster, IsSettledRun, start_of}
use Rattle.ra_cluster.specs.Progress.{TakesNamesInOrder, SomeoneCanGoOn, IsHeldInOrder}
use Rattle.ra_book.proofs.Merging.{number_at}
use Rattle.ra_book.proofs.NodeMarks.{Fit, history_by}
use Rattle.ra_book.proofs.Whole.{whole_history, whole_events_are, whole_leads}
use Rattle.ra_book.proofs.SettledNodes.{nobody, book_at, few, book_ends}

-- what the law rests on
pub record GoingOnLaws : Type 0 where
  pub held : (n start : ℕ) (moves : List Move) (nodes : ℕ → NodeState)
      → IsNodeNumber n → IsRun n start moves → EndsWith n start moves nodes → IsQuiet moves → TakeNamesInOrder n start moves
      → start + requests_in (marks_of moves) < greatest_number
      → (node client : ℕ) (name : List ℕ) → (1 ≤ node) × (node ≤ n) → WaitsForName (nodes node) client name
      → any.IsHeldInOrder n nodes name
  pub goes_on : (n start : ℕ) (moves : List Move) (nodes : ℕ → NodeState)
      → IsNodeNumber n → IsRun n start moves → EndsWith n start moves nodes → IsQuiet moves → TakeNamesInOrder n start moves
      → start + requests_in (marks_of moves) < greatest_number
      → (node client : ℕ) (name : List ℕ) → (1 ≤ node) × (node ≤ n) → WaitsForName (nodes node) client name
      → any.SomeoneCanGoOn n nodes name
  pub one_node : (me n start : ℕ) (events : List BookEvent) (sent sent' : List Sent) (a b : NodeState)
      → IsHistory me n start events sent a → IsHistory me n start events sent' b → a ≡ b

-- ---- Lists

none_of : {X : Type 0} (xs : List X) → length xs ≡ 0 → xs ≡ []
none_of [] none = refl
none_of (x ∷ xs) none = absurd (omega (arith, none))

tail_of : {X : Type 0} {x y : X} {xs ys : List X} → x ∷ xs ≡ y ∷ ys → xs ≡ ys
tail_of e = cc

head_of : {X : Type 0} {x y : X} {xs ys : List X} → x ∷ xs ≡ y ∷ ys → x ≡ y
head_of e = cc

-- the events of a book, split where the events at its node are split
record Splits (events : List BookEvent) (xs : List Event) (x : Event) : Type 0 where
  pub before : List BookEvent
  pub event : BookEvent
  pub after : List BookEvent
  pub events_are : events ≡ before ++ event ∷ after
  pub before_is : xs ≡ map (λ e. node_event e.kind) before
  pub event_is : node_event event.kind ≡ x

split_at : (events : List BookEvent) (xs ys : List Event) (x : Event) → xs ++ x ∷ ys ≡ map (λ e. node_event e.kind) events → Splits events xs x
split_at [] [] ys x is = absurd cc
split_at [] (z ∷ xs) ys x is = absurd cc
split_at (e ∷ events) [] ys x is = record {
  before = [];
  event = e;
  after = events;
  events_are = refl;
  before_is = refl;
  event_is = sym (head_of is);
}
split_at (e ∷ events) (z ∷ xs) ys x is =
    let rest = split_at events xs ys x (tail_of is) in
    record {
      before = e ∷ rest.before;
      event = rest.event;
      after = rest.after;
      events_are = ap (λ (es : List BookEvent). e ∷ es) rest.events_are;
      before_is = let first : z ≡ node_event e.kind = head_of is in let later = rest.before_is in cc;
      event_is = rest.event_is;
    }

kind_of_ask : (kind : BookKind) (client : ℕ) (name : List ℕ) (mode : Mode) → node_event kind ≡ acts.Ask client name mode → kind ≡ kinds.Ask client name mode
kind_of_ask (kinds.Ask c r m) client name mode is = cc
kind_of_ask (kinds.Leave c r) client name mode is = absurd cc
kind_of_ask (kinds.Cancel c r) client name mode is = absurd cc
kind_of_ask (kinds.Receive frame) client name mode is = absurd cc
kind_of_ask kinds.Forget client name mode is = absurd cc

happened_behind : (i : ℕ) (before after : List Move) → happened_at i (before ++ after) ≡ happened_at i before ++ happened_at i after
happened_behind i [] after = refl
happened_behind i (m ∷ before) after =
    let here = map (λ event. record { event = event; sends = m.sends; marks = m.marks }) (events_at i m.step) in
    ap (λ (hs : List Happening). here ++ hs) (happened_behind i before after) ∙ sym (append_assoc here (happened_at i before) (happened_at i after))

-- the events of these happenings
abbrev events_by : List Happening → List Event
events_by happened = map (λ h. h.event) happened

events_split : (i : ℕ) (before after : List Move) (move : Move) (event : Event) → events_at i move.step ≡ event ∷ []
    → events_by (happened_at i (before ++ move ∷ after)) ≡ events_by (happened_at i before) ++ event ∷ events_by (happened_at i after)
events_split i before after move event here =
    let then : List Event → List Happening = λ es. map (λ event. record { event = event; sends = move.sends; marks = move.marks }) es ++ happened_at i after in
    let all : happened_at i (before ++ move ∷ after) ≡ happened_at i before ++ then (event ∷ []) =
    subst (λ (es : List Event). happened_at i (before ++ move ∷ after) ≡ happened_at i before ++ then es) here (happened_behind i before (move ∷ after)) in
    subst (λ (hs : List Happening). events_by hs ≡ events_by (happened_at i before) ++ event ∷ events_by (happened_at i after)) (sym all)
    (map-append (λ (h : Happening). h.event) (happened_at i before) (then (event ∷ [])))

-- ---- The run of the books

module _ (laws : GoingOnLaws) (books : List BookState) (moves : List Move) (report : Report) (cluster : IsCluster books) (histories : All HasHistory books)
    (settled : IsSettledRun books moves) (reports : Reports (length books) (start_of books) moves report) (quiet : IsQuietReport report)
    (ordered : All TakesNamesInOrder books) (left : start_of books + report.requests < greatest_number) where
  abbrev n : ℕ
  n = length books

  abbrev start : ℕ
  start = start_of books

  is_quiet : IsQuiet moves
  is_quiet =
      let under_way = reports.under_way in
      record {
        none_lost = none_of (lost_by moves) (sym reports.lost ∙ quiet.none_lost);
        none_under_way = subst (LeavesUnderWay moves) (none_of under_way.0 (sym under_way.2 ∙ quiet.none_under_way)) under_way.1;
      }

  -- the number of a node, as a place among the books
  place : (i : ℕ) → (1 ≤ i) × (i ≤ n) → i - 1 < n
  place i at = omega (arith, at.0, at.1)

  me_at : (i : ℕ) (at : (1 ≤ i) × (i ≤ n)) → (book_at books (i - 1)).me ≡ i
  me_at i at = number_at books cluster (i - 1) nobody (place i at) ∙ omega (arith, at.0)

  -- the events of a book, split where its node takes the event of a move
  split_there : (k : ℕ) → k < n → (before after : List Move) (move : Move) (event : Event) → moves ≡ before ++ move ∷ after
      → events_at (book_at books k).me move.step ≡ event ∷ [] → Splits (book_at books k).events (events_by (happened_at (book_at books k).me before)) event
  split_there k within before after move event moves_are here =
      let b = book_at books k in
      let whole : events_by (happened_at b.me (before ++ move ∷ after)) ≡ map (λ e. node_event e.kind) b.events =
      subst (λ (ms : List Move). events_by (happened_at b.me ms) ≡ map (λ e. node_event e.kind) b.events) moves_are (settled.events k nobody within) in
      split_at b.events (events_by (happened_at b.me before)) (events_by (happened_at b.me after)) event (sym (events_split b.me before after move event here) ∙ whole)

  in_order : TakeNamesInOrder n start moves
  in_order before after ask node client name mode nodes moves_are step ends =
      let fits : IsFit n before ask.step ask.sends ask.marks = (fits_split n [] before (ask ∷ after) (subst (AreFit n []) moves_are settled.run.each_fits)).1.0 in
      let at : (1 ≤ node) × (node ≤ n) = subst (λ (s : Step). IsFit n before s ask.sends ask.marks) step fits in
      let k = node - 1 in
      let within = place node at in
      let b = book_at books k in
      let me = me_at node at in
      let event = acts.Ask client name mode in
      let here : events_at b.me ask.step ≡ event ∷ [] =
      ap (events_at b.me) step ∙ subst (λ (i : ℕ). events_at i (Ask node client name mode) ≡ event ∷ []) (sym me) (at_node node event) in
      let s = split_there k within before after ask event moves_are here in
      let kind = kind_of_ask s.event.kind client name mode s.event_is in
      let events_are : whole_events b ≡ s.before ++ record { clock = s.event.clock; kind = kinds.Ask client name mode } ∷ s.after =
      whole_events_are b (cluster.whole k nobody within)
      ∙ subst (λ (x : BookKind). b.events ≡ s.before ++ record { clock = s.event.clock; kind = x } ∷ s.after) kind s.events_are in
      let held = ordered k nobody within s.before s.after s.event.clock client name mode (nodes b.me) events_are
      (happened_at b.me before, s.before_is, book_ends books cluster before nodes ends k within) in
      subst (λ (i : ℕ). IsInOrder (nodes i) client name) me held

  -- the node to which a book leads is the run's
  node_is : (k : ℕ) → k < n → (node : NodeState) → LeadsTo (book_at books k) node → node ≡ settled.run.ends.0 (book_at books k).me
  node_is k within node leads =
      let b = book_at books k in
      let nodes = settled.run.ends.0 in
      let whole = cluster.whole k nobody within in
      let fit : Fit b.events (happened_at b.me moves) = settled.events k nobody within in
      let other = history_by b (whole_history b whole (histories k nobody within)) (happened_at b.me moves) (nodes b.me) fit (book_ends books cluster moves nodes settled.run.ends.1 k within) in
      laws.one_node b.me b.nodes b.start b.events b.sent _ node (nodes b.me) (whole_leads b whole node leads) other.0

  -- the node of a book among these, in the run
  record Standing (book : BookState) (node : NodeState) : Type 0 where
    pub me : ℕ
    pub within : (1 ≤ me) × (me ≤ n)
    pub node_is : node ≡ settled.run.ends.0 me

  standing : (book : BookState) (node : NodeState) → Contains books book → LeadsTo book node → Standing book node
  standing book node (k, low, is) leads =
      let same : book ≡ book_at books k = sym (get_or_default books k nobody book low ∙ is) in
      let number = number_at books cluster k nobody low in
      record {
        me = (book_at books k).me;
        within = (omega (arith, number), omega (arith, number, low));
        node_is = node_is k low node (subst (λ (x : BookState). LeadsTo x node) same leads);
      }

  -- the book of a node of the run
  record Kept (i : ℕ) : Type 0 where
    pub book : BookState
    pub among : Contains books book
    pub node : NodeState
    pub leads : LeadsTo book node
    pub node_is : node ≡ settled.run.ends.0 i

  kept : (i : ℕ) → (1 ≤ i) × (i ≤ n) → Kept i
  kept i at =
      let j = i - 1 in
      let low = place i at in
      let history = histories j nobody low in
      record {
        book = book_at books j;
        among = (j, low, get_or_default books j (book_at books j) nobody low);
        node = history.node;
        leads = history.leads;
        node_is = node_is j low history.node history.leads ∙ ap settled.run.ends.0 (me_at i at);
      }

  -- numbers are left
  some_left : start + requests_in (marks_of moves) < greatest_number
  some_left = omega (arith, left, reports.requests)

  pub books_go_on : (book : BookState) (node : NodeState) (client : ℕ) (name : List ℕ) → Contains books book → LeadsTo book node → WaitsForName node client name
      → SomeoneCanGoOn books name
  books_go_on book node client name among leads waits =
      let s = standing book node among leads in
      let found = laws.goes_on n start moves settled.run.ends.0 (few books cluster histories) settled.run settled.run.ends.1 is_quiet in_order some_left s.me client name
      s.within (subst (λ (x : NodeState). WaitsForName x client name) s.node_is waits) in
      let its = kept found.node found.within in
      record {
        book = its.book;
        among = its.among;
        node = its.node;
        leads = its.leads;
        client = found.client;
        held = found.held;
        holds = subst (λ (x : NodeState). HoldsName x found.client found.held) (sym its.node_is) found.holds;
        not_below = found.not_below;
        free = λ other w. found.free other (subst (λ (x : NodeState). WaitsForName x found.client other) its.node_is w);
      }

  pub books_are_held : (book : BookState) (node : NodeState) (client : ℕ) (name : List ℕ) → Contains books book → LeadsTo book node → WaitsForName node client name
      → IsHeldInOrder books name
  books_are_held book node client name among leads waits =
      let s = standing book node among leads in
      let found = laws.held n start moves settled.run.ends.0 (few books cluster histories) settled.run settled.run.ends.1 is_quiet in_order some_left s.me client name
      s.within (subst (λ (x : NodeState). WaitsForName x client name) s.node_is waits) in
      let its = kept found.node found.within in
      record {
        book = its.book;
        among = its.among;
        node = its.node;
        leads = its.leads;
        client = found.client;
        holds = subst (λ (x : NodeState). HoldsName x found.client name) (sym its.node_is) found.holds;
        ascends = λ book' node' holder other among' leads' holds w.
            let there = standing book' node' among' leads' in
            found.ascends there.me holder other there.within (subst (λ (x : NodeState). HoldsName x holder name) there.node_is holds)
            (subst (λ (x : NodeState). WaitsForName x holder other) there.node_is w);
      }
