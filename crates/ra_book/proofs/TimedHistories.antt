-- What a node with a clock took, as a history.
use Rattle.std.proofs.Common.{◌≡◌, ℕ, ◌≤◌, ◌^◌, List, [], ◌∷◌, map, refl, sym, ap, subst, ◌∙◌}
use Rattle.std.specs.Prelude.{All}
use Rattle.std.proofs.lemmas.List.Elements.{All-cons, All-head, All-nil, All-tail}
use Rattle.ra_automaton.specs.State.{IsForNode}
use Rattle.ra_stamp.specs.declared.entry.Mark.{Mark}
use Rattle.ra_stamp.specs.declared.message.Message.{Message}
use Rattle.ra_node.specs.Node.{NodeState, opening_node}
use Rattle.ra_node.specs.Events.{Event, Happening, IsForThisNode, NodeEvent, NodeEvents}
use Rattle.ra_node.proofs.Chains.{history_same_node}
use Rattle.ra_book.specs.declared.book.event.BookEvent.{BookEvent}
use Rattle.ra_book.specs.declared.book.event.BookKind.{BookKind}
use Rattle.ra_book.specs.declared.book.event.BookKind.TheVariants.{Ask, Leave, Cancel, Receive, Forget}
use Rattle.ra_book.specs.declared.book.sent.Sent.{Sent}
use Rattle.ra_book.specs.History.{AreClocked, IsHistory, Posting, clock_from, clock_of, frames_of, happening_of, node_event}
use Rattle.ra_book.specs.Book.{as_sent}
use Rattle.ra_book.specs.Timed.{Timed, TakesEach, opening}
use Rattle.ra_book.proofs.Histories.{frames_as_sent}

-- an event leaves a node the one that it is
same_node : (old new : NodeState) (event : Event) (sends : List Message) (marks : List Mark) → NodeEvent old event sends marks new
    → (new.me ≡ old.me) × (new.nodes ≡ old.nodes) × (old.start ≤ new.start)
same_node old new event sends marks h = history_same_node (record { event = event; sends = sends; marks = marks } ∷ []) old new (new, h, refl)

-- an event for a node is one for each state of it
for_it : (a b : NodeState) (kind : BookKind) → a.me ≡ b.me → a.nodes ≡ b.nodes → IsForThisNode a (node_event kind) → IsForThisNode b (node_event kind)
for_it a b (Ask client name mode) me nodes h = tt
for_it a b (Leave client name) me nodes h = tt
for_it a b (Cancel client name) me nodes h = tt
for_it a b Forget me nodes h = tt
for_it a b (Receive frame) me nodes h =
    subst (λ (k : ℕ). IsForNode k b.nodes frame.message) me (subst (λ (k : ℕ). IsForNode a.me k frame.message) nodes h)

abbrev events_in : List Posting → List BookEvent
events_in postings = map (λ p. p.event) postings

module _ (first : NodeState) where
  abbrev IsForFirst : Happening → Type 0
  IsForFirst h = IsForThisNode first h.event

  -- ---- What was taken happened

  record Happened (old new : Timed) (postings : List Posting) : Type 0 where
    clocked : AreClocked old.clock (events_in postings)
    for_first : All IsForFirst (map happening_of postings)
    leads : NodeEvents old.node (map happening_of postings) new.node
    clock_is : clock_from old.clock (events_in postings) ≡ new.clock

  happened : (old new : Timed) (postings : List Posting) → old.node.me ≡ first.me → old.node.nodes ≡ first.nodes → TakesEach old postings new
      → Happened old new postings
  happened old new [] me nodes h = record {
    clocked = tt;
    for_first = All-nil IsForFirst;
    leads = ap (λ (t : Timed). t.node) h;
    clock_is = sym (ap (λ (t : Timed). t.clock) h);
  }
  happened old new (p ∷ postings) me nodes (next, takes, clock, later) =
      let same = same_node old.node next.node (node_event p.event.kind) p.sends p.marks takes.event in
      let rest = happened next new postings (same.0 ∙ me) (same.1 ∙ nodes) later in
      record {
        clocked = (sym clock ∙ takes.clock_is, subst (λ (k : ℕ). k ≤ 2 ^ 62) clock takes.has_clock, subst (λ (k : ℕ). AreClocked k (events_in postings)) clock rest.clocked);
        for_first = All-cons IsForFirst (happening_of p) (map happening_of postings) (for_it old.node first p.event.kind me nodes takes.for_this_node) rest.for_first;
        leads = (next.node, takes.event, rest.leads);
        clock_is = subst (λ (k : ℕ). clock_from k (events_in postings) ≡ new.clock) clock rest.clock_is;
      }

  -- ---- What happened was taken

  taken : (old new : NodeState) (clock : ℕ) (postings : List Posting) → old.me ≡ first.me → old.nodes ≡ first.nodes → AreClocked clock (events_in postings)
      → All IsForFirst (map happening_of postings) → NodeEvents old (map happening_of postings) new
      → TakesEach (record { node = old; clock = clock }) postings (record { node = new; clock = clock_from clock (events_in postings) })
  taken old new clock [] me nodes clocked for_first leads = ap (λ (n : NodeState). record { node = n; clock = clock }) leads
  taken old new clock (p ∷ postings) me nodes clocked for_first (next, happens, later) =
      let same = same_node old next (node_event p.event.kind) p.sends p.marks happens in
      let here = All-head IsForFirst (happening_of p) (map happening_of postings) for_first in (
        record { node = next; clock = p.event.clock },
        record {
          for_this_node = for_it first old p.event.kind (sym me) (sym nodes) here;
          event = happens;
          clock_is = clocked.0;
          has_clock = clocked.1;
        },
        refl,
        taken next new p.event.clock postings (same.0 ∙ me) (same.1 ∙ nodes) clocked.2
            (All-tail IsForFirst (happening_of p) (map happening_of postings) for_first) later,
      )

-- ---- The law

pub has_history : (me n start : ℕ) (postings : List Posting) (new : Timed) → TakesEach (opening me n start) postings new
    → (history : IsHistory me n start (map (λ p. p.event) postings) (as_sent (frames_of postings)) new.node)
    × (history.postings ≡ postings) × (clock_of (map (λ p. p.event) postings) ≡ new.clock)
has_history me n start postings new h =
    let is = happened (opening_node me n start) (opening me n start) new postings refl refl h in (
      record {
        clocked = is.clocked;
        postings = postings;
        events_are = refl;
        for_this_node = is.for_first;
        leads = is.leads;
        sent_are = frames_as_sent (frames_of postings);
      },
      refl,
      is.clock_is,
    )

pub has_taken : (me n start : ℕ) (events : List BookEvent) (sent : List Sent) (node : NodeState) (history : IsHistory me n start events sent node)
    → TakesEach (opening me n start) history.postings (record { node = node; clock = clock_of events })
has_taken me n start events sent node h =
    let first = opening_node me n start in
    subst (λ (es : List BookEvent). TakesEach (opening me n start) h.postings (record { node = node; clock = clock_of es })) h.events_are
    (taken first first node 0 h.postings refl refl (subst (AreClocked 0) (sym h.events_are) h.clocked) h.for_this_node h.leads)
