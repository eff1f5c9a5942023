-- How many requests were made: one for each ask, except those of clients that are still queued or were queued when they
-- gave up.
use Rattle.std.proofs.Common.{◌≡◌, ℕ, ◌+◌, ◌≤◌, Bool, true, false, List, [], ◌∷◌, ◌++◌, length, refl, sym, ap, ◌∙◌, subst, append_assoc, arith, inl, inr}
use Rattle.std.proofs.lemmas.List.{length-append, append-nil}
use Rattle.ra_stamp.specs.declared.message.Message.{Message}
use Rattle.ra_stamp.specs.declared.entry.Mark.{Mark}
use Rattle.ra_stamp.specs.declared.mode.Mode.{Mode}
use Rattle.ra_stamp.specs.Message.{to_of, name_of}
use Rattle.ra_stamp.specs.NodeId.{IsNodeNumber}
use Rattle.ra_node.specs.Resource.{Resource, unmet}
use Rattle.ra_stamp.specs.declared.entry.Entry.{Entry}
use Rattle.ra_stamp.specs.declared.entry.Mark.TheVariants.{Left, Withdrawn}
use Rattle.ra_node.specs.Turns.{request_marks, next_entry, EntersBy, AskTurn, Leaves, Withdraws, EndTurn, LeaveTurn, CancelTurn, ReceiveTurn}
use Rattle.ra_node.proofs.Endings.{AreEnded, leaves_ended, withdraws_ended}
use Rattle.ra_node.proofs.Forgetting.{NothingElse, any_ones, slots_of, total_stays, queue_unmoved}
use Rattle.ra_node.specs.Node.{NodeState, opening_node, resource_at}
use Rattle.ra_node.specs.Events.{Event, NodeEvent}
use Rattle.ra_node.specs.Events.{Event as acts}
use Rattle.ra_node.proofs.HandOverStep.{handed_marks}
use Rattle.ra_node.proofs.Updates.{IsUpdate, receive_updates}
use Rattle.ra_world.specs.declared.step.Step.{Step}
use Rattle.ra_world.specs.declared.step.Step.TheVariants.{Ask, Leave, Cancel, Deliver, Lose, Repeat, Forget}
use Rattle.ra_world.specs.Below.{LawsBelow}
use Rattle.ra_world.specs.Asked.{asks_in, asks_by, cancels_in, cancels_by}
use Rattle.ra_world.specs.Quiet.{requests_in, withdrawn_in}
use Rattle.ra_world.specs.Traffic.{Move}
use Rattle.ra_world.specs.Run.{IsRun, IsFit, EndsWith, events_at, marks_of, queued_at_all, with_node}
use Rattle.ra_world.proofs.Moves.{allows_all, marks_more, requests_both, withdrawn_both, at_node, fits_split}
use Rattle.ra_world.proofs.Protocol.{IsNode}
use Rattle.ra_world.proofs.Balance.{marks_request}
use Rattle.ra_world.proofs.WaitingCounts.{total, over, one_update, one_node, none_counted, same_over}
use Rattle.ra_world.proofs.Nodes.{put_node, EndsAt, ends_after, left_alone}
use Rattle.ra_world.proofs.Reached.{Reached, event_happened, was_under_way}
use Rattle.ra_world.proofs.Runs.{every_run, same_ends, prefixes}

-- ---- Asks and cancels

abbrev asks_of : Event → ℕ
asks_of (acts.Ask client name mode) = 1
asks_of (acts.Leave client name) = 0
asks_of (acts.Cancel client name) = 0
asks_of (acts.Receive message) = 0
asks_of acts.Forget = 0

abbrev cancels_of : Event → ℕ
cancels_of (acts.Ask client name mode) = 0
cancels_of (acts.Leave client name) = 0
cancels_of (acts.Cancel client name) = 1
cancels_of (acts.Receive message) = 0
cancels_of acts.Forget = 0

-- ---- One turn

-- how many requests the marks make and withdraw, with the queue after them, as the queue before with this many asks and
-- without this many cancels
record Counts (asks cancels : ℕ) (old new : Resource) (marks : List Mark) : Type 0 where
  made : requests_in marks + length new.queue + cancels ≡ length old.queue + asks + withdrawn_in marks
  few : withdrawn_in marks ≤ cancels

none_made : (entered : Bool) (new : Resource) (marks : List Mark) → EntersBy entered new marks → (requests_in marks ≡ 0) × (withdrawn_in marks ≡ 0)
none_made false new marks none = (ap requests_in none, ap withdrawn_in none)
none_made true new marks some = (ap requests_in some.2, ap withdrawn_in some.2)

marks_withdraw : (entered : Bool) (e : Entry) → withdrawn_in (request_marks entered e) ≡ 0
marks_withdraw false e = refl
marks_withdraw true e = refl

ask_counts : (old : Resource) (client : ℕ) (mode : Mode) (sends : List Message) (marks : List Mark) (new : Resource) → AskTurn old client mode sends marks new → Counts 1 0 old new marks
ask_counts old client mode sends marks new turn = elim turn.1 [
  | inl asks ↦
      let e = next_entry old client mode in
      let one : requests_in marks ≡ 1 = ap requests_in asks.marks_are ∙ marks_request asks.entered e in
      let none : withdrawn_in marks ≡ 0 = ap withdrawn_in asks.marks_are ∙ marks_withdraw asks.entered e in
      record { made = omega (arith, one, none, ap length asks.queue_is); few = omega (arith, none) }
  | inr queues ↦
      let more : length new.queue ≡ length (old.queue ++ record { client = client; mode = mode } ∷ []) = ap (λ (r : Resource). length r.queue) queues.new_is in
      record {
        made = omega (arith, ap requests_in queues.marks_are, ap withdrawn_in queues.marks_are, more, length-append old.queue (record { client = client; mode = mode } ∷ []));
        few = omega (arith, ap withdrawn_in queues.marks_are);
      }
]

-- the mark of an end is no request, and withdraws this many
end_counts : (Ends : Entry → List Message → Resource → Type 0) (mark : Entry → Mark) (withdraws : ℕ) (old : Resource) → AreEnded old Ends
    → ((e : Entry) (ms : List Mark) → (requests_in (mark e ∷ ms) ≡ requests_in ms) × (withdrawn_in (mark e ∷ ms) ≡ withdrawn_in ms + withdraws))
    → (sends : List Message) (marks : List Mark) (new : Resource) → EndTurn Ends mark old sends marks new → Counts 0 withdraws old new marks
end_counts Ends mark withdraws old ended adds sends marks new turn = elim turn [
  | inl nobody ↦
      let both = adds nobody.entry [] in
      let none : requests_in marks ≡ 0 = ap requests_in nobody.marks_are ∙ both.0 in
      let some : withdrawn_in marks ≡ withdraws = omega (arith, ap withdrawn_in nobody.marks_are, both.1) in
      record { made = omega (arith, none, some, ap length (ended nobody.entry sends new nobody.ends).queue_is); few = omega (arith, some) }
  | inr next ↦
      let e = next_entry old next.next.client next.next.mode in
      let asked = request_marks next.asks.entered e in
      let both = adds next.entry asked in
      let are = handed_marks Ends mark old ended sends marks new next in
      let one : requests_in marks ≡ 1 = ap requests_in are ∙ both.0 ∙ marks_request next.asks.entered e in
      let some : withdrawn_in marks ≡ withdrawn_in asked + withdraws = ap withdrawn_in are ∙ both.1 in
      let none = marks_withdraw next.asks.entered e in
      record { made = omega (arith, one, some, none, ap length next.queue_was, ap length next.asks.queue_is); few = omega (arith, some, none) }
]

leave_counts : (old : Resource) (client : ℕ) (sends : List Message) (marks : List Mark) (new : Resource) → LeaveTurn old client sends marks new → Counts 0 0 old new marks
leave_counts old client sends marks new turn = end_counts (Leaves old client) Left 0 old (leaves_ended old client) (λ e ms. (refl, omega arith)) sends marks new turn

cancel_counts : (old : Resource) (client : ℕ) (sends : List Message) (marks : List Mark) (new : Resource) → CancelTurn old client sends marks new → Counts 0 1 old new marks
cancel_counts old client sends marks new turn = elim turn [
  | inl goes ↦
      record {
        made = omega (
          arith,
          ap requests_in goes.marks_are,
          ap withdrawn_in goes.marks_are,
          ap (λ (r : Resource). length r.queue) goes.new_is,
          ap length goes.queue_was,
          length-append goes.before goes.after,
          length-append goes.before (goes.gone ∷ goes.after),
        );
        few = omega (arith, ap withdrawn_in goes.marks_are);
      }
  | inr ends ↦ end_counts (Withdraws old client) Withdrawn 1 old (withdraws_ended old client) (λ e ms. (refl, refl)) sends marks new ends
]

receive_counts : (old : Resource) (message : Message) (sends : List Message) (marks : List Mark) (new : Resource) → ReceiveTurn old message sends marks new → Counts 0 0 old new marks
receive_counts old message sends marks new turn =
    let none = none_made turn.entered new marks turn.enters in
    record { made = omega (arith, none.0, none.1, ap length turn.queue_is); few = omega (arith, none.1) }

-- ---- One event

abbrev queued : Resource → ℕ
queued r = length r.queue

none_queued : (me nodes : ℕ) (name : List ℕ) (start : ℕ) → queued (unmet me nodes name start) ≡ 0
none_queued me nodes name start = refl

-- the same for all names of a node
record NodeCounts (asks cancels : ℕ) (old new : NodeState) (marks : List Mark) : Type 0 where
  made : requests_in marks + total queued new + cancels ≡ total queued old + asks + withdrawn_in marks
  few : withdrawn_in marks ≤ cancels

update_counts : (old new : NodeState) (name : List ℕ) (r : Resource) → IsUpdate old name r new → (marks : List Mark) (asks cancels : ℕ) → Counts asks cancels (resource_at old name) r marks → NodeCounts asks cancels old new marks
update_counts old new name r update marks asks cancels turn = record { made = omega (arith, turn.made, one_update queued none_queued old new name r update); few = turn.few }

event_counts : (old new : NodeState) (event : Event) (sends : List Message) (marks : List Mark) → NodeEvent old event sends marks new → NodeCounts (asks_of event) (cancels_of event) old new marks
event_counts old new (acts.Ask client name mode) sends marks e = update_counts old new name e.resource (inr e.new_is) marks 1 0 (ask_counts (resource_at old name) client mode sends marks e.resource e.turn)
event_counts old new (acts.Leave client name) sends marks e = update_counts old new name e.resource (inr e.new_is) marks 0 0 (leave_counts (resource_at old name) client sends marks e.resource e.turn)
event_counts old new (acts.Cancel client name) sends marks e = update_counts old new name e.resource (inr e.new_is) marks 0 1 (cancel_counts (resource_at old name) client sends marks e.resource e.turn)
event_counts old new (acts.Receive message) sends marks e =
    update_counts old new (name_of message) e.resource (receive_updates old new message sends marks e) marks 0 0 (receive_counts (resource_at old (name_of message)) message sends marks e.resource e.turn)
event_counts old new acts.Forget sends marks e =
    record { made = omega (arith, ap requests_in e.marks_are, ap withdrawn_in e.marks_are, total_stays NothingElse queued queue_unmoved old new sends marks e (any_ones (slots_of old))); few = omega (arith, ap withdrawn_in e.marks_are) }

-- ---- One more move

asks_more : (ms : List Move) (m : Move) → asks_by (ms ++ m ∷ []) ≡ asks_by ms + asks_in m.step
asks_more [] m = omega arith
asks_more (x ∷ ms) m = omega (arith, asks_more ms m)

cancels_more : (ms : List Move) (m : Move) → cancels_by (ms ++ m ∷ []) ≡ cancels_by ms + cancels_in m.step
cancels_more [] m = omega arith
cancels_more (x ∷ ms) m = omega (arith, cancels_more ms m)

pub record Counted (n start : ℕ) (ms : List Move) : Type 0 where
  pub made : (nodes : ℕ → NodeState) → EndsWith n start ms nodes → requests_in (marks_of ms) + queued_at_all n nodes + cancels_by ms ≡ asks_by ms + withdrawn_in (marks_of ms)
  pub few : withdrawn_in (marks_of ms) ≤ cancels_by ms

module _ (laws : LawsBelow) (n start : ℕ) (ms : List Move) (step : Step) (sends : List Message) (marks : List Mark) (before : Reached (Unit {0}) (Unit {0}) n start ms) (counted : Counted n start ms) where
  abbrev m : Move
  m = record { step = step; sends = sends; marks = marks }

  abbrev After : Type 0
  After = Counted n start (ms ++ m ∷ [])

  marked : requests_in (marks_of (ms ++ m ∷ [])) ≡ requests_in (marks_of ms) + requests_in marks
  marked = ap requests_in (marks_more ms m) ∙ requests_both (marks_of ms) marks

  unmarked : withdrawn_in (marks_of (ms ++ m ∷ [])) ≡ withdrawn_in (marks_of ms) + withdrawn_in marks
  unmarked = ap withdrawn_in (marks_more ms m) ∙ withdrawn_both (marks_of ms) marks

  -- the nodes at the end are these ones
  ends_as : (nodes others : ℕ → NodeState) → EndsWith n start (ms ++ m ∷ []) nodes → EndsWith n start (ms ++ m ∷ []) others → over queued nodes 1 n ≡ over queued others 1 n
  ends_as nodes others ends ends' = same_over queued none_queued nodes others 1 n (λ i low high. same_ends laws.one_end n start (ms ++ m ∷ []) nodes others ends ends' i (low, omega (arith, high)))

  by_event : (p : ℕ) (event : Event) → IsNode n p → events_at p step ≡ event ∷ [] → asks_of event ≡ asks_in step → cancels_of event ≡ cancels_in step → EndsAt n start (ms ++ m ∷ []) p → After
  by_event p event within here asks cancels end =
      let happened = event_happened laws n start ms m before p within event here end in
      let one = event_counts (before.nodes p) happened.0 event sends marks happened.1 in
      let after = with_node before.nodes p happened.0 in
      let put = put_node before.nodes p happened.0 in
      record {
        made = λ nodes ends.
            let same = ends_as nodes after ends (ends_after laws.joins n start ms m before.nodes p event happened.0 before.ends here happened.1) in
            let node = one_node queued none_queued before.nodes after p 1 n within.0 (omega (arith, within.1)) put.there in
            omega (arith, counted.made before.nodes before.ends, marked, unmarked, same, node, one.made, asks, cancels, ap (total queued) put.here, asks_more ms m, cancels_more ms m);
        few = omega (arith, counted.few, unmarked, one.few, cancels, cancels_more ms m);
      }

  by_nothing : ((i : ℕ) → events_at i step ≡ []) → marks ≡ [] → asks_in step ≡ 0 → cancels_in step ≡ 0 → After
  by_nothing none no_marks unasked uncancelled =
      record {
        made = λ nodes ends.
            let same = ends_as nodes before.nodes ends (λ i low high. left_alone n start i ms m (before.nodes i) (none i) (before.ends i low high)) in
            omega (arith, counted.made before.nodes before.ends, marked, unmarked, ap requests_in no_marks, ap withdrawn_in no_marks, same, asks_more ms m, cancels_more ms m, unasked, uncancelled);
        few = omega (arith, counted.few, unmarked, ap withdrawn_in no_marks, cancels_more ms m);
      }

one_more : LawsBelow → (n start : ℕ) (ms : List Move) (step : Step) (sends : List Message) (marks : List Mark) → Reached (Unit {0}) (Unit {0}) n start ms → Counted n start ms
    → IsFit n ms step sends marks → ((i : ℕ) → IsNode n i → EndsAt n start (ms ++ record { step = step; sends = sends; marks = marks } ∷ []) i) → Counted n start (ms ++ record { step = step; sends = sends; marks = marks } ∷ [])
one_more laws n start ms (Ask node client name mode) sends marks before counted fit ends =
    by_event laws n start ms (Ask node client name mode) sends marks before counted node (acts.Ask client name mode) fit (at_node node (acts.Ask client name mode)) refl refl (ends node fit)
one_more laws n start ms (Leave node client name) sends marks before counted fit ends =
    by_event laws n start ms (Leave node client name) sends marks before counted node (acts.Leave client name) fit (at_node node (acts.Leave client name)) refl refl (ends node fit)
one_more laws n start ms (Cancel node client name) sends marks before counted fit ends =
    by_event laws n start ms (Cancel node client name) sends marks before counted node (acts.Cancel client name) fit (at_node node (acts.Cancel client name)) refl refl (ends node fit)
one_more laws n start ms (Forget node) sends marks before counted fit ends =
    by_event laws n start ms (Forget node) sends marks before counted node acts.Forget fit (at_node node acts.Forget) refl refl (ends node fit)
one_more laws n start ms (Deliver message) sends marks before counted fit ends =
    let within = (was_under_way laws n start ms before message fit).traffic.to in
    by_event laws n start ms (Deliver message) sends marks before counted (to_of message) (acts.Receive message) within (at_node (to_of message) (acts.Receive message)) refl refl (ends (to_of message) within)
one_more laws n start ms (Lose message) sends marks before counted fit ends = by_nothing laws n start ms (Lose message) sends marks before counted (λ i. refl) fit.2 refl refl
one_more laws n start ms (Repeat message) sends marks before counted fit ends = by_nothing laws n start ms (Repeat message) sends marks before counted (λ i. refl) fit.2 refl refl

-- ---- All moves

module _ (laws : LawsBelow) (n start : ℕ) (count : IsNodeNumber n) where
  none_at_first : Counted n start []
  none_at_first =
      let first = λ (i : ℕ). opening_node i n start in
      record {
        made = λ nodes ends. omega (arith, same_over queued none_queued nodes first 1 n (λ i low high. ends i low (omega (arith, high))), none_counted queued none_queued first 1 n (λ i. refl));
        few = omega arith;
      }

  further : (rest ms : List Move) → Counted n start ms → IsRun n start (ms ++ rest) → Counted n start (ms ++ rest)
  further [] ms counted run = subst (Counted n start) (sym (append-nil ms)) counted
  further (m ∷ rest) ms counted run =
      let again : ms ++ m ∷ rest ≡ (ms ++ m ∷ []) ++ rest = sym (append_assoc ms (m ∷ []) rest) in
      let run' = subst (IsRun n start) again run in
      let before = every_run laws n start ms (allows_all ms) count (prefixes laws.splits n start (m ∷ rest) ms run) in
      let shorter = prefixes laws.splits n start rest (ms ++ m ∷ []) run' in
      let fit = (fits_split n [] ms (m ∷ rest) run.each_fits).1.0 in
      let next = one_more laws n start ms m.step m.sends m.marks before counted fit (λ i at. (shorter.ends.0 i, shorter.ends.1 i at.0 at.1)) in
      subst (Counted n start) (sym again) (further rest (ms ++ m ∷ []) next run')

  pub asks_counted : (moves : List Move) → IsRun n start moves → Counted n start moves
  asks_counted moves run = further moves [] none_at_first run
