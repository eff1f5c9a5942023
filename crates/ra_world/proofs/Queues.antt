-- At most one client more is queued after each step.
use Rattle.std.proofs.Common.{eq-eqb, ◌≡◌, ℕ, zero, suc, ◌+◌, ◌<◌, ◌≤◌, List, [], ◌∷◌, map, length, get_or, refl, ap, ◌∙◌, arith, inl, inr}
use Rattle.std.specs.Prelude.{sum_by, ◌==◌, if◌then◌else◌}
use Rattle.std.specs.List.{range_with_len}
use Rattle.std.proofs.lemmas.List.{length-append, length-map, ext_get_or}
use Rattle.std.proofs.lemmas.List.Sums.{sum_by-cons}
use Rattle.std.proofs.lemmas.List.FromFn.{length-map-range_with_len, get_or-map-range_with_len}
use Rattle.ra_stamp.specs.declared.message.Message.{Message}
use Rattle.ra_stamp.specs.declared.entry.Mark.{Mark}
use Rattle.ra_stamp.specs.Message.{to_of}
use Rattle.ra_node.specs.Resource.{Resource}
use Rattle.ra_stamp.specs.declared.entry.Entry.{Entry}
use Rattle.ra_stamp.specs.declared.entry.Mark.TheVariants.{Left, Withdrawn}
use Rattle.ra_node.specs.Turns.{AskTurn, Leaves, Withdraws, EndTurn, LeaveTurn, CancelTurn}
use Rattle.ra_node.proofs.Endings.{AreEnded, leaves_ended, withdraws_ended}
use Rattle.ra_node.proofs.Forgetting.{NothingElse, any_ones, slots_of, total_stays, queue_unmoved}
use Rattle.ra_node.specs.Node.{NodeState, opening_node, resource_at, queued_count}
use Rattle.ra_node.specs.Events.{Event, Happening, NodeEvent, NodeEvents}
use Rattle.ra_node.specs.Events.{Event as acts}
use Rattle.ra_world.specs.declared.step.Step.{Step}
use Rattle.ra_world.specs.declared.step.Step.TheVariants.{Ask, Leave, Cancel, Deliver, Lose, Repeat, Forget}
use Rattle.ra_world.specs.Traffic.{Move}
use Rattle.ra_world.specs.Run.{events_at, happened_at}
use Rattle.ra_world.specs.Keeping.{nodes_of, Keeps}
use Rattle.std.proofs.lemmas.Bool.{ne_eqb}
use Rattle.ra_automaton.proofs.Apart.{cases_same}
use Rattle.ra_world.proofs.WaitingCounts.{one_update, none_counted}
use Rattle.ra_node.proofs.Updates.{IsUpdate, receive_updates}

-- ---- The nodes of a list, by their numbers

sum_at : (f : NodeState → ℕ) (h : ℕ → NodeState) (first n : ℕ) → sum_by (λ i. f (h i)) (range_with_len first n) ≡ sum_by f (map h (range_with_len first n))
sum_at f h first zero = refl
sum_at f h first (suc n) =
    omega (arith, sum_at f h (first + 1) n, sum_by-cons (λ (i : ℕ). f (h i)) first (range_with_len (first + 1) n), sum_by-cons f (h first) (map h (range_with_len (first + 1) n)))

listed : (nodes : List NodeState) → map (nodes_of nodes) (range_with_len 1 (length nodes)) ≡ nodes
listed nodes =
    let n = length nodes in
    ext_get_or (opening_node 0 0 0) (map (nodes_of nodes) (range_with_len 1 n)) nodes (length-map-range_with_len (nodes_of nodes) 1 n)
    (λ i low. get_or-map-range_with_len (nodes_of nodes) 1 n i (i + 1) (opening_node 0 0 0) (omega (arith, low, length-map-range_with_len (nodes_of nodes) 1 n)) (omega arith)
    ∙ ap (λ (k : ℕ). get_or nodes k (opening_node 0 0 0)) (omega arith))

pub at_all : (nodes : List NodeState) (f : NodeState → ℕ) → sum_by (λ i. f (nodes_of nodes i)) (range_with_len 1 (length nodes)) ≡ sum_by f nodes
at_all nodes f = sum_at f (nodes_of nodes) 1 (length nodes) ∙ ap (sum_by f) (listed nodes)

-- ---- One event

ask_queues : (old : Resource) (client : ℕ) (mode : _) (sends : List Message) (marks : List Mark) (new : Resource)
    → AskTurn old client mode sends marks new → length new.queue ≤ length old.queue + 1
ask_queues old client mode sends marks new turn =
    elim turn.1 [
      | inl at_once ↦ omega (arith, ap length at_once.queue_is)
      | inr queues ↦ omega (arith, ap (λ (r : Resource). length r.queue) queues.new_is, length-append old.queue (record { client = client; mode = mode } ∷ []))
    ]

end_queues : (Ends : Entry → List Message → Resource → Type 0) (mark : Entry → Mark) (old : Resource) → AreEnded old Ends → (sends : List Message) (marks : List Mark) (new : Resource)
    → EndTurn Ends mark old sends marks new → length new.queue ≤ length old.queue
end_queues Ends mark old ended sends marks new turn =
    elim turn [
      | inl nobody ↦ omega (arith, ap length (ended nobody.entry sends new nobody.ends).queue_is)
      | inr next ↦ omega (arith, ap length next.queue_was, ap length next.asks.queue_is)
    ]

leave_queues : (old : Resource) (client : ℕ) (sends : List Message) (marks : List Mark) (new : Resource)
    → LeaveTurn old client sends marks new → length new.queue ≤ length old.queue + 1
leave_queues old client sends marks new turn = omega (arith, end_queues (Leaves old client) Left old (leaves_ended old client) sends marks new turn)

cancel_queues : (old : Resource) (client : ℕ) (sends : List Message) (marks : List Mark) (new : Resource)
    → CancelTurn old client sends marks new → length new.queue ≤ length old.queue + 1
cancel_queues old client sends marks new turn =
    elim turn [
      | inl goes ↦ omega (arith, ap (λ (r : Resource). length r.queue) goes.new_is, ap length goes.queue_was, length-append goes.before goes.after, length-append goes.before (goes.gone ∷ goes.after))
      | inr ends ↦ omega (arith, end_queues (Withdraws old client) Withdrawn old (withdraws_ended old client) sends marks new ends)
    ]

more_at : (old new : NodeState) (name : List ℕ) (r : Resource) → length r.queue ≤ length (resource_at old name).queue + 1
    → IsUpdate old name r new → queued_count new ≤ queued_count old + 1
more_at old new name r few update =
    omega (arith, few, one_update (λ x. length x.queue) (λ _ _ _ _. refl) old new name r update)

event_queues : (old new : NodeState) (event : Event) (sends : List Message) (marks : List Mark)
    → NodeEvent old event sends marks new → queued_count new ≤ queued_count old + 1
event_queues old new (acts.Ask client name mode) sends marks e =
    more_at old new name e.resource (ask_queues (resource_at old name) client mode sends marks e.resource e.turn) (inr e.new_is)
event_queues old new (acts.Leave client name) sends marks e =
    more_at old new name e.resource (leave_queues (resource_at old name) client sends marks e.resource e.turn) (inr e.new_is)
event_queues old new (acts.Cancel client name) sends marks e =
    more_at old new name e.resource (cancel_queues (resource_at old name) client sends marks e.resource e.turn) (inr e.new_is)
event_queues old new acts.Forget sends marks e = omega (arith, total_stays NothingElse (λ r. length r.queue) queue_unmoved old new sends marks e (any_ones (slots_of old)))
event_queues old new (acts.Receive message) sends marks e =
    more_at old new _ e.resource (omega (arith, ap length e.turn.queue_is)) (receive_updates old new message sends marks e)

events_queue : (hs : List Happening) (old new : NodeState) → NodeEvents old hs new → queued_count new ≤ queued_count old + length hs
events_queue [] old new e = omega (arith, ap queued_count e)
events_queue (h ∷ hs) old new e = omega (arith, event_queues old e.0 h.event h.sends h.marks e.1, events_queue hs e.0 new e.2)

-- ---- Each step is an event of one node at most

abbrev one_if : ℕ → ℕ → Event → List Event
one_if p i event = if p == i then event ∷ [] else []

none_beyond : (p : ℕ) (event : Event) (first n : ℕ) → p < first → sum_by (λ i. length (one_if p i event)) (range_with_len first n) ≡ 0
none_beyond p event first zero low = refl
none_beyond p event first (suc n) low =
    let here : length (one_if p first event) ≡ 0 = ap (λ b. length (if b then event ∷ [] else [])) (ne_eqb p first (λ e. absurd (omega (arith, e, low)))) in
    omega (arith, here, none_beyond p event (first + 1) n (omega (arith, low)), sum_by-cons (λ (i : ℕ). length (one_if p i event)) first (range_with_len (first + 1) n))

one_at_most : (p : ℕ) (event : Event) (first n : ℕ) → sum_by (λ i. length (one_if p i event)) (range_with_len first n) ≤ 1
one_at_most p event first zero = omega arith
one_at_most p event first (suc n) =
    let split = sum_by-cons (λ (i : ℕ). length (one_if p i event)) first (range_with_len (first + 1) n) in
    elim (cases_same p first) [
      | inl is ↦
          let here : length (one_if p first event) ≡ 1 = ap (λ b. length (if b then event ∷ [] else [])) (eq-eqb p first is) in
          omega (arith, here, split, none_beyond p event (first + 1) n (omega (arith, is)))
      | inr apart ↦
          let here : length (one_if p first event) ≡ 0 = ap (λ b. length (if b then event ∷ [] else [])) (ne_eqb p first apart) in
          omega (arith, here, split, one_at_most p event (first + 1) n)
    ]

nowhere : (step : Step) → ((i : ℕ) → length (events_at i step) ≡ 0) → (first n : ℕ) → sum_by (λ i. length (events_at i step)) (range_with_len first n) ≡ 0
nowhere step none first zero = refl
nowhere step none first (suc n) =
    omega (arith, none first, nowhere step none (first + 1) n, sum_by-cons (λ (i : ℕ). length (events_at i step)) first (range_with_len (first + 1) n))

one_event : (step : Step) (first n : ℕ) → sum_by (λ i. length (events_at i step)) (range_with_len first n) ≤ 1
one_event (Ask node client name mode) first n = one_at_most node (acts.Ask client name mode) first n
one_event (Leave node client name) first n = one_at_most node (acts.Leave client name) first n
one_event (Cancel node client name) first n = one_at_most node (acts.Cancel client name) first n
one_event (Forget node) first n = one_at_most node acts.Forget first n
one_event (Deliver message) first n = one_at_most (to_of message) (acts.Receive message) first n
one_event (Lose message) first n = omega (arith, nowhere (Lose message) (λ _. refl) first n)
one_event (Repeat message) first n = omega (arith, nowhere (Repeat message) (λ _. refl) first n)

added : (f g h : ℕ → ℕ) (first n : ℕ) → ((i : ℕ) → f i ≡ g i + h i) → sum_by f (range_with_len first n) ≡ sum_by g (range_with_len first n) + sum_by h (range_with_len first n)
added f g h first zero is = refl
added f g h first (suc n) is =
    omega (arith, is first, added f g h (first + 1) n is, sum_by-cons f first (range_with_len (first + 1) n), sum_by-cons g first (range_with_len (first + 1) n), sum_by-cons h first (range_with_len (first + 1) n))

nothing_happened : (first n : ℕ) → sum_by (λ i. length (happened_at i [])) (range_with_len first n) ≡ 0
nothing_happened first zero = refl
nothing_happened first (suc n) = omega (arith, nothing_happened (first + 1) n, sum_by-cons (λ (i : ℕ). length (happened_at i [])) first (range_with_len (first + 1) n))

all_events : (moves : List Move) (first n : ℕ) → sum_by (λ i. length (happened_at i moves)) (range_with_len first n) ≤ length moves
all_events [] first n = omega (arith, nothing_happened first n)
all_events (m ∷ ms) first n =
    let split = added (λ i. length (happened_at i (m ∷ ms))) (λ i. length (events_at i m.step)) (λ i. length (happened_at i ms)) first n
    (λ i. length-append (map (λ event. record { event = event; sends = m.sends; marks = m.marks }) (events_at i m.step)) (happened_at i ms)
    ∙ ap (λ k. k + length (happened_at i ms)) (length-map (events_at i m.step) (λ event. record { event = event; sends = m.sends; marks = m.marks }))) in
    omega (arith, split, one_event m.step first n, all_events ms first n)

-- ---- All nodes

none_at_first : (i n start : ℕ) → queued_count (opening_node i n start) ≡ 0
none_at_first i n start =
    omega (
      arith,
      none_counted (λ r. length r.queue) (λ _ _ _ _. refl) (λ _. opening_node i n start) 0 1 (λ _. refl),
      sum_by-cons (λ (k : ℕ). queued_count (opening_node i n start)) 0 (range_with_len 1 0),
    )

bounded : (f g : ℕ → ℕ) (first n : ℕ) → ((i : ℕ) → first ≤ i → i < first + n → f i ≤ g i) → sum_by f (range_with_len first n) ≤ sum_by g (range_with_len first n)
bounded f g first zero le = omega arith
bounded f g first (suc n) le =
    omega (
      arith,
      le first (omega arith) (omega arith),
      bounded f g (first + 1) n (λ i low high. le i (omega (arith, low)) (omega (arith, high))),
      sum_by-cons f first (range_with_len (first + 1) n),
      sum_by-cons g first (range_with_len (first + 1) n),
    )

pub few_queued : (start : ℕ) (nodes : List NodeState) (left : List Message) (moves : List Move)
    → Keeps start nodes left moves → sum_by queued_count nodes ≤ length moves
few_queued start nodes left moves keeps =
    let n = length nodes in
    let each = bounded (λ i. queued_count (nodes_of nodes i)) (λ i. length (happened_at i moves)) 1 n
    (λ i low high. omega (arith, events_queue (happened_at i moves) (opening_node i n start) (nodes_of nodes i) (keeps.ends i low (omega (arith, high))), none_at_first i n start)) in
    omega (arith, each, all_events moves 1 n, at_all nodes queued_count)
