-- How many messages and marks a turn can make.
use Rattle.std.proofs.Common.{◌≡◌, ℕ, suc, ◌+◌, ◌-◌, ◌*◌, ◌<◌, ◌≤◌, Bool, true, false, cond, not, T, List, [], ◌∷◌, All, length, filter, refl, sym, subst, arith, inl, inr}
use Rattle.std.specs.Prelude.{◌==◌}
use Rattle.std.specs.List.{range_with_len}
use Rattle.std.specs.declared.cmp.Ordering.TheVariants.{Less, Equal, Greater}
use Rattle.std.specs.Ordering.{nat_cmp, is_lt}
use Rattle.std.specs.Cmp.{ranked}
use Rattle.std.specs.FinMap as finmap
use Rattle.std.specs.FinMap.Entries.{is_sorted, below_all}
use Rattle.std.proofs.lemmas.List.{length-map, length-append}
use Rattle.std.proofs.lemmas.List.Elements.{All-nil, All-cons, All-head, All-tail, All-weaker}
use Rattle.std.proofs.lemmas.List.FromFn.{length-range_with_len}
use Rattle.ra_stamp.specs.declared.entry.Entry.{Entry}
use Rattle.ra_stamp.specs.declared.entry.Mark.{Mark}
use Rattle.ra_stamp.specs.declared.message.Message.{Message}
use Rattle.ra_stamp.specs.declared.message.Message.TheVariants.{Request, Reply}
use Rattle.ra_stamp.specs.declared.mode.Mode.{Mode}
use Rattle.ra_automaton.specs.State.{State, IsOther, IsConsistent}
use Rattle.ra_automaton.specs.Steps.{others_of, RequestStep, ReceiveStep}
use Rattle.ra_automaton.proofs.Ending.{EndStep}
use Rattle.ra_stamp.specs.declared.entry.Mark.TheVariants.{Left, Withdrawn}
use Rattle.ra_node.specs.Resource.{Resource}
use Rattle.ra_node.specs.Turns.{request_marks, next_entry, EntersBy, AsksAtOnce, AskTurn, Leaves, Withdraws, EndTurn, LeaveTurn, CancelTurn, ReceiveTurn}
use Rattle.ra_node.proofs.Endings.{AreEnded, leaves_ended, withdraws_ended}
use Rattle.ra_node.proofs.Kept.{end_keeps}
use Rattle.ra_node.proofs.Lookups.{true_of}
use Rattle.ra_node.proofs.Sends.{all_deferred}

filter_is_shorter : (p : ℕ → Bool) (xs : List ℕ) → length (filter p xs) ≤ length xs
filter_is_shorter p [] = omega arith
filter_is_shorter p (x ∷ xs) =
    let rest = filter_is_shorter p xs in
    elim (p x) as (λ b. length (cond b (x ∷ filter p xs) (filter p xs)) ≤ suc (length xs)) [
      | true ↦ omega (arith, rest)
      | false ↦ omega (arith, rest)
    ]

others_room : (me nodes : ℕ) → length (others_of me nodes) ≤ nodes
others_room me nodes = omega (arith, filter_is_shorter (λ node. not (node == me)) (range_with_len 1 nodes), length-range_with_len 1 nodes)

less_of : (a b : ℕ) → T (is_lt (nat_cmp a b)) → a < b
less_of a b lt =
    elim (nat_cmp a b) as (λ r. r ≡ nat_cmp a b → T (is_lt r) → a < b) [
      | Less ↦ λ e _. ranked a b Less e
      | Equal ↦ λ _ k. absurd k
      | Greater ↦ λ _ k. absurd k
    ] refl lt

above_key : (k last : ℕ) (es : List (ℕ × ℕ)) → T (below_all nat_cmp k es) → All (λ e. e.0 ≤ last) es → All (λ e. (k + 1 ≤ e.0) × (e.0 ≤ last)) es
above_key k last [] below high = All-nil (λ e. (k + 1 ≤ e.0) × (e.0 ≤ last))
above_key k last (e ∷ es) below high =
    let both = true_of (is_lt (nat_cmp k e.0)) (below_all nat_cmp k es) below in
    All-cons (λ x. (k + 1 ≤ x.0) × (x.0 ≤ last)) e es (omega (arith, less_of k e.0 both.0), All-head (λ x. x.0 ≤ last) e es high) (above_key k last es both.1 (All-tail (λ x. x.0 ≤ last) e es high))

-- rising keys from a first to a last number are no more than there are numbers
rising_room : (es : List (ℕ × ℕ)) (first last : ℕ) → T (is_sorted nat_cmp es) → All (λ e. (first ≤ e.0) × (e.0 ≤ last)) es → length es ≤ (last + 1) - first
rising_room [] first last sorted all = omega arith
rising_room (e ∷ es) first last sorted all =
    let both = true_of (below_all nat_cmp e.0 es) (is_sorted nat_cmp es) sorted in
    let head = All-head (λ x. (first ≤ x.0) × (x.0 ≤ last)) e es all in
    let high = All-weaker (λ x. (first ≤ x.0) × (x.0 ≤ last)) (λ x. x.0 ≤ last) (λ x h. h.1) es (All-tail (λ x. (first ≤ x.0) × (x.0 ≤ last)) e es all) in
    let rest = rising_room es (e.0 + 1) last both.1 (above_key e.0 last es both.0 high) in
    omega (arith, rest, head.0, head.1)

deferred_room : (s : State) → IsConsistent s → length (finmap.entries s.deferred) ≤ s.nodes
deferred_room s h =
    let within = All-weaker (λ e. IsOther s e.0 × (1 ≤ e.1)) (λ e. (1 ≤ e.0) × (e.0 ≤ s.nodes)) (λ e k. (k.0.first, k.0.last)) (finmap.entries s.deferred) (all_deferred s h) in
    omega (arith, rising_room (finmap.entries s.deferred) 1 s.nodes (finmap.entries_sorted s.deferred) within)

request_room : (old : State) (mode : Mode) (sends : List Message) (entered : Bool) (new : State) → RequestStep old mode sends entered new → length sends ≤ old.nodes
request_room old mode sends entered new step =
    subst (λ (ms : List Message). length ms ≤ old.nodes) (sym step.sends_are)
    (subst (λ (k : ℕ). k ≤ old.nodes) (sym (length-map (others_of old.me old.nodes) (λ other. Request old.me other old.name mode (old.highest + 1)))) (others_room old.me old.nodes))

end_room : (old : State) (sends : List Message) (new : State) → IsConsistent old → EndStep old sends new → length sends ≤ old.nodes
end_room old sends new h step =
    subst (λ (ms : List Message). length ms ≤ old.nodes) (sym step.sends_are)
    (subst (λ (k : ℕ). k ≤ old.nodes) (sym (length-map (finmap.entries old.deferred) (λ (e : ℕ × ℕ). Reply old.me e.0 old.name e.1))) (deferred_room old h))

request_marks_room : (entered : Bool) (e : Entry) → length (request_marks entered e) ≤ 2
request_marks_room false e = omega arith
request_marks_room true e = omega arith

asks_room : (old : Resource) (client : ℕ) (mode : Mode) (sends : List Message) (marks : List Mark) (new : Resource) → AsksAtOnce old client mode sends marks new → (length sends ≤ old.state.nodes) × (length marks ≤ 2)
asks_room old client mode sends marks new asks =
    (request_room old.state mode sends asks.entered new.state asks.step, subst (λ (ms : List Mark). length ms ≤ 2) (sym asks.marks_are) (request_marks_room asks.entered (next_entry old client mode)))

pub ask_room : (old : Resource) (client : ℕ) (mode : Mode) (sends : List Message) (marks : List Mark) (new : Resource) → AskTurn old client mode sends marks new → (length sends ≤ old.state.nodes) × (length marks ≤ 2)
ask_room old client mode sends marks new turn =
    elim turn.1 [
      | inl asks ↦ asks_room old client mode sends marks new asks
      | inr queues ↦ (subst (λ (ms : List Message). length ms ≤ old.state.nodes) (sym queues.sends_are) (omega arith), subst (λ (ms : List Mark). length ms ≤ 2) (sym queues.marks_are) (omega arith))
    ]

end_turn_room : (Ends : Entry → List Message → Resource → Type 0) (mark : Entry → Mark) (old : Resource) → AreEnded old Ends → (sends : List Message) (marks : List Mark) (new : Resource) → IsConsistent old.state → EndTurn Ends mark old sends marks new
    → (length sends ≤ 2 * old.state.nodes) × (length marks ≤ 3)
end_turn_room Ends mark old ended sends marks new h turn =
    elim turn [
      | inl nobody ↦
          let replies = end_room old.state sends new.state h (ended nobody.entry sends new nobody.ends).step in
          (omega (arith, replies), subst (λ (ms : List Mark). length ms ≤ 3) (sym nobody.marks_are) (omega arith))
      | inr hands ↦
          let step = (ended hands.entry hands.replies hands.between hands.ends).step in
          let replies = end_room old.state hands.replies hands.between.state h step in
          let asked = asks_room (record hands.between { queue = hands.rest }) hands.next.client hands.next.mode hands.requests hands.asked new hands.asks in
          let nodes = (end_keeps old.state hands.replies hands.between.state step).nodes_is in (
            subst (λ (ms : List Message). length ms ≤ 2 * old.state.nodes) (sym hands.sends_are) (omega (arith, length-append hands.replies hands.requests, replies, asked.0, nodes)),
            subst (λ (ms : List Mark). length ms ≤ 3) (sym hands.marks_are) (omega (arith, asked.1)),
          )
    ]

pub leave_turn_room : (old : Resource) (client : ℕ) (sends : List Message) (marks : List Mark) (new : Resource) → IsConsistent old.state → LeaveTurn old client sends marks new
    → (length sends ≤ 2 * old.state.nodes) × (length marks ≤ 3)
leave_turn_room old client sends marks new h turn = end_turn_room (Leaves old client) Left old (leaves_ended old client) sends marks new h turn

pub cancel_turn_room : (old : Resource) (client : ℕ) (sends : List Message) (marks : List Mark) (new : Resource) → IsConsistent old.state → CancelTurn old client sends marks new
    → (length sends ≤ 2 * old.state.nodes) × (length marks ≤ 3)
cancel_turn_room old client sends marks new h turn =
    elim turn [
      | inl goes ↦ (subst (λ (ms : List Message). length ms ≤ 2 * old.state.nodes) (sym goes.sends_are) (omega arith), subst (λ (ms : List Mark). length ms ≤ 3) (sym goes.marks_are) (omega arith))
      | inr ends ↦ end_turn_room (Withdraws old client) Withdrawn old (withdraws_ended old client) sends marks new h ends
    ]

receive_step_room : (old : State) (message : Message) (sends : List Message) (entered : Bool) (new : State) → ReceiveStep old message sends entered new → length sends ≤ 1
receive_step_room old (Request from to name mode seq) sends entered new step =
    elim step.1 [
      | inl defers ↦ subst (λ (ms : List Message). length ms ≤ 1) (sym defers.sends_are) (omega arith)
      | inr replies ↦ subst (λ (ms : List Message). length ms ≤ 1) (sym replies.sends_are) (omega arith)
    ]
receive_step_room old (Reply from to name seq) sends entered new step = subst (λ (ms : List Message). length ms ≤ 1) (sym step.0) (omega arith)

enters_room : (entered : Bool) (new : Resource) (marks : List Mark) → EntersBy entered new marks → length marks ≤ 1
enters_room false new marks enters = subst (λ (ms : List Mark). length ms ≤ 1) (sym enters) (omega arith)
enters_room true new marks enters = subst (λ (ms : List Mark). length ms ≤ 1) (sym enters.2) (omega arith)

pub receive_room : (old : Resource) (message : Message) (sends : List Message) (marks : List Mark) (new : Resource) → ReceiveTurn old message sends marks new → (length sends ≤ 1) × (length marks ≤ 1)
receive_room old message sends marks new turn = (receive_step_room old.state message sends turn.entered new.state turn.step, enters_room turn.entered new marks turn.enters)
