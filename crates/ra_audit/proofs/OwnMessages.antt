-- What happens at a node in a run sends messages of that node.
use Rattle.std.proofs.Common.{◌≡◌, ℕ, ◌≤◌, Bool, true, false, cond, eqb, List, [], ◌∷◌, ◌++◌, map, refl, sym, subst}
use Rattle.std.specs.Prelude.{All}
use Rattle.std.proofs.lemmas.Bool.{eqb-true}
use Rattle.std.proofs.lemmas.List.{append_assoc}
use Rattle.std.proofs.lemmas.List.Elements.{All-nil, All-cons, All-head, All-tail, All-append, All-weaker}
use Rattle.ra_stamp.specs.declared.message.Message.{Message}
use Rattle.ra_stamp.specs.declared.entry.Mark.{Mark}
use Rattle.ra_stamp.specs.Message.{from_of, to_of}
use Rattle.ra_automaton.specs.State.{IsForNode, IsOtherNode}
use Rattle.ra_node.specs.Node.{NodeState, opening_node, IsConsistentNode}
use Rattle.ra_node.specs.Events.{Event, Happening, NodeEvent, NodeEvents, IsForThisNode, AreForThisNode, name_of_event}
use Rattle.ra_node.specs.Events.{Event as acts}
use Rattle.ra_node.specs.Carried.{IsSend}
use Rattle.ra_world.specs.declared.step.Step.{Step}
use Rattle.ra_world.specs.declared.step.Step.TheVariants.{Ask, Leave, Cancel, Forget, Deliver, Lose, Repeat}
use Rattle.ra_world.specs.Traffic.{Move, IsUnderWay}
use Rattle.ra_world.specs.Run.{IsRun, IsFit, AreFit, events_at, happened_at}
use Rattle.ra_world.specs.Fitting.{sent_in}

for_next : (old next : NodeState) (event : Event) → next.me ≡ old.me → next.nodes ≡ old.nodes → IsForThisNode old event → IsForThisNode next event
for_next old next (acts.Ask client name mode) me nodes h = tt
for_next old next (acts.Leave client name) me nodes h = tt
for_next old next (acts.Cancel client name) me nodes h = tt
for_next old next acts.Forget me nodes h = tt
for_next old next (acts.Receive message) me nodes h =
    subst (λ (k : ℕ). IsForNode k next.nodes message) (sym me) (subst (λ (k : ℕ). IsForNode old.me k message) (sym nodes) h)

module _ (keeps : (old new : NodeState) (event : Event) (sends : List Message) (marks : List Mark) → IsConsistentNode old → IsForThisNode old event → NodeEvent old event sends marks new → IsConsistentNode new)
    (sends_own : (old new : NodeState) (event : Event) (sends : List Message) (marks : List Mark) → IsConsistentNode old → IsForThisNode old event → NodeEvent old event sends marks new
    → All (IsSend old.me old.nodes (name_of_event event)) sends)
    (stays : (old new : NodeState) (event : Event) (sends : List Message) (marks : List Mark) → NodeEvent old event sends marks new → (new.me ≡ old.me) × (new.nodes ≡ old.nodes) × (old.start ≤ new.start)) where
  sent_by_node : (happened : List Happening) (old new : NodeState) → IsConsistentNode old → AreForThisNode old happened → NodeEvents old happened new → All (λ m. from_of m ≡ old.me) (sent_in happened)
  sent_by_node [] old new consistent for events = All-nil _
  sent_by_node (h ∷ happened) old new consistent for events =
      let next = events.0 in
      let here = All-head (λ h. IsForThisNode old h.event) h happened for in
      let same = stays old next h.event h.sends h.marks events.1 in
      let rest =
      sent_by_node happened next new (keeps old next h.event h.sends h.marks consistent here events.1)
      (All-weaker (λ h. IsForThisNode old h.event) (λ h. IsForThisNode next h.event) (λ h. for_next old next h.event same.0 same.1) happened (All-tail (λ h. IsForThisNode old h.event) h happened for))
      events.2
      in
      All-append (λ m. from_of m ≡ old.me) h.sends (sent_in happened)
      (All-weaker (IsSend old.me old.nodes (name_of_event h.event)) (λ m. from_of m ≡ old.me) (λ m is. is.from) h.sends (sends_own old next h.event h.sends h.marks consistent here events.1))
      (subst (λ (k : ℕ). All (λ m. from_of m ≡ k) (sent_in happened)) same.0 rest)

  module _ (n start : ℕ) (prefixes : (prefix rest : List Move) → IsRun n start (prefix ++ rest) → IsRun n start prefix)
      (between : (moves : List Move) (message : Message) → IsRun n start moves → IsUnderWay moves message
      → ((1 ≤ to_of message) × (to_of message ≤ n)) × IsOtherNode (to_of message) n (from_of message)) where
    -- each event of a node in a run is for this node
    for_here : (old : NodeState) → old.nodes ≡ n → (before moves : List Move) → IsRun n start (before ++ moves) → AreFit n before moves → AreForThisNode old (happened_at old.me moves)
    for_here old nodes before [] run fit = All-nil (λ h. IsForThisNode old h.event)
    for_here old nodes before (m ∷ moves) run fit =
        All-append (λ h. IsForThisNode old h.event) (map happening (events_at old.me m.step)) (happened_at old.me moves)
        (at_step m.step fit.0)
        (for_here old nodes (before ++ m ∷ []) moves (subst (IsRun n start) (sym (append_assoc before (m ∷ []) moves)) run) fit.1)
      where
        happening : Event → Happening
        happening event = record { event = event; sends = m.sends; marks = m.marks }

        by_test : (b : Bool) (event : Event) → (b ≡ true → IsForThisNode old event) → All (λ h. IsForThisNode old h.event) (map happening (cond b (event ∷ []) []))
        by_test true event is = All-cons (λ h. IsForThisNode old h.event) (happening event) [] (is refl) (All-nil (λ h. IsForThisNode old h.event))
        by_test false event is = All-nil (λ h. IsForThisNode old h.event)

        at_step : (step : Step) → IsFit n before step m.sends m.marks → All (λ h. IsForThisNode old h.event) (map happening (events_at old.me step))
        at_step (Ask node client name mode) fit = by_test (eqb node old.me) (acts.Ask client name mode) (λ _. tt)
        at_step (Leave node client name) fit = by_test (eqb node old.me) (acts.Leave client name) (λ _. tt)
        at_step (Cancel node client name) fit = by_test (eqb node old.me) (acts.Cancel client name) (λ _. tt)
        at_step (Forget node) fit = by_test (eqb node old.me) acts.Forget (λ _. tt)
        at_step (Deliver message) fit =
            by_test (eqb (to_of message) old.me) (acts.Receive message)
            (λ same.
            let to : to_of message ≡ old.me = eqb-true (to_of message) old.me same in
            let other = (between before message (prefixes before (m ∷ moves) run) fit).1 in
            record {
              to = to;
              from = subst (λ (k : ℕ). IsOtherNode old.me k (from_of message)) (sym nodes)
                  (subst (λ (k : ℕ). IsOtherNode k n (from_of message)) to other);
            })
        at_step (Lose message) fit = All-nil (λ h. IsForThisNode old h.event)
        at_step (Repeat message) fit = All-nil (λ h. IsForThisNode old h.event)

    pub own : ((i : ℕ) → (1 ≤ i) × (i ≤ n) → IsConsistentNode (opening_node i n start)) → (moves : List Move) (i : ℕ) → IsRun n start moves → 1 ≤ i → i ≤ n
        → All (λ m. from_of m ≡ i) (sent_in (happened_at i moves))
    own opens moves i run low high =
        sent_by_node (happened_at i moves) (opening_node i n start) (run.ends.0 i) (opens i (low, high))
        (for_here (opening_node i n start) refl [] moves run run.each_fits) (run.ends.1 i low high)
