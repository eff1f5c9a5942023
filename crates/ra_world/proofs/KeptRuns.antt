-- What a world keeps of its run, at the beginning and after one more step.
use Rattle.std.proofs.Common.{eq-eqb, ◌≡◌, ◌≢◌, ℕ, ◌+◌, ◌-◌, ◌<◌, ◌≤◌, cond, List, [], ◌∷◌, ◌++◌, map, length, set, get_or, Contains, refl, sym, ap, ◌∙◌, subst, arith, inl, inr}
use Rattle.std.specs.List.{range_with_len}
use Rattle.std.proofs.lemmas.List.{append-nil, length-append, length-set, get_or-set_same, get_or-set_other, get_or_at}
use Rattle.std.proofs.lemmas.List.FromFn.{length-map-range_with_len, get_or-map-range_with_len}
use Rattle.ra_stamp.specs.declared.message.Message.{Message}
use Rattle.ra_stamp.specs.Message.{to_of, from_of}
use Rattle.ra_stamp.specs.NodeId.{IsNodeNumber}
use Rattle.ra_bag.specs.Bag.{TakesFirst, TakesOne}
use Rattle.ra_automaton.specs.State.{IsForNode, IsOtherNode}
use Rattle.ra_node.specs.Node.{NodeState, opening_node}
use Rattle.ra_node.specs.Events.{Event, Happening, NodeEvent, NodeEvents}
use Rattle.ra_world.specs.declared.step.Step.TheVariants.{Lose, Repeat}
use Rattle.ra_world.specs.Traffic.{Move, TakesEach, LeavesUnderWay, IsUnderWay, put_in, put_by, taken_in, taken_by, sent_by, repeated_by}
use Rattle.ra_world.specs.Run.{IsRun, IsFit, EndsWith, events_at, happened_at, with_node}
use Rattle.ra_world.specs.Keeping.{nodes_of, Keeps}
use Rattle.std.proofs.lemmas.Bool.{ne_eqb}
use Rattle.ra_automaton.proofs.Apart.{cases_same}
use Rattle.std.specs.Prelude.{AllPairs}
use Rattle.ra_world.proofs.Moves.{put_is_sent, event_copies_nothing}
use Rattle.ra_world.proofs.DifferentLists.{left_different, first_at}

-- ---- The beginning

abbrev first_nodes : ℕ → ℕ → List NodeState
first_nodes n start = map (λ i. opening_node i n start) (range_with_len 1 n)

opening_of : (n start i : ℕ) → 1 ≤ i → i ≤ n → nodes_of (first_nodes n start) i ≡ opening_node i n start
opening_of n start i low high = get_or-map-range_with_len (λ k. opening_node k n start) 1 n (i - 1) i (opening_node 0 0 0) (omega (arith, low, high)) (omega (arith, low))

pub opened : (n start : ℕ) → IsNodeNumber n → Keeps start (first_nodes n start) [] []
opened n start count =
    let many : n ≡ length (first_nodes n start) = sym (length-map-range_with_len (λ i. opening_node i n start) 1 n) in
    let ends : EndsWith (length (first_nodes n start)) start [] (nodes_of (first_nodes n start)) =
    subst (λ (k : ℕ). EndsWith k start [] (nodes_of (first_nodes n start))) many (λ i low high. opening_of n start i low high) in
    record {
      count = subst IsNodeNumber many count;
      run = record { each_fits = tt; ends = (nodes_of (first_nodes n start), ends) };
      ends = ends;
      under_way = refl;
    }

-- ---- One more step

-- the nodes with one of them changed, in the list and by their numbers
set_node : (nodes : List NodeState) (place i : ℕ) (new : NodeState) → place < length nodes → 1 ≤ i
    → with_node (nodes_of nodes) (place + 1) new i ≡ nodes_of (set nodes place new) i
set_node nodes place i new within low =
    elim (cases_same (place + 1) i) [
      | inl is ↦
          let at : i - 1 ≡ place = omega (arith, is) in
          ap (λ b. cond b new (nodes_of nodes i)) (eq-eqb (place + 1) i is)
          ∙ sym (get_or-set_same nodes place new (opening_node 0 0 0) within)
          ∙ ap (λ (k : ℕ). get_or (set nodes place new) k (opening_node 0 0 0)) (sym at)
      | inr apart ↦
          let other : i - 1 ≢ place = λ e. apart (omega (arith, e, low)) in
          ap (λ b. cond b new (nodes_of nodes i)) (ne_eqb (place + 1) i apart)
          ∙ sym (get_or-set_other nodes place (i - 1) new (opening_node 0 0 0) other)
    ]

module _
    (go_on : (moves : List Move) (move : Move) (left next : List Message) → LeavesUnderWay moves left
    → TakesEach left (taken_in move.step) next → LeavesUnderWay (moves ++ move ∷ []) (next ++ put_in move))
    (by_event : (n start : ℕ) (moves : List Move) (nodes : ℕ → NodeState) (i : ℕ) (event : Event) (move : Move) (new : NodeState)
    → IsNodeNumber n → IsRun n start moves → EndsWith n start moves nodes
    → 1 ≤ i → i ≤ n → IsFit n moves move.step move.sends move.marks → events_at i move.step ≡ event ∷ []
    → NodeEvent (nodes i) event move.sends move.marks new
    → IsRun n start (moves ++ move ∷ []) × EndsWith n start (moves ++ move ∷ []) (with_node nodes i new))
    (by_loss : (n start : ℕ) (moves : List Move) (nodes : ℕ → NodeState) (message : Message)
    → IsRun n start moves → EndsWith n start moves nodes → IsUnderWay moves message
    → IsRun n start (moves ++ record { step = Lose message; sends = []; marks = [] } ∷ [])
    × EndsWith n start (moves ++ record { step = Lose message; sends = []; marks = [] } ∷ []) nodes)
    (by_copy : (n start : ℕ) (moves : List Move) (nodes : ℕ → NodeState) (message : Message)
    → IsRun n start moves → EndsWith n start moves nodes → IsUnderWay moves message
    → IsRun n start (moves ++ record { step = Repeat message; sends = []; marks = [] } ∷ [])
    × EndsWith n start (moves ++ record { step = Repeat message; sends = []; marks = [] } ∷ []) nodes)
  where
    pub after_event : (start : ℕ) (nodes : List NodeState) (left next : List Message) (moves : List Move) (move : Move)
        (place : ℕ) (event : Event) (new : NodeState) → Keeps start nodes left moves → place < length nodes
        → IsFit (length nodes) moves move.step move.sends move.marks → events_at (place + 1) move.step ≡ event ∷ []
        → NodeEvent (nodes_of nodes (place + 1)) event move.sends move.marks new → TakesEach left (taken_in move.step) next
        → Keeps start (set nodes place new) (next ++ move.sends) (moves ++ move ∷ [])
    after_event start nodes left next moves move place event new keeps within fit here happened takes =
        let n = length nodes in
        let on = by_event n start moves (nodes_of nodes) (place + 1) event move new keeps.count keeps.run keeps.ends (omega arith) (omega (arith, within)) fit here happened in
        let many : n ≡ length (set nodes place new) = sym (length-set nodes place new) in
        let ends : EndsWith n start (moves ++ move ∷ []) (nodes_of (set nodes place new)) =
        λ i low high. subst (λ (s : NodeState). NodeEvents (opening_node i n start) (happened_at i (moves ++ move ∷ [])) s) (set_node nodes place i new within low) (on.1 i low high) in
        record {
          count = subst IsNodeNumber many keeps.count;
          run = subst (λ (k : ℕ). IsRun k start (moves ++ move ∷ [])) many on.0;
          ends = subst (λ (k : ℕ). EndsWith k start (moves ++ move ∷ []) (nodes_of (set nodes place new))) many ends;
          under_way = subst (λ (ms : List Message). LeavesUnderWay (moves ++ move ∷ []) (next ++ ms))
              (ap (λ (ms : List Message). move.sends ++ ms) (event_copies_nothing (place + 1) move.step event here) ∙ append-nil move.sends)
              (go_on moves move left next keeps.under_way takes);
        }

    contains_first : (left next : List Message) (message : Message) → TakesFirst left message next → Contains left message
    contains_first left next message takes =
        subst (λ (ms : List Message). Contains ms message) (sym takes.old_is)
        (length takes.prefix, omega (arith, length-append takes.prefix (message ∷ takes.suffix)), get_or_at takes.prefix message takes.suffix message (length takes.prefix) refl)

    pub after_loss : (start : ℕ) (nodes : List NodeState) (left next : List Message) (moves : List Move) (message : Message)
        → Keeps start nodes left moves → TakesFirst left message next
        → Keeps start nodes next (moves ++ record { step = Lose message; sends = []; marks = [] } ∷ [])
    after_loss start nodes left next moves message keeps takes =
        let n = length nodes in
        let move : Move = record { step = Lose message; sends = []; marks = [] } in
        let under_way : IsUnderWay moves message = (left, keeps.under_way, contains_first left next message takes) in
        let on = by_loss n start moves (nodes_of nodes) message keeps.run keeps.ends under_way in
        record {
          count = keeps.count;
          run = on.0;
          ends = on.1;
          under_way = subst (λ (ms : List Message). LeavesUnderWay (moves ++ move ∷ []) ms) (append-nil next)
              (go_on moves move left next keeps.under_way (next, takes, refl));
        }

    pub after_copy : (start : ℕ) (nodes : List NodeState) (left : List Message) (moves : List Move) (message : Message)
        → Keeps start nodes left moves → Contains left message
        → Keeps start nodes (left ++ message ∷ []) (moves ++ record { step = Repeat message; sends = []; marks = [] } ∷ [])
    after_copy start nodes left moves message keeps there =
        let move : Move = record { step = Repeat message; sends = []; marks = [] } in
        let on = by_copy (length nodes) start moves (nodes_of nodes) message keeps.run keeps.ends (left, keeps.under_way, there) in
        record { count = keeps.count; run = on.0; ends = on.1; under_way = go_on moves move left left keeps.under_way refl }

-- ---- Which node it is

module _
    (who : (old new : NodeState) (event : Event) (sends : List Message) (marks : List _) → NodeEvent old event sends marks new
    → (new.me ≡ old.me) × (new.nodes ≡ old.nodes) × (old.start ≤ new.start))
  where
    pub stays : (hs : List Happening) (old new : NodeState) → NodeEvents old hs new → (new.me ≡ old.me) × (new.nodes ≡ old.nodes)
    stays [] old new e = (ap (λ (s : NodeState). s.me) e, ap (λ (s : NodeState). s.nodes) e)
    stays (h ∷ hs) old new e =
        let one = who old e.0 h.event h.sends h.marks e.1 in
        let rest = stays hs e.0 new e.2 in
        (rest.0 ∙ one.0, rest.1 ∙ one.1)

    pub counts : (start : ℕ) (nodes : List NodeState) (left : List Message) (moves : List Move) (place : ℕ)
        → Keeps start nodes left moves → place < length nodes → (nodes_of nodes (place + 1)).nodes ≡ length nodes
    counts start nodes left moves place keeps within =
        let i = place + 1 in
        (stays (happened_at i moves) (opening_node i (length nodes) start) (nodes_of nodes i) (keeps.ends i (omega arith) (omega (arith, within)))).1

    pub is_taken : (between : (n start : ℕ) (moves : List Move) (message : Message)
        → IsNodeNumber n → IsRun n start moves → IsUnderWay moves message
        → ((1 ≤ to_of message) × (to_of message ≤ n)) × IsOtherNode (to_of message) n (from_of message))
        → (start : ℕ) (nodes : List NodeState) (left : List Message) (moves : List Move) (message : Message)
        → Keeps start nodes left moves → Contains left message → (to_of message ≤ length nodes)
        × IsForNode (nodes_of nodes (to_of message)).me (nodes_of nodes (to_of message)).nodes message
    is_taken between start nodes left moves message keeps contains =
        let n = length nodes in
        let at = between n start moves message keeps.count keeps.run (left, keeps.under_way, contains) in
        let to = to_of message in
        let own = stays (happened_at to moves) (opening_node to n start) (nodes_of nodes to) (keeps.ends to at.0.0 at.0.1) in (
          at.0.1,
          record {
            to = sym own.0;
            from = subst (λ (k : ℕ). IsOtherNode k (nodes_of nodes to).nodes (from_of message)) (sym own.0)
                (subst (λ (k : ℕ). IsOtherNode to k (from_of message)) (sym own.1) at.1);
          },
        )

-- ---- What is taken

pub taken_first : ((n start : ℕ) (moves : List Move) → IsNodeNumber n → IsRun n start moves → repeated_by moves ≡ [] → AllPairs (λ a b. a ≢ b) (sent_by moves))
    → (start : ℕ) (nodes : List NodeState) (left next : List Message) (moves : List Move) (message : Message)
    → Keeps start nodes left moves → repeated_by moves ≡ [] → TakesOne left message next → TakesFirst left message next
taken_first differ start nodes left next moves message keeps unrepeated (place, within, is, gone) =
    let different = subst (AllPairs (λ a b. a ≢ b)) (sym (put_is_sent moves unrepeated)) (differ (length nodes) start moves keeps.count keeps.run unrepeated) in
    subst (λ (ms : List Message). TakesFirst left message ms) (sym gone)
    (first_at left place message (left_different (put_by moves) (taken_by moves) left keeps.under_way different) within is)
