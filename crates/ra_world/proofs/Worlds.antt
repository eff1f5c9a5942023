-- What a world says of the run that it keeps: that it has begun, what its report is, and which steps it accepts.
use Rattle.std.proofs.Common.{◌≡◌, ◌⊎◌, ◌↔◌, ℕ, ◌+◌, ◌-◌, ◌<◌, ◌≤◌, Bool, false, List, [], map, length, get_or, Contains, Option, Some, None, refl, sym, ap, ◌∙◌, subst, arith, inl, inr}
use Rattle.std.specs.Prelude.{IsTrue, IfSome, IsNone, is_some, sum_by}
use Rattle.std.specs.List.{range_with_len}
use Rattle.std.proofs.lemmas.List.{get_or_default}
use Rattle.ra_stamp.specs.declared.message.Message.{Message}
use Rattle.ra_node.specs.Node.{NodeState, opening_node, waiting_count, queued_count}
use Rattle.ra_world.specs.declared.text.report.Report.{Report}
use Rattle.ra_world.specs.declared.step.Step.{Step}
use Rattle.ra_world.specs.declared.step.Step.TheVariants.{Deliver, Lose, Repeat}
use Rattle.ra_world.specs.Traffic.{Move, IsUnderWay, sent_by, lost_by, repeated_by}
use Rattle.ra_world.specs.Run.{GoesOn, marks_of}
use Rattle.ra_world.specs.Quiet.{requests_in, withdrawn_in}
use Rattle.ra_world.specs.World.{Reports, AreWaiting, AreQueued}
use Rattle.ra_world.specs.Keeping.{nodes_of, Keeps}

-- ---- The beginning

pub begins : (n start : ℕ) (nodes : List NodeState) (left : List Message) (moves : List Move)
    → nodes ≡ map (λ i. opening_node i n start) (range_with_len 1 n) → left ≡ [] → moves ≡ []
    → Keeps start (map (λ i. opening_node i n start) (range_with_len 1 n)) [] [] → Keeps start nodes left moves
begins n start nodes left moves nodes_are none_left no_moves keeps =
    subst (λ (ms : List Move). Keeps start nodes left ms) (sym no_moves)
    (subst (λ (ls : List Message). Keeps start nodes ls []) (sym none_left)
    (subst (λ (ns : List NodeState). Keeps start ns [] []) (sym nodes_are) keeps))

-- ---- The report

-- the figures that are counted at the nodes of the list are the figures of the nodes by their numbers
pub reported : (start : ℕ) (nodes : List NodeState) (left : List Message) (moves : List Move) (report : Report)
    → Keeps start nodes left moves
    → ((ns : List NodeState) (f : NodeState → ℕ) → sum_by (λ i. f (nodes_of ns i)) (range_with_len 1 (length ns)) ≡ sum_by f ns)
    → report.marks.items ≡ marks_of moves → report.sent ≡ length (sent_by moves)
    → report.requests ≡ requests_in (marks_of moves) → report.under_way ≡ length left → report.lost ≡ length (lost_by moves)
    → report.repeated ≡ length (repeated_by moves) → report.withdrawn ≡ withdrawn_in (marks_of moves) → report.waiting ≡ sum_by waiting_count nodes → report.queued ≡ sum_by queued_count nodes
    → Reports (length nodes) start moves report
reported start nodes left moves report keeps at_all marks sent requests under_way lost repeated withdrawn waiting queued = record {
  marks = marks;
  sent = sent;
  requests = requests;
  under_way = (left, keeps.under_way, under_way);
  lost = lost;
  repeated = repeated;
  withdrawn = withdrawn;
  at_nodes = (nodes_of nodes, keeps.ends, waiting ∙ sym (at_all nodes waiting_count), queued ∙ sym (at_all nodes queued_count));
}

-- as many requests wait, and as many clients are queued, at the nodes of the list as at the nodes by their numbers
pub waiting_here : (start : ℕ) (nodes : List NodeState) (left : List Message) (moves : List Move) (waiting : ℕ)
    → Keeps start nodes left moves
    → ((ns : List NodeState) (f : NodeState → ℕ) → sum_by (λ i. f (nodes_of ns i)) (range_with_len 1 (length ns)) ≡ sum_by f ns)
    → waiting ≡ sum_by waiting_count nodes → AreWaiting (length nodes) start moves waiting
waiting_here start nodes left moves waiting keeps at_all is = (nodes_of nodes, keeps.ends, is ∙ sym (at_all nodes waiting_count))

pub queued_here : (start : ℕ) (nodes : List NodeState) (left : List Message) (moves : List Move) (queued : ℕ)
    → Keeps start nodes left moves
    → ((ns : List NodeState) (f : NodeState → ℕ) → sum_by (λ i. f (nodes_of ns i)) (range_with_len 1 (length ns)) ≡ sum_by f ns)
    → queued ≡ sum_by queued_count nodes → AreQueued (length nodes) start moves queued
queued_here start nodes left moves queued keeps at_all is = (nodes_of nodes, keeps.ends, is ∙ sym (at_all nodes queued_count))

-- ---- Which steps are accepted

-- if the node is one of the world's, what is asked of it is asked of the node at its place
pub accepted_at : (start : ℕ) (nodes : List NodeState) (moves : List Move) (step : Step) (place node : ℕ) (state : NodeState)
    (P : NodeState → Type 0) (answer : Bool)
    → GoesOn (length nodes) start moves step ↔ (((1 ≤ node) × (node ≤ length nodes)) × P (nodes_of nodes node))
    → place + 1 ≡ node → place < length nodes → state ≡ get_or nodes place state → IsTrue answer ↔ P state
    → IsTrue answer ↔ GoesOn (length nodes) start moves step
accepted_at start nodes moves step place node state P answer law here within state_is tells =
    let at : node - 1 ≡ place = omega (arith, here) in
    let same : nodes_of nodes node ≡ state =
    ap (λ (k : ℕ). get_or nodes k (opening_node 0 0 0)) at ∙ get_or_default nodes place (opening_node 0 0 0) state within ∙ sym state_is in
    let low : 1 ≤ node = omega (arith, here) in
    let high : node ≤ length nodes = omega (arith, here, within) in
    (λ yes. law.1 ((low, high), subst P (sym same) (tells.0 yes)), λ on. tells.1 (subst P same (law.0 on).1))

-- there is no step at a node that there isn't
pub refused_above : (n start : ℕ) (moves : List Move) (step : Step) (node : ℕ) (P : Type 0)
    → GoesOn n start moves step ↔ (((1 ≤ node) × (node ≤ n)) × P) → n < node
    → IsTrue false ↔ GoesOn n start moves step
refused_above n start moves step node P law above =
    (λ yes. absurd (never yes), λ on. absurd (omega (arith, above, (law.0 on).0.1)))
  where
    never : IsTrue false → ⊥
    never e = cc

-- a step that each node there is can make
pub accepted_there : (n start : ℕ) (moves : List Move) (step : Step) (node : ℕ) (found : Option ℕ) (answer : Bool)
    → GoesOn n start moves step ↔ ((1 ≤ node) × (node ≤ n))
    → IfSome found (λ place. (place + 1 ≡ node) × (place < n)) → IsNone found ↔ (n < node) → answer ≡ is_some found
    → IsTrue answer ↔ GoesOn n start moves step
accepted_there n start moves step node None answer law some none is =
    (λ yes. absurd (never (sym is ∙ yes)), λ on. absurd (omega (arith, none.0 refl, (law.0 on).1)))
  where
    never : IsTrue false → ⊥
    never e = cc
accepted_there n start moves step node (Some place) answer law some none is =
    (λ _. law.1 (omega (arith, some.0), omega (arith, some.0, some.1)), λ _. is)

-- a message can be delivered, lost or repeated if it is kept
pub accepted_message : (n start : ℕ) (moves : List Move) (left : List Message) (step : Step) (message : Message) (answer : Bool)
    → GoesOn n start moves (Deliver message) ↔ IsUnderWay moves message
    → GoesOn n start moves (Lose message) ↔ IsUnderWay moves message
    → GoesOn n start moves (Repeat message) ↔ IsUnderWay moves message
    → IsUnderWay moves message ↔ Contains left message → IsTrue answer ↔ Contains left message
    → (step ≡ Deliver message) ⊎ ((step ≡ Lose message) ⊎ (step ≡ Repeat message))
    → IsTrue answer ↔ GoesOn n start moves step
accepted_message n start moves left step message answer deliver lose repeat under tells which = elim which [
  | inl is ↦ by (Deliver message) is deliver
  | inr other ↦ elim other [ inl is ↦ by (Lose message) is lose | inr is ↦ by (Repeat message) is repeat ]
]
  where
    by : (s : Step) → step ≡ s → GoesOn n start moves s ↔ IsUnderWay moves message → IsTrue answer ↔ GoesOn n start moves step
    by s is law =
        subst (λ (x : Step). IsTrue answer ↔ GoesOn n start moves x) (sym is)
        (λ yes. law.1 (under.1 (tells.0 yes)), λ on. tells.1 (under.0 (law.0 on)))
