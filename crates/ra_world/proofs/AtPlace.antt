-- The node at a place of a world, and what is kept when it is put back or changed there.
use Rattle.std.proofs.Common.{◌≡◌, ℕ, ◌+◌, ◌<◌, ◌≤◌, List, ◌++◌, ◌∷◌, [], length, set, get_or, refl, sym, ap, ◌∙◌, subst, arith}
use Rattle.std.proofs.lemmas.List.{set-get_or, length-set}
use Rattle.ra_stamp.specs.declared.message.Message.{Message}
use Rattle.ra_stamp.specs.declared.entry.Mark.{Mark}
use Rattle.ra_stamp.specs.NodeId.{IsNodeNumber}
use Rattle.ra_node.specs.Node.{NodeState, IsConsistentNode}
use Rattle.ra_world.specs.declared.step.Step.{Step}
use Rattle.ra_world.specs.Traffic.{Move}
use Rattle.ra_world.specs.World.{WorldState, with_move}
use Rattle.ra_world.specs.Keeping.{nodes_of, Keeps}
use Rattle.ra_world.proofs.StepTries.{shown, node_here}

-- a place of the nodes as they are lent
pub place_in : (nodes lent : List NodeState) (place : ℕ) → lent ≡ nodes → place < length lent → place < length nodes
place_in nodes lent place same less = subst (λ (ns : List NodeState). place < length ns) same less

-- a number above those of the nodes as they are lent
pub number_above : (start : ℕ) (nodes lent : List NodeState) (moves : List Move) (w : WorldState) (i : ℕ) → shown start nodes moves ≡ w → lent ≡ nodes
    → length lent < i → w.count < i
number_above start nodes lent moves w i is same less =
    subst (λ (v : WorldState). v.count < i) is (subst (λ (ns : List NodeState). length ns < i) same less)

-- the node at a place has a number of theirs
pub number_of : (nodes : List NodeState) (place i : ℕ) → place + 1 ≡ i → place < length nodes → (1 ≤ i) × (i ≤ length nodes)
number_of nodes place i number within = (omega (arith, number), omega (arith, number, within))

-- one node put at the place of a node leaves as many
pub count_with : (nodes : List NodeState) (place : ℕ) (new : NodeState) → IsNodeNumber (length nodes) → IsNodeNumber (length (set nodes place new))
count_with nodes place new count = subst IsNodeNumber (sym (length-set nodes place new)) count

-- what is kept, of lists that are equal to these
pub kept_as : (start : ℕ) (nodes : List NodeState) (left left' : List Message) (moves moves' : List Move) → Keeps start nodes left moves
    → left' ≡ left → moves' ≡ moves → Keeps start nodes left' moves'
kept_as start nodes left left' moves moves' keeps same is =
    subst (λ (ms : List Message). Keeps start nodes ms moves') (sym same) (subst (λ (ms : List Move). Keeps start nodes left ms) (sym is) keeps)

-- the same, and one of the nodes is put at its own place
pub kept_back : (start : ℕ) (nodes : List NodeState) (left left' : List Message) (moves moves' : List Move) (place : ℕ) (old new : NodeState)
    → Keeps start nodes left moves → left' ≡ left → moves' ≡ moves → old ≡ get_or nodes place old → new ≡ old
    → Keeps start (set nodes place new) left' moves'
kept_back start nodes left left' moves moves' place old new keeps same is at back =
    let nodes_are : set nodes place new ≡ nodes = ap (set nodes place) (back ∙ at) ∙ set-get_or nodes place old in
    subst (λ (ns : List NodeState). Keeps start ns left' moves') (sym nodes_are) (kept_as start nodes left left' moves moves' keeps same is)

-- the world after one more move, which changed one of the nodes
pub moved : (start : ℕ) (nodes : List NodeState) (moves before after : List Move) (w : WorldState) (place : ℕ) (new : NodeState) (step : Step)
    (sends : List Message) (marks : List Mark)
    → shown start nodes moves ≡ w → before ≡ moves → after ≡ before ++ record { step = step; sends = sends; marks = marks } ∷ []
    → shown start (set nodes place new) after ≡ with_move w step sends marks
moved start nodes moves before after w place new step sends marks is same more =
    let move : Move = record { step = step; sends = sends; marks = marks } in
    let count : length (set nodes place new) ≡ length nodes = length-set nodes place new in
    let moves_are : after ≡ moves ++ move ∷ [] = more ∙ ap (λ (ms : List Move). ms ++ move ∷ []) same in
    (λ k. record { count = count k; start = start; moves = moves_are k }) ∙ ap (λ (v : WorldState). with_move v step sends marks) is

-- the node at a place, as it is lent, is consistent and knows how many nodes there are
pub known_at : (nodes : List NodeState) (place : ℕ) (old : NodeState) → (nodes_of nodes (place + 1)).nodes ≡ length nodes
    → IsConsistentNode (nodes_of nodes (place + 1)) → place < length nodes → old ≡ get_or nodes place old
    → IsConsistentNode old × (old.nodes ≡ length nodes)
known_at nodes place old many consistent within at =
    let is = node_here nodes place (place + 1) old refl within at in
    (subst IsConsistentNode is consistent, ap (λ (s : NodeState). s.nodes) (sym is) ∙ many)

-- what has room still has it if there is no less
pub sends_fit_still : (sends room spare : ℕ) → sends ≤ room → room ≤ spare → sends ≤ spare
sends_fit_still sends room spare few more = omega arith

-- one more move that sends and marks nothing, for equal lists
pub quiet_move : (moves before after : List Move) (step this : Step) → before ≡ moves → step ≡ this
    → after ≡ before ++ record { step = step; sends = []; marks = [] } ∷ []
    → after ≡ moves ++ record { step = this; sends = []; marks = [] } ∷ []
quiet_move moves before after step this same is more = more ∙ (λ i. same i ++ record { step = is i; sends = []; marks = [] } ∷ [])

-- the world after it
pub moved_quietly : (start : ℕ) (nodes : List NodeState) (moves after : List Move) (w : WorldState) (step : Step) (sends : List Message) (marks : List Mark)
    → shown start nodes moves ≡ w → after ≡ moves ++ record { step = step; sends = []; marks = [] } ∷ [] → sends ≡ [] → marks ≡ []
    → shown start nodes after ≡ with_move w step sends marks
moved_quietly start nodes moves after w step sends marks is more none unmarked =
    ap (shown start nodes) more ∙ ap (λ (v : WorldState). with_move v step [] []) is ∙ sym (λ i. with_move w step (none i) (unmarked i))
