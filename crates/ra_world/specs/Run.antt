-- Runs of a world: the steps of each node are its events, and what is delivered, lost or repeated is under way.
use Rattle.std.specs.Prelude.{◌≡◌, ℕ, ◌≤◌, List, [], ◌∷◌, ◌++◌, map, sum_by, if◌then◌else◌, ◌==◌}
use Rattle.std.specs.List.{range_with_len}
use Rattle.ra_stamp.specs.declared.message.Message.{Message}
use Rattle.ra_stamp.specs.declared.entry.Mark.{Mark}
use Rattle.ra_stamp.specs.Message.{to_of}
use Rattle.ra_node.specs.Node.{NodeState, opening_node, waiting_count, queued_count}
use Rattle.ra_node.specs.Events.{Event, Happening, NodeEvents}
use Rattle.ra_node.specs.Events.{Event as acts}
use Rattle.ra_world.specs.declared.step.Step.{Step}
use Rattle.ra_world.specs.declared.step.Step.TheVariants.{Ask, Leave, Cancel, Deliver, Lose, Repeat, Forget}
use Rattle.ra_world.specs.Traffic.{Move, IsUnderWay}

-- what happens at a node in a step: one event, or nothing
abbrev pub events_at : ℕ → Step → List Event
events_at i (Ask node client name mode) = if node == i then acts.Ask client name mode ∷ [] else []
events_at i (Leave node client name) = if node == i then acts.Leave client name ∷ [] else []
events_at i (Cancel node client name) = if node == i then acts.Cancel client name ∷ [] else []
events_at i (Deliver message) = if to_of message == i then acts.Receive message ∷ [] else []
events_at i (Lose message) = []
events_at i (Repeat message) = []
events_at i (Forget node) = if node == i then acts.Forget ∷ [] else []

-- what happened at a node, in order
abbrev pub happened_at : ℕ → List Move → List Happening
happened_at i [] = []
happened_at i (move ∷ moves) =
    map (λ event. record { event = event; sends = move.sends; marks = move.marks })
    (events_at i move.step) ++ happened_at i moves

-- the marks of these steps, in order
abbrev pub marks_of : List Move → List Mark
marks_of [] = []
marks_of (move ∷ moves) = move.marks ++ marks_of moves

-- the step of a client, and to forget, name an existing node, a message that is delivered, lost or repeated is under
-- way, and a loss or a repeat sends and marks nothing
abbrev pub IsFit : ℕ → List Move → Step → List Message → List Mark → Type 0
IsFit n before (Ask node client name mode) sends marks = (1 ≤ node) × (node ≤ n)
IsFit n before (Leave node client name) sends marks = (1 ≤ node) × (node ≤ n)
IsFit n before (Cancel node client name) sends marks = (1 ≤ node) × (node ≤ n)
IsFit n before (Deliver message) sends marks = IsUnderWay before message
IsFit n before (Lose message) sends marks = IsUnderWay before message × (sends ≡ []) × (marks ≡ [])
IsFit n before (Repeat message) sends marks = IsUnderWay before message × (sends ≡ []) × (marks ≡ [])
IsFit n before (Forget node) sends marks = (1 ≤ node) × (node ≤ n)

-- each of these moves fits, one after the other, after the moves before
abbrev pub AreFit : ℕ → List Move → List Move → Type 0
AreFit n before [] = Unit {0}
AreFit n before (move ∷ moves) = IsFit n before move.step move.sends move.marks
    × AreFit n (before ++ move ∷ []) moves

-- After these moves the nodes 1 to n are these: each node's own events lead there. It speaks of all nodes at once, so
-- that a law can speak of two nodes, and of a run that goes on.
abbrev pub EndsWith : ℕ → ℕ → List Move → (ℕ → NodeState) → Type 0
EndsWith n start moves nodes = (i : ℕ) → 1 ≤ i → i ≤ n
    → NodeEvents (opening_node i n start) (happened_at i moves) (nodes i)

-- these steps are a run of n nodes from the start value, with these messages and marks
pub record IsRun (n start : ℕ) (moves : List Move) : Type 0 where
  pub each_fits : AreFit n [] moves
  pub ends : (nodes : ℕ → NodeState) × EndsWith n start moves nodes

-- a list of steps is a run, whatever is sent and marked
abbrev pub WorldRun : ℕ → ℕ → List Step → Type 0
WorldRun n start steps = (moves : List Move) × (map (λ move. move.step) moves ≡ steps) × IsRun n start moves

-- a run can continue with a step, whatever is sent and marked
abbrev pub GoesOn : ℕ → ℕ → List Move → Step → Type 0
GoesOn n start moves step =
    (sends : List Message) × (marks : List Mark)
    × IsRun n start (moves ++ record { step = step; sends = sends; marks = marks } ∷ [])

-- how many requests wait at all nodes
abbrev pub waiting_at_all : ℕ → (ℕ → NodeState) → ℕ
waiting_at_all n nodes = sum_by (λ i. waiting_count (nodes i)) (range_with_len 1 n)

-- how many clients are queued at the nodes
abbrev pub queued_at_all : ℕ → (ℕ → NodeState) → ℕ
queued_at_all n nodes = sum_by (λ i. queued_count (nodes i)) (range_with_len 1 n)

-- the same nodes, except that one of them is in another state
abbrev pub with_node : (ℕ → NodeState) → ℕ → NodeState → ℕ → NodeState
with_node nodes i new j = if i == j then new else nodes j
