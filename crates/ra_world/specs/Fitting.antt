-- Steps that fit together: the steps at each node are its own history, and each message is sent before it is taken, and
-- is taken at most once, or with copies at most once more for each copy.
use Rattle.std.specs.Prelude.{◌≡◌, ◌≢◌, ◌↔◌, ℕ, ◌≤◌, ◌<◌, Bool, IsTrue, List, [], ◌∷◌, ◌++◌, All, AllPairs, Contains, map, take, length, flat_map}
use Rattle.std.specs.List.{filter}
use Rattle.ra_stamp.specs.declared.message.Message.{Message}
use Rattle.ra_node.specs.Node.{NodeState, opening_node}
use Rattle.ra_node.specs.Events.{Happening, NodeEvents}
use Rattle.ra_world.specs.declared.step.Step.{Step}
use Rattle.ra_world.specs.declared.step.Step.TheVariants.{Ask, Leave, Cancel, Deliver, Lose, Repeat, Forget}
use Rattle.ra_world.specs.Traffic.{taken_in, repeated_in}
use Rattle.ra_world.specs.Run.{events_at}

-- the messages that these happenings sent, in order
abbrev pub sent_in : List Happening → List Message
sent_in happenings = flat_map (λ h. h.sends) happenings

-- what a node did in these steps: as many of its happenings as these steps have events of it
abbrev pub happened_by : List Happening → ℕ → List Step → List Happening
happened_by happenings i steps = take (length (flat_map (events_at i) steps)) happenings

-- some node sent the message in these steps
abbrev pub WasSentBy : ℕ → (ℕ → List Happening) → List Step → Message → Type 0
WasSentBy n happened steps message =
    (i : ℕ) × (1 ≤ i) × (i ≤ n) × Contains (sent_in (happened_by (happened i) i steps)) message

-- the step of a client, and to forget, name an existing node
abbrev pub NamesNode : ℕ → Step → Type 0
NamesNode n (Ask node client name mode) = (1 ≤ node) × (node ≤ n)
NamesNode n (Leave node client name) = (1 ≤ node) × (node ≤ n)
NamesNode n (Cancel node client name) = (1 ≤ node) × (node ≤ n)
NamesNode n (Deliver message) = Unit {0}
NamesNode n (Lose message) = Unit {0}
NamesNode n (Repeat message) = Unit {0}
NamesNode n (Forget node) = (1 ≤ node) × (node ≤ n)

-- These steps, and what happened at each node, fit together. What happened is a history of the node, and its events are
-- those of the steps. A client's step names an existing node. Each message that a step takes was sent by the steps
-- before it. No message is taken twice, and no message is repeated.
pub record FitTogether (n start : ℕ) (steps : List Step) (happened : ℕ → List Happening) : Type 0 where
  pub nodes : (i : ℕ) → 1 ≤ i → i ≤ n
      → (node : NodeState) × NodeEvents (opening_node i n start) (happened i) node
  pub events : (i : ℕ) → 1 ≤ i → i ≤ n → map (λ h. h.event) (happened i) ≡ flat_map (events_at i) steps
  pub named : All (NamesNode n) steps
  pub sent : (prefix : List Step) (step : Step) (rest : List Step) → steps ≡ prefix ++ step ∷ rest
      → All (WasSentBy n happened prefix) (taken_in step)
  pub once : AllPairs (λ a b. a ≢ b) (flat_map taken_in steps)
  pub unrepeated : flat_map repeated_in steps ≡ []

-- ---- Steps that repeat messages

-- the test tells this message from all others
abbrev pub TellsApart : (Message → Bool) → Message → Type 0
TellsApart is message = (m : Message) → IsTrue (is m) ↔ (m ≡ message)

-- the message is more often among the first ones than among the others
abbrev pub IsMoreOften : Message → List Message → List Message → Type 0
IsMoreOften message puts takes =
    (is : Message → Bool) → TellsApart is message → length (filter is takes) < length (filter is puts)

-- of one of the nodes: how often it sent the message and these steps repeated it is, together, more than how often they
-- took it
abbrev pub IsLeftBy : ℕ → (ℕ → List Happening) → List Step → Message → Type 0
IsLeftBy n happened steps message =
    (i : ℕ) × (1 ≤ i) × (i ≤ n)
    × IsMoreOften message (sent_in (happened_by (happened i) i steps)
    ++ flat_map repeated_in steps) (flat_map taken_in steps)

-- These steps, and what happened at each node, fit together. What happened is a history of the node, and its events are
-- those of the steps. A client's step names an existing node. Each message that a step takes or repeats was sent and
-- repeated by the steps before it more often than they took it.
pub record FitWithCopies (n start : ℕ) (steps : List Step) (happened : ℕ → List Happening) : Type 0 where
  pub nodes : (i : ℕ) → 1 ≤ i → i ≤ n
      → (node : NodeState) × NodeEvents (opening_node i n start) (happened i) node
  pub events : (i : ℕ) → 1 ≤ i → i ≤ n → map (λ h. h.event) (happened i) ≡ flat_map (events_at i) steps
  pub named : All (NamesNode n) steps
  pub left : (prefix : List Step) (step : Step) (rest : List Step) → steps ≡ prefix ++ step ∷ rest
      → All (IsLeftBy n happened prefix) (taken_in step ++ repeated_in step)
