-- One resource at one node, as the algorithm sees it (G. Ricart and A. K. Agrawala, CACM 24(1), 1981).
use Rattle.std.specs.Prelude.{◌≡◌, ℕ, ◌≤◌, List, Some, IsTrue, refl}
use Rattle.std.specs.Coded.{Coded, code_by, coded×, coded_ℕ, coded_list}
use Rattle.std.specs.Ordering.{nat_cmp}
use Rattle.std.specs.FinSet as set
use Rattle.std.specs.FinMap as map
use Rattle.ra_stamp.specs.declared.message.Message.{Message}
use Rattle.ra_stamp.specs.Message.{from_of, to_of}
use Rattle.ra_stamp.specs.NodeId.{IsNodeNumber}
use Rattle.ra_automaton.specs.declared.phase.Phase.{Phase}
use Rattle.ra_automaton.specs.declared.phase.Phase.TheVariants.{Idle, Waiting, Inside}

-- The node's number, how many nodes there are, the resource's name, the highest number that the node has met, and what
-- the node is doing. Then the nodes whose REPLY it awaits, and those to which it has deferred a REPLY, each with the
-- number of its request.
pub record State : Type 0 where
  pub me : ℕ
  pub nodes : ℕ
  pub name : List ℕ
  pub highest : ℕ
  pub phase : Phase
  pub awaited : set.FinSet nat_cmp
  pub deferred : map.FinMap nat_cmp ℕ

-- the node is another one of the nodes 1 to `nodes`
pub record IsOtherNode (me nodes node : ℕ) : Type 0 where
  pub first : 1 ≤ node
  pub last : node ≤ nodes
  pub other : node ≡ me → ⊥

-- the same, for the node and the number of nodes of a state
abbrev pub IsOther : State → ℕ → Type 0
IsOther s node = IsOtherNode s.me s.nodes node

-- the message is for this node, and from another one
pub record IsForNode (me nodes : ℕ) (message : Message) : Type 0 where
  pub to : to_of message ≡ me
  pub from : IsOtherNode me nodes (from_of message)

-- the same, for the node and the number of nodes of a state
abbrev pub IsAddressed : State → Message → Type 0
IsAddressed s message = IsForNode s.me s.nodes message

-- the node's request awaits REPLYs
abbrev pub IsWaitingPhase : Phase → Type 0
IsWaitingPhase Idle = ⊥
IsWaitingPhase (Waiting seq mode) = Unit {0}
IsWaitingPhase (Inside seq mode) = ⊥

-- the node's request is granted
abbrev pub IsInside : Phase → Type 0
IsInside Idle = ⊥
IsInside (Waiting seq mode) = ⊥
IsInside (Inside seq mode) = Unit {0}

-- the phase of a node that enters: its waiting request becomes a granted one, with the same number and mode
abbrev pub entered_phase : Phase → Phase
entered_phase Idle = Idle
entered_phase (Waiting seq mode) = Inside seq mode
entered_phase (Inside seq mode) = Inside seq mode

-- the number of the node's request, if it has one, is 1 or more, and at most this highest number
abbrev pub HasNumber : Phase → ℕ → Type 0
HasNumber Idle highest = Unit {0}
HasNumber (Waiting seq mode) highest = (1 ≤ seq) × (seq ≤ highest)
HasNumber (Inside seq mode) highest = (1 ≤ seq) × (seq ≤ highest)

-- a node that has met nothing yet
abbrev pub opening : ℕ → ℕ → List ℕ → ℕ → State
opening me nodes name start =
    record {
      me = me;
      nodes = nodes;
      name = name;
      highest = start;
      phase = Idle;
      awaited = set.empty;
      deferred = map.empty;
    }

-- what holds of every state that a node can be in
pub record IsConsistent (s : State) : Type 0 where
  pub count : IsNodeNumber s.nodes
  pub member : (1 ≤ s.me) × (s.me ≤ s.nodes)
  -- each awaited node and each deferred one is another node
  pub awaited_others : (node : ℕ) → IsTrue (set.contains s.awaited node) → IsOther s node
  pub deferred_others : (node number : ℕ) → map.get s.deferred node ≡ Some number → IsOther s node
  -- the number of a deferral is 1 or more, and at most the highest that the node has met
  pub deferred_numbers : (node number : ℕ) → map.get s.deferred node ≡ Some number
      → (1 ≤ number) × (number ≤ s.highest)
  -- a node awaits REPLYs exactly while it waits, and defers no REPLY while it is idle
  pub awaits : IsWaitingPhase s.phase → s.awaited ≡ set.empty → ⊥
  pub awaits_only : (IsWaitingPhase s.phase → ⊥) → s.awaited ≡ set.empty
  pub defers_only : s.phase ≡ Idle → s.deferred ≡ map.empty
  -- the number of its request is 1 or more, and at most the highest that it has met
  pub numbered : HasNumber s.phase s.highest

-- a state is stored as its fields
abbrev pub state_code : Coded Phase → Coded State
state_code phase =
    code_by
    (ℕ × (ℕ × (List ℕ × (ℕ × (Phase × (set.FinSet nat_cmp × map.FinMap nat_cmp ℕ))))))
    (coded× coded_ℕ (coded× coded_ℕ (coded× (coded_list coded_ℕ) (coded× coded_ℕ
    (coded× phase (coded× (set.code coded_ℕ) (map.code coded_ℕ coded_ℕ)))))))
    (λ s. (s.me, (s.nodes, (s.name, (s.highest, (s.phase, (s.awaited, s.deferred)))))))
    (λ p. record {
      me = p.0;
      nodes = p.1.0;
      name = p.1.1.0;
      highest = p.1.1.1.0;
      phase = p.1.1.1.1.0;
      awaited = p.1.1.1.1.1.0;
      deferred = p.1.1.1.1.1.1;
    })
    (λ _. refl)
