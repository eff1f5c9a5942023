-- The state that the fields of an automaton represent.
use Rattle.std.specs.Prelude.{◌≡◌, ℕ}
use Rattle.ra_automaton.specs.declared.automaton.Automaton.TheInside.{Inside}
use Rattle.ra_automaton.specs.declared.phase.Phase.{Phase}
use Rattle.ra_automaton.specs.declared.phase.Phase.TheVariants as phase
use Rattle.ra_automaton.specs.declared.phase.Phase.TheVariants.{Idle, Waiting}
use Rattle.ra_automaton.specs.State.{State, IsConsistent}

-- the state of these fields
abbrev pub state_of : Inside → State
state_of a =
    record {
      me = a.member.node;
      nodes = a.member.nodes;
      name = a.name;
      highest = a.highest;
      phase = a.phase;
      awaited = a.awaited;
      deferred = a.deferrals.numbers;
    }

-- how many nodes there is room to defer: each node while the node waits or is inside, and none while it is idle
abbrev pub room_in : Phase → ℕ → ℕ
room_in Idle nodes = 0
room_in (Waiting seq mode) nodes = nodes
room_in (phase.Inside seq mode) nodes = nodes

-- what holds of the fields: there is that much room, and the state is consistent
pub record IsKept (a : Inside) : Type 0 where
  pub room : a.deferrals.room ≡ room_in a.phase a.member.nodes
  pub consistent : IsConsistent (state_of a)
