-- A node that is idle, awaits nobody and has deferred nobody is consistent.
use Rattle.std.proofs.Common.{ℕ, ◌≤◌, List, refl, rules}
use Rattle.std.specs.FinSet.{members}
use Rattle.std.specs.FinMap.{gets}
use Rattle.ra_stamp.specs.NodeId.{IsNodeNumber}
use Rattle.ra_automaton.specs.State.{opening, IsConsistent}

pub opening_is_consistent : (me nodes : ℕ) (name : List ℕ) (start : ℕ) → IsNodeNumber nodes → IsNodeNumber me → me ≤ nodes → IsConsistent (opening me nodes name start)
opening_is_consistent me nodes name start n m le =
    record {
      count = n;
      member = (m.0, le);
      awaited_others = λ node h. absurd (grind (members, rules));
      deferred_others = λ node number h. absurd (grind (gets, rules));
      deferred_numbers = λ node number h. absurd (grind (gets, rules));
      awaits = λ waiting e. waiting;
      awaits_only = λ _. refl;
      defers_only = λ _. refl;
      numbered = tt;
    }
