-- A resource that nothing was about yet is consistent.
use Rattle.std.proofs.Common.{ℕ, ◌≤◌, List, refl, arith}
use Rattle.ra_stamp.specs.NodeId.{IsNodeNumber}
use Rattle.ra_automaton.proofs.Opening.{opening_is_consistent}
use Rattle.ra_node.specs.Resource.{unmet, IsConsistentResource}

pub unmet_is_consistent : (me nodes : ℕ) (name : List ℕ) (start : ℕ) → IsNodeNumber nodes → (1 ≤ me) × (me ≤ nodes) → IsConsistentResource me nodes name start (unmet me nodes name start)
unmet_is_consistent me nodes name start count member =
    record {
      state = opening_is_consistent me nodes name start count (member.0, omega (arith, member.1, count.1)) member.1;
      me_is = refl;
      nodes_is = refl;
      name_is = refl;
      from_start = omega arith;
      client_fits = refl;
      once = λ i j d before within. absurd (omega (arith, within));
      queue_stays = λ _ some. absurd (some refl);
    }
