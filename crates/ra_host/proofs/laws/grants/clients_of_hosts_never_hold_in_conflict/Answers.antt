use Rattle.std.proofs.Common.{◌≡◌, ℕ, List, Some, sym, subst}
use Rattle.ra_node.specs.Node.{resource_at}
use Rattle.ra_node.specs.Resource.{holder_of}
use Rattle.ra_host.proofs.laws.grants.clients_of_hosts_never_hold_in_conflict.Goals as goal

pub returns : goal.returns
returns c =
    let law = c.hosts_never_hold_in_conflict.ensures in
    record {
      whole = λ n start events s i j x y count reaches whole two held other name.
          law.whole n start events s i j held.node other.node x.name x y count reaches whole two held.leads other.leads held.holds
          (subst (λ (m : List ℕ). holder_of (resource_at other.node m) ≡ Some y) (sym name) other.holds);
      ready = λ n start before later ready s i j x y count reaches are_ready lead whole two held other name.
          law.ready n start before later ready s i j held.node other.node x.name x y count reaches are_ready lead whole two held.leads other.leads held.holds
          (subst (λ (m : List ℕ). holder_of (resource_at other.node m) ≡ Some y) (sym name) other.holds);
    }
