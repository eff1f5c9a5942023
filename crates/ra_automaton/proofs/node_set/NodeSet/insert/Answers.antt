use Rattle.std.proofs.Common.{ℕ, ◌-◌, ap, ◌∙◌, arith}
use Rattle.std.specs.FinSet as set
use Rattle.std.specs.Ordering.{nat_cmp}
use Rattle.std.specs.Int.RustNames.{bit_or}
use Rattle.std.proofs.lemmas.Nat.{one_shl}
use Rattle.ra_automaton.specs.NodeSet.{set_of}
use Rattle.ra_automaton.proofs.NodeSetLemmas.{set_of-insert}
use Rattle.ra_automaton.proofs.node_set.NodeSet.insert.Goals as goal

pub returns : goal.returns
returns c =
    let bits = c.self.inside.bits in
    let node = c.place.ensures.valid in
    rw c.place.ensures.value
    (ap (λ (bit : ℕ). set_of (bit_or bits bit)) (one_shl (c.args.node - 1) 64 (omega (arith, node.0, node.1))) ∙ set_of-insert bits c.args.node node.0 node.1)
    ∙ ap (λ (s : set.FinSet nat_cmp). set.insert s c.args.node) c.self.view_is
