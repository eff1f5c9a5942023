use Rattle.std.proofs.Common.{ℕ, ◌-◌, w64, ap, ◌∙◌, arith}
use Rattle.std.specs.Int.{bit_not}
use Rattle.std.specs.Int.RustNames.{bit_and}
use Rattle.std.proofs.lemmas.Nat.{one_shl}
use Rattle.ra_automaton.specs.NodeSet.{set_of}
use Rattle.ra_automaton.proofs.NodeSetLemmas.{set_of-remove}
use Rattle.ra_automaton.proofs.node_set.without_bit.Goals as goal

pub returns : goal.returns
returns c =
    let node = c.place.ensures.valid in
    rw c.place.ensures.value
    (ap (λ (bit : ℕ). set_of (bit_and c.args.bits (bit_not w64 bit))) (one_shl (c.args.node - 1) 64 (omega (arith, node.0, node.1))) ∙ set_of-remove c.args.bits c.args.node node.0 node.1)
