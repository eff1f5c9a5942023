use Rattle.std.proofs.Common.{ℕ, ◌-◌, ◌/◌, ◌^◌, eqb, bit_and, sym, ap, ◌∙◌}
use Rattle.std.specs.FinSet as set
use Rattle.std.specs.Ordering.{nat_cmp}
use Rattle.std.proofs.lemmas.Nat.Bits.{shr_and_one}
use Rattle.ra_automaton.proofs.NodeSetLemmas.{contains-set_of}
use Rattle.ra_automaton.proofs.node_set.NodeSet.contains.Goals as goal

pub returns : goal.returns
returns c =
    let bits = c.self.inside.bits in
    let node = c.place.ensures.valid in
    ap (λ (place : ℕ). eqb (bit_and (bits / 2 ^ place) 1) 1) c.place.ensures.value
    ∙ (ap (λ (bit : ℕ). eqb bit 1) (shr_and_one bits (c.args.node - 1)) ∙ sym (contains-set_of bits c.args.node node.0 node.1))
    ∙ ap (λ (s : set.FinSet nat_cmp). set.contains s c.args.node) c.self.view_is
