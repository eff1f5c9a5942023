use Rattle.std.proofs.Common.{◌≡◌, ℕ, ◌+◌, ◌-◌, ◌/◌, ◌^◌, ap, ◌∙◌, arith}
use Rattle.std.specs.FinSet as set
use Rattle.ra_automaton.specs.NodeSet.{set_of}
use Rattle.ra_automaton.proofs.NodeSetLemmas.{shr_ones, set_of-all_but}
use Rattle.ra_automaton.proofs.node_set.NodeSet.others.Goals as goal

pub returns : goal.returns
returns c =
    let me = c.args.member.node in
    let n = c.args.member.nodes in
    let few = c.nodes.ensures.valid.count.1 in
    let width : 64 ≡ n + (64 - n) = omega (arith, few) in
    let ones : (2 ^ 64 - 1) / 2 ^ (64 - n) ≡ 2 ^ n - 1 = ap (λ (k : ℕ). (2 ^ k - 1) / 2 ^ (64 - n)) width ∙ shr_ones n (64 - n) in
    let shifted : (2 ^ 64 - 1) / 2 ^ (64 - c.nodes.result) ≡ 2 ^ n - 1 = ap (λ (k : ℕ). (2 ^ 64 - 1) / 2 ^ (64 - k)) c.nodes.ensures.value ∙ ones in
    c.without_bit.ensures
    ∙ (ap (λ (word : ℕ). set.remove (set_of word) c.node.result) shifted
    ∙ (ap (λ (node : ℕ). set.remove (set_of (2 ^ n - 1)) node) c.node.ensures.value ∙ set_of-all_but me n few))
