use Rattle.std.proofs.Common.{◌≡◌, ℕ, true, eqb, sym, ap, ◌∙◌, arith}
use Rattle.std.specs.FinSet as set
use Rattle.std.specs.Ordering.{nat_cmp}
use Rattle.std.proofs.lemmas.Bool.Decides.{nat_tests}
use Rattle.ra_automaton.specs.NodeSet.{set_of}
use Rattle.ra_automaton.proofs.NodeSetLemmas.{set_of-zero, zero_from_empty}
use Rattle.ra_automaton.proofs.node_set.NodeSet.is_only.Goals as goal

is_zero : (n : ℕ) → eqb n 0 ≡ true → n ≡ 0
is_zero n h = grind (arith, nat_tests)

zero_is : (n : ℕ) → n ≡ 0 → eqb n 0 ≡ true
zero_is n h = grind (arith, nat_tests)

pub returns : goal.returns
returns c =
    let left = c.without_bit.result in
    let is = c.without_bit.ensures ∙ ap (λ (s : set.FinSet nat_cmp). set.remove s c.args.node) c.self.view_is in (
      λ only. sym is ∙ (ap set_of (is_zero left only) ∙ set_of-zero),
      λ none. zero_is left (zero_from_empty left (omega arith) (is ∙ none)),
    )
