use Rattle.std.proofs.Common.{◌≡◌, length, rules, arith}
use Rattle.ra_automaton.proofs.DeferredLemmas.{map_of-empty, none_within}
use Rattle.ra_automaton.proofs.deferrals.Deferrals.none.Goals as goal

pub invariant_of-result : goal.invariant_of-result
invariant_of-result c =
    let none : length c.new.result.items ≡ 0 = search rules in
    record { few = omega (arith, none); within = none_within _ _ c.empty.ensures }

pub returns : goal.returns
returns c =
    let none : length c.new.result.items ≡ 0 = search rules in
    λ i. record { numbers = map_of-empty _ c.new.result.items c.empty.ensures i; room = none i }
