use Rattle.std.proofs.Common.{◌≡◌, length, rules, arith}
use Rattle.ra_automaton.proofs.DeferredLemmas.{map_of-empty, none_within}
use Rattle.ra_automaton.proofs.deferrals.Deferrals.with_room.Goals as goal

pub invariant_of-result : goal.invariant_of-result
invariant_of-result c =
    let long : length c.in_ok-numbers.numbers.items ≡ c.args.member.nodes = search rules in
    record { few = omega (arith, long, c.nodes.ensures.valid.count.1); within = none_within _ _ c.empty.ensures }

pub returns : goal.returns
returns c =
    let long : length c.in_ok-numbers.numbers.items ≡ c.args.member.nodes = search rules in
    λ i. record { numbers = map_of-empty _ c.in_ok-numbers.numbers.items c.empty.ensures i; room = long i }
