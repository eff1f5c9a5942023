use Rattle.std.proofs.Common.{length, ap, ◌∙◌}
use Rattle.ra_automaton.specs.NodeSet.{Deferred, nobody_of}
use Rattle.ra_automaton.proofs.DeferredLemmas.{map_of-empty, none_within}
use Rattle.ra_automaton.proofs.deferrals.Deferrals.clear.Goals as goal

pub invariant_of-self : goal.invariant_of-self
invariant_of-self c = record { few = c.self.invariant.few; within = none_within _ _ c.empty-self-inside.ensures }

pub returns : goal.returns
returns c =
    let d = c.self.inside in
    (λ i. record { numbers = map_of-empty _ d.numbers.items c.empty-self-inside.ensures i; room = length d.numbers.items }) ∙ ap (λ (was : Deferred). nobody_of was.room) c.self.view_is
