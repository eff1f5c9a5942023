use Rattle.std.proofs.Common.{◌≡◌, ◌+◌, ◌<◌, subst, sym, ap, ◌∙◌, arith}
use Rattle.ra_automaton.specs.declared.phase.Phase.TheVariants.{Waiting}
use Rattle.ra_automaton.specs.NodeSet.{Deferred}
use Rattle.ra_automaton.specs.State.{State, IsConsistent}
use Rattle.ra_automaton.specs.View.{state_of}
use Rattle.ra_automaton.proofs.Consistent.{consistent_asked}
use Rattle.ra_automaton.proofs.automaton.Automaton.begin.Goals as goal

pub invariant_of-self-2 : goal.invariant_of-self-2
invariant_of-self-2 c =
    let old = state_of c.self.inside in
    let kept = c.self.invariant in
    let idle = ap (λ (s : State). s.phase) c.self.view_is ∙ c.requires.idle in
    let many : 1 < c.self.inside.member.nodes = omega (arith, kept.consistent.count.0, c.nodes.ensures.value, c.if-nodes-eq1.false) in
    let same : old.deferred ≡ c.args.room.numbers = kept.consistent.defers_only idle ∙ sym (ap (λ (d : Deferred). d.numbers) c.requires.room) in
    record {
      room = ap (λ (d : Deferred). d.room) c.requires.room ∙ ap (λ (s : State). s.nodes) (sym c.self.view_is);
      consistent = subst IsConsistent
          (λ i. record old { highest = c.self.inside.highest + 1; phase = Waiting (c.self.inside.highest + 1) c.args.mode; awaited = sym c.others-self-inside.ensures i; deferred = same i })
          (consistent_asked old c.args.mode kept.consistent idle many);
    }
