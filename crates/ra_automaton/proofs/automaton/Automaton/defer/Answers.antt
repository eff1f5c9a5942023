use Rattle.std.proofs.Common.{◌≢◌, ◌≤◌, max, rules, subst, sym, ap, ◌∙◌}
use Rattle.ra_automaton.specs.declared.phase.Phase.TheVariants.{Idle}
use Rattle.ra_automaton.specs.NodeSet.{Deferred}
use Rattle.ra_automaton.specs.State.{State, IsConsistent, IsOther}
use Rattle.ra_automaton.specs.View.{state_of}
use Rattle.ra_automaton.proofs.Consistent.{consistent_put_off, later_fits}
use Rattle.ra_automaton.proofs.automaton.Automaton.defer.Goals as goal

pub invariant_of-self : goal.invariant_of-self
invariant_of-self c =
    let old = state_of c.self.inside in
    let kept = c.self.invariant in
    let other = subst (λ (s : State). IsOther s c.args.other) (sym c.self.view_is) c.requires.other in
    let busy = subst (λ (s : State). s.phase ≢ Idle) (sym c.self.view_is) c.requires.busy in
    let base = later_fits old c.args.other c.args.seq kept.consistent c.requires.numbered in
    let fits : (1 ≤ c.match-get.later) × (c.match-get.later ≤ max old.highest c.args.seq) = search (rules, base) in
    record {
      room = ap (λ (d : Deferred). d.room) c.insert.ensures ∙ kept.room;
      consistent = subst IsConsistent (λ i. record old { highest = sym c.max-self-inside.ensures i; deferred = (sym c.insert.ensures i).numbers })
          (consistent_put_off old c.args.other c.args.seq c.match-get.later kept.consistent other busy fits);
    }
