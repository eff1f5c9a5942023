use Rattle.std.proofs.Common.{◌≡◌, rules, subst, sym, ap, ◌∙◌}
use Rattle.std.specs.FinSet as set
use Rattle.ra_automaton.specs.declared.phase.Phase.TheVariants.{Idle}
use Rattle.ra_automaton.specs.NodeSet.{Deferred, nobody_of}
use Rattle.ra_automaton.specs.State.{State, IsConsistent}
use Rattle.ra_automaton.specs.View.{state_of}
use Rattle.ra_automaton.proofs.Consistent.{consistent_withdrawn, ended_inside}
use Rattle.ra_automaton.proofs.automaton.Automaton.end.Goals as goal

pub invariant_of-self : goal.invariant_of-self
invariant_of-self c =
    let old = state_of c.self.inside in
    let fresh : c.replace-room.new.dest ≡ nobody_of 0 = search rules in
    record {
      room = ap (λ (d : Deferred). d.room) fresh;
      consistent = subst IsConsistent (λ i. record old { phase = Idle; awaited = sym c.empty-self-inside.ensures i; deferred = (sym fresh i).numbers }) (consistent_withdrawn old c.self.invariant.consistent);
    }
