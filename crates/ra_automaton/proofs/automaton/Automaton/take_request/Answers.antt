use Rattle.std.proofs.Common.{ℕ, sym, subst}
use Rattle.ra_automaton.specs.State.{IsConsistent}
use Rattle.ra_automaton.specs.View.{state_of}
use Rattle.ra_automaton.proofs.Consistent.{consistent_meet}
use Rattle.ra_automaton.proofs.automaton.Automaton.take_request.Goals as goal

pub invariant_of-self : goal.invariant_of-self
invariant_of-self c =
    let old = state_of c.self.inside in
    let kept = c.self.invariant in
    record {
      room = kept.room;
      consistent = subst (λ (highest : ℕ). IsConsistent (record old { highest = highest })) (sym c.max-self-inside.ensures) (consistent_meet old c.args.seq kept.consistent);
    }
