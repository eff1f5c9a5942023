use Rattle.std.proofs.Common.{subst, sym, ap, ◌∙◌}
use Rattle.std.specs.FinSet as set
use Rattle.ra_automaton.specs.declared.phase.Phase.{Phase}
use Rattle.ra_automaton.specs.declared.phase.Phase.TheVariants.{Inside}
use Rattle.ra_automaton.specs.State.{State, IsConsistent, entered_phase}
use Rattle.ra_automaton.specs.View.{state_of, room_in}
use Rattle.ra_automaton.proofs.Consistent.{consistent_enters}
use Rattle.ra_automaton.proofs.automaton.Automaton.enter.Goals as goal

pub invariant_of-self : goal.invariant_of-self
invariant_of-self c =
    let old = state_of c.self.inside in
    let kept = c.self.invariant in
    record {
      room = kept.room ∙ ap (λ (p : Phase). room_in p c.self.inside.member.nodes) c.in-Waiting.is;
      consistent = subst IsConsistent (λ i. record old { phase = Inside c.in-Waiting.seq c.in-Waiting.mode; awaited = sym c.empty-self-inside.ensures i })
          (consistent_enters old c.in-Waiting.seq c.in-Waiting.mode kept.consistent c.in-Waiting.is);
    }

pub returns-in-Waiting : goal.returns-in-Waiting
returns-in-Waiting c =
    (λ i. record (state_of c.self.inside) { phase = entered_phase (sym c.in-Waiting.is i); awaited = c.empty-self-inside.ensures i })
    ∙ ap (λ (s : State). record s { phase = entered_phase s.phase; awaited = set.empty }) c.self.view_is
