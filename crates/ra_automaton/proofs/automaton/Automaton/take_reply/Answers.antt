use Rattle.std.proofs.Common.{◌≡◌, inl, inr, refl, subst, sym, ap, ◌∙◌}
use Rattle.std.specs.FinSet as set
use Rattle.ra_automaton.specs.State.{State, IsConsistent, IsWaitingPhase, entered_phase}
use Rattle.ra_automaton.specs.declared.phase.Phase.{Phase}
use Rattle.ra_automaton.specs.View.{state_of}
use Rattle.ra_automaton.proofs.Consistent.{consistent_waits_on, is_waiting}
use Rattle.ra_automaton.proofs.automaton.Automaton.take_reply.Goals as goal

pub invariant_of-self : goal.invariant_of-self
invariant_of-self c =
    let old = state_of c.self.inside in
    let kept = c.self.invariant in
    let told = c.effect.ensures.wait c.in-WaitOn.is in
    let waits = subst (λ (s : State). IsWaitingPhase s.phase) (sym c.self.view_is) (is_waiting c.args.self.now.phase c.args.number told.0 told.1.waits) in
    record {
      room = kept.room;
      consistent = subst IsConsistent (λ i. record old { awaited = sym c.remove.ensures i })
          (consistent_waits_on old c.args.other kept.consistent (λ e. told.2 (subst (λ (s : State). set.remove s.awaited c.args.other ≡ set.empty) c.self.view_is e)) waits);
    }

pub returns-in-WaitOn : goal.returns-in-WaitOn
returns-in-WaitOn c =
    let told = c.effect.ensures.wait c.in-WaitOn.is in
    inr (
      told.0,
      inr (record {
        awaits = told.1;
        not_last = told.2;
        entered_is = refl;
        new_is = (λ i. record (state_of c.self.inside) { awaited = c.remove.ensures i }) ∙ ap (λ (s : State). record s { awaited = set.remove s.awaited c.args.other }) c.self.view_is;
      }),
    )

pub returns-in-Stray : goal.returns-in-Stray
returns-in-Stray c = inl (record { not_awaited = c.effect.ensures.stray c.in-Stray.is; entered_is = refl; new_is = refl })

pub returns-in-Enter : goal.returns-in-Enter
returns-in-Enter c =
    let told = c.effect.ensures.enter c.in-Enter.is in
    inr (
      told.0,
      inl (record {
        awaits = told.1;
        last = told.2;
        entered_is = refl;
        new_is = c.enter.ensures ∙ ap (λ (p : Phase). record c.args.self.now { phase = entered_phase p; awaited = set.empty }) told.1.waits;
      }),
    )
