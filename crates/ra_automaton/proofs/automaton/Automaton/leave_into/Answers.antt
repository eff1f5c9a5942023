use Rattle.std.proofs.Common.{rules, ◌≡◌, map, Err, IsErrOf, refl, sym, ◌∙◌, subst}
use Rattle.std.proofs.lemmas.Bool.{false≢true}
use Rattle.ra_automaton.specs.declared.reaction.Reaction.{Reaction}
use Rattle.ra_automaton.specs.declared.error.LeaveError.TheVariants.{Memory, NotHeld}
use Rattle.std.specs.FinMap as finmap
use Rattle.ra_stamp.specs.declared.message.Message.TheVariants.{Reply}
use Rattle.ra_automaton.specs.State.{IsConsistent, IsInside}
use Rattle.ra_automaton.proofs.Consistent.{consistent_end, inside_is, inside_is_busy}
use Rattle.ra_automaton.proofs.automaton.Automaton.leave_into.Goals as goal

pub returns-clause-left : goal.returns-clause-left
returns-clause-left c =
    let old = c.args.self.now in
    let held = inside_is old.phase (c.is_inside.ensures.value.0 c.if-not-is_inside.false) in
    let are : c.push_replies.new.sends.items ≡ map (λ entry. Reply old.me entry.0 old.name entry.1) (finmap.entries old.deferred) = search rules in
    record {
      ok = (record { seq = held.0; mode = held.1; inside = held.2; sends_are = are; new_is = (c.end.ensures.inside (c.is_inside.ensures.value.0 c.if-not-is_inside.false)) }, refl);
      not_held = search rules;
      err = tt;
    }

pub returns-clause-consistent : goal.returns-clause-consistent
returns-clause-consistent c = subst IsConsistent (sym (c.end.ensures.inside (c.is_inside.ensures.value.0 c.if-not-is_inside.false))) (consistent_end c.args.self.now c.is_inside.ensures.consistent (c.is_inside.ensures.value.0 c.if-not-is_inside.false))

-- ---- It is refused, and nothing changes

memory_apart : IsErrOf {T = Reaction} (Err Memory) NotHeld → ⊥
memory_apart e = cc

pub returns-then-not-is_inside-clause-left : goal.returns-then-not-is_inside-clause-left
returns-then-not-is_inside-clause-left c =
    let outside : IsInside c.args.self.now.phase → ⊥ = λ inside. false≢true (sym c.if-not-is_inside.true ∙ c.is_inside.ensures.value.1 inside) in
    record { ok = tt; not_held = (λ _. outside, λ _. refl); err = refl }

pub returns-then-is_err-clause-left : goal.returns-then-is_err-clause-left
returns-then-is_err-clause-left c =
    let inside : IsInside c.args.self.now.phase = c.is_inside.ensures.value.0 c.if-not-is_inside.false in
    record { ok = tt; not_held = (λ e. absurd (memory_apart e), λ outside. absurd (outside inside)); err = refl }

pub end-requires : goal.end-requires
end-requires c = inside_is_busy c.args.self.now.phase (c.is_inside.ensures.value.0 c.if-not-is_inside.false)
