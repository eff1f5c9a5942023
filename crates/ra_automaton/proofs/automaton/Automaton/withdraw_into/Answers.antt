use Rattle.std.proofs.Common.{rules, ◌≡◌, map, Err, IsErrOf, refl, sym, ◌∙◌, subst}
use Rattle.std.proofs.lemmas.Bool.{false≢true}
use Rattle.ra_automaton.specs.declared.reaction.Reaction.{Reaction}
use Rattle.ra_automaton.specs.declared.error.WithdrawError.TheVariants.{Memory, NotWaiting}
use Rattle.std.specs.FinSet as set
use Rattle.std.specs.FinMap as finmap
use Rattle.ra_stamp.specs.declared.message.Message.TheVariants.{Reply}
use Rattle.ra_automaton.specs.State.{IsConsistent, IsWaitingPhase}
use Rattle.ra_automaton.proofs.Consistent.{consistent_withdrawn, waiting_is, waiting_is_busy}
use Rattle.ra_automaton.proofs.automaton.Automaton.withdraw_into.Goals as goal

pub returns-clause-withdrawn : goal.returns-clause-withdrawn
returns-clause-withdrawn c =
    let old = c.args.self.now in
    let held = waiting_is old.phase (c.is_waiting.ensures.value.0 c.if-not-is_waiting.false) in
    let are : c.push_replies.new.sends.items ≡ map (λ entry. Reply old.me entry.0 old.name entry.1) (finmap.entries old.deferred) = search rules in
    record {
      ok = (record { seq = held.0; mode = held.1; waits = held.2; sends_are = are; new_is = c.end-room.ensures.ended }, refl);
      not_waiting = search rules;
      err = tt;
    }

pub returns-clause-consistent : goal.returns-clause-consistent
returns-clause-consistent c = subst IsConsistent (sym c.end-room.ensures.ended) (consistent_withdrawn c.args.self.now c.is_waiting.ensures.consistent)

-- ---- It is refused, and nothing changes

memory_apart : IsErrOf {T = Reaction} (Err Memory) NotWaiting → ⊥
memory_apart e = cc

pub returns-then-not-is_waiting-clause-withdrawn : goal.returns-then-not-is_waiting-clause-withdrawn
returns-then-not-is_waiting-clause-withdrawn c =
    let outside : IsWaitingPhase c.args.self.now.phase → ⊥ = λ inside. false≢true (sym c.if-not-is_waiting.true ∙ c.is_waiting.ensures.value.1 inside) in
    record { ok = tt; not_waiting = (λ _. outside, λ _. refl); err = refl }

pub returns-in_default-clause-withdrawn : goal.returns-in_default-clause-withdrawn
returns-in_default-clause-withdrawn c =
    let inside : IsWaitingPhase c.args.self.now.phase = c.is_waiting.ensures.value.0 c.if-not-is_waiting.false in
    record { ok = tt; not_waiting = (λ e. absurd (memory_apart e), λ outside. absurd (outside inside)); err = refl }

pub end-room-requires : goal.end-room-requires
end-room-requires c = waiting_is_busy c.args.self.now.phase (c.is_waiting.ensures.value.0 c.if-not-is_waiting.false)
