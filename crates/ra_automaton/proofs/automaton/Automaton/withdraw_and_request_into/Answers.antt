use Rattle.std.proofs.Common.{rules, ◌≡◌, ◌+◌, ◌<◌, Bool, List, ◌++◌, map, Err, IsErrOf, refl, sym, ap, ◌∙◌, subst}
use Rattle.std.proofs.lemmas.Bool.{false≢true}
use Rattle.ra_automaton.specs.declared.reaction.Reaction.{Reaction}
use Rattle.ra_automaton.specs.declared.error.WithdrawError.TheVariants.{Memory, NotWaiting}
use Rattle.std.specs.FinSet as set
use Rattle.std.specs.FinMap as finmap
use Rattle.ra_stamp.specs.declared.mode.Mode.{Mode}
use Rattle.ra_stamp.specs.declared.message.Message.{Message}
use Rattle.ra_stamp.specs.declared.message.Message.TheVariants.{Request, Reply}
use Rattle.ra_automaton.specs.declared.phase.Phase.TheVariants.{Idle}
use Rattle.ra_automaton.specs.Steps.{WithdrawAndRequestStep, Begins, greatest_number, others_of}
use Rattle.ra_automaton.specs.NodeSet.{nobody_of}
use Rattle.ra_automaton.specs.State.{State, IsConsistent, IsWaitingPhase}
use Rattle.ra_automaton.proofs.Consistent.{consistent_withdrawn, consistent_begins, waiting_is, waiting_is_busy}
use Rattle.ra_automaton.proofs.automaton.Automaton.withdraw_and_request_into.Goals as goal

turn : (old between new : State) (mode : Mode) (sends : List Message) (entered : Bool) → IsWaitingPhase old.phase → old.highest < greatest_number → between ≡ record old { phase = Idle; awaited = set.empty; deferred = finmap.empty }
    → sends ≡ map (λ entry. Reply old.me entry.0 old.name entry.1) (finmap.entries old.deferred) ++ map (λ other. Request old.me other old.name mode (old.highest + 1)) (others_of old.me old.nodes)
    → Begins between mode entered new → WithdrawAndRequestStep old mode sends entered new
turn old between new mode sends entered inside left ended are begins =
    let held = waiting_is old.phase inside in
    let replies = map (λ entry. Reply old.me entry.0 old.name entry.1) (finmap.entries old.deferred) in
    let requests = λ (s : State). map (λ other. Request s.me other s.name mode (s.highest + 1)) (others_of s.me s.nodes) in
    record {
      between = between;
      replies = replies;
      requests = requests between;
      ends = record { seq = held.0; mode = held.1; waits = held.2; sends_are = refl; new_is = ended };
      asks = record {
        idle = ap (λ (s : State). s.phase) ended;
        number_left = subst (λ (s : State). s.highest < greatest_number) (sym ended) left;
        sends_are = refl;
        begins = begins;
      };
      sends_are = are ∙ ap (λ (s : State). replies ++ requests s) (sym ended);
    }

pub returns-clause-withdrawn : goal.returns-clause-withdrawn
returns-clause-withdrawn c =
    let old = c.args.self.now in
    let inside = c.is_waiting.ensures.value.0 c.if-not-is_waiting.false in
    let are : c.push_turn.new.sends.items ≡ map (λ entry. Reply old.me entry.0 old.name entry.1) (finmap.entries old.deferred) ++ map (λ other. Request old.me other old.name c.args.mode (old.highest + 1)) (others_of old.me old.nodes) = search rules in
    record {
      ok = turn old c.end-room.new.self c.begin-entered.new.self c.args.mode c.push_turn.new.sends.items c.begin-entered.result inside c.requires.number_left c.end-room.ensures.ended are c.begin-entered.ensures;
      not_waiting = search rules;
      err = tt;
    }

pub returns-clause-consistent : goal.returns-clause-consistent
returns-clause-consistent c =
    let ended = c.end-room.ensures.ended in
    let inside = c.is_waiting.ensures.value.0 c.if-not-is_waiting.false in
    let between = subst IsConsistent (sym ended) (consistent_withdrawn c.args.self.now c.is_waiting.ensures.consistent) in
    consistent_begins c.end-room.new.self c.args.mode c.begin-entered.result c.begin-entered.new.self between (ap (λ (s : State). s.phase) ended) c.begin-entered.ensures

pub begin-entered-requires-clause-room : goal.begin-entered-requires-clause-room
begin-entered-requires-clause-room c = c.end-room.ensures.room ∙ sym (ap (λ (s : State). nobody_of s.nodes) c.end-room.ensures.ended)

-- ---- It is refused, and nothing changes

memory_apart : IsErrOf {T = Reaction} (Err Memory) NotWaiting → ⊥
memory_apart e = cc

pub returns-then-not-is_waiting-clause-withdrawn : goal.returns-then-not-is_waiting-clause-withdrawn
returns-then-not-is_waiting-clause-withdrawn c =
    let outside : IsWaitingPhase c.args.self.now.phase → ⊥ = λ inside. false≢true (sym c.if-not-is_waiting.true ∙ c.is_waiting.ensures.value.1 inside) in
    record { ok = tt; not_waiting = (λ _. outside, λ _. refl); err = refl }

pub returns-in_default-clause-withdrawn : goal.returns-in_default-clause-withdrawn
returns-in_default-clause-withdrawn c =
    let inside : IsWaitingPhase c.args.self.now.phase = c.is_waiting.ensures.value.0 c.if-not-is_waiting.false in
    record { ok = tt; not_waiting = (λ e. absurd (memory_apart e), λ outside. absurd (outside inside)); err = refl }

pub end-room-requires : goal.end-room-requires
end-room-requires c = waiting_is_busy c.args.self.now.phase (c.is_waiting.ensures.value.0 c.if-not-is_waiting.false)

pub begin-entered-requires-clause-number_left : goal.begin-entered-requires-clause-number_left
begin-entered-requires-clause-number_left c = subst (λ (s : State). s.highest < greatest_number) (sym c.end-room.ensures.ended) c.requires.number_left
