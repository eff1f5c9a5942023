use Rattle.std.proofs.Common.{rules, ◌≡◌, ◌+◌, ◌<◌, Bool, List, ◌++◌, map, Err, IsErrOf, refl, sym, ap, ◌∙◌, subst}
use Rattle.std.proofs.lemmas.Bool.{false≢true}
use Rattle.ra_automaton.specs.declared.reaction.Reaction.{Reaction}
use Rattle.ra_automaton.specs.declared.error.LeaveError.TheVariants.{Memory, NotHeld}
use Rattle.std.specs.FinMap as finmap
use Rattle.ra_stamp.specs.declared.mode.Mode.{Mode}
use Rattle.ra_stamp.specs.declared.message.Message.{Message}
use Rattle.ra_stamp.specs.declared.message.Message.TheVariants.{Request, Reply}
use Rattle.ra_automaton.specs.declared.phase.Phase.TheVariants.{Idle}
use Rattle.ra_automaton.specs.Steps.{LeaveAndRequestStep, Begins, greatest_number, others_of}
use Rattle.ra_automaton.specs.NodeSet.{nobody_of}
use Rattle.ra_automaton.specs.State.{State, IsConsistent, IsInside}
use Rattle.ra_automaton.proofs.Consistent.{consistent_end, consistent_begins, inside_is, inside_is_busy}
use Rattle.ra_automaton.proofs.automaton.Automaton.leave_and_request_into.Goals as goal

turn : (old between new : State) (mode : Mode) (sends : List Message) (entered : Bool) → IsInside old.phase → old.highest < greatest_number → between ≡ record old { phase = Idle; deferred = finmap.empty }
    → sends ≡ map (λ entry. Reply old.me entry.0 old.name entry.1) (finmap.entries old.deferred) ++ map (λ other. Request old.me other old.name mode (old.highest + 1)) (others_of old.me old.nodes)
    → Begins between mode entered new → LeaveAndRequestStep old mode sends entered new
turn old between new mode sends entered inside left ended are begins =
    let held = inside_is old.phase inside in
    let replies = map (λ entry. Reply old.me entry.0 old.name entry.1) (finmap.entries old.deferred) in
    let requests = λ (s : State). map (λ other. Request s.me other s.name mode (s.highest + 1)) (others_of s.me s.nodes) in
    record {
      between = between;
      replies = replies;
      requests = requests between;
      ends = record { seq = held.0; mode = held.1; inside = held.2; sends_are = refl; new_is = ended };
      asks = record {
        idle = ap (λ (s : State). s.phase) ended;
        number_left = subst (λ (s : State). s.highest < greatest_number) (sym ended) left;
        sends_are = refl;
        begins = begins;
      };
      sends_are = are ∙ ap (λ (s : State). replies ++ requests s) (sym ended);
    }

pub returns-clause-left : goal.returns-clause-left
returns-clause-left c =
    let old = c.args.self.now in
    let inside = c.is_inside.ensures.value.0 c.if-not-is_inside.false in
    let are : c.push_turn.new.sends.items ≡ map (λ entry. Reply old.me entry.0 old.name entry.1) (finmap.entries old.deferred) ++ map (λ other. Request old.me other old.name c.args.mode (old.highest + 1)) (others_of old.me old.nodes) = search rules in
    record {
      ok = turn old c.end-room.new.self c.begin-entered.new.self c.args.mode c.push_turn.new.sends.items c.begin-entered.result inside c.requires.number_left (c.end-room.ensures.inside (c.is_inside.ensures.value.0 c.if-not-is_inside.false)) are c.begin-entered.ensures;
      not_held = search rules;
      err = tt;
    }

pub returns-clause-consistent : goal.returns-clause-consistent
returns-clause-consistent c =
    let ended = (c.end-room.ensures.inside (c.is_inside.ensures.value.0 c.if-not-is_inside.false)) in
    let inside = c.is_inside.ensures.value.0 c.if-not-is_inside.false in
    let between = subst IsConsistent (sym ended) (consistent_end c.args.self.now c.is_inside.ensures.consistent inside) in
    consistent_begins c.end-room.new.self c.args.mode c.begin-entered.result c.begin-entered.new.self between (ap (λ (s : State). s.phase) ended) c.begin-entered.ensures

pub begin-entered-requires-clause-room : goal.begin-entered-requires-clause-room
begin-entered-requires-clause-room c = c.end-room.ensures.room ∙ sym (ap (λ (s : State). nobody_of s.nodes) (c.end-room.ensures.inside (c.is_inside.ensures.value.0 c.if-not-is_inside.false)))

-- ---- It is refused, and nothing changes

memory_apart : IsErrOf {T = Reaction} (Err Memory) NotHeld → ⊥
memory_apart e = cc

pub returns-then-not-is_inside-clause-left : goal.returns-then-not-is_inside-clause-left
returns-then-not-is_inside-clause-left c =
    let outside : IsInside c.args.self.now.phase → ⊥ = λ inside. false≢true (sym c.if-not-is_inside.true ∙ c.is_inside.ensures.value.1 inside) in
    record { ok = tt; not_held = (λ _. outside, λ _. refl); err = refl }

pub returns-then-is_err-clause-left : goal.returns-then-is_err-clause-left
returns-then-is_err-clause-left c =
    let inside : IsInside c.args.self.now.phase = c.is_inside.ensures.value.0 c.if-not-is_inside.false in
    record { ok = tt; not_held = (λ e. absurd (memory_apart e), λ outside. absurd (outside inside)); err = refl }

pub end-room-requires : goal.end-room-requires
end-room-requires c = inside_is_busy c.args.self.now.phase (c.is_inside.ensures.value.0 c.if-not-is_inside.false)

pub begin-entered-requires-clause-number_left : goal.begin-entered-requires-clause-number_left
begin-entered-requires-clause-number_left c = subst (λ (s : State). s.highest < greatest_number) (sym (c.end-room.ensures.inside (c.is_inside.ensures.value.0 c.if-not-is_inside.false))) c.requires.number_left
