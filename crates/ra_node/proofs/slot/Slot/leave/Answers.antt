use Rattle.std.proofs.Common.{◌≡◌, ◌*◌, ◌≤◌, ◌∷◌, List, [], ◌++◌, refl, sym, ap, ◌∙◌, subst, arith}
use Rattle.std.proofs.lemmas.Bool.{false≢true}
use Rattle.std.proofs.lemmas.Result.{on_err_weaker}
use Rattle.ra_stamp.specs.declared.entry.Mark.{Mark}
use Rattle.ra_stamp.specs.declared.entry.Mark.TheVariants.{Left}
use Rattle.ra_stamp.specs.declared.message.Message.{Message}
use Rattle.ra_stamp.specs.Sequence.{Listed}
use Rattle.ra_automaton.specs.State.{IsInside}
use Rattle.ra_node.specs.Resource.{Resource}
use Rattle.ra_node.specs.Room.{IsNothing, answer_with}
use Rattle.ra_node.proofs.LeaveEndings.{not_refused, never_refused, memory_alone, holds_inside, left_to_nobody, left_to_next}
use Rattle.ra_node.proofs.slot.Slot.leave.Goals as goal

pub returns-in_default-clause-left : goal.returns-in_default-clause-left
returns-in_default-clause-left c = (c.in_default.ensures.not_held.0 refl, refl)

-- ---- There is no room for the marks

pub returns-in_default-reserve-clause-left : goal.returns-in_default-reserve-clause-left
returns-in_default-reserve-clause-left c = ((c.in-Some.held, c.in-Some.ensures.held), refl)

pub returns-in_default-reserve-clause-room : goal.returns-in_default-reserve-clause-room
returns-in_default-reserve-clause-room c room is = false≢true (c.in_default-reserve.ensures.succeeds room.marks)

pub returns-in_default-reserve-clause-nothing : goal.returns-in_default-reserve-clause-nothing
returns-in_default-reserve-clause-nothing c = record { sends = c.requires.nothing.sends; marks = c.reserve.ensures.same ∙ c.requires.nothing.marks }

-- ---- The next client asks

pub hand_over-requires-clause-inside : goal.hand_over-requires-clause-inside
hand_over-requires-clause-inside c = holds_inside c.args.self.now c.args.client c.in-Some.held c.in-Some.ensures.held

pub hand_over-requires-clause-number_left : goal.hand_over-requires-clause-number_left
hand_over-requires-clause-number_left c = c.in-Some-next.ensures.some.1

pub hand_over-requires-clause-once : goal.hand_over-requires-clause-once
hand_over-requires-clause-once c = c.requires.once

pub hand_over-requires-clause-none : goal.hand_over-requires-clause-none
hand_over-requires-clause-none c = ap (λ (l : Listed Message). l.items) c.replace-sends.ensures.value ∙ c.requires.nothing.sends

pub hand_over-requires-clause-nothing : goal.hand_over-requires-clause-nothing
hand_over-requires-clause-nothing c = record { sends = ap (λ (l : Listed Message). l.items) c.replace-sends.ensures.after ∙ c.new.ensures; marks = c.reserve.ensures.same ∙ c.requires.nothing.marks }

pub returns-in-Some-next-clause-left : goal.returns-in-Some-next-clause-left
returns-in-Some-next-clause-left c =
    left_to_next c.args.self.now c.args.client c.in-Some.held c.in-Some.ensures.held (answer_with c.hand_over.result c.hand_over.new.outcome) c.hand_over.new.self c.in-Some-next.next (Left c.in-Some.held ∷ []) c.requires.once refl c.hand_over.ensures.handed

pub returns-in-Some-next-clause-room : goal.returns-in-Some-next-clause-room
returns-in-Some-next-clause-room c room is =
    not_refused c.hand_over.result _ (c.hand_over.ensures.room (subst (λ (l : Listed Message). 2 * c.args.self.now.state.nodes ≤ l.spare) (sym c.replace-sends.ensures.value) room.sends)) is

pub returns-in-Some-next-clause-kept : goal.returns-in-Some-next-clause-kept
returns-in-Some-next-clause-kept c not_held = absurd (memory_alone c.hand_over.result c.hand_over.new.outcome _ _ c.hand_over.ensures.handed not_held)

pub returns-in-Some-next-clause-nothing : goal.returns-in-Some-next-clause-nothing
returns-in-Some-next-clause-nothing c = on_err_weaker c.hand_over.result (λ same. subst IsNothing (sym same) (record { sends = ap (λ (l : Listed Message). l.items) c.replace-sends.ensures.after ∙ c.new.ensures; marks = c.reserve.ensures.same ∙ c.requires.nothing.marks })) c.hand_over.ensures.kept

-- ---- Nobody is next

pub returns-in_default-leave_into-clause-left : goal.returns-in_default-leave_into-clause-left
returns-in_default-leave_into-clause-left c =
    let s = c.self.inside in (
      (c.in-Some.held, c.in-Some.ensures.held),
      (λ i. record { state = c.in_default-leave_into.ensures.left.err i; client = s.client; queue = s.queue }) ∙ c.self.view_is,
    )

pub returns-in_default-leave_into-clause-room : goal.returns-in_default-leave_into-clause-room
returns-in_default-leave_into-clause-room c room is =
    let s = c.self.inside in
    let inside : IsInside s.automaton.phase =
    subst (λ (r : Resource). IsInside r.state.phase) (sym c.self.view_is) (holds_inside c.args.self.now c.args.client c.in-Some.held c.in-Some.ensures.held)
    in
    let before = ap (λ (l : Listed Message). l.spare) c.replace-sends.ensures.value in
    let few : s.automaton.nodes ≤ c.replace-sends.result.spare = omega (arith, before, room.sends, ap (λ (r : Resource). r.state.nodes) c.self.view_is) in
    never_refused _ s.automaton.phase c.in_default-leave_into.ensures.left.not_held (c.in_default-leave_into.ensures.room few) inside

pub returns-in_default-leave_into-clause-nothing : goal.returns-in_default-leave_into-clause-nothing
returns-in_default-leave_into-clause-nothing c = record { sends = ap (λ (l : Listed Message). l.items) c.replace-sends.ensures.after ∙ c.new.ensures; marks = c.reserve.ensures.same ∙ c.requires.nothing.marks }

pub leave_into-requires : goal.leave_into-requires
leave_into-requires c = ap (λ (l : Listed Message). l.items) c.replace-sends.ensures.value ∙ c.requires.nothing.sends

pub push_reserved-requires : goal.push_reserved-requires
push_reserved-requires c = omega (arith, c.in-Ok.ensures.ok)

pub returns-clause-left : goal.returns-clause-left
returns-clause-left c =
    let s = c.self.inside in
    let marks : c.push_reserved.new.marks.items ≡ Left c.in-Some.held ∷ [] =
    c.push_reserved.ensures.items ∙ ap (λ (ms : List Mark). ms ++ Left c.in-Some.held ∷ []) (c.reserve.ensures.same ∙ c.requires.nothing.marks)
    in
    let did = c.in-Ok-leave_into.ensures in (
      left_to_nobody c.args.self.now c.args.client c.in-Some.held c.in-Some.ensures.held s.automaton c.leave_into.new.self s.client s.queue c.in-Ok-leave_into.reaction.sends.items c.push_reserved.new.marks.items c.self.view_is did.left.ok.0 (c.in_default-next.ensures.none refl) marks,
      did.consistent,
    )

pub returns-clause-room : goal.returns-clause-room
returns-clause-room c room is = not_refused _ _ refl is
