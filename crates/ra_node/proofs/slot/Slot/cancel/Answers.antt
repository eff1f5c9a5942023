use Rattle.std.proofs.Common.{◌≡◌, ◌*◌, ◌≤◌, ◌∷◌, true, Any, inl, List, [], ◌++◌, refl, sym, ap, ◌∙◌, subst, arith}
use Rattle.std.proofs.lemmas.Bool.{false≢true}
use Rattle.std.proofs.lemmas.Result.{on_err_weaker}
use Rattle.ra_stamp.specs.declared.entry.Mark.{Mark}
use Rattle.ra_stamp.specs.declared.entry.Mark.TheVariants.{Withdrawn}
use Rattle.ra_stamp.specs.declared.message.Message.{Message}
use Rattle.ra_stamp.specs.Sequence.{Listed}
use Rattle.ra_automaton.specs.State.{IsWaitingPhase}
use Rattle.ra_automaton.specs.State.{IsConsistent}
use Rattle.ra_node.specs.Queue.{TakesOut}
use Rattle.ra_node.specs.Resource.{Resource, clients_of}
use Rattle.ra_node.specs.Room.{IsNothing, answer_with}
use Rattle.ra_node.proofs.Distinct.{Once, leaves_once}
use Rattle.ra_node.proofs.LeaveEndings.{not_refused}
use Rattle.ra_node.proofs.CancelEndings.{never_refused, memory_alone, waits_in_phase, given_up_to_nobody, given_up_to_next, leaves_queue, not_kept}
use Rattle.ra_node.proofs.slot.Slot.cancel.Goals as goal

-- ---- The client does not wait: it is taken out of the queue, or it is not there

pub remove-requires : goal.remove-requires
remove-requires c = leaves_once c.self.inside.client c.self.inside.queue (subst (λ (r : Resource). Once (clients_of r)) (sym c.self.view_is) c.requires.once)

pub returns-then-remove-clause-cancelled : goal.returns-then-remove-clause-cancelled
returns-then-remove-clause-cancelled c =
    let left = c.remove.new.self in
    let view = c.self.view_is in
    let takes = subst (λ (r : Resource). TakesOut r.queue c.args.client true left) view c.if-remove.ensures in (
      leaves_queue c.args.self.now c.args.client (c.in_default.ensures.waits_not.0 refl) left _ _ _ c.requires.once takes c.requires.nothing.sends c.requires.nothing.marks
          (ap (λ (r : Resource). record r { queue = left }) view),
      subst (λ (r : Resource). IsConsistent r.state) (sym view) c.requires.consistent,
    )

pub returns-in_default-clause-cancelled : goal.returns-in_default-clause-cancelled
returns-in_default-clause-cancelled c =
    let s = c.self.inside in (
      not_kept c.args.self.now c.args.client (c.in_default.ensures.waits_not.0 refl)
          (subst (λ (r : Resource). Any (λ q. q.client ≡ c.args.client) r.queue → ⊥) c.self.view_is c.if-remove.ensures.0),
      (λ i. record { state = s.automaton; client = s.client; queue = c.if-remove.ensures.1 i }) ∙ c.self.view_is,
    )

-- ---- There is no room for the marks

pub returns-in_default-reserve-clause-cancelled : goal.returns-in_default-reserve-clause-cancelled
returns-in_default-reserve-clause-cancelled c = (inl (c.in-Some.waiting, c.in-Some.ensures.waits), refl)

pub returns-in_default-reserve-clause-room : goal.returns-in_default-reserve-clause-room
returns-in_default-reserve-clause-room c room is = false≢true (c.in_default-reserve.ensures.succeeds room.marks)

pub returns-in_default-reserve-clause-nothing : goal.returns-in_default-reserve-clause-nothing
returns-in_default-reserve-clause-nothing c = record { sends = c.requires.nothing.sends; marks = c.reserve.ensures.same ∙ c.requires.nothing.marks }

-- ---- The next client asks

pub pass_on-requires-clause-waits : goal.pass_on-requires-clause-waits
pass_on-requires-clause-waits c = waits_in_phase c.args.self.now c.args.client c.in-Some.waiting c.in-Some.ensures.waits

pub pass_on-requires-clause-number_left : goal.pass_on-requires-clause-number_left
pass_on-requires-clause-number_left c = c.in-Some-next.ensures.some.1

pub pass_on-requires-clause-once : goal.pass_on-requires-clause-once
pass_on-requires-clause-once c = c.requires.once

pub pass_on-requires-clause-none : goal.pass_on-requires-clause-none
pass_on-requires-clause-none c = ap (λ (l : Listed Message). l.items) c.replace-sends.ensures.value ∙ c.requires.nothing.sends

pub pass_on-requires-clause-nothing : goal.pass_on-requires-clause-nothing
pass_on-requires-clause-nothing c = record { sends = ap (λ (l : Listed Message). l.items) c.replace-sends.ensures.after ∙ c.new.ensures; marks = c.reserve.ensures.same ∙ c.requires.nothing.marks }

pub returns-in-Some-next-clause-cancelled : goal.returns-in-Some-next-clause-cancelled
returns-in-Some-next-clause-cancelled c =
    given_up_to_next c.args.self.now c.args.client c.in-Some.waiting c.in-Some.ensures.waits (answer_with c.pass_on.result c.pass_on.new.outcome) c.pass_on.new.self c.in-Some-next.next (Withdrawn c.in-Some.waiting ∷ []) c.requires.once refl c.pass_on.ensures.passed

pub returns-in-Some-next-clause-room : goal.returns-in-Some-next-clause-room
returns-in-Some-next-clause-room c room is =
    not_refused c.pass_on.result _ (c.pass_on.ensures.room (subst (λ (l : Listed Message). 2 * c.args.self.now.state.nodes ≤ l.spare) (sym c.replace-sends.ensures.value) room.sends)) is

pub returns-in-Some-next-clause-kept : goal.returns-in-Some-next-clause-kept
returns-in-Some-next-clause-kept c not_held = absurd (memory_alone c.pass_on.result c.pass_on.new.outcome _ _ c.pass_on.ensures.passed not_held)

pub returns-in-Some-next-clause-nothing : goal.returns-in-Some-next-clause-nothing
returns-in-Some-next-clause-nothing c = on_err_weaker c.pass_on.result (λ same. subst IsNothing (sym same) (record { sends = ap (λ (l : Listed Message). l.items) c.replace-sends.ensures.after ∙ c.new.ensures; marks = c.reserve.ensures.same ∙ c.requires.nothing.marks })) c.pass_on.ensures.kept

-- ---- Nobody is next

pub returns-in_default-withdraw_into-clause-cancelled : goal.returns-in_default-withdraw_into-clause-cancelled
returns-in_default-withdraw_into-clause-cancelled c =
    let s = c.self.inside in (
      inl (c.in-Some.waiting, c.in-Some.ensures.waits),
      (λ i. record { state = c.in_default-withdraw_into.ensures.withdrawn.err i; client = s.client; queue = s.queue }) ∙ c.self.view_is,
    )

pub returns-in_default-withdraw_into-clause-room : goal.returns-in_default-withdraw_into-clause-room
returns-in_default-withdraw_into-clause-room c room is =
    let s = c.self.inside in
    let inside : IsWaitingPhase s.automaton.phase =
    subst (λ (r : Resource). IsWaitingPhase r.state.phase) (sym c.self.view_is) (waits_in_phase c.args.self.now c.args.client c.in-Some.waiting c.in-Some.ensures.waits)
    in
    let before = ap (λ (l : Listed Message). l.spare) c.replace-sends.ensures.value in
    let few : s.automaton.nodes ≤ c.replace-sends.result.spare = omega (arith, before, room.sends, ap (λ (r : Resource). r.state.nodes) c.self.view_is) in
    never_refused _ s.automaton.phase c.in_default-withdraw_into.ensures.withdrawn.not_waiting (c.in_default-withdraw_into.ensures.room few) inside

pub returns-in_default-withdraw_into-clause-nothing : goal.returns-in_default-withdraw_into-clause-nothing
returns-in_default-withdraw_into-clause-nothing c = record { sends = ap (λ (l : Listed Message). l.items) c.replace-sends.ensures.after ∙ c.new.ensures; marks = c.reserve.ensures.same ∙ c.requires.nothing.marks }

pub withdraw_into-requires : goal.withdraw_into-requires
withdraw_into-requires c = ap (λ (l : Listed Message). l.items) c.replace-sends.ensures.value ∙ c.requires.nothing.sends

pub push_reserved-requires : goal.push_reserved-requires
push_reserved-requires c = omega (arith, c.in-Ok.ensures.ok)

pub returns-clause-cancelled : goal.returns-clause-cancelled
returns-clause-cancelled c =
    let s = c.self.inside in
    let marks : c.push_reserved.new.marks.items ≡ Withdrawn c.in-Some.waiting ∷ [] =
    c.push_reserved.ensures.items ∙ ap (λ (ms : List Mark). ms ++ Withdrawn c.in-Some.waiting ∷ []) (c.reserve.ensures.same ∙ c.requires.nothing.marks)
    in
    let did = c.in-Ok-withdraw_into.ensures in (
      given_up_to_nobody c.args.self.now c.args.client c.in-Some.waiting c.in-Some.ensures.waits s.automaton c.withdraw_into.new.self s.client s.queue c.in-Ok-withdraw_into.reaction.sends.items c.push_reserved.new.marks.items c.self.view_is did.withdrawn.ok.0 (c.in_default-next.ensures.none refl) marks,
      did.consistent,
    )

pub returns-clause-room : goal.returns-clause-room
returns-clause-room c room is = not_refused _ _ refl is
