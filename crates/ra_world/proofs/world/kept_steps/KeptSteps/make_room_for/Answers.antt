use Rattle.std.proofs.Common.{◌≡◌, ◌≤◌, ℕ, List, [], length, zero-le, arith, sym, ap, ◌∙◌, subst, inl}
use Rattle.ra_stamp.specs.declared.message.Message.{Message}
use Rattle.ra_stamp.specs.declared.entry.Mark.{Mark}
use Rattle.std.proofs.lemmas.Bool.{false≢true}
use Rattle.std.proofs.lemmas.Result.{on_ok_weaker}
use Rattle.ra_node.specs.Node.{NodeState}
use Rattle.ra_node.specs.Carried.{replies_at_most, entries_at_most}
use Rattle.ra_node.specs.Events.{ReceiveEvent}
use Rattle.ra_node.specs.Events.Event.{Receive}
use Rattle.ra_node.specs.Memory.{BringsNothing}
use Rattle.ra_world.specs.StepLog.{HasRoom}
use Rattle.ra_node.proofs.Determined.{event_one}
use Rattle.ra_node.proofs.EventLemmas.{receive_event_room_of}
use Rattle.ra_world.proofs.world.kept_steps.KeptSteps.make_room_for.Goals as goal
use Rattle.ra_world.proofs.world.kept_steps.KeptSteps.make_room_for.Goals.{in-Request, in-Reply}

pub returns-in-Ok-clause-room : goal.returns-in-Ok-clause-room
returns-in-Ok-clause-room g c sends marks new event =
    let m = c.args.message.now in
    let few = receive_event_room_of c.args.receiver.now new m sends marks event in
    let most = c.match-message.replies in
    let brought : (most.0 ≡ replies_at_most m) × (most.1 ≡ entries_at_most m) = elim c.match-message.branch [
      | in-Request w ↦ (
        ap (λ (p : ℕ × ℕ). p.0) w.replies-is ∙ sym (ap replies_at_most w.in-Request.is),
        ap (λ (p : ℕ × ℕ). p.1) w.replies-is ∙ sym (ap entries_at_most w.in-Request.is),
      )
      | in-Reply w ↦ (
        ap (λ (p : ℕ × ℕ). p.0) w.replies-is ∙ sym (ap replies_at_most w.in-Reply.is),
        ap (λ (p : ℕ × ℕ). p.1) w.replies-is ∙ sym (ap entries_at_most w.in-Reply.is),
      )
    ] in
    let log = c.in-Ok.ensures.log_room in (
      omega (arith, few.0, c.in-Ok.ensures.bag_room, brought.0),
      record {
        for_step = log.for_step;
        for_marks = omega (arith, few.1, log.for_marks, brought.1);
      },
    )

pub returns-clause-room : goal.returns-clause-room
returns-clause-room g c =
    let none : BringsNothing c.args.receiver.now c.args.message.now = c.brings_nothing.ensures.value.0 c.if-not-brings_nothing.false in
    on_ok_weaker c.make_room-2.result
    (λ (room : HasRoom c.make_room-2.new.self.log 0) (sends : List Message) (marks : List Mark) (new : NodeState) (event : ReceiveEvent c.args.receiver.now c.args.message.now sends marks new).
    let same = event_one c.args.receiver.now new none.0 (Receive c.args.message.now) sends [] marks [] event none.1 in (
      subst (λ (xs : List Message). length xs ≤ c.make_room-2.new.self.under_way.spare) (sym same.0) zero-le,
      subst (λ (xs : List Mark). HasRoom c.make_room-2.new.self.log (length xs)) (sym same.1) room,
    ))
    c.make_room-2.ensures.log_room

pub returns-clause-messages : goal.returns-clause-messages
returns-clause-messages g c = c.make_room-2.ensures.messages ∙ c.make_room.ensures.messages

pub returns-clause-moves : goal.returns-clause-moves
returns-clause-moves g c = c.make_room-2.ensures.moves ∙ c.make_room.ensures.moves

pub returns-then-not-brings_nothing-clause-err : goal.returns-then-not-brings_nothing-clause-err
returns-then-not-brings_nothing-clause-err g c = inl (λ brings. false≢true (sym c.if-not-brings_nothing.true ∙ c.brings_nothing.ensures.value.1 brings))
