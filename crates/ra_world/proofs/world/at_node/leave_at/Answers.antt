use Rattle.std.proofs.Common.{lit<, ◌≡◌, ◌++◌, ◌∷◌, [], List, length, Err, refl, sym, ap, ◌∙◌}
use Rattle.std.proofs.lemmas.Bool.{false≢true}
use Rattle.ra_stamp.specs.declared.message.Message.{Message}
use Rattle.ra_node.specs.Events.{Event as acts}
use Rattle.ra_node.proofs.EventsKept.{event_room}
use Rattle.ra_world.specs.Traffic.{Move}
use Rattle.ra_world.specs.Trying.{TriesAt}
use Rattle.ra_world.specs.Refused.{refusal_of_leave}
use Rattle.ra_world.proofs.StepTries.{at_err, room_for}
use Rattle.ra_world.proofs.AtPlace.{sends_fit_still}
use Rattle.ra_world.proofs.EventTries.{leave_refused}
use Rattle.ra_world.proofs.world.at_node.leave_at.Goals as goal

pub returns-then-not-is_held_by : goal.returns-then-not-is_held_by
returns-then-not-is_held_by g c = (
  refl,
  c.make_room.ensures.messages,
  c.make_room.ensures.moves,
  λ entry holds. false≢true (sym c.if-not-is_held_by.true ∙ c.is_held_by.ensures.held.1 (entry, holds)),
)

pub returns-in_default : goal.returns-in_default
returns-in_default g c = (refl, c.make_room.ensures.messages, c.make_room.ensures.moves, c.is_held_by.ensures.held.0 c.if-not-is_held_by.false)

pub returns-in_err-outcome : goal.returns-in_err-outcome
returns-in_err-outcome g c =
    let old = c.args.node.now in
    let kept = c.args.kept.now in
    at_err c.from_residual.result (λ e. e ≡ refusal_of_leave c.in_err-outcome.field-0.0)
    (λ q. TriesAt c.args.step.now (acts.Leave c.args.client c.args.name.now) old kept q c.leave.new.self c.make_room.new.self) c.from_residual.ensures.1
    (λ e is. (
      c.in_err-outcome.ensures.left.err,
      c.make_room.ensures.messages,
      c.make_room.ensures.moves,
      leave_refused old kept.log.moves c.args.client c.args.name.now c.in_err-outcome.field-0.0 e is
          (λ is. c.in_err-outcome.ensures.left.not_held.0 (ap Err is)) (λ is. c.in_err-outcome.ensures.left.allowed.0 is),
    ))

-- a leave sends two messages to each other node at most, and makes three marks at most
pub keep-requires : goal.keep-requires
keep-requires g c =
    let outcome = c.in_ok-outcome.outcome in
    let few = event_room c.args.node.now c.leave.new.self (acts.Leave c.args.client c.args.name.now) outcome.sends.items outcome.marks.items
    c.requires.consistent c.in_ok-outcome.ensures.left.ok in (
      lit< tt,
      (
        sends_fit_still _ _ _ (sends_fit_still _ _ _ few.0 c.requires.sends) c.in-Ok.ensures.bag_room,
        room_for c.make_room.new.self.log (length outcome.marks.items) 3 c.in-Ok.ensures.log_room few.1,
      ),
    )

pub returns : goal.returns
returns g c =
    let outcome = c.in_ok-outcome.outcome in
    let move : Move = record { step = c.args.step.now; sends = outcome.sends.items; marks = outcome.marks.items } in (
      c.in_ok-outcome.ensures.left.ok,
      (
        c.args.kept.now.under_way.items,
        refl,
        c.keep.ensures.messages ∙ ap (λ (ms : List Message). ms ++ outcome.sends.items) c.make_room.ensures.messages,
      ),
      c.keep.ensures.moves ∙ ap (λ (ms : List Move). ms ++ move ∷ []) c.make_room.ensures.moves,
    )
