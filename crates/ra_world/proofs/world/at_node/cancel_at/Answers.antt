use Rattle.std.proofs.Common.{lit<, ◌≡◌, ◌++◌, ◌∷◌, [], List, length, Err, refl, sym, ap, ◌∙◌}
use Rattle.std.proofs.lemmas.Bool.{false≢true}
use Rattle.ra_stamp.specs.declared.message.Message.{Message}
use Rattle.ra_node.specs.Events.{Event as acts}
use Rattle.ra_node.proofs.EventsKept.{event_room}
use Rattle.ra_world.specs.Traffic.{Move}
use Rattle.ra_world.specs.Trying.{TriesAt}
use Rattle.ra_world.specs.Refused.{refusal_of_cancel}
use Rattle.ra_world.proofs.StepTries.{at_err, room_for}
use Rattle.ra_world.proofs.AtPlace.{sends_fit_still}
use Rattle.ra_world.proofs.EventTries.{cancel_refused}
use Rattle.ra_world.proofs.world.at_node.cancel_at.Goals as goal

pub returns-then-not-is_kept_waiting : goal.returns-then-not-is_kept_waiting
returns-then-not-is_kept_waiting g c = (
  refl,
  c.make_room.ensures.messages,
  c.make_room.ensures.moves,
  λ kept. false≢true (sym c.if-not-is_kept_waiting.true ∙ c.is_kept_waiting.ensures.kept.1 kept),
)

pub returns-in_default : goal.returns-in_default
returns-in_default g c = (refl, c.make_room.ensures.messages, c.make_room.ensures.moves, c.is_kept_waiting.ensures.kept.0 c.if-not-is_kept_waiting.false)

pub returns-in_err-outcome : goal.returns-in_err-outcome
returns-in_err-outcome g c =
    let old = c.args.node.now in
    let kept = c.args.kept.now in
    at_err c.from_residual.result (λ e. e ≡ refusal_of_cancel c.in_err-outcome.field-0.0)
    (λ q. TriesAt c.args.step.now (acts.Cancel c.args.client c.args.name.now) old kept q c.cancel.new.self c.make_room.new.self) c.from_residual.ensures.1
    (λ e is. (
      c.in_err-outcome.ensures.cancelled.err,
      c.make_room.ensures.messages,
      c.make_room.ensures.moves,
      cancel_refused old kept.log.moves c.args.client c.args.name.now c.in_err-outcome.field-0.0 e is
          (λ is. c.in_err-outcome.ensures.cancelled.not_waiting.0 (ap Err is)) (λ is. c.in_err-outcome.ensures.cancelled.allowed.0 is),
    ))

-- a cancel sends two messages to each other node at most, and makes three marks at most
pub keep-requires : goal.keep-requires
keep-requires g c =
    let outcome = c.in_ok-outcome.outcome in
    let few = event_room c.args.node.now c.cancel.new.self (acts.Cancel c.args.client c.args.name.now) outcome.sends.items outcome.marks.items
    c.requires.consistent c.in_ok-outcome.ensures.cancelled.ok in (
      lit< tt,
      (
        sends_fit_still _ _ _ (sends_fit_still _ _ _ few.0 c.requires.sends) c.in-Ok.ensures.bag_room,
        room_for c.make_room.new.self.log (length outcome.marks.items) 3 c.in-Ok.ensures.log_room few.1,
      ),
    )

pub returns : goal.returns
returns g c =
    let outcome = c.in_ok-outcome.outcome in
    let move : Move = record { step = c.args.step.now; sends = outcome.sends.items; marks = outcome.marks.items } in (
      c.in_ok-outcome.ensures.cancelled.ok,
      (
        c.args.kept.now.under_way.items,
        refl,
        c.keep.ensures.messages ∙ ap (λ (ms : List Message). ms ++ outcome.sends.items) c.make_room.ensures.messages,
      ),
      c.keep.ensures.moves ∙ ap (λ (ms : List Move). ms ++ move ∷ []) c.make_room.ensures.moves,
    )
