use Rattle.std.proofs.Common.{lit<, ◌≡◌, ◌++◌, ◌∷◌, [], List, Contains, length, Err, refl, sym, ap, ◌∙◌, subst, inl}
use Rattle.ra_stamp.specs.declared.message.Message.{Message}
use Rattle.ra_node.specs.Events.{Event as acts}
use Rattle.ra_world.specs.declared.error.StepError.TheVariants.{Memory}
use Rattle.ra_world.specs.StepLog.{LogState, HasRoom}
use Rattle.ra_world.specs.Traffic.{Move}
use Rattle.ra_world.specs.Trying.{IsEventRefusal, TriesAt}
use Rattle.ra_world.proofs.StepTries.{at_err}
use Rattle.ra_world.proofs.AtPlace.{sends_fit_still}
use Rattle.ra_world.proofs.EventTries.{taken_as}
use Rattle.ra_world.proofs.world.at_node.receive_at.Goals as goal

pub returns-in_err-make_room_for : goal.returns-in_err-make_room_for
returns-in_err-make_room_for g c =
    let old = c.args.receiver.now in
    let kept = c.args.kept.now in
    at_err c.from_residual.result (λ e. e ≡ Memory)
    (λ q. TriesAt c.args.step.now (acts.Receive c.args.message.now) old kept q old c.make_room_for.new.self) c.from_residual.ensures.1
    (λ e is. (
      refl,
      c.make_room_for.ensures.messages,
      c.make_room_for.ensures.moves,
      subst (IsEventRefusal old kept.log.moves (acts.Receive c.args.message.now)) (sym is) c.in_err-make_room_for.ensures.err,
    ))

pub returns-in_default : goal.returns-in_default
returns-in_default g c = (
  c.in_default.ensures.err,
  c.make_room_for.ensures.messages,
  c.make_room_for.ensures.moves,
  inl (c.in_default.ensures.memory_only_to_bring (ap Err (c.in_default.ensures.allowed.1 c.requires.addressed))),
)

pub take-requires : goal.take-requires
take-requires g c = (lit< tt, subst (λ (ms : List Message). Contains ms c.args.message.now) (sym c.make_room_for.ensures.messages) c.requires.there)

pub keep-requires : goal.keep-requires
keep-requires g c =
    let outcome = c.in-Ok.outcome in
    let fits = c.in_ok-make_room_for.ensures.room outcome.sends.items outcome.marks.items c.receive.new.self c.in-Ok.ensures.ok in (
      lit< tt,
      (
        sends_fit_still _ _ _ fits.0 c.take.ensures.spare,
        subst (λ (l : LogState). HasRoom l (length outcome.marks.items)) (sym c.take.ensures.log) fits.1,
      ),
    )

pub returns : goal.returns
returns g c =
    let kept = c.args.kept.now in
    let outcome = c.in-Ok.outcome in
    let move : Move = record { step = c.args.step.now; sends = outcome.sends.items; marks = outcome.marks.items } in (
      c.in-Ok.ensures.ok,
      (
        c.take.new.self.under_way.items,
        taken_as c.make_room_for.new.self.under_way.items kept.under_way.items c.take.new.self.under_way.items c.args.message.now
            kept.log.moves c.make_room_for.new.self.log.moves c.make_room_for.ensures.messages c.make_room_for.ensures.moves c.take.ensures.taken,
        c.keep.ensures.messages,
      ),
      c.keep.ensures.moves
          ∙ ap (λ (ms : List Move). ms ++ move ∷ []) (ap (λ (l : LogState). l.moves) c.take.ensures.log ∙ c.make_room_for.ensures.moves),
    )
