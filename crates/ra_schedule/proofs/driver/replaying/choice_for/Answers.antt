use Rattle.std.proofs.Common.{refl, sym, ap}
use Rattle.std.proofs.lemmas.Bool.{true≢false}
use Rattle.ra_world.specs.declared.step.Step.{Step}
use Rattle.ra_schedule.specs.declared.choice.Choice.TheVariants.{Message, Lost, Repeated}
use Rattle.ra_schedule.proofs.Replayed.{Takes, takes_one, taken_at, none_for, first_for, is_delivered}
use Rattle.ra_schedule.proofs.driver.replaying.choice_for.Goals as goal
use Rattle.ra_schedule.proofs.driver.replaying.choice_for.Goals.{In_ok-place, In_err-place, in-Deliver, in-Deliver-2, in-Deliver-3}

takes : (c : In_ok-place) → Takes c.args.step.now c.match-step.message.now
takes c = elim c.match-step.branch [
  | in-Deliver w ↦ takes_one _ _ _ w.in-Deliver.is (ap (λ m. m.now) w.message-is)
  | in-Deliver-2 w ↦ takes_one _ _ _ w.in-Deliver.is (ap (λ m. m.now) w.message-is)
  | in-Deliver-3 w ↦ takes_one _ _ _ w.in-Deliver.is (ap (λ m. m.now) w.message-is)
]

takes_none : (c : In_err-place) → Takes c.args.step.now c.match-step.message.now
takes_none c = elim c.match-step.branch [
  | in-Deliver w ↦ takes_one _ _ _ w.in-Deliver.is (ap (λ m. m.now) w.message-is)
  | in-Deliver-2 w ↦ takes_one _ _ _ w.in-Deliver.is (ap (λ m. m.now) w.message-is)
  | in-Deliver-3 w ↦ takes_one _ _ _ w.in-Deliver.is (ap (λ m. m.now) w.message-is)
]

pub returns-in_err-place-clause-none : goal.returns-in_err-place-clause-none
returns-in_err-place-clause-none c none choice =
    none_for c.args.world.now.moves c.args.step.now c.match-step.message.now choice (c.in_err-place.ensures.none refl)
    (takes_none (goal.at.returns-in_err-place-clause-none c).In_err-place)

pub returns-in-Lose-clause-some : goal.returns-in-Lose-clause-some
returns-in-Lose-clause-some c =
    first_for c.args.world.now.moves c.args.step.now c.match-step.message.now c.in_ok-place.place (Lost c.in_ok-place.place)
    (takes (goal.at.returns-in-Lose-clause-some c).In_ok-place) c.in_ok-place.ensures.some (sym (ap (λ (s : Step). taken_at s c.in_ok-place.place) c.in-Lose.is))

pub returns-in-Repeat-clause-some : goal.returns-in-Repeat-clause-some
returns-in-Repeat-clause-some c =
    first_for c.args.world.now.moves c.args.step.now c.match-step.message.now c.in_ok-place.place (Repeated c.in_ok-place.place)
    (takes (goal.at.returns-in-Repeat-clause-some c).In_ok-place) c.in_ok-place.ensures.some (sym (ap (λ (s : Step). taken_at s c.in_ok-place.place) c.in-Repeat.is))

pub returns-in_default : goal.returns-in_default
returns-in_default c = record {
  some = first_for c.args.world.now.moves c.args.step.now c.match-step.message.now c.in_ok-place.place (Message c.in_ok-place.place)
      (takes (goal.at.returns-in_default c).In_ok-place) c.in_ok-place.ensures.some
      (is_delivered c.args.step.now c.in_ok-place.place c.in_default.not-Lose c.in_default.not-Repeat);
  none = λ e. absurd (true≢false e);
}
