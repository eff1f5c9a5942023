use Rattle.std.proofs.Common.{◌+◌, refl, arith, below_more}
use Rattle.ra_schedule.specs.Schedule.{IsEnabled}
use Rattle.ra_schedule.proofs.Turns.{nobody_below}
use Rattle.ra_schedule.proofs.Choosing.{none_below, nobody_past_the_end}
use Rattle.ra_schedule.proofs.choice.picking.first_enabled.Goals as goal

pub returns-in-Some-clause-first : goal.returns-in-Some-clause-first
returns-in-Some-clause-first c = (
  (c.in-Some.step, c.in-Some.ensures.some),
  none_below c.args.script.now c.args.world.now.moves c.loop-place.place c.loop-place.invariant,
)

pub loop-place-preserved : goal.loop-place-preserved
loop-place-preserved c =
    below_more (λ k. IsEnabled c.args.script.now c.args.world.now.moves (k + 1) → ⊥) c.loop-place.place c.loop-place.invariant
    (c.in_default.ensures.none refl)

pub returns-clause-none : goal.returns-clause-none
returns-clause-none c e =
    nobody_past_the_end c.args.script.now c.args.world.now.moves c.loop-place.place
    (let len = c.clients-place-end.ensures.value in omega arith) c.loop-place.invariant

pub loop-place-init : goal.loop-place-init
loop-place-init c = nobody_below c.args.script.now c.args.world.now c.args.clients.now c.args.first c.requires.tracked c.requires.stuck
