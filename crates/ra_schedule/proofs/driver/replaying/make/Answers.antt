use Rattle.std.proofs.Common.{subst, sym, refl, inr, List}
use Rattle.ra_schedule.specs.declared.choice.Choice.{Choice}
use Rattle.ra_schedule.specs.declared.driver.client_progress.Progress.{Progress}
use Rattle.ra_schedule.specs.Progress.{Tracks}
use Rattle.ra_schedule.specs.Driving.{IsMeaning, HasTakenStep}
use Rattle.ra_schedule.proofs.Replayed.{cannot, replay_more}
use Rattle.ra_schedule.proofs.driver.replaying.make.Goals as goal

pub with_meaning-picked-requires : goal.with_meaning-picked-requires
with_meaning-picked-requires c =
    subst (λ (list : List Progress). Tracks c.args.script.now c.args.world.now list) (sym c.deref.ensures.value) c.requires.replay.driven.tracks

pub returns-in-Err : goal.returns-in-Err
returns-in-Err c = (
  c.requires.replay,
  inr (
    cannot c.args.script.now c.args.world.now.moves c.args.choice _ _ c.in-Err.is
        c.with_meaning-picked.ensures.meaning,
    refl,
  ),
)

pub take_step-requires-clause-driven : goal.take_step-requires-clause-driven
take_step-requires-clause-driven c = c.requires.replay.driven

pub take_step-requires-clause-meaning : goal.take_step-requires-clause-meaning
take_step-requires-clause-meaning c =
    subst (λ (x : Choice). IsMeaning c.args.script.now c.args.world.now.moves x c.with_meaning-picked.result.meaning) (sym c.with_meaning-picked.ensures.choice)
    c.with_meaning-picked.ensures.meaning

pub returns-in-Ok : goal.returns-in-Ok
returns-in-Ok c =
    replay_more c.args.script.now c.args.choice c.args.world.now c.take_step.new.world c.args.driver.now c.take_step.new.self c.requires.replay
    (subst (λ (x : Choice). HasTakenStep c.args.script.now x c.args.world.now c.args.driver.now c.take_step.new.world c.take_step.new.self)
    c.with_meaning-picked.ensures.choice c.in-Ok.ensures.ok)
