use Rattle.std.proofs.Common.{◌≡◌, ◌+◌, List, ◌∷◌, drop, length, arith, refl, sym, ap, ◌∙◌, subst, inr}
use Rattle.std.proofs.lemmas.List as lists
use Rattle.std.proofs.lemmas.Result.{IfOk-from_err}
use Rattle.ra_world.specs.declared.step.Step.{Step}
use Rattle.ra_world.specs.Traffic.{Move}
use Rattle.ra_schedule.specs.Shrinking.{Redone, Replays}
use Rattle.ra_schedule.specs.Replaying.{IsReplay}
use Rattle.ra_schedule.proofs.Replayed.{redone_by, one_at_most, replays_more}
use Rattle.ra_schedule.proofs.driver.replaying.redo_all.Goals as goal
use Rattle.ra_schedule.proofs.driver.replaying.redo_all.Goals.{in-Some+in_ok-make, in_default}

pub loop-step-init : goal.loop-step-init
loop-step-init c = (
  c.requires.replay,
  let none = ap length c.requires.opened in omega (arith, none),
  λ after more. subst (λ (moves : List Move). Replays c.args.script.now moves c.args.steps.now after) c.requires.opened more,
)

pub make-requires-clause-replay : goal.make-requires-clause-replay
make-requires-clause-replay c = c.loop-step.invariant.0

pub make-requires-clause-countable : goal.make-requires-clause-countable
make-requires-clause-countable c =
    let few = c.loop-step.invariant.1 in let less = c.loop-step-test.true in omega (arith, few, less)

pub returns-in_err-make-clause-replay : goal.returns-in_err-make-clause-replay
returns-in_err-make-clause-replay c = IfOk-from_err c.from_residual.result _ c.from_residual.ensures.0

pub returns-in_err-make-clause-replays : goal.returns-in_err-make-clause-replays
returns-in_err-make-clause-replays c = IfOk-from_err c.from_residual.result _ c.from_residual.ensures.0

pub loop-step-preserved : goal.loop-step-preserved
loop-step-preserved c =
    let script = c.args.script.now in
    let steps = c.args.steps.now in
    let i = c.loop-step.step-index in
    let step = c.step-item.result in
    let (replay, few, so_far) = c.loop-step.invariant in
    let old = c.loop-step.world.moves in
    let done : IsReplay script c.match-choice_for.world c.match-choice_for.driver × Redone script step old c.match-choice_for.world.moves =
    elim c.match-choice_for.branch [
      | in-Some+in_ok-make w ↦
          let (new, made) = w.in_ok-make.ensures in
          rw (w.world-is, w.driver-is) (new, redone_by script step w.in-Some.choice old w.make.new.world.moves w.in-Some.ensures.some made)
      | in_default w ↦ rw (w.world-is, w.driver-is) (replay, inr (λ choice made is means. w.in_default.ensures.none refl choice is, refl))
    ] in
    let split : drop i steps ≡ step ∷ drop (i + 1) steps =
    lists.drop_more steps i step c.loop-step-test.true ∙ ap (λ (s : Step). s ∷ drop (i + 1) steps) (sym c.step-item.is) in (
      done.0,
      one_at_most script step old c.match-choice_for.world.moves i done.1 few,
      replays_more script steps old c.match-choice_for.world.moves step (drop i steps) (drop (i + 1) steps) split so_far done.1,
    )

pub returns-clause-replay : goal.returns-clause-replay
returns-clause-replay c = c.loop-step.invariant.0

pub returns-clause-replays : goal.returns-clause-replays
returns-clause-replays c =
    let (replay, few, so_far) = c.loop-step.invariant in
    so_far c.loop-step.world.moves
    (subst (λ (steps : List Step). Replays c.args.script.now c.loop-step.world.moves steps c.loop-step.world.moves)
    (sym (lists.drop_all c.loop-step.step-index c.args.steps.now (let past = c.loop-step-test.false in omega (arith, past)))) refl)
