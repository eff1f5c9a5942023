use Rattle.std.proofs.Common.{◌+◌, ℕ, List, arith, refl, sym, ap, ◌∙◌, subst, inl, inr}
use Rattle.std.proofs.lemmas.Result.{IfOk-from_err}
use Rattle.ra_schedule.specs.declared.driver.client_progress.Progress.{Progress}
use Rattle.ra_schedule.specs.Progress.{Tracks}
use Rattle.ra_schedule.proofs.HandedOn.{countable_turn}
use Rattle.ra_schedule.proofs.Replayed.{goes_on_none, goes_on_more}
use Rattle.ra_schedule.proofs.driver.replaying.go_on.Goals as goal

pub loop-turn-init : goal.loop-turn-init
loop-turn-init c = (c.requires, goes_on_none c.args.script.now c.args.world.now.moves, sym c.steps-turn.ensures.value)

pub oldest-requires : goal.oldest-requires
oldest-requires c =
    subst (λ (list : List Progress). Tracks c.args.script.now c.loop-turn.world list) (sym c.deref.ensures.value) c.loop-turn.invariant.0.driven.tracks

pub returns-in_default-clause-replay : goal.returns-in_default-clause-replay
returns-in_default-clause-replay c = c.loop-turn.invariant.0

pub returns-in_default-clause-goes_on : goal.returns-in_default-clause-goes_on
returns-in_default-clause-goes_on c = c.loop-turn.invariant.1

pub returns-in_default-clause-ends : goal.returns-in_default-clause-ends
returns-in_default-clause-ends c = inr (c.in_default.ensures.none refl)

pub make-requires-clause-replay : goal.make-requires-clause-replay
make-requires-clause-replay c = c.loop-turn.invariant.0

pub make-requires-clause-countable : goal.make-requires-clause-countable
make-requires-clause-countable c = countable_turn _ c.loop-turn._turn c.args.limit c.loop-turn.invariant.2 c.loop-turn-test.true c.ranges.limit.fits

pub returns-in_err-make-clause-replay : goal.returns-in_err-make-clause-replay
returns-in_err-make-clause-replay c = IfOk-from_err c.from_residual.result _ c.from_residual.ensures.0

pub returns-in_err-make-clause-goes_on : goal.returns-in_err-make-clause-goes_on
returns-in_err-make-clause-goes_on c = IfOk-from_err c.from_residual.result _ c.from_residual.ensures.0

pub returns-in_err-make-clause-ends : goal.returns-in_err-make-clause-ends
returns-in_err-make-clause-ends c = IfOk-from_err c.from_residual.result _ c.from_residual.ensures.0

pub loop-turn-preserved : goal.loop-turn-preserved
loop-turn-preserved c =
    let (replay, on, turns) = c.loop-turn.invariant in
    let (new, made) = c.in_ok-make.ensures in
    let (more, count) = goes_on_more c.args.script.now c.args.world.now.moves c.loop-turn.world.moves c.make.new.world.moves c.in-Some.choice on c.in-Some.ensures.some made in
    (new, more, count ∙ ap (λ (n : ℕ). n + 1) turns)

pub returns-clause-replay : goal.returns-clause-replay
returns-clause-replay c = c.loop-turn.invariant.0

pub returns-clause-goes_on : goal.returns-clause-goes_on
returns-clause-goes_on c = c.loop-turn.invariant.1

pub returns-clause-ends : goal.returns-clause-ends
returns-clause-ends c = let turns = c.loop-turn.invariant.2 in let past = c.loop-turn-test.false in inl (omega (arith, turns, past))
