use Rattle.std.proofs.Common.{◌≡◌, ◌<◌, ◌≤◌, ℕ, ◌+◌, ◌∙◌, Option, Some, None, Err, length, IfErr, refl, sym, ap, subst, inr, arith}
use Rattle.std.specs.Prelude.{IfSome, IsNone}
use Rattle.std.proofs.lemmas.Result.{err_from_is_err_and}
use Rattle.ra_world.specs.World.{WorldState}
use Rattle.ra_schedule.specs.declared.choice.picking.Picked.{Picked}
use Rattle.ra_schedule.specs.declared.error.DriveError.TheVariants.{Memory}
use Rattle.ra_schedule.specs.Driving.{HasChosen, IsStoppedAfter, IsHeldUp}
use Rattle.ra_schedule.proofs.Following.{stopped_here}
use Rattle.ra_schedule.proofs.HandedOn.{no_ok, no_limit, no_work, one_refusal, countable_turn, all_turns}
use Rattle.ra_schedule.proofs.Turns.{ready_more, one_longer}
use Rattle.ra_schedule.proofs.driver.Driver.finish.Goals as goal
use Rattle.ra_schedule.proofs.driver.Driver.finish.Goals.{In-Some}

pub loop-picked-init : goal.loop-picked-init
loop-picked-init c = (c.requires.ready, ap length c.requires.opened, omega arith, refl)

pub next_choice-requires : goal.next_choice-requires
next_choice-requires c = c.loop-picked.invariant.0

-- no choice is left
none_is : {X : Type 0} (o : Option X) → ((x : X) → o ≡ Some x → ⊥) → IsNone o
none_is None not = refl
none_is (Some x) not = absurd (not x refl)

-- the choice of the turn
chosen : (c : In-Some) → HasChosen c.args.script.now c.args.policy.now c.loop-picked.world c.loop-picked.self c.next_choice.new.self c.in-Some.picked
chosen c =
    subst (λ (o : Option Picked). IfSome o (HasChosen c.args.script.now c.args.policy.now c.loop-picked.world c.loop-picked.self c.next_choice.new.self)) c.in-Some.is
    c.next_choice.ensures.some

pub returns-clause-ok : goal.returns-clause-ok
returns-clause-ok c =
    let (ready, turns, most, records) = c.loop-picked.invariant in
    (c.next_choice.ensures.none (none_is c.next_choice.result c.in_default.not-Some), all_turns _ c.loop-picked.turns c.args.limit turns most)

pub returns-clause-nodes : goal.returns-clause-nodes
returns-clause-nodes c = let tracks = c.loop-picked.invariant.0.driven.tracks in (tracks.count, tracks.start)

pub returns-clause-records : goal.returns-clause-records
returns-clause-records c = c.next_choice.ensures.records ∙ c.loop-picked.invariant.3

pub returns-clause-memory : goal.returns-clause-memory
returns-clause-memory c is = absurd (no_ok is)

-- a turn is left
turn_left : (turns limit : ℕ) → turns ≤ limit → (turns ≡ limit → ⊥) → turns < limit
turn_left turns limit most not = omega (arith, most, not)

pub returns-then-turns-limit-clause-err : goal.returns-then-turns-limit-clause-err
returns-then-turns-limit-clause-err c =
    let (ready, turns, most, records) = c.loop-picked.invariant in
    inr (ready.follows, (turns ∙ c.if-turns-limit.true, (c.in-Some.picked.choice, (chosen (goal.at.returns-then-turns-limit-clause-err c).In-Some).picks)))

pub returns-then-turns-limit-clause-nodes : goal.returns-then-turns-limit-clause-nodes
returns-then-turns-limit-clause-nodes c = let tracks = c.loop-picked.invariant.0.driven.tracks in (tracks.count, tracks.start)

pub returns-then-turns-limit-clause-memory : goal.returns-then-turns-limit-clause-memory
returns-then-turns-limit-clause-memory c is = absurd (no_limit is)

pub overflow_add-turns : goal.overflow_add-turns
overflow_add-turns c =
    let less = turn_left c.loop-picked.turns c.args.limit c.loop-picked.invariant.2 c.if-turns-limit.false in omega (arith, less, c.ranges.limit.fits)

pub loop-picked-smaller : goal.loop-picked-smaller
loop-picked-smaller c =
    let less = turn_left c.loop-picked.turns c.args.limit c.loop-picked.invariant.2 c.if-turns-limit.false in omega (arith, less)

pub take_step-requires-clause-driven : goal.take_step-requires-clause-driven
take_step-requires-clause-driven c = (chosen (goal.at.take_step-requires-clause-driven c).In-Some).driven

pub take_step-requires-clause-countable : goal.take_step-requires-clause-countable
take_step-requires-clause-countable c = countable_turn _ c.loop-picked.turns c.args.limit c.loop-picked.invariant.1
    (turn_left c.loop-picked.turns c.args.limit c.loop-picked.invariant.2 c.if-turns-limit.false) c.ranges.limit.fits

pub take_step-requires-clause-meaning : goal.take_step-requires-clause-meaning
take_step-requires-clause-meaning c = (chosen (goal.at.take_step-requires-clause-meaning c).In-Some).means

pub returns-in_err-take_step-clause-ok : goal.returns-in_err-take_step-clause-ok
returns-in_err-take_step-clause-ok c =
    let p = err_from_is_err_and c.from_residual.result c.from_residual.ensures.1 in
    no_work _ _ c.from_residual.result p.1

pub returns-in_err-take_step-clause-records : goal.returns-in_err-take_step-clause-records
returns-in_err-take_step-clause-records c =
    let p = err_from_is_err_and c.from_residual.result c.from_residual.ensures.1 in
    no_work _ _ c.from_residual.result p.1

pub returns-in_err-take_step-clause-nodes : goal.returns-in_err-take_step-clause-nodes
returns-in_err-take_step-clause-nodes c =
    let tracks = c.loop-picked.invariant.0.driven.tracks in
    subst (λ (w : WorldState). (w.count ≡ c.args.script.now.nodes) × (w.start ≡ 0)) (sym c.in_err-take_step.ensures.same) (tracks.count, tracks.start)

pub returns-in_err-take_step-clause-err : goal.returns-in_err-take_step-clause-err
returns-in_err-take_step-clause-err c =
    let script = c.args.script.now in
    let policy = c.args.policy.now in
    let moves = c.loop-picked.world.moves in
    let (ready, turns, most, records) = c.loop-picked.invariant in
    let less : length moves < c.args.limit = subst (λ (n : ℕ). n < c.args.limit) (sym turns) (turn_left c.loop-picked.turns c.args.limit most c.if-turns-limit.false) in
    let p = err_from_is_err_and c.from_residual.result c.from_residual.ensures.1 in
    subst (λ r. IfErr r (IsStoppedAfter script policy c.args.limit c.take_step.new.world.moves)) (sym (p.1 ∙ ap Err p.2))
    (subst (λ (w : WorldState). IsStoppedAfter script policy c.args.limit w.moves c.in_err-take_step.field-0.0) (sym c.in_err-take_step.ensures.same)
    (stopped_here script policy c.args.limit moves c.in_err-take_step.field-0.0 ready.follows less
    (c.in-Some.picked.choice, (chosen (goal.at.returns-in_err-take_step-clause-err c).In-Some).picks, c.in_err-take_step.ensures.err)))

pub returns-in_err-take_step-clause-memory : goal.returns-in_err-take_step-clause-memory
returns-in_err-take_step-clause-memory c is =
    let fault = c.in_err-take_step.field-0.0 in
    let (ready, turns, most, records) = c.loop-picked.invariant in
    let p = err_from_is_err_and c.from_residual.result c.from_residual.ensures.1 in
    let why : fault ≡ Memory = one_refusal c.from_residual.result fault Memory (p.1 ∙ ap Err p.2) is in
    let (step, means) = c.in_err-take_step.ensures.memory (ap Err why) in
    subst (λ (w : WorldState). IsHeldUp c.args.script.now c.args.policy.now c.args.limit w.moves) (sym c.in_err-take_step.ensures.same) (record {
      follows = ready.follows;
      within = subst (λ (n : ℕ). n < c.args.limit) (sym turns) (turn_left c.loop-picked.turns c.args.limit most c.if-turns-limit.false);
      goes_on = (c.in-Some.picked.choice, step, (chosen (goal.at.returns-in_err-take_step-clause-memory c).In-Some).picks, means);
    })

pub loop-picked-preserved : goal.loop-picked-preserved
loop-picked-preserved c =
    let (ready, turns, most, records) = c.loop-picked.invariant in
    let chosen = (chosen (goal.at.loop-picked-preserved c).In-Some) in
    let made = c.in_ok-take_step.ensures.ok in
    let (move, means, moves) = made.made in (
      ready_more c.args.script.now c.args.policy.now c.loop-picked.world c.take_step.new.world c.loop-picked.self c.next_choice.new.self c.take_step.new.self c.in-Some.picked.choice
          ready c.next_choice.ensures.records chosen.choices chosen.picks chosen.drawn made,
      one_longer c.loop-picked.world.moves c.take_step.new.world.moves move moves ∙ ap (λ (n : ℕ). n + 1) turns,
      (let less = turn_left c.loop-picked.turns c.args.limit most c.if-turns-limit.false in omega (arith, less)),
      made.records ∙ c.next_choice.ensures.records ∙ records,
    )
