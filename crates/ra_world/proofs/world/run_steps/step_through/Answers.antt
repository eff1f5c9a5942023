use Rattle.std.proofs.Common.{◌≡◌, ◌+◌, ℕ, List, sym, ◌∙◌, subst, refl, inl, inr}
use Rattle.std.proofs.lemmas.List.{take_all}
use Rattle.std.proofs.lemmas.Result.{IfOk-at_ok}
use Rattle.ra_node.specs.declared.outcome.Outcome.{Outcome}
use Rattle.ra_world.specs.declared.step.Step.{Step}
use Rattle.ra_world.specs.World.{with_move, HasMade}
use Rattle.ra_world.specs.declared.error.StepError.{StepError}
use Rattle.ra_world.specs.Refused.{IsRefusedAt}
use Rattle.ra_world.proofs.Refusing.{memory_or_not, no_fault, one_end, one_refusal, no_refusal, no_count, memory_no_count, made_next, no_run, refused_there, stops_before}
use Rattle.ra_world.proofs.Runs.{prefix_of_steps, steps_go_on}
use Rattle.ra_world.proofs.WorldLaws.{laws_below}
use Rattle.ra_world.proofs.world.run_steps.step_through.Goals as goal

pub returns-in-Err-clause-refused : goal.returns-in-Err-clause-refused
returns-in-Err-clause-refused c place cause is =
    let all = c.args.steps.now in
    let made = c.loop-place.invariant in
    let told = c.in-Err.ensures in
    elim (memory_or_not c.in-Err.cause) [
      | inl same ↦ absurd (no_refusal (sym (c.at.ensures.memory same) ∙ one_end is))
      | inr other ↦
          let ends = one_refusal (sym (c.at.ensures.refused other) ∙ one_end is) in
          let here : place ≡ c.loop-place.place + 1 = sym ends.0 in
          let this : c.in-Err.cause ≡ cause = ends.1 in
          let why = (told.refused c.in-Err.cause other).0 refl in
          let there =
          refused_there (prefix_of_steps laws_below.splits) (steps_go_on laws_below) c.args.world.now.count c.args.world.now.start c.loop-place.place all c.index-steps-place.result c.loop-place.world made
          c.loop-place-test.true c.index-steps-place.is (λ on. other (told.allowed.1 on)) c.in-Err.cause why in
          subst (λ (p : ℕ). IsRefusedAt c.args.world.now.count c.args.world.now.start all p cause) (sym here)
          (subst (λ (why : StepError). IsRefusedAt c.args.world.now.count c.args.world.now.start all (c.loop-place.place + 1) why) this there)
    ]

pub returns-in-Err-clause-allowed : goal.returns-in-Err-clause-allowed
returns-in-Err-clause-allowed c run =
    let all = c.args.steps.now in
    elim (memory_or_not c.in-Err.cause) [
      | inl same ↦ c.at.ensures.memory same
      | inr other ↦
          absurd (no_run (prefix_of_steps laws_below.splits) (steps_go_on laws_below) c.args.world.now.count c.args.world.now.start c.loop-place.place all c.index-steps-place.result c.loop-place.world
          c.loop-place.invariant c.loop-place-test.true c.index-steps-place.is (λ on. other (c.in-Err.ensures.allowed.1 on)) run)
    ]

pub returns-in-Err-clause-memory : goal.returns-in-Err-clause-memory
returns-in-Err-clause-memory c is =
    elim (memory_or_not c.in-Err.cause) [
      | inl same ↦
          stops_before c.args.world.now.count c.args.world.now.start c.loop-place.place c.args.steps.now c.index-steps-place.result c.loop-place.world c.step.new.self
          c.loop-place.invariant c.loop-place-test.true c.index-steps-place.is (c.in-Err.ensures.allowed.0 same) c.in-Err.ensures.err
      | inr other ↦ absurd (no_refusal (sym (one_end is) ∙ c.at.ensures.refused other))
    ]

pub loop-place-preserved : goal.loop-place-preserved
loop-place-preserved c =
    let outcome = c.in_default.field-0 in
    let moved =
    IfOk-at_ok (λ (o : Outcome). c.step.new.self ≡ with_move c.loop-place.world c.index-steps-place.result o.sends.items o.marks.items) c.in_default.is c.step.ensures.ok in
    made_next c.args.world.now.count c.args.world.now.start c.loop-place.place c.args.steps.now c.index-steps-place.result c.loop-place.world c.step.new.self
    outcome.sends.items outcome.marks.items c.loop-place.invariant c.loop-place-test.true c.index-steps-place.is moved c.step.ensures.run

pub returns-in-Err-clause-counted : goal.returns-in-Err-clause-counted
returns-in-Err-clause-counted c is =
    elim (memory_or_not c.in-Err.cause) [
      | inl same ↦ absurd (memory_no_count (sym (c.at.ensures.memory same) ∙ one_end is))
      | inr other ↦ absurd (no_count (sym (c.at.ensures.refused other) ∙ one_end is))
    ]

-- ---- All steps were made

pub returns-clause-ok : goal.returns-clause-ok
returns-clause-ok c =
    subst (λ (steps : List Step). HasMade c.args.world.now.count c.args.world.now.start steps c.loop-place.world)
    (take_all c.loop-place.place c.args.steps.now c.loop-place-test.false) c.loop-place.invariant

pub returns-clause-counted : goal.returns-clause-counted
returns-clause-counted c is = absurd (no_fault is)

pub returns-clause-refused : goal.returns-clause-refused
returns-clause-refused c place cause is = absurd (no_fault is)

pub returns-clause-memory : goal.returns-clause-memory
returns-clause-memory c is = absurd (no_fault is)
