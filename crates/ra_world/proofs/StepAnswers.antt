-- The exact outcome of a step that is tried.
use Rattle.std.proofs.Common.{◌≡◌, ◌≢◌, ◌↔◌, ◌⊎◌, ℕ, List, Result, Ok, Err, sym, ap, ◌∙◌, subst, inl, inr}
use Rattle.std.specs.Prelude.{IfOk, IsErrOf, IsOkUnless, OnErr}
use Rattle.ra_stamp.specs.declared.message.Message.{Message}
use Rattle.ra_stamp.specs.NodeId.{IsNodeNumber}
use Rattle.ra_node.specs.declared.outcome.Outcome.{Outcome}
use Rattle.ra_node.specs.Node.{NodeState}
use Rattle.ra_world.specs.declared.step.Step.{Step}
use Rattle.ra_world.specs.declared.step.Step.TheVariants.{Ask, Leave, Cancel, Deliver, Lose, Repeat, Forget}
use Rattle.ra_world.specs.declared.error.StepError.{StepError}
use Rattle.ra_world.specs.declared.error.StepError.TheVariants.{Memory}
use Rattle.ra_world.specs.Traffic.{Move}
use Rattle.ra_world.specs.Run.{IsRun, GoesOn}
use Rattle.ra_world.specs.World.{WorldState, with_move, HasCause, MayNeedMemory, IsFull, AnswersStep}
use Rattle.ra_world.specs.Keeping.{Keeps, Tries}
use Rattle.ra_world.proofs.StepTries.{shown}

-- what is kept is a run of the world that is shown
pub kept_run : (start : ℕ) (nodes : List NodeState) (left : List Message) (moves : List Move) (w : WorldState)
    → Keeps start nodes left moves → shown start nodes moves ≡ w → IsNodeNumber w.count × IsRun w.count w.start w.moves
kept_run start nodes left moves w keeps is = subst (λ (v : WorldState). IsNodeNumber v.count × IsRun v.count v.start v.moves) is (keeps.count, keeps.run)

module _
    (no_step : (n start : ℕ) (moves : List Move) (step : Step) (cause : StepError) → IsNodeNumber n → IsRun n start moves
    → HasCause n start moves step cause → GoesOn n start moves step → ⊥)
    (one : (n start : ℕ) (moves : List Move) (step : Step) (a b : StepError)
    → HasCause n start moves step a → HasCause n start moves step b → a ≡ b)
    (w new : WorldState) (step : Step) (was : IsNodeNumber w.count × IsRun w.count w.start w.moves)
    (run : IsRun new.count new.start new.moves)
  where
    -- `Memory` is no cause
    no_cause : (s : Step) → HasCause w.count w.start w.moves s Memory → ⊥
    no_cause (Ask node client name mode) why = why
    no_cause (Leave node client name) why = why
    no_cause (Cancel node client name) why = why
    no_cause (Forget node) why = why
    no_cause (Deliver message) why = why
    no_cause (Lose message) why = why
    no_cause (Repeat message) why = why

    made : (outcome : Outcome) → Tries w step (Ok outcome) new → GoesOn w.count w.start w.moves step
    made outcome tried = (outcome.sends.items, outcome.marks.items, subst (λ (v : WorldState). IsRun v.count v.start v.moves) tried run)

    refused : (r : Result Outcome StepError) → Tries w step r new → (cause : StepError) → cause ≢ Memory
        → IsErrOf r cause ↔ HasCause w.count w.start w.moves step cause
    refused (Ok outcome) tried cause known =
        (λ is. absurd (not_ok is), λ why. absurd (no_step w.count w.start w.moves step cause was.0 was.1 why (made outcome tried)))
      where
        not_ok : IsErrOf {T = Outcome} (Ok outcome) cause → ⊥
        not_ok is = cc
    refused (Err e) tried cause known = (
      λ is. elim tried.1 [
        | inl why ↦ subst (λ (x : StepError). HasCause w.count w.start w.moves step x) (same is) why
        | inr short ↦ absurd (known (sym (same is) ∙ short.is_memory))
      ],
      λ why. elim tried.1 [
        | inl why' ↦ ap Err (one w.count w.start w.moves step e cause why' why)
        | inr short ↦ absurd (no_step w.count w.start w.moves step cause was.0 was.1 why short.goes_on)
      ],
    )
      where
        same : IsErrOf {T = Outcome} (Err e) cause → e ≡ cause
        same is = cc

    allowed : (r : Result Outcome StepError) → Tries w step r new → IsOkUnless r Memory ↔ GoesOn w.count w.start w.moves step
    allowed (Ok outcome) tried = (λ _. made outcome tried, λ _. tt)
    allowed (Err e) tried = (
      λ is. elim tried.1 [
        | inl why ↦ absurd (no_cause step (subst (λ (x : StepError). HasCause w.count w.start w.moves step x) is why))
        | inr short ↦ short.goes_on
      ],
      λ on. elim tried.1 [
        | inl why ↦ absurd (no_step w.count w.start w.moves step e was.0 was.1 why on)
        | inr short ↦ short.is_memory
      ],
    )

    -- if memory is short, the step is one that can want it
    wanted : (r : Result Outcome StepError) → Tries w step r new → IsErrOf r Memory → MayNeedMemory w.count w.start w.moves step ⊎ IsFull w.moves
    wanted (Ok outcome) tried is = absurd (not_ok is)
      where
        not_ok : IsErrOf {T = Outcome} (Ok outcome) Memory → ⊥
        not_ok is = cc
    wanted (Err e) tried is =
        elim tried.1 [
          | inl why ↦ absurd (no_cause step (subst (λ (x : StepError). HasCause w.count w.start w.moves step x) (same is) why))
          | inr short ↦ short.needs
        ]
      where
        same : IsErrOf {T = Outcome} (Err e) Memory → e ≡ Memory
        same is = cc

    when_ok : (r : Result Outcome StepError) → Tries w step r new → IfOk r (λ outcome. new ≡ with_move w step outcome.sends.items outcome.marks.items)
    when_ok (Ok outcome) tried = tried
    when_ok (Err e) tried = tt

    when_err : (r : Result Outcome StepError) → Tries w step r new → OnErr r (new ≡ w)
    when_err (Ok outcome) tried = tt
    when_err (Err e) tried = tried.0

    pub answers : (r : Result Outcome StepError) → Tries w step r new → IsNodeNumber new.count → AnswersStep w step r new
    answers r tried count = record {
      ok = when_ok r tried;
      run = run;
      count = count;
      refused = refused r tried;
      allowed = allowed r tried;
      err = when_err r tried;
      memory = wanted r tried;
    }
