-- What the answer of a call that makes the trace of a run, and may write it, says of the steps.
use Rattle.std.specs.Prelude.{◌≡◌, ◌↔◌, ◌⊎◌, ℕ, List, Result, IfErr, IsErrOf}
use Rattle.ra_stamp.specs.NodeId.{IsNodeNumber}
use Rattle.ra_world.specs.declared.error.RunError.TheVariants as run
use Rattle.ra_world.specs.declared.error.StepError.{StepError}
use Rattle.ra_world.specs.declared.step.Step.{Step}
use Rattle.ra_world.specs.Refused.{IsRefusedAt}
use Rattle.ra_world.specs.Run.{WorldRun}
use Rattle.ra_trace.specs.declared.error.WriteTraceError.{WriteTraceError}
use Rattle.ra_trace.specs.declared.error.WriteTraceError.TheVariants.{Run, Memory, Write}

-- which refusal comes when. If memory runs out in the run, the answer is `Memory`. This may come at each step and
-- before the first, but a wrong number of nodes comes before.
pub record TellsRefusals {T : Type 0} (n start : ℕ) (steps : List Step)
    (result : Result T WriteTraceError) : Type 0 where
  pub bad_count : IsErrOf result (Run run.BadCount) ↔ (IsNodeNumber n → ⊥)
  pub refused : (place : ℕ) (cause : StepError) → IsErrOf result (Run (run.Refused place cause)) → IsNodeNumber n
      × IsRefusedAt n start steps place cause
  pub never : IsErrOf result (Run run.Memory) → ⊥
  pub memory : IsErrOf result Memory → IsNodeNumber n
  pub allowed : IsNodeNumber n → WorldRun n start steps → IfErr result (λ fault. (fault ≡ Memory) ⊎ (fault ≡ Write))
