use Rattle.std.proofs.Common.{◌≡◌, ◌<◌, ◌+◌, ℕ, List, Result, Err, length, take, take_all, ap, subst, ◌∙◌}
use Rattle.ra_world.specs.declared.step.Step.{Step}
use Rattle.ra_world.specs.Run.{WorldRun}
use Rattle.ra_trace.specs.declared.error.WriteTraceError.{WriteTraceError}
use Rattle.ra_trace.specs.declared.error.WriteTraceError.TheVariants.{Memory}
use Rattle.ra_world.proofs.Runs.{steps_go_on}
use Rattle.ra_world.proofs.WorldLaws.{laws_below}
use Rattle.ra_trace.specs.Writing.{HasTraced}
use Rattle.ra_trace.proofs.Traced.{goes_there}
use Rattle.ra_trace.proofs.trace_writing.trace_steps.Goals as goal

same_fault : (fault other : WriteTraceError) → ◌≡◌ {A = Result (Unit {0}) WriteTraceError} (Err fault) (Err other) → fault ≡ other
same_fault fault other e = cc

pub returns-in-Err-clause-memory : goal.returns-in-Err-clause-memory
returns-in-Err-clause-memory c n start opened is =
    let why : c.in-Err.fault ≡ Memory = same_fault c.in-Err.fault Memory is in
    let place = c.loop-place.place in
    let items = c.as_slice-step-items.result.now in
    let run : WorldRun n start (take (place + 1) items) =
    goes_there (steps_go_on laws_below) c.args.version n start place items c.step-item.result c.loop-place.world c.loop-place.text
    (c.loop-place.invariant n start opened) c.loop-place-test.true c.step-item.is (c.in-Err.ensures.memory (ap Err why)) in
    subst (λ (steps : List Step). (k : ℕ) × (k < length steps) × WorldRun n start (take (k + 1) steps)) c.as_slice-step-items.ensures
    (place, c.loop-place-test.true, run)

pub loop-place-preserved : goal.loop-place-preserved
loop-place-preserved c n start opened =
    c.in-Ok.ensures.traced n start c.as_slice-step-items.result.now c.loop-place-test.true c.step-item.is (c.loop-place.invariant n start opened)

pub returns-clause-traced : goal.returns-clause-traced
returns-clause-traced c n start opened =
    let items = c.as_slice-step-items.result.now in
    subst (λ (steps : List Step). HasTraced c.args.version n start steps c.loop-place.world c.loop-place.text)
    (take_all c.loop-place.place items c.loop-place-test.false ∙ c.as_slice-step-items.ensures) (c.loop-place.invariant n start opened)
