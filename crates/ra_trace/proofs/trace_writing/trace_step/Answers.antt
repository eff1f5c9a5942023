use Rattle.std.proofs.Common.{◌≡◌, ◌+◌, Result, Err, refl}
use Rattle.ra_world.specs.declared.error.RunError.{RunError}
use Rattle.ra_world.specs.declared.error.RunError.TheVariants.{Refused}
use Rattle.ra_trace.specs.declared.error.WriteTraceError.{WriteTraceError}
use Rattle.ra_trace.specs.declared.error.WriteTraceError.TheVariants.{Run, Memory}
use Rattle.ra_world.proofs.Runs.{prefix_of_steps, steps_go_on}
use Rattle.ra_world.proofs.WorldLaws.{laws_below}
use Rattle.ra_trace.proofs.Traced.{traced_more, stops_by}
use Rattle.ra_trace.proofs.trace_writing.trace_step.Goals as goal

-- that a run is refused is not that memory ran out
run_is_no_memory : (why : RunError) → ◌≡◌ {A = Result (Unit {0}) WriteTraceError} (Err (Run why)) (Err Memory) → ⊥
run_is_no_memory why e = cc

pub returns-else-text-clause-traced : goal.returns-else-text-clause-traced
returns-else-text-clause-traced c n start steps inside is traced =
    traced_more c.args.version n start c.args.place steps c.args.step.now c.args.world.now c.step.new.self c.in-Ok.outcome.sends.items c.in-Ok.outcome.marks.items
    c.args.text.now c.push_move.new.text traced inside is c.in-Ok.ensures.ok c.in-Ok.ensures.run c.push_move.ensures.text c.push_move.ensures.fit

pub returns-in_default-clause-traced : goal.returns-in_default-clause-traced
returns-in_default-clause-traced c n start steps inside is traced =
    let cause = c.in-Err.cause in
    stops_by (prefix_of_steps laws_below.splits) (steps_go_on laws_below) c.args.version n start c.args.place steps c.args.step.now c.args.world.now c.args.text.now cause
    (Run (Refused (c.args.place + 1) cause)) traced inside is (λ other. (c.in-Err.ensures.refused cause other).0 refl) c.in-Err.ensures.allowed.1
    (λ same. absurd (c.in_default.not-Memory same)) (λ other. refl)

pub returns-then-text-clause-memory : goal.returns-then-text-clause-memory
returns-then-text-clause-memory c is = c.in-Ok.ensures.allowed.0 tt

pub returns-in-Memory-clause-memory : goal.returns-in-Memory-clause-memory
returns-in-Memory-clause-memory c is = c.in-Err.ensures.allowed.0 c.in-Memory.is

pub returns-in_default-clause-memory : goal.returns-in_default-clause-memory
returns-in_default-clause-memory c is = absurd (run_is_no_memory (Refused (c.args.place + 1) c.in-Err.cause) is)
