use Rattle.std.proofs.Common.{◌≡◌, Result, Err, refl, sym, ap, subst}
use Rattle.ra_world.specs.declared.error.NewError.{NewError}
use Rattle.ra_world.specs.declared.error.NewError.TheVariants as new
use Rattle.ra_world.specs.declared.error.RunError.TheVariants as run
use Rattle.ra_trace.specs.declared.error.WriteTraceError.{WriteTraceError}
use Rattle.ra_trace.specs.declared.error.WriteTraceError.TheVariants.{Run, Memory}
use Rattle.ra_trace.specs.TraceText.{IsTraceIn}
use Rattle.ra_trace.specs.Writing.{IsOpened}
use Rattle.ra_trace.proofs.Refusing.{unopened, stopped, all_made}
use Rattle.ra_trace.proofs.trace_writing.text_in.Goals as goal

-- ---- The world is not made

memory_is_no_count : (why : NewError) → why ≡ new.Memory → ◌≡◌ {A = NewError} why new.BadCount → ⊥
memory_is_no_count why is e = cc

same_refusal : {T : Type 0} (why other : NewError) → ◌≡◌ {A = Result T NewError} (Err why) (Err other) → why ≡ other
same_refusal why other e = cc

pub returns-in-Err-BadCount : goal.returns-in-Err-BadCount
returns-in-Err-BadCount c =
    let arm = c.in-Err-BadCount in
    let fault : WriteTraceError = Run run.BadCount in
    let tells = unopened c.args.first.nodes c.args.first.start c.args.steps.now.items (Err fault) fault refl (arm.ensures.bad_count.0 (ap Err arm.field-0-is)) in
    record {
      ok = tt;
      refusals = tells.refusals;
      early = tells.early;
    }

pub returns-in-Err-Memory : goal.returns-in-Err-Memory
returns-in-Err-Memory c =
    let arm = c.in-Err-Memory in
    let tells = unopened c.args.first.nodes c.args.first.start c.args.steps.now.items (Err Memory) Memory refl
    (λ bad. memory_is_no_count arm.field-0 arm.field-0-is (same_refusal _ _ (arm.ensures.bad_count.1 bad))) in
    record {
      ok = tt;
      refusals = tells.refusals;
      early = tells.early;
    }

-- ---- A step is not made

pub returns-in-Err : goal.returns-in-Err
returns-in-Err c =
    let opened : IsOpened c.args.first.nodes c.args.first.start c.in-Ok.world =
    record { number = c.in-Ok.ensures.count; is = c.in-Ok.ensures.ok; run = c.in-Ok.ensures.run } in
    let tells = stopped c.args.first.nodes c.args.first.start c.args.steps.now.items (Err c.in-Err.fault) c.in-Err.fault refl opened.number
    (c.in-Err.ensures c.new-text.ensures.says opened) in
    record {
      ok = tt;
      refusals = tells.refusals;
      early = tells.early;
    }

-- ---- All steps are made

pub returns-in-Ok-finish : goal.returns-in-Ok-finish
returns-in-Ok-finish c =
    let n = c.args.first.nodes in
    let start = c.args.first.start in
    let opened : IsOpened c.args.first.nodes c.args.first.start c.in-Ok.world =
    record { number = c.in-Ok.ensures.count; is = c.in-Ok.ensures.ok; run = c.in-Ok.ensures.run } in
    let (moves, bytes, made, trace, says) = c.in-Ok-written.ensures c.new-text.ensures.says opened in
    let tells = all_made n start c.args.steps.now.items c.in-Ok-finish.text opened.number in
    record {
      ok = (moves, made, subst (IsTraceIn c.args.first.version n start moves) (sym (c.in-Ok-finish.ensures.text bytes says)) trace);
      refusals = tells.refusals;
      early = tells.early;
    }

-- there was no memory for all of the text
pub returns-in-Err-finish : goal.returns-in-Err-finish
returns-in-Err-finish c =
    let tells = stopped c.args.first.nodes c.args.first.start c.args.steps.now.items (Err Memory) Memory refl c.in-Ok.ensures.count tt in
    record {
      ok = tt;
      refusals = tells.refusals;
      early = tells.early;
    }
