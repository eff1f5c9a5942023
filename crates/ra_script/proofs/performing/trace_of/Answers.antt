use Rattle.std.proofs.Common.{◌≡◌, ℕ, List, string_bytes, sym, subst, ◌∙◌}
use Rattle.std.proofs.lemmas.Result.{err_from_is_err_and}
use Rattle.ra_world.specs.Run.{IsRun}
use Rattle.ra_world.specs.Traffic.{Move}
use Rattle.ra_trace.specs.declared.line.version.Version.TheVariants.{ThreeWithSends}
use Rattle.ra_trace.specs.TraceText.{IsTrace, IsTraceIn}
use Rattle.ra_script.specs.Performed.{Says}
use Rattle.ra_script.specs.Printing.{trace_kind}
use Rattle.ra_script.proofs.Printing.{written, no_memory, undriven}
use Rattle.ra_script.proofs.performing.trace_of.Goals as goal
use Rattle.ra_script.proofs.performing.trace_of.Goals.{then-has_sends, else-has_sends}

pub returns-in-Ok : goal.returns-in-Ok
returns-in-Ok c =
    let policy = c.args.policy.now in
    let script = c.args.script.now in
    let recording = c.in_ok-recording.ensures.ok in
    let moves = recording.moves in
    let nodes = c.nodes-nodes.result in
    let text = string_bytes c.in-Ok.text in
    let nodes_is : nodes ≡ script.nodes = c.nodes-nodes.ensures.value in
    let run : IsRun nodes 0 moves = subst (λ (n : ℕ). IsRun n 0 moves) (sym nodes_is) recording.run.follows.run in
    let says : Says (trace_kind c.args.has_sends) policy script moves c.in_ok-recording.recording.report text =
    elim c.if-has_sends.branch [
      | then-has_sends w ↦
          let (others, same, trace) = rw (sym w.text-is ∙ c.in-Ok.is) at w.trace_text_with_sends-text.ensures.ok in
          let equal : others ≡ moves = c.runs_are_determined.ensures nodes 0 others moves trace.count trace.run run (same ∙ recording.steps) in
          rw w.if-has_sends.true (subst (λ (n : ℕ). IsTraceIn ThreeWithSends n 0 moves text) nodes_is
          (subst (λ (xs : List Move). IsTraceIn ThreeWithSends nodes 0 xs text) equal trace))
      | else-has_sends w ↦
          let (others, same, trace) = rw (sym w.text-is ∙ c.in-Ok.is) at w.trace_text-text.ensures.ok in
          let equal : others ≡ moves = c.runs_are_determined.ensures nodes 0 others moves trace.count trace.run run (same ∙ recording.steps) in
          rw w.if-has_sends.false (subst (λ (n : ℕ). IsTrace n 0 moves text) nodes_is
          (subst (λ (xs : List Move). IsTrace nodes 0 xs text) equal trace))
    ] in
    written (trace_kind c.args.has_sends) policy script _ (λ input is. record {
      script = script;
      script_is = is;
      moves = moves;
      report = c.in_ok-recording.recording.report;
      run = recording.run;
      says = says;
    })

pub returns-in_err-recording : goal.returns-in_err-recording
returns-in_err-recording c =
    let p = err_from_is_err_and c.from_residual.result c.from_residual.ensures.1 in
    rw (p.1, p.2)
    (undriven (trace_kind c.args.has_sends) c.args.policy.now c.args.script.now c.in_err-recording.field-0.0 c.in_err-recording.ensures.answers)

pub returns-in-Err : goal.returns-in-Err
returns-in-Err c = no_memory (trace_kind c.args.has_sends) c.args.policy.now c.args.script.now
