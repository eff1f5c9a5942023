use Rattle.std.proofs.Common.{◌≡◌, List, String, Global, map, string_bytes, sym, subst, ◌∙◌}
use Rattle.std.proofs.lemmas.Result.{IfOk-weaker}
use Rattle.ra_world.specs.Run.{IsRun}
use Rattle.ra_world.specs.Traffic.{Move}
use Rattle.ra_trace.specs.TraceText.{IsTrace}
use Rattle.ra_cli.proofs.commands.cluster_command.recorded_text.Goals as goal

-- a run with the same steps has the same trace
pub returns-in-Trace : goal.returns-in-Trace
returns-in-Trace c =
    let nodes = c.args.nodes in
    let steps = c.args.recorded.now.settled.steps.items in
    rw c.in-Trace.is (IfOk-weaker c.trace_of_steps.result
    (λ (text : String Global). (others : List Move) × (map (λ move. move.step) others ≡ steps) × IsTrace nodes 0 others (string_bytes text))
    (λ (text : String Global). (moves : List Move) → map (λ move. move.step) moves ≡ steps → IsRun nodes 0 moves → IsTrace nodes 0 moves (string_bytes text))
    (λ text (others, same, trace) moves are run.
    subst (λ (xs : List Move). IsTrace nodes 0 xs (string_bytes text)) (c.runs_are_determined.ensures nodes 0 others moves trace.count trace.run run (same ∙ sym are)) trace)
    c.trace_of_steps.ensures)
