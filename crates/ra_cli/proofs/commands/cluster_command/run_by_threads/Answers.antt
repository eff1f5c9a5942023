use Rattle.std.proofs.Common.{Err, ap, refl, string_bytes}
use Rattle.std.specs.Io.KnownBytes.{Consumes}
use Rattle.ra_arguments.specs.declared.command_line.Task.TheVariants as task
use Rattle.ra_cli.specs.ClusterRun.{IsClusterRun}
use Rattle.ra_cli.specs.declared.refusal_lines.CommandRefusal.TheVariants.{Cluster}
use Rattle.ra_cli.proofs.ClusterRuns.{of_known, runs_cluster}
use Rattle.ra_cli.proofs.Statuses.{writes_as}
use Rattle.ra_cli.proofs.TaskStatuses.{if_shown, if_refused_at_once}
use Rattle.ra_cli.proofs.commands.cluster_command.run_by_threads.Goals as goal

pub returns-in-Ok : goal.returns-in-Ok
returns-in-Ok g c =
    let old = g.R.Read.remaining c.args.reader.now in
    let new = g.R.Read.remaining c.run_script.new.reader in
    let before = g.W.Write.contents c.args.writer.now in
    let after = g.W.Write.contents c.print_text.new.writer in
    let status = c.print_text.result.status in
    let text = string_bytes c.in-Ok.text in
    let known = c.in-Ok.ensures in
    if_shown (task.Cluster c.args.printed) old new before after status text
    (writes_as text c.as_bytes.result.now 0 before after status status refl c.as_bytes.ensures.value c.print_text.ensures)
    (λ all. runs_cluster c.args.printed old new before after text known.ok known.read all)
    (of_known old (λ input. IsClusterRun c.args.printed input text × Consumes old new input) (λ input. IsClusterRun c.args.printed input text)
    (λ input h. h.0) known.ok)

pub returns-in-Err : goal.returns-in-Err
returns-in-Err g c =
    let fault = c.in-Err.fault in
    if_refused_at_once (task.Cluster c.args.printed) _ _ _ _ _ (Cluster fault) _ c.refuse.ensures (λ writer. writer)
    (fault, refl, (λ is. c.in-Err.ensures.reads.failed (ap Err is)), c.in-Err.ensures.reads.refused)
