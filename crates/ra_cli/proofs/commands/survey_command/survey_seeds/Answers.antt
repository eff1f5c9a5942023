use Rattle.std.proofs.Common.{◌≡◌, Err, true, false, ap, refl, string_bytes}
use Rattle.std.specs.Io.KnownBytes.{Consumes}
use Rattle.ra_arguments.specs.declared.command_line.Task.TheVariants as task
use Rattle.ra_cli.specs.declared.refusal_lines.CommandRefusal.TheVariants.{Survey}
use Rattle.ra_cli.specs.Surveyed.{IsTold}
use Rattle.ra_cli.specs.Tasks.{IsPrintedBy}
use Rattle.ra_cli.proofs.ClusterRuns.{of_known}
use Rattle.ra_cli.proofs.Statuses.{writes_as}
use Rattle.ra_cli.proofs.Surveys.{surveys_by}
use Rattle.ra_cli.proofs.TaskStatuses.{if_judged, if_refused_at_once}
use Rattle.ra_cli.proofs.commands.survey_command.survey_seeds.Goals as goal

pub returns-in-Ok : goal.returns-in-Ok
returns-in-Ok g c =
    let asked = c.args.asked.now in
    let old = g.R.Read.remaining c.args.reader.now in
    let new = g.R.Read.remaining c.survey_script.new.reader in
    let before = g.W.Write.contents c.args.writer.now in
    let after = g.W.Write.contents c.print_text.new.writer in
    let status = c.print_text.result.status in
    let wanted = c.survey_outcome-outcome.result.status in
    let finished = c.in-Ok.told.finished in
    let text = string_bytes c.in-Ok.told.text in
    let known = c.in-Ok.ensures in
    if_judged (task.Survey asked) old new before after status text wanted (finished ≡ true) (finished ≡ false) c.survey_outcome-outcome.ensures
    (writes_as text c.as_bytes.result.now wanted before after status status refl c.as_bytes.ensures.value c.print_text.ensures)
    (λ is all. surveys_by asked old new before after text finished true is known.ok known.read all)
    (λ is all. surveys_by asked old new before after text finished false is known.ok known.read all)
    (of_known old (λ input. IsTold asked input text finished × Consumes old new input) (λ input. IsPrintedBy (task.Survey asked) input text)
    (λ input h. (finished, h.0)) known.ok)

pub returns-in-Err : goal.returns-in-Err
returns-in-Err g c =
    let fault = c.in-Err.fault in
    if_refused_at_once (task.Survey c.args.asked.now) _ _ _ _ _ (Survey fault) _ c.refuse.ensures (λ writer. writer)
    (fault, refl, (λ is. c.in-Err.ensures.reads.failed (ap Err is)), c.in-Err.ensures.reads.refused)
