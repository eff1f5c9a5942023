use Rattle.std.proofs.Common.{◌≡◌, Ok, Err, string_bytes, ap}
use Rattle.std.proofs.lemmas.Result.{IfOk-from_err}
use Rattle.std.specs.Io.KnownBytes.{Consumes}
use Rattle.ra_script.specs.ScriptText.{script_of}
use Rattle.ra_cli.specs.declared.error.RunScriptError.TheVariants.{Read}
use Rattle.ra_cli.specs.ClusterRun.{RefusesRun, of_choices}
use Rattle.ra_cli.specs.Surveyed.{IsTold, RefusesSurvey}
use Rattle.ra_cli.proofs.ClusterRuns.{of_known}
use Rattle.ra_cli.proofs.Passed.{choices_no_read}
use Rattle.ra_cli.proofs.Surveys.{unread, untold}
use Rattle.ra_cli.proofs.Transfers.{reads_badly, reads_well}
use Rattle.ra_cli.proofs.commands.survey_command.survey_script.Goals as goal

-- no script was read

pub returns-in_err-script-clause-ok : goal.returns-in_err-script-clause-ok
returns-in_err-script-clause-ok g c = IfOk-from_err c.from_residual.result _ c.from_residual.ensures.0

pub returns-in_err-script-clause-read : goal.returns-in_err-script-clause-read
returns-in_err-script-clause-read g c = IfOk-from_err c.from_residual.result _ c.from_residual.ensures.0

pub returns-in_err-script-clause-reads : goal.returns-in_err-script-clause-reads
returns-in_err-script-clause-reads g c =
    let why = c.in_err-script.field-0.0 in
    let old = g.R.Read.remaining c.args.reader.now in
    reads_badly Read 65537 (RefusesSurvey c.args.asked.now) old _ c.from_residual.result why c.from_residual.ensures.1
    (of_known old (λ input. RefusesRun input why) (λ input. RefusesSurvey c.args.asked.now input why)
    (λ input h. unread c.args.asked.now input why c.in_err-script.ensures.unrun h)
    c.in_err-script.ensures.reads.refused)
    (λ e. c.in_err-script.ensures.reads.failed (ap Err e)) c.in_err-script.ensures.reads.at_most

-- what was found has no words

pub returns-in_err-told-clause-ok : goal.returns-in_err-told-clause-ok
returns-in_err-told-clause-ok g c = IfOk-from_err c.from_residual-in_err-told.result _ c.from_residual-in_err-told.ensures.0

pub returns-in_err-told-clause-read : goal.returns-in_err-told-clause-read
returns-in_err-told-clause-read g c = IfOk-from_err c.from_residual-in_err-told.result _ c.from_residual-in_err-told.ensures.0

pub returns-in_err-told-clause-reads : goal.returns-in_err-told-clause-reads
returns-in_err-told-clause-reads g c =
    let why = c.in_err-told.field-0.0 in
    let old = g.R.Read.remaining c.args.reader.now in
    let new = g.R.Read.remaining c.script_from.new.reader in
    reads_badly Read 65537 (RefusesSurvey c.args.asked.now) old new c.from_residual-in_err-told.result (of_choices why)
    c.from_residual-in_err-told.ensures.1
    (of_known old (λ input. (script_of input ≡ Ok c.in_ok-script.script) × Consumes old new input) (λ input. RefusesSurvey c.args.asked.now input (of_choices why))
    (λ input h. untold c.args.asked.now input why (λ is. c.in_err-told.ensures.wordless input h.0 (ap Err is)))
    c.in_ok-script.ensures.ok) (λ e. choices_no_read why e) c.in_ok-script.ensures.reads.at_most

-- what is said about the seeds

pub returns-clause-ok : goal.returns-clause-ok
returns-clause-ok g c =
    let asked = c.args.asked.now in
    let told = c.in_ok-told.told in
    let old = g.R.Read.remaining c.args.reader.now in
    let new = g.R.Read.remaining c.script_from.new.reader in
    of_known old (λ input. (script_of input ≡ Ok c.in_ok-script.script) × Consumes old new input)
    (λ input. IsTold asked input (string_bytes told.text) told.finished × Consumes old new input)
    (λ input h. (c.in_ok-told.ensures.ok input h.0, h.1)) c.in_ok-script.ensures.ok

pub returns-clause-read : goal.returns-clause-read
returns-clause-read g c =
    let read = c.in_ok-script.ensures.read in
    (read.0, c.in_ok-told.ensures.ok read.0 read.1)

pub returns-clause-reads : goal.returns-clause-reads
returns-clause-reads g c = reads_well Read 65537 (RefusesSurvey c.args.asked.now) _ _ _ c.in_ok-script.ensures.reads.at_most
