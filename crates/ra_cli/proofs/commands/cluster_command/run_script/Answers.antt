use Rattle.std.proofs.Common.{List, ℕ, Err, String, Global, string_bytes, ap}
use Rattle.std.specs.Prelude.{IfSome}
use Rattle.std.proofs.lemmas.Result.{IfOk-from_err, IfOk-weaker}
use Rattle.std.specs.Io.KnownBytes.{Consumes}
use Rattle.ra_cli.specs.declared.error.RunScriptError.TheVariants.{Read}
use Rattle.ra_cli.specs.ClusterRun.{IsClusterRun, RefusesRun, SaysScript}
use Rattle.ra_cli.proofs.ClusterRuns.{refuses_known, runs_input}
use Rattle.ra_cli.proofs.Transfers.{reads_badly, reads_on}
use Rattle.ra_cli.proofs.commands.cluster_command.run_script.Goals as goal

-- no script was read

pub returns-in_err-script-clause-ok : goal.returns-in_err-script-clause-ok
returns-in_err-script-clause-ok g c = IfOk-from_err c.from_residual.result _ c.from_residual.ensures.0

pub returns-in_err-script-clause-read : goal.returns-in_err-script-clause-read
returns-in_err-script-clause-read g c = IfOk-from_err c.from_residual.result _ c.from_residual.ensures.0

pub returns-in_err-script-clause-reads : goal.returns-in_err-script-clause-reads
returns-in_err-script-clause-reads g c =
    reads_badly Read 65537 RefusesRun _ _ c.from_residual.result c.in_err-script.field-0.0 c.from_residual.ensures.1
    c.in_err-script.ensures.reads.refused (λ e. c.in_err-script.ensures.reads.failed (ap Err e)) c.in_err-script.ensures.reads.at_most

-- threads ran it, or not to its end

pub returns-clause-ok : goal.returns-clause-ok
returns-clause-ok g c =
    let printed = c.args.printed in
    let script = c.in_ok-script.script in
    let old = g.R.Read.remaining c.args.reader.now in
    let new = g.R.Read.remaining c.script_from.new.reader in
    IfOk-weaker c.text_of_run.result (λ (text : String Global). SaysScript printed script (string_bytes text))
    (λ (text : String Global). IfSome old (λ input. IsClusterRun printed input (string_bytes text) × Consumes old new input))
    (λ text says. runs_input printed old new script (string_bytes text) c.in_ok-script.ensures.ok says) c.text_of_run.ensures.ok

pub returns-clause-read : goal.returns-clause-read
returns-clause-read g c =
    let printed = c.args.printed in
    let script = c.in_ok-script.script in
    let read = c.in_ok-script.ensures.read in
    IfOk-weaker c.text_of_run.result (λ (text : String Global). SaysScript printed script (string_bytes text))
    (λ (text : String Global). (input : List ℕ) × IsClusterRun printed input (string_bytes text))
    (λ text says. (read.0, (script, read.1, says))) c.text_of_run.ensures.ok

pub returns-clause-reads : goal.returns-clause-reads
returns-clause-reads g c =
    let old = g.R.Read.remaining c.args.reader.now in
    let new = g.R.Read.remaining c.script_from.new.reader in
    let run = c.text_of_run.ensures in
    reads_on Read 65537 RefusesRun old new c.text_of_run.result
    (refuses_known c.text_of_run.result old new c.in_ok-script.script RefusesRun c.in_ok-script.ensures.ok run.err) run.read
    c.in_ok-script.ensures.reads.at_most
