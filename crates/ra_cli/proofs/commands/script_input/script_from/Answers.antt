use Rattle.std.proofs.Common.{Err, ap}
use Rattle.std.proofs.lemmas.Result.{IfOk-from_err}
use Rattle.ra_cli.proofs.Helping.{for_each}
use Rattle.ra_cli.proofs.Passed.{passed, read_no_cluster, read_failed, script_no_read, script_no_cluster, unread_is_refused}
use Rattle.ra_cli.proofs.Scripts.{refuses_script, refuses_text, reads_script}
use Rattle.ra_cli.proofs.Transfers.{reads_badly, reads_well}
use Rattle.ra_cli.specs.declared.error.RunScriptError.TheVariants.{Read}
use Rattle.ra_cli.specs.ClusterRun.{RefusesRun, of_read, of_script}
use Rattle.ra_cli.proofs.commands.script_input.script_from.Goals as goal

-- the reader failed, or memory ran out

pub returns-in_err-text-clause-ok : goal.returns-in_err-text-clause-ok
returns-in_err-text-clause-ok g c = IfOk-from_err c.from_residual.result _ c.from_residual.ensures.0

pub returns-in_err-text-clause-read : goal.returns-in_err-text-clause-read
returns-in_err-text-clause-read g c = IfOk-from_err c.from_residual.result _ c.from_residual.ensures.0

pub returns-in_err-text-clause-unrun : goal.returns-in_err-text-clause-unrun
returns-in_err-text-clause-unrun g c =
    let why = c.in_err-text.field-0.0 in passed c.from_residual.result (of_read why) _ c.from_residual.ensures.1 (read_no_cluster why)

pub returns-in_err-text-clause-reads : goal.returns-in_err-text-clause-reads
returns-in_err-text-clause-reads g c =
    let why = c.in_err-text.field-0.0 in
    let old = g.R.Read.remaining c.args.reader.now in
    reads_badly Read 65537 RefusesRun old _ c.from_residual.result (of_read why) c.from_residual.ensures.1
    (for_each old (λ input. RefusesRun input (of_read why)) (λ input. unread_is_refused why input))
    (λ e. c.in_err-text.ensures.failed (ap Err (read_failed why e))) c.read_up_to.ensures.at_most

-- the text is no script

pub returns-in_err-script-clause-ok : goal.returns-in_err-script-clause-ok
returns-in_err-script-clause-ok g c = IfOk-from_err c.from_residual-in_err-script.result _ c.from_residual-in_err-script.ensures.0

pub returns-in_err-script-clause-read : goal.returns-in_err-script-clause-read
returns-in_err-script-clause-read g c = IfOk-from_err c.from_residual-in_err-script.result _ c.from_residual-in_err-script.ensures.0

pub returns-in_err-script-clause-unrun : goal.returns-in_err-script-clause-unrun
returns-in_err-script-clause-unrun g c =
    let why = c.in_err-script.field-0.0 in
    passed c.from_residual-in_err-script.result (of_script why) _ c.from_residual-in_err-script.ensures.1 (script_no_cluster why)

pub returns-in_err-script-clause-reads : goal.returns-in_err-script-clause-reads
returns-in_err-script-clause-reads g c =
    let why = c.in_err-script.field-0.0 in
    let text = c.in_ok-text.text.items in
    let read = c.in_ok-text.ensures.bytes in
    let old = g.R.Read.remaining c.args.reader.now in
    let refused = rw c.deref.ensures.value at c.in_err-script.ensures.refused in
    reads_badly Read 65537 RefusesRun old _ c.from_residual-in_err-script.result (of_script why) c.from_residual-in_err-script.ensures.1
    (refuses_script old _ text (of_script why) read (refuses_text text why refused)) (λ e. script_no_read why e)
    (text, read.at_most, read.taken)

-- it is one

pub returns-clause-ok : goal.returns-clause-ok
returns-clause-ok g c =
    reads_script (g.R.Read.remaining c.args.reader.now) (g.R.Read.remaining c.read_up_to.new.reader) c.in_ok-text.text.items c.in_ok-script.script c.in_ok-text.ensures.bytes
    (rw c.deref.ensures.value at c.in_ok-script.ensures.ok)

pub returns-clause-read : goal.returns-clause-read
returns-clause-read g c = (c.in_ok-text.text.items, rw c.deref.ensures.value at c.in_ok-script.ensures.ok)

pub returns-clause-reads : goal.returns-clause-reads
returns-clause-reads g c =
    let read = c.in_ok-text.ensures.bytes in
    reads_well Read 65537 RefusesRun _ _ _ (c.in_ok-text.text.items, read.at_most, read.taken)
