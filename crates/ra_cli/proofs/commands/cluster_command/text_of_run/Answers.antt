use Rattle.std.proofs.Common.{◌≡◌, ℕ, List, Result, Ok, Err, String, Global, map, string_bytes, sym, subst}
use Rattle.std.specs.Prelude.{IfOk, IfErr}
use Rattle.std.specs.Result.{result_or}
use Rattle.std.proofs.lemmas.Result.{IfOk-weaker, err_from_is_err_and}
use Rattle.ra_world.specs.Run.{IsRun}
use Rattle.ra_world.specs.Traffic.{Move}
use Rattle.ra_cli.specs.declared.error.RunScriptError.{RunScriptError}
use Rattle.ra_cli.specs.declared.error.RunScriptError.TheVariants.{Memory}
use Rattle.ra_cli.specs.ClusterRun.{SaysRun, SaysScript}
use Rattle.ra_cli.proofs.ClusterRuns.{refuses_cluster}
use Rattle.ra_cli.proofs.Passed.{cluster_no_read}
use Rattle.ra_cli.proofs.commands.cluster_command.text_of_run.Goals as goal

pub returns-in_err-recorded-clause-err : goal.returns-in_err-recorded-clause-err
returns-in_err-recorded-clause-err g c =
    let p = err_from_is_err_and c.from_residual.result c.from_residual.ensures.1 in
    let refused = c.in_err-recorded.ensures.checked in
    rw (p.1, p.2) (λ input is. refuses_cluster input c.args.script.now c.in_err-recorded.field-0.0 is refused.out_of_order refused.unreleased)

pub returns-in_err-recorded-clause-read : goal.returns-in_err-recorded-clause-read
returns-in_err-recorded-clause-read g c =
    let p = err_from_is_err_and c.from_residual.result c.from_residual.ensures.1 in
    rw (p.1, p.2) (λ is. cluster_no_read c.in_err-recorded.field-0.0 is)

-- ---- A text, or that memory ran out for it

made : {T E : Type 0} (text : Result T E) (P : T → Type 0) → IfOk text P → IfOk (result_or text (Err Memory)) P
made (Ok text) P h = h
made (Err fault) P h = tt

lacking : {T E : Type 0} (text : Result T E) (P : RunScriptError → Type 0) → P Memory → IfErr (result_or text (Err Memory)) P
lacking (Ok text) P h = tt
lacking (Err fault) P h = h

pub returns-clause-ok : goal.returns-clause-ok
returns-clause-ok g c =
    let script = c.args.script.now in
    let recorded = c.in_ok-recorded.recorded in
    let says = c.in_ok-recorded.ensures.recorded in
    let outcome = says.outcome in
    let nodes = c.nodes.result in
    let nodes_is : nodes ≡ script.nodes = c.nodes.ensures.value in
    let printed : String Global → Type 0 = λ text. SaysScript c.args.printed script (string_bytes text) in
    rw c.or.ensures (made c.recorded_text.result printed (IfOk-weaker c.recorded_text.result
    (λ (text : String Global). (moves : List Move) → map (λ move. move.step) moves ≡ recorded.settled.steps.items → IsRun nodes 0 moves
    → SaysRun c.args.printed nodes recorded.books.items moves recorded.settled.report (string_bytes text))
    printed
    (λ text tells. record {
      books = recorded.books.items;
      settled = recorded.settled;
      recorded = says;
      says = subst (λ (n : ℕ). SaysRun c.args.printed n recorded.books.items outcome.moves recorded.settled.report (string_bytes text)) nodes_is
          (tells outcome.moves outcome.moves_are (subst (λ (n : ℕ). IsRun n 0 outcome.moves) (sym nodes_is) outcome.run));
    })
    c.recorded_text.ensures))

pub returns-clause-err : goal.returns-clause-err
returns-clause-err g c = rw c.or.ensures (lacking c.recorded_text.result _ (λ input is. tt))

pub returns-clause-read : goal.returns-clause-read
returns-clause-read g c = rw c.or.ensures (lacking c.recorded_text.result _ (λ is. absurd cc))
