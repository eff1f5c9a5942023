use Rattle.std.proofs.lemmas.Result.{err_from_is_err_and}
use Rattle.ra_script.specs.declared.output_kind.OutputKind.TheVariants.{Lines}
use Rattle.ra_script.proofs.Printing.{written, no_memory, undriven}
use Rattle.ra_script.proofs.performing.lines_of.Goals as goal

pub returns : goal.returns
returns c =
    let summary = c.in_ok-summary.ensures.ok in
    written Lines c.args.policy.now c.args.script.now _ (λ input is. record {
      script = c.args.script.now;
      script_is = is;
      moves = summary.moves;
      report = c.in_ok-summary.summary.report;
      run = summary.run;
      says = c.in_ok-text.ensures;
    })

pub returns-in_err-summary : goal.returns-in_err-summary
returns-in_err-summary c =
    let p = err_from_is_err_and c.from_residual.result c.from_residual.ensures.1 in
    rw (p.1, p.2) (undriven Lines c.args.policy.now c.args.script.now c.in_err-summary.field-0.0 c.in_err-summary.ensures.answers)

pub returns-in_err-text : goal.returns-in_err-text
returns-in_err-text c =
    let p = err_from_is_err_and c.from_residual-in_err-text.result c.from_residual-in_err-text.ensures.1 in
    rw (p.1, p.2) (no_memory Lines c.args.policy.now c.args.script.now)
