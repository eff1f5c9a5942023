use Rattle.std.proofs.lemmas.Result.{err_from_is_err_and}
use Rattle.ra_script.specs.declared.output_kind.OutputKind.TheVariants.{State}
use Rattle.ra_script.proofs.Printing.{written, undriven}
use Rattle.ra_script.proofs.performing.state_of.Goals as goal

pub returns : goal.returns
returns c =
    let shown = c.in_ok-text.ensures.ok in
    written State c.args.policy.now c.args.script.now _ (λ input is. record {
      script = c.args.script.now;
      script_is = is;
      moves = shown.moves;
      report = shown.report;
      run = shown.run;
      says = shown.state;
    })

pub returns-in_err-text : goal.returns-in_err-text
returns-in_err-text c =
    let p = err_from_is_err_and c.from_residual.result c.from_residual.ensures.1 in
    rw (p.1, p.2) (undriven State c.args.policy.now c.args.script.now c.in_err-text.field-0.0 c.in_err-text.ensures.answers)
