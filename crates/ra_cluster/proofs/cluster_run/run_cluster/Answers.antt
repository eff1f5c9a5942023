use Rattle.std.proofs.Common.{ap, ◌∙◌, Err}
use Rattle.std.proofs.lemmas.Result.{err_from_is_err_and}
use Rattle.ra_cluster.proofs.Endings.{not_ok, passed_on, still_checked}
use Rattle.ra_cluster.proofs.cluster_run.run_cluster.Goals as goal

pub returns : goal.returns
returns g c = record {
  checked = still_checked c.args.script.now _ _ c.in_ok-recorded.ensures.checked tt;
  done = c.in_ok-recorded.ensures.recorded.done;
}

pub returns-in_err-recorded : goal.returns-in_err-recorded
returns-in_err-recorded g c =
    let refused = c.from_residual.ensures.1 in
    let p = err_from_is_err_and c.from_residual.result refused in
    record {
      checked = passed_on c.args.script.now c.in_err-recorded.field-0.0 c.from_residual.result (p.1 ∙ ap Err p.2) c.in_err-recorded.ensures.checked;
      done = not_ok _ _ c.from_residual.result refused;
    }
