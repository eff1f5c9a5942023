use Rattle.std.proofs.Common.{ap, ◌∙◌, Err}
use Rattle.std.proofs.lemmas.Result.{err_from_is_err_and}
use Rattle.ra_cluster.specs.declared.cluster_run.ClusterError.TheVariants.{Memory}
use Rattle.ra_cluster.specs.Outcome.{IsOfThreads}
use Rattle.ra_cluster.proofs.Endings.{not_ok, passed_on, still_checked}
use Rattle.ra_cluster.proofs.Records.{record_of}
use Rattle.ra_cluster.proofs.cluster_run.record_cluster.Goals as goal

pub returns-in_err-check_script : goal.returns-in_err-check_script
returns-in_err-check_script g c =
    let refused = c.from_residual.ensures.1 in
    let p = err_from_is_err_and c.from_residual.result refused in
    record {
      checked = passed_on c.args.script.now c.in_err-check_script.field-0.0 c.from_residual.result (p.1 ∙ ap Err p.2) c.in_err-check_script.ensures;
      recorded = not_ok _ _ c.from_residual.result refused;
    }

pub returns : goal.returns
returns g c =
    let says = c.in_ok-settled.ensures in
    record {
      checked = still_checked c.args.script.now tt _ c.in_ok-check_script.ensures tt;
      recorded = record_of c.args.script.now c.in_ok-books.books.items c.deref.result.now c.deref-2.result.now c.in_ok-settled.settled c.deref.ensures.value
          c.in_ok-books.ensures says.outcome says.done says.fault;
    }

pub returns-in_err-settled : goal.returns-in_err-settled
returns-in_err-settled g c =
    let r = c.from_residual-in_err-settled.result in
    let refused = c.from_residual-in_err-settled.ensures.1 in
    let p = err_from_is_err_and r refused in
    record {
      checked = still_checked c.args.script.now tt r c.in_ok-check_script.ensures (rw (p.1, p.2) c.in_err-settled.ensures.threads);
      recorded = not_ok _ _ r refused;
    }

-- memory may run out at any time
memory_of_threads : IsOfThreads Memory
memory_of_threads = (λ is. absurd cc, λ is. absurd cc)

pub returns-in_err-books-clause-checked : goal.returns-in_err-books-clause-checked
returns-in_err-books-clause-checked g c =
    let p = err_from_is_err_and c.from_residual-in_err-books.result c.from_residual-in_err-books.ensures.1 in
    still_checked c.args.script.now tt c.from_residual-in_err-books.result c.in_ok-check_script.ensures (rw (p.1, p.2) memory_of_threads)
