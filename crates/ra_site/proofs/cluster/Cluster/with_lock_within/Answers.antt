use Rattle.std.proofs.Common.{◌≡◌, Result, Ok, Err, refl, ap, sym, ◌∙◌}
use Rattle.std.proofs.lemmas.Bool.{true≢false}
use Rattle.std.proofs.lemmas.Result.{err_from_is_err_and}
use Rattle.ra_site.specs.declared.cluster.CallError.{CallError}
use Rattle.ra_site.specs.declared.cluster.CallError.TheVariants.{NoNode, Site}
use Rattle.ra_site.specs.declared.site.SiteError.{SiteError}
use Rattle.ra_site.proofs.cluster.Cluster.with_lock_within.Goals as goal

-- what was done was not refused
done : {X : Type 0} (x : X) → ◌≡◌ {A = Result X CallError} (Ok x) (Err NoNode) → ⊥
done x is = cc

-- a site that refuses exists
refused : {X : Type 0} (why : SiteError) → ◌≡◌ {A = Result X CallError} (Err (Site why)) (Err NoNode) → ⊥
refused why is = cc

pub returns-in_default-clause-no_node : goal.returns-in_default-clause-no_node
returns-in_default-clause-no_node g c = (λ _. c.in_default.ensures.absent.0 refl, λ _. refl)

pub returns-in_err-held-clause-no_node : goal.returns-in_err-held-clause-no_node
returns-in_err-held-clause-no_node g c =
    let p = err_from_is_err_and c.from_residual.result c.from_residual.ensures.1 in
    (λ is. absurd (refused _ (sym (p.1 ∙ ap Err p.2) ∙ is)), λ above. absurd (true≢false (c.in-Some.ensures.absent.1 above)))

pub returns-clause-no_node : goal.returns-clause-no_node
returns-clause-no_node g c = (λ is. absurd (done _ is), λ above. absurd (true≢false (c.in-Some.ensures.absent.1 above)))
