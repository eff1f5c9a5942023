-- The site at the place of a node has its number.
use Rattle.std.proofs.Common.{◌≡◌, IfSome, subst, arith, vec_len, ◌∙◌}
use Rattle.ra_site.specs.Cluster.{ClusterState}
use Rattle.ra_site.specs.Sites.{site_at}
use Rattle.ra_site.proofs.SiteNumbers.{found_at}
use Rattle.ra_site.proofs.cluster.Cluster.site.Goals as goal

pub returns-clause-found : goal.returns-clause-found
returns-clause-found g c =
    subst (λ (state : ClusterState). IfSome c.get.result (λ s. s.now ≡ site_at state.audited c.args.node)) c.self.view_is
    (found_at
    (vec_len c.self.inside.sites)
    c.args.node
    _
    c.self.inside.audited
    c.deref.result.now
    c.get.result
    (c.deref.ensures.value ∙ c.self.invariant.1)
    (omega (arith, c.place.ensures.value, c.place.ensures.valid))
    c.get.ensures.lookup.0
    c.get.ensures.lookup.1)
