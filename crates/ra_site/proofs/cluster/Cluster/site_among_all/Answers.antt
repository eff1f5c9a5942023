-- The sites belong to all nodes, and the one that was found is among them.
use Rattle.std.proofs.Common.{◌≤◌, vec_len, ap, inl, inr, ◌∙◌, arith}
use Rattle.std.proofs.lemmas.Bool.{cases_lt, true≢false}
use Rattle.ra_site.specs.Cluster.{ClusterState}
use Rattle.ra_site.specs.Sites.{SiteState}
use Rattle.ra_site.proofs.SiteNumbers.{count_of, in_order}
use Rattle.ra_site.proofs.cluster.Cluster.site_among_all.Goals as goal

pub returns-clause-all : goal.returns-clause-all
returns-clause-all g c =
    let n = vec_len c.self.inside.sites in
    let sites = c.as_slice.result.now in
    let are = c.as_slice.ensures.value ∙ c.self.invariant.1 in
    let node = ap (λ (s : SiteState). s.node) c.in_ok-site.ensures.found in
    let few : c.args.node ≤ n = elim (cases_lt n c.args.node) [
      | inl above ↦ absurd (true≢false (c.in_ok-site.ensures.absent.1 (omega (arith, above, ap (λ (s : ClusterState). s.nodes) c.self.view_is))))
      | inr within ↦ within
    ] in
    record {
      in_order = in_order n _ sites are;
      member = omega (arith, node, few, count_of n _ sites are);
    }
