-- One more site has the next number.
use Rattle.std.proofs.Common.{◌≡◌, ℕ, ap, ◌∙◌, arith}
use Rattle.ra_site.specs.Sites.{sites_to}
use Rattle.ra_site.proofs.SiteNumbers.{sites_more}
use Rattle.ra_site.proofs.cluster.all_sites.make_sites.Goals as goal

pub loop-place-preserved : goal.loop-place-preserved
loop-place-preserved c =
    sites_more c.loop-place.place c.args.audited c.loop-place.sites.items c.push_site.new.sites.items c.loop-place.invariant c.in_ok-push_site.ensures

pub returns : goal.returns
returns c =
    let all : c.loop-place.place ≡ c.args.nodes = omega (arith, c.loop-place-test.false, c.loop-place.auto.place-end) in
    c.loop-place.invariant ∙ ap (λ (n : ℕ). sites_to n c.args.audited) all
